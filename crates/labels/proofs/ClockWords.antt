-- Twelve bytes as two numbers, `HH:MM:SS` and `.mmm`: the tests of the code find out whether they are a timestamp.
use Rattle.std.proofs.Common.{◌≡◌, ℕ, suc, ◌+◌, ◌*◌, ◌^◌, ◌<◌, ◌≤◌, true, ◌&&◌, ltb, List, [], ◌∷◌, ◌++◌, get_or, take, drop, sym, refl, ap, ◌∙◌, subst, ap₂, arith, ltb-true, lt-ltb}
use lib.Bits.{bit_and, bit_or, bit_xor}
use Rattle.numbers.proofs.Bools.{and_left, and_right}
use Rattle.labels.specs.Clock.{colon, clock_text}
use Rattle.text.specs.Decimal.{digits}
use Rattle.labels.specs.Digits.{number_at, fits}
use Rattle.text.specs.Words.{word, bytes_of}
use Rattle.labels.specs.Words.{pair_of, number_of, Thousandths, above}
use Rattle.labels.specs.Timestamps.{is_clock, is_timestamp, position_of}
use Rattle.refusal.specs.Outcome.{value, refused}
use Rattle.labels.specs.Stamps.{stamp_of}
use Rattle.text.specs.Words.{AllLe}
use Rattle.text.proofs.Words.{word_le, bytes_le, word_bytes}
use Rattle.labels.proofs.Gaps.{gaps, AllNear, all_near, gaps_are, near_all_fit}
use Rattle.labels.proofs.ReadValues.{pair_at}
use Rattle.labels.proofs.Rooms.{highest, Held, raised, or_none, low_text, text_clear, gap_word, sum_below, roomy, room_clear, fits_low}
use Rattle.labels.proofs.Thousandths.{number_is}
use Rattle.labels.proofs.Shapes.{clock_shape, fraction_shape, fits_append}
use Rattle.labels.proofs.StampNumbers.{no_stamp, is_stamp}

-- 127 less 9 at a digit, less 5 at the tens of minutes and seconds, and 127 at a mark
abbrev clock_rooms : List ℕ
clock_rooms = 118 ∷ 118 ∷ 127 ∷ 122 ∷ 118 ∷ 127 ∷ 122 ∷ 118 ∷ []

abbrev fraction_rooms : List ℕ
fraction_rooms = 127 ∷ 118 ∷ 118 ∷ 118 ∷ []

module _ (clock fraction : ℕ) (hc : clock < 2 ^ 64) (hf : fraction < 2 ^ 32) where
  abbrev first : List ℕ
  first = bytes_of 8 clock

  abbrev rest : List ℕ
  rest = bytes_of 4 fraction

  held_first : Held clock_shape clock_rooms first clock
  held_first = record {
    is_text = sym (word_bytes 8 clock hc);
    both = (refl, (omega arith, bytes_le 8 clock));
    short = omega arith;
    shape_low = omega arith;
    rooms_low = omega arith;
    rooms_size = refl;
  }

  held_rest : Held fraction_shape fraction_rooms rest fraction
  held_rest = record {
    is_text = sym (word_bytes 4 fraction hf);
    both = (refl, (omega arith, bytes_le 4 fraction));
    short = omega arith;
    shape_low = omega arith;
    rooms_low = omega arith;
    rooms_size = refl;
  }

  abbrev whole : List ℕ
  whole = first ++ rest

  -- the shape in two parts, and in two others
  shapes :
      fits clock_shape first && fits fraction_shape rest
      ≡ fits (digits 0 2 ++ colon ∷ []) (take 3 whole) && fits (clock_text 3 0 0 0) (drop 3 whole)
  shapes = sym (fits_append clock_shape fraction_shape whole) ∙ fits_append (digits 0 2 ++ colon ∷ []) (clock_text 3 0 0 0) whole

  -- the twelve bytes are a timestamp
  record Right : Type 0 where
    fits_first : fits clock_shape first ≡ true
    fits_rest : fits fraction_shape rest ≡ true
    minute : number_at 0 2 (drop 3 whole) < 60
    second : number_at 3 2 (drop 3 whole) < 60

  right_if : is_timestamp whole ≡ true → Right
  right_if t =
      let c = and_left (is_clock (drop 3 whole)) _ t in
      let h = and_right (is_clock (drop 3 whole)) _ t in
      let f = shapes ∙ ap₂ ◌&&◌ h (and_left (fits (clock_text 3 0 0 0) (drop 3 whole)) _ c) in
      let l = and_right (fits (clock_text 3 0 0 0) (drop 3 whole)) _ c in
      record {
        fits_first = and_left (fits clock_shape first) _ f;
        fits_rest = and_right (fits clock_shape first) _ f;
        minute = ltb-true (number_at 0 2 (drop 3 whole)) 60 (and_left (ltb (number_at 0 2 (drop 3 whole)) 60) _ l);
        second = ltb-true (number_at 3 2 (drop 3 whole)) 60 (and_right (ltb (number_at 0 2 (drop 3 whole)) 60) _ l);
      }

  stamp_right : Right → is_timestamp whole ≡ true
  stamp_right r =
      let f = sym shapes ∙ ap₂ ◌&&◌ r.fits_first r.fits_rest in
      ap₂ ◌&&◌
      (ap₂ ◌&&◌ (and_right (fits (digits 0 2 ++ colon ∷ []) (take 3 whole)) _ f)
      (ap₂ ◌&&◌ (lt-ltb (number_at 0 2 (drop 3 whole)) 60 r.minute) (lt-ltb (number_at 3 2 (drop 3 whole)) 60 r.second)))
      (and_left (fits (digits 0 2 ++ colon ∷ []) (take 3 whole)) _ f)

  pub high_byte : (bit_or (bit_and clock highest) (bit_and fraction highest) ≡ 0 → ⊥) → refused 13 ≡ stamp_of whole
  high_byte never =
      no_stamp whole (λ t.
      let r = right_if t in
      never (ap₂ bit_or (text_clear held_first (fits_low clock_shape first refl r.fits_first))
      (text_clear held_rest (fits_low fraction_shape rest refl r.fits_rest))))

  abbrev first_bits : ℕ
  first_bits = bit_and (bit_xor clock (word clock_shape) + word clock_rooms) highest

  abbrev rest_bits : ℕ
  rest_bits = bit_and (bit_xor fraction (word fraction_shape) + word fraction_rooms) highest

  pub no_room : (bit_or first_bits rest_bits ≡ 0 → ⊥) → refused 13 ≡ stamp_of whole
  no_room never =
      no_stamp whole (λ t.
      let r = right_if t in
      let n = all_near clock_shape first refl r.fits_first in
      let m = all_near fraction_shape rest refl r.fits_rest in
      let a = gaps_are clock_shape first refl r.fits_first in
      let b = gaps_are fraction_shape rest refl r.fits_rest in
      never (ap₂ bit_or (room_clear held_first (subst (λ g. AllLe 127 (raised clock_rooms g)) (sym a) (rooms_first n r.minute r.second)))
      (room_clear held_rest (subst (λ g. AllLe 127 (raised fraction_rooms g)) (sym b) (rooms_rest m)))))
    where
      rooms_first :
          AllNear clock_shape (above clock_shape first) → number_at 0 2 (drop 3 whole) < 60 → number_at 3 2 (drop 3 whole) < 60 →
          AllLe 127 (raised clock_rooms (above clock_shape first))
      rooms_first n minute second =
          let a = n.0 in
          let b = n.1.0 in
          let c = n.1.1.0 in
          let d = n.1.1.1.1.0 in
          let e = n.1.1.1.1.1.0 in
          let f = n.1.1.1.1.1.1.1.0 in
          omega arith

      rooms_rest : AllNear fraction_shape (above fraction_shape rest) → AllLe 127 (raised fraction_rooms (above fraction_shape rest))
      rooms_rest m =
          let a = m.0 in
          let b = m.1.0 in
          let c = m.1.1.0 in
          let d = m.1.1.1.0 in
          omega arith

  -- no byte has its highest bit
  module _ (low : bit_or (bit_and clock highest) (bit_and fraction highest) ≡ 0) where
    low_first : AllLe 127 first
    low_first = low_text held_first (or_none (bit_and clock highest) (bit_and fraction highest) low).0

    low_rest : AllLe 127 rest
    low_rest = low_text held_rest (or_none (bit_and clock highest) (bit_and fraction highest) low).1

    pub first_sum : bit_xor clock (word clock_shape) + word clock_rooms < 2 ^ 64
    first_sum = sum_below held_first low_first

    pub rest_sum : bit_xor fraction (word fraction_shape) + word fraction_rooms < 2 ^ 64
    rest_sum = sum_below held_rest low_rest

    module _ (clear : bit_or first_bits rest_bits ≡ 0) where
      -- the values of the digits
      abbrev g : ℕ → ℕ
      g i = get_or (gaps clock_shape first) i 0

      abbrev f : ℕ → ℕ
      f i = get_or (gaps fraction_shape rest) i 0

      firsts : (g 0 ≤ 9) × ((g 1 ≤ 9) × ((g 2 ≤ 0) × ((g 3 ≤ 5) × ((g 4 ≤ 9) × ((g 5 ≤ 0) × ((g 6 ≤ 5) × (g 7 ≤ 9)))))))
      firsts =
          let r = roomy held_first low_first (or_none first_bits rest_bits clear).0 in
          let a = r.0 in
          let b = r.1.0 in
          let c = r.1.1.0 in
          let d = r.1.1.1.0 in
          let e = r.1.1.1.1.0 in
          let f = r.1.1.1.1.1.0 in
          let g = r.1.1.1.1.1.1.0 in
          let h = r.1.1.1.1.1.1.1.0 in
          omega arith

      rests : (f 0 ≤ 0) × ((f 1 ≤ 9) × ((f 2 ≤ 9) × (f 3 ≤ 9)))
      rests =
          let r = roomy held_rest low_rest (or_none first_bits rest_bits clear).1 in
          let a = r.0 in
          let b = r.1.0 in
          let c = r.1.1.0 in
          let d = r.1.1.1.0 in
          omega arith

      nines_first : AllLe 9 (gaps clock_shape first)
      nines_first =
          let r = firsts in
          let a = r.0 in
          let b = r.1.0 in
          let c = r.1.1.0 in
          let d = r.1.1.1.0 in
          let e = r.1.1.1.1.0 in
          let h = r.1.1.1.1.1.0 in
          let k = r.1.1.1.1.1.1.0 in
          let l = r.1.1.1.1.1.1.1 in
          omega arith

      near_first : AllNear clock_shape (gaps clock_shape first)
      near_first =
          let r = firsts in
          let n = nines_first in
          (n.0, (n.1.0, (r.1.1.0, (n.1.1.1.0, (n.1.1.1.1.0, (r.1.1.1.1.1.0, (n.1.1.1.1.1.1.0, (n.1.1.1.1.1.1.1.0, tt))))))))

      near_rest : AllNear fraction_shape (gaps fraction_shape rest)
      near_rest = let r = rests in (r.0, (r.1.0, (r.1.1.0, (r.1.1.1, tt))))

      pub first_small : bit_xor clock (word clock_shape) < 2 ^ 60
      first_small = omega (arith, gap_word held_first, word_le 9 (gaps clock_shape first) 8 (omega arith) nines_first)

      fit_first : fits clock_shape first ≡ true
      fit_first = near_all_fit clock_shape first refl refl near_first

      fit_rest : fits fraction_shape rest ≡ true
      fit_rest = near_all_fit fraction_shape rest refl refl near_rest

      -- what the digits are worth, by the bytes of the text
      digit_first : (i : ℕ) → g i ≡ get_or (above clock_shape first) i 0
      digit_first i = ap (λ l. get_or l i 0) (gaps_are clock_shape first refl fit_first)

      digit_rest : (i : ℕ) → f i ≡ get_or (above fraction_shape rest) i 0
      digit_rest i = ap (λ l. get_or l i 0) (gaps_are fraction_shape rest refl fit_rest)

      is_right : Right
      is_right = record {
        fits_first = fit_first;
        fits_rest = fit_rest;
        minute = omega (arith, digit_first 3, digit_first 4, firsts.1.1.1.0, firsts.1.1.1.1.0);
        second = omega (arith, digit_first 6, digit_first 7, firsts.1.1.1.1.1.1.0, firsts.1.1.1.1.1.1.1);
      }

      pair_is : (k : ℕ) → pair_of (bit_xor clock (word clock_shape)) k ≡ g k * 10 + g (suc k)
      pair_is k = ap (λ v. pair_of v k) (gap_word held_first) ∙ pair_at (gaps clock_shape first) k nines_first

      -- the decimals, with 0 in place of the point
      unfoldable three : Thousandths (bit_xor fraction (word fraction_shape))
      three = record {
        tenth = f 1;
        hundredth = f 2;
        thousandth = f 3;
        tenth_le = rests.1.0;
        hundredth_le = rests.1.1.0;
        thousandth_le = rests.1.1.1;
        values_are = gap_word held_rest ∙ omega (arith, rests.0);
      }

      pub decimals : Thousandths (bit_xor fraction (word fraction_shape))
      decimals = three

      pub words_stamp :
          {hour minute second thousandths : ℕ} →
          hour ≡ pair_of (bit_xor clock (word clock_shape)) 0 → minute ≡ pair_of (bit_xor clock (word clock_shape)) 3 →
          second ≡ pair_of (bit_xor clock (word clock_shape)) 6 → thousandths ≡ number_of (bit_xor fraction (word fraction_shape)) 4 →
          value (hour * 3600000 + (minute * 60 + second) * 1000 + thousandths) ≡ stamp_of whole
      unfolding three
      words_stamp {hour} {minute} {second} {thousandths} h m s t =
          let a : hour ≡ g 0 * 10 + g 1 = h ∙ pair_is 0 in
          let b : minute ≡ g 3 * 10 + g 4 = m ∙ pair_is 3 in
          let c : second ≡ g 6 * 10 + g 7 = s ∙ pair_is 6 in
          let d : thousandths ≡ f 1 * 100 + f 2 * 10 + f 3 = t ∙ number_is three in
          let e : hour * 3600000 + (minute * 60 + second) * 1000 + thousandths ≡ position_of whole = omega (
            arith,
            a,
            b,
            c,
            d,
            digit_first 0,
            digit_first 1,
            digit_first 3,
            digit_first 4,
            digit_first 6,
            digit_first 7,
            digit_rest 1,
            digit_rest 2,
            digit_rest 3,
          ) in
          ap value e ∙ is_stamp whole (stamp_right is_right) (omega (arith, sym e, a, b, c, d, firsts, rests))
