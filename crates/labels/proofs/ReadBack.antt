-- Timestamps read back: round trips, which texts are the same position, and refusals.
use Rattle.std.proofs.Common.{◌≡◌, ℕ, zero, suc, ◌+◌, ◌-◌, ◌*◌, ◌/◌, ◌%◌, ◌^◌, ◌<◌, ◌≤◌, Bool, true, false, cond, ◌&&◌, ◌||◌, eqb, leb, ◌↔◌, List, [], ◌∷◌, ◌++◌, length, take, ℤ, pos, nat_abs, sym, refl, ap, ◌∙◌, subst, ap₂, pow-suc, div-add-mod', arith, lit<, length-append, take_at, lt-ltb, le-leb}
use mathlib.Core.Bool.{or-true}
use native.Mathlib.Nat.{pow-le-pow_right}
use native.Mathlib.Omega.{by_contra}
use lib.Seq.{append_snoc}
use Rattle.refusal.specs.Outcome.{value, refused}
use Rattle.refusal.proofs.Outcomes.{clash, passes, same_value}
use Rattle.numbers.specs.Range.{outside}
use Rattle.numbers.proofs.Bools.{no_both, and_left, and_right}
use Rattle.numbers.proofs.Between.{natural_within, inside_pos}
use Rattle.labels.specs.Clock.{colon, point, clock_text}
use Rattle.text.specs.Decimal.{digits, number}
use Rattle.labels.specs.Digits.{number_at, fits}
use Rattle.labels.specs.Webvtt.{last_position, per_hour, per_minute, per_second, hour_digits, clock_of, position_text, position_label}
use Rattle.labels.specs.Timestamps.{last_nine, in_front, is_clock, are_hours, is_timestamp, clock_value, hours_value, position_of}
use Rattle.labels.specs.Timestamps.{without_zeros, position_answer}
use Rattle.text.proofs.Decimal.{number_digits, length_digits}
use Rattle.labels.proofs.TimestampParts.{clock_parts, front_cut, nine_cut}
use Rattle.labels.proofs.Positions.{by_hours, two_to_five}
use Rattle.labels.proofs.Shapes.{fits_both, digits_fit}

-- ---- zeros in front of digits

-- a digit in front that the number does not need is 0
pub zero_front : (n count : ℕ) → n < 10 ^ count → digits n (suc count) ≡ 48 ∷ digits n count
zero_front n zero h = let z : n % 10 ≡ 0 = omega arith in ap (λ k. (48 + k) ∷ []) z
zero_front n (suc count) h =
    let l : n / 10 < 10 ^ count = omega (arith, rw pow-suc at h) in
    ap (λ l. l ++ (48 + n % 10) ∷ []) (zero_front (n / 10) count l)

-- digits differ in zeros in front only, if they are of the same number
pub without_front : (n k count : ℕ) → n < 10 ^ count → without_zeros (digits n (k + count)) ≡ without_zeros (digits n count)
without_front n zero count h = let e : 0 + count ≡ count = omega arith in ap (λ c. without_zeros (digits n c)) e
without_front n (suc k) count h =
    let e : suc k + count ≡ suc (k + count) = omega arith in
    let l : count ≤ k + count = omega arith in
    let p : 10 ^ count ≤ 10 ^ (k + count) = pow-le-pow_right {n = 10} (lit< tt) l in
    ap (λ c. without_zeros (digits n c)) e ∙ ap without_zeros (zero_front n (k + count) (omega arith)) ∙ without_front n k count h

-- ---- the position of a timestamp

-- n milliseconds are h hours, m minutes, s seconds and k milliseconds
pub record Splits (n h m s k : ℕ) : Type 0 where
  pub hours_back : n / per_hour ≡ h
  pub minutes_back : n % per_hour / per_minute ≡ m
  pub seconds_back : n % per_minute / per_second ≡ s
  pub fraction_back : n % per_second ≡ k

splits_of : (h m s k : ℕ) → m < 60 → s < 60 → k < 1000 → Splits (h * per_hour + (m * per_minute + s * per_second + k)) h m s k
splits_of h m s k a b c = record { hours_back = omega arith; minutes_back = omega arith; seconds_back = omega arith; fraction_back = omega arith }

-- a timestamp's position has the numbers that the timestamp has
module _ (text : List ℕ) (h : is_timestamp text ≡ true) where
  is_clock_lem : is_clock (last_nine text) ≡ true
  is_clock_lem = and_left (is_clock (last_nine text)) _ h

  pub has_front : (eqb (length (in_front text)) 0 || are_hours (in_front text)) ≡ true
  has_front = and_right (is_clock (last_nine text)) _ h

  pub parts_back :
      Splits (position_of text) (hours_value (in_front text)) (number_at 0 2 (last_nine text)) (number_at 3 2 (last_nine text)) (number_at 6 3 (last_nine text))
  parts_back =
      let c = clock_parts (last_nine text) is_clock_lem in
      splits_of (hours_value (in_front text)) (number_at 0 2 (last_nine text)) (number_at 3 2 (last_nine text)) (number_at 6 3 (last_nine text))
      c.minute_small c.second_small c.fraction_small

  pub clock_back : clock_of (position_of text) ≡ last_nine text
  clock_back =
      let b = parts_back in
      (λ i. clock_text 3 (b.minutes_back i) (b.seconds_back i) (b.fraction_back i)) ∙ sym (clock_parts (last_nine text) is_clock_lem).text_is

  pub hours_small : outside (pos 0) last_position (pos (position_of text)) ≡ false → hours_value (in_front text) < 100000
  hours_small o =
      let l = (natural_within 0 last_position (pos (position_of text)) o).high in
      omega (arith, parts_back.hours_back)

-- ---- a written label is a timestamp of its position

clock_written : (n : ℕ) → is_clock (clock_of n) ≡ true
clock_written n =
    let m = n % per_hour / per_minute in
    let s = n % per_minute / per_second in
    let k = n % per_second in
    let f = fits_both (digits 0 2) (colon ∷ digits 0 2 ++ point ∷ digits 0 3) (digits m 2) (colon ∷ digits s 2 ++ point ∷ digits k 3) (digits_fit m 2)
    (fits_both (digits 0 2) (point ∷ digits 0 3) (digits s 2) (point ∷ digits k 3) (digits_fit s 2) (digits_fit k 3)) in
    let a : number (digits m 2) < 60 = subst (λ x. x < 60) (sym (number_digits m 2 (omega arith))) (omega arith) in
    let b : number (digits s 2) < 60 = subst (λ x. x < 60) (sym (number_digits s 2 (omega arith))) (omega arith) in
    ap₂ ◌&&◌ f (ap₂ ◌&&◌ (lt-ltb (number (digits m 2)) 60 a) (lt-ltb (number (digits s 2)) 60 b))

within_hour : (n : ℕ) → n % per_hour % per_minute ≡ n % per_minute
within_hour n = omega arith

clock_value_lem : (n : ℕ) → clock_value (clock_of n) ≡ n % per_hour
clock_value_lem n =
    let m = number_digits (n % per_hour / per_minute) 2 (omega arith) in
    let s = number_digits (n % per_minute / per_second) 2 (omega arith) in
    let k = number_digits (n % per_second) 3 (omega arith) in
    let e = div-add-mod' (n % per_hour) per_minute in
    let f = div-add-mod' (n % per_minute) per_second in
    let g : n % per_minute % per_second ≡ n % per_second = omega arith in
    omega (arith, within_hour n)

module _ (h count : ℕ) where
  count_back : length (digits h count ++ colon ∷ []) - 1 ≡ count
  count_back = omega (arith, length-append (digits h count) (colon ∷ []), length_digits h count)

  hours_fit : 2 ≤ count → are_hours (digits h count ++ colon ∷ []) ≡ true
  hours_fit two =
      ap (λ c. leb 2 c && fits (digits 0 c ++ colon ∷ []) (digits h count ++ colon ∷ [])) count_back
      ∙ ap₂ ◌&&◌ (le-leb 2 count two) (fits_both (digits 0 count) (colon ∷ []) (digits h count) (colon ∷ []) (digits_fit h count) refl)

  hours_value_lem : h < 10 ^ count → hours_value (digits h count ++ colon ∷ []) ≡ h
  hours_value_lem b =
      ap number (ap (λ c. take c (digits h count ++ colon ∷ [])) count_back ∙ take_at (digits h count) (colon ∷ []) count (length_digits h count))
      ∙ number_digits h count b

module _ (n : ℕ) where
  -- the hours of a position have room in their digits
  hours_wide : n ≤ nat_abs last_position → n / per_hour < 10 ^ hour_digits (n / per_hour)
  hours_wide last = by_hours (λ w. n / per_hour < 10 ^ w) (n / per_hour) (λ a. a) (λ a b. b) (λ a b. b) (λ a. omega arith)

  -- its label is hours and a colon, and the clock
  front_of : List ℕ
  front_of = digits (n / per_hour) (hour_digits (n / per_hour)) ++ colon ∷ []

  label_cut : position_text n ≡ front_of ++ clock_of n
  unfolding front_of
  label_cut = sym (append_snoc (digits (n / per_hour) (hour_digits (n / per_hour))) colon (clock_of n))

  written_front : in_front (position_text n) ≡ front_of
  written_front = ap in_front label_cut ∙ front_cut front_of (clock_of n) refl

  written_nine : last_nine (position_text n) ≡ clock_of n
  written_nine = ap last_nine label_cut ∙ nine_cut front_of (clock_of n) refl

  written_timestamp : is_timestamp (position_text n) ≡ true
  unfolding front_of
  written_timestamp =
      ap₂ ◌&&◌ (ap is_clock written_nine ∙ clock_written n)
      (ap (λ l. eqb (length l) 0 || are_hours l) written_front
      ∙ ap (λ t. eqb (length front_of) 0 || t) (hours_fit (n / per_hour) (hour_digits (n / per_hour)) (two_to_five (n / per_hour)).0)
      ∙ or-true (eqb (length front_of) 0))

  written_position : n ≤ nat_abs last_position → position_of (position_text n) ≡ n
  unfolding front_of
  written_position last =
      ap₂ (λ a b. a * per_hour + b) (ap hours_value written_front ∙ hours_value_lem (n / per_hour) (hour_digits (n / per_hour)) (hours_wide last))
      (ap clock_value written_nine ∙ clock_value_lem n)
      ∙ div-add-mod' n per_hour

-- ---- write and read

-- a label that was written is that of a position in the range
pub written :
    (position : ℤ) (label : List ℕ) → position_label position ≡ value label →
    (outside (pos 0) last_position position ≡ false) × (label ≡ position_text (nat_abs position))
unfolding position_label
written position label e = let p = passes (outside (pos 0) last_position position) 6 _ (sym e) in (p.0, same_value p.1)

-- a text that was read is a timestamp of a position in the range
pub record Accepts (text : List ℕ) (position : ℤ) : Type 0 where
  pub a_timestamp : is_timestamp text ≡ true
  pub within : outside (pos 0) last_position (pos (position_of text)) ≡ false
  pub position_is : position ≡ pos (position_of text)

pub accepted_parts : (text : List ℕ) (position : ℤ) → position_answer text ≡ value position → Accepts text position
unfolding position_answer
accepted_parts text position = go (is_timestamp text) (outside (pos 0) last_position (pos (position_of text))) refl refl
  where
    go : (t o : Bool) → is_timestamp text ≡ t → outside (pos 0) last_position (pos (position_of text)) ≡ o →
        cond t (cond o (refused 6) (value (pos (position_of text)))) (refused 13) ≡ value position → Accepts text position
    go true false h k e = record { a_timestamp = h; within = k; position_is = sym (same_value e) }
    go true true h k e = clash (cc)
    go false o h k e = clash (cc)

-- writing a position then reading gives it back
pub position_write_read : (position : ℤ) (label : List ℕ) → position_label position ≡ value label → position_answer label ≡ value position
unfolding position_answer
position_write_read position label e =
    let w = written position label e in
    let r = natural_within 0 last_position position w.0 in
    let t : is_timestamp label ≡ true = ap is_timestamp w.1 ∙ written_timestamp (nat_abs position) in
    let p : pos (position_of label) ≡ position = ap pos (ap position_of w.1 ∙ written_position (nat_abs position) r.high) ∙ sym r.is in
    ap (λ t. cond t (cond (outside (pos 0) last_position (pos (position_of label))) (refused 6) (value (pos (position_of label)))) (refused 13)) t
    ∙ ap (λ z. cond (outside (pos 0) last_position z) (refused 6) (value z)) p
    ∙ ap (λ o. cond o (refused 6) (value position)) w.0

-- reading a label then writing gives the position's label in its full form
pub position_read_write :
    (label : List ℕ) (position : ℤ) → position_answer label ≡ value position → position_label position ≡ value (position_text (position_of label))
unfolding position_label
position_read_write label position e =
    let a = accepted_parts label position e in
    ap position_label a.position_is ∙ ap (λ o. cond o (refused 6) (value (position_text (position_of label)))) a.within

-- ---- the reader's refusals

-- reading refuses with 13 exactly if the text is no timestamp
pub thirteen_exactly : (text : List ℕ) → (position_answer text ≡ refused 13) ↔ (is_timestamp text ≡ false)
unfolding position_answer
thirteen_exactly text = go (is_timestamp text) (outside (pos 0) last_position (pos (position_of text)))
  where
    go : (t o : Bool) → (cond t (cond o (refused 6) (value (pos (position_of text)))) (refused 13) ≡ refused 13) ↔ (t ≡ false)
    go true true = (λ e. let z : ◌≡◌ {A = ℕ} 6 13 = cc in absurd (omega arith), λ f. no_both true refl f)
    go true false = (λ e. clash (cc), λ f. no_both true refl f)
    go false o = (λ e. refl, λ f. refl)

-- and with 6 exactly if it is one of more than 99999 hours
pub six_exactly : (text : List ℕ) → (position_answer text ≡ refused 6) ↔ ((is_timestamp text ≡ true) × (99999 < hours_value (in_front text)))
unfolding position_answer
six_exactly text = go (is_timestamp text) (outside (pos 0) last_position (pos (position_of text))) refl refl
  where
    above : is_timestamp text ≡ true → outside (pos 0) last_position (pos (position_of text)) ≡ true → 99999 < hours_value (in_front text)
    above h k =
        by_contra 100000 (hours_value (in_front text))
        (λ l. no_both _ k (inside_pos 0 (nat_abs last_position) (position_of text) (omega arith) (omega (arith, (parts_back text h).hours_back))))

    go : (t o : Bool) → is_timestamp text ≡ t → outside (pos 0) last_position (pos (position_of text)) ≡ o →
        (cond t (cond o (refused 6) (value (pos (position_of text)))) (refused 13) ≡ refused 6) ↔ ((t ≡ true) × (99999 < hours_value (in_front text)))
    go true true h k = (λ e. (refl, above h k), λ f. refl)
    go true false h k = (λ e. clash (cc), λ f. absurd (omega (arith, hours_small text h k, f.1)))
    go false o h k = (λ e. let z : ◌≡◌ {A = ℕ} 13 6 = cc in absurd (omega arith), λ f. no_both false f.0 refl)

-- a position that is read lies in the range
pub position_in_range : (text : List ℕ) (position : ℤ) → position_answer text ≡ value position → outside (pos 0) last_position position ≡ false
position_in_range text position e = let a = accepted_parts text position e in ap (outside (pos 0) last_position) a.position_is ∙ a.within
