-- A timestamp by its last twelve bytes and the digits in front of them, and by nine bytes alone.
use Rattle.std.proofs.Common.{◌≡◌, ℕ, suc, ◌+◌, ◌-◌, ◌*◌, ◌<◌, ◌≤◌, Bool, true, false, ◌&&◌, ◌||◌, eqb, leb, List, [], ◌∷◌, ◌++◌, length, get_or, take, drop, replicate, sym, refl, ap, ◌∙◌, ap₂, append_assoc, arith, length-append, take_all, take_at, drop_at, w8, Fits, ne_eqb, le-leb}
use lib.ListN.{length-replicate, replicate-append-replicate}
use lib.Seq.{take-append-add}
use Rattle.numbers.proofs.Bools.{and_left, and_right}
use Rattle.labels.specs.Clock.{colon}
use Rattle.text.specs.Decimal.{digits, number, is_digit}
use Rattle.labels.specs.Digits.{fits}
use Rattle.text.specs.Words.{word, bytes_of, part_of}
use Rattle.labels.specs.Webvtt.{per_hour}
use Rattle.labels.specs.PositionPieces.{hundred_hours}
use Rattle.labels.specs.Timestamps.{is_clock, are_hours, is_timestamp, hours_value, position_of}
use Rattle.text.specs.Decimal.{all_digits}
use Rattle.labels.specs.Stamps.{stamp_of}
use Rattle.text.proofs.Words.{bytes, all_bytes, part_length, part_le, part_two, part_four, part_more}
use Rattle.text.proofs.Decimal.{from_append}
use Rattle.labels.proofs.Shapes.{fits_append, zeros}
use Rattle.labels.proofs.TimestampParts.{timestamp_cut, position_cut, clock_parts, hours_below}
use Rattle.labels.proofs.StampNumbers.{stamp_same}

-- ---- twelve bytes, and nine, as the code loads them

module _ (text : List ℕ) (fit : (i : ℕ) → Fits w8 (get_or text i 0)) where
  loaded : (from count : ℕ) {n : ℕ} → from + count ≤ length text → n ≡ word (part_of from count text) → bytes_of count n ≡ part_of from count text
  loaded from count h e = all_bytes (part_of from count text) e (part_le 255 from count text (bytes text fit)) (part_length from count text h)

  pub twelve_loaded :
      {a b : ℕ} → length text ≡ 12 → a ≡ word (part_of 0 8 text) → b ≡ word (part_of 8 4 text) → stamp_of (bytes_of 8 a ++ bytes_of 4 b) ≡ stamp_of text
  twelve_loaded h e f =
      ap stamp_of (ap₂ ◌++◌ (loaded 0 8 (omega arith) e) (loaded 8 4 (omega arith) f) ∙ sym (part_two 0 8 4 text) ∙ take_all 12 text (omega arith))

  -- nine bytes are those of a timestamp exactly if they are with `00:` in front of them
  pub nine_loaded :
      {a b : ℕ} → length text ≡ 9 → a ≡ word (part_of 0 4 text) → b ≡ word (part_of 5 4 text) →
      stamp_of (bytes_of 8 (a * 16777216 + get_or text 4 0 * 72057594037927936 + 3813424) ++ bytes_of 4 b) ≡ stamp_of text
  nine_loaded {a} {b} h e f =
      let five = part_of 0 5 text in
      let l : a * 16777216 + get_or text 4 0 * 72057594037927936 + 3813424 ≡ word (48 ∷ 48 ∷ 58 ∷ five) =
      omega (
        arith,
        e ∙ ap word (part_four 0 text (omega arith)),
        ap word (part_more 0 4 text (omega arith) ∙ ap (λ l. l ++ get_or text 4 0 ∷ []) (part_four 0 text (omega arith))),
      ) in
      let low = part_le 255 0 5 text (bytes text fit) in
      let size : length (48 ∷ 48 ∷ 58 ∷ five) ≡ 8 = ap (λ n. suc (suc (suc n))) (part_length 0 5 text (omega arith)) in
      ap stamp_of (ap₂ ◌++◌ (all_bytes (48 ∷ 48 ∷ 58 ∷ five) l (omega arith, (omega arith, (omega arith, low))) size) (loaded 5 4 (omega arith) f)
      ∙ ap (λ l. 48 ∷ 48 ∷ 58 ∷ l) (sym (part_two 0 5 4 text) ∙ take_all 9 text (omega arith)))
      ∙ no_hours text h
    where
      no_hours : (nine : List ℕ) → length nine ≡ 9 → stamp_of (48 ∷ 48 ∷ 58 ∷ nine) ≡ stamp_of nine
      no_hours nine l =
          stamp_same (48 ∷ 48 ∷ 58 ∷ nine) nine (timestamp_cut (48 ∷ 48 ∷ 58 ∷ []) nine l ∙ sym (timestamp_cut [] nine l))
          (position_cut (48 ∷ 48 ∷ 58 ∷ []) nine l ∙ sym (position_cut [] nine l))

-- ---- digits in front of twelve bytes

digits_all : (text : List ℕ) → fits (replicate (length text) 48) text ≡ all_digits text
digits_all [] = refl
digits_all (b ∷ bs) = ap (λ t. is_digit b && t) (digits_all bs)

-- hours of more than two digits, by the ones in front of the last two
module _ (hundreds : List ℕ) (h i c : ℕ) where
  abbrev three : List ℕ
  three = h ∷ i ∷ c ∷ []

  abbrev k : ℕ
  k = length hundreds

  size : length (hundreds ++ three) - 1 ≡ k + 2
  size = omega (arith, length-append hundreds three)

  shape : digits 0 (k + 2) ++ colon ∷ [] ≡ replicate k 48 ++ (48 ∷ 48 ∷ colon ∷ [])
  shape =
      ap (λ l. l ++ colon ∷ []) (zeros (k + 2) ∙ sym (replicate-append-replicate {A = ℕ} k 2 48))
      ∙ append_assoc (replicate k 48) (48 ∷ 48 ∷ []) (colon ∷ [])

  some_hours : eqb (length (hundreds ++ three)) 0 || are_hours (hundreds ++ three) ≡ all_digits hundreds && are_hours three
  some_hours =
      let n : length (replicate {A = ℕ} k 48) ≡ k = length-replicate {A = ℕ} k 48 in
      ap (λ t. t || are_hours (hundreds ++ three)) (ne_eqb (length (hundreds ++ three)) 0 (λ e. omega (arith, length-append hundreds three)))
      ∙ ap (λ n. leb 2 n && fits (digits 0 n ++ colon ∷ []) (hundreds ++ three)) size
      ∙ ap (λ t. t && fits (digits 0 (k + 2) ++ colon ∷ []) (hundreds ++ three)) (le-leb 2 (k + 2) (omega arith))
      ∙ ap (λ s. fits s (hundreds ++ three)) shape
      ∙ fits_append (replicate k 48) (48 ∷ 48 ∷ colon ∷ []) (hundreds ++ three)
      ∙ ap₂ (λ a b. fits (replicate k 48) a && fits (48 ∷ 48 ∷ colon ∷ []) b)
      (ap (λ n. take n (hundreds ++ three)) n ∙ take_at hundreds three k refl) (ap (λ n. drop n (hundreds ++ three)) n ∙ drop_at hundreds three k refl)
      ∙ ap (λ t. t && are_hours three) (digits_all hundreds)

  hours_are : hours_value (hundreds ++ three) ≡ number hundreds * 100 + hours_value three
  hours_are =
      ap (λ n. number (take n (hundreds ++ three))) size
      ∙ ap number (take-append-add hundreds three 2)
      ∙ from_append 0 hundreds (h ∷ i ∷ [])
      ∙ omega arith

swap : (a b c : Bool) → a && (b && c) ≡ b && (a && c)
swap true b c = refl
swap false true c = refl
swap false false c = refl

-- twelve bytes with some in front of them
pub record Long (hundreds twelve : List ℕ) : Type 0 where
  pub is_both : is_timestamp (hundreds ++ twelve) ≡ all_digits hundreds && is_timestamp twelve
  pub position_is : position_of (hundreds ++ twelve) ≡ number hundreds * hundred_hours + position_of twelve
  pub below : is_timestamp twelve ≡ true → position_of twelve < hundred_hours

pub long_parts : (hundreds twelve : List ℕ) → length twelve ≡ 12 → Long hundreds twelve
long_parts hundreds [] e = absurd (omega arith)
long_parts hundreds (h ∷ []) e = absurd (omega arith)
long_parts hundreds (h ∷ i ∷ []) e = absurd (omega arith)
long_parts hundreds (h ∷ i ∷ c ∷ nine) e =
    let l : length nine ≡ 9 = omega arith in
    let t = h ∷ i ∷ c ∷ [] in
    let a = sym (append_assoc hundreds t nine) in
    let cut = timestamp_cut t nine l in
    record {
      is_both = ap is_timestamp a ∙ timestamp_cut (hundreds ++ t) nine l ∙ ap (λ x. is_clock nine && x) (some_hours hundreds h i c)
          ∙ swap (is_clock nine) (all_digits hundreds) (are_hours t) ∙ sym (ap (λ x. all_digits hundreds && x) cut);
      position_is = ap position_of a ∙ position_cut (hundreds ++ t) nine l
          ∙ omega (arith, ap (λ n. n * per_hour) (hours_are hundreds h i c), position_cut t nine l);
      below = λ right.
          let s = sym cut ∙ right in
          let p = clock_parts nine (and_left (is_clock nine) _ s) in
          omega (arith, position_cut t nine l, hours_below t (and_right (is_clock nine) _ s), p.minute_small, p.second_small, p.fraction_small);
    }
