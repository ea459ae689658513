-- A label's date and the time behind it, tested and read in parts.
use Rattle.std.proofs.Common.{◌≡◌, ℕ, ◌+◌, ◌-◌, ◌*◌, ◌<◌, ◌≤◌, Bool, true, false, cond, ◌&&◌, List, [], ◌∷◌, ◌++◌, length, get_or, drop, sym, refl, ap, ◌∙◌, subst, ap₂, arith, drop_of_length-le, drop-cons}
use mathlib.Core.Bool.{and-true, and-false, and_assoc, and_comm}
use Rattle.std.proofs.Common.{Result, Ok, Err}
use Rattle.std.specs.Result.{IfOk}
use Rattle.refusal.specs.declared.Refusal.{Refusal}
use Rattle.refusal.specs.Outcome.{value, refused, outcome, and_then}
use Rattle.text.specs.Decimal.{number}
use Rattle.labels.specs.Digits.{number_at, letter_t, letter_z, fits_one, fits}
use Rattle.labels.specs.Rfc3339.{dash, label_length, decimals, date_shape, time_shape, read_fields, read_answer}
use Rattle.text.specs.Words.{word, part_of}
use Rattle.labels.specs.Words.{OneWord, text_of, read_values, pair_of, number_of, ClockValues, Thousandths}
use Rattle.labels.specs.Parts.{joined, joined_values, read_time}
use Rattle.labels.proofs.Shapes.{clock_shape, fraction_shape, uneven, fits_from, fits_overlap}
use Rattle.text.specs.Words.{AllLe}
use Rattle.text.proofs.Words.{part_length, part_le, part_two, part_three, part_four, all_bytes}
use Rattle.labels.proofs.Gaps.{all_near}
use Rattle.labels.proofs.ReadValues.{ValuesRead, both_read, none_read, number_four, part_number}
use Rattle.labels.proofs.Thousandths.{number_is}

-- the shapes of the code: `YYYY` and `YY-MM-DD`, beside `HH:MM:SS` and `.mmm`
abbrev pub year_shape : List ℕ
year_shape = 48 ∷ 48 ∷ 48 ∷ 48 ∷ []

abbrev pub from_year_shape : List ℕ
from_year_shape = 48 ∷ 48 ∷ dash ∷ 48 ∷ 48 ∷ dash ∷ 48 ∷ 48 ∷ []

-- ---- two parts of a text, loaded as numbers

module _ (text : List ℕ) (bytes : AllLe 255 text) (shape other : List ℕ) (i j : ℕ) (hi : i + length shape ≤ length text) (hj : j + length other ≤ length text) where
  loaded : (shape : List ℕ) (i : ℕ) → i + length shape ≤ length text → {n : ℕ} → n ≡ word (part_of i (length shape) text) → text_of shape n ≡ part_of i (length shape) text
  loaded shape i h e = all_bytes (part_of i (length shape) text) e (part_le 255 i (length shape) text bytes) (part_length i (length shape) text h)

  module _ {m n : ℕ} (em : m ≡ word (part_of i (length shape) text)) (en : n ≡ word (part_of j (length other) text)) where
    pub two_read :
        (v w : ℕ) → OneWord shape m → OneWord other n → value (v, w) ≡ read_values shape m other n →
        ValuesRead shape (part_of i (length shape) text) v × ValuesRead other (part_of j (length other) text) w
    two_read v w p q e =
        let r = both_read shape m other n v w p q e in
        (subst (λ t. ValuesRead shape t v) (loaded shape i hi em) r.0, subst (λ t. ValuesRead other t w) (loaded other j hj en) r.1)

    pub two_wrong : {k : ℕ} → refused k ≡ read_values shape m other n →
        (k ≡ 8) × (fits shape (part_of i (length shape) text) && fits other (part_of j (length other) text) ≡ false)
    two_wrong e =
        let t = none_read shape m other n e in
        (t.0, ap₂ (λ a b. fits shape a && fits other b) (sym (loaded shape i hi em)) (sym (loaded other j hj en)) ∙ t.1)

-- ---- the date

module _ (label : List ℕ) where
  -- `YYYY` and `YY-MM-DD` have the year of the century in common
  by_date : (t : Bool) → fits from_year_shape (part_of 2 8 label) && fits year_shape (part_of 0 4 label) ≡ t →
      read_answer label ≡ cond (t && fits (time_shape decimals) (drop 10 label)) (read_fields label (drop 10 label)) (refused 8)
  unfolding read_answer
  by_date t p =
      ap (λ t. cond t (read_fields label (drop 10 label)) (refused 8))
      (fits_overlap (48 ∷ 48 ∷ []) (48 ∷ 48 ∷ []) (dash ∷ 48 ∷ 48 ∷ dash ∷ 48 ∷ 48 ∷ time_shape decimals) label
      ∙ ap (λ t. fits year_shape (part_of 0 4 label) && t) (fits_from from_year_shape (time_shape decimals) label 2)
      ∙ sym (and_assoc (fits year_shape (part_of 0 4 label)) _ _)
      ∙ ap (λ t. t && fits (time_shape decimals) (drop 10 label)) (and_comm (fits year_shape (part_of 0 4 label)) _ ∙ p))

  pub wrong_length : (length label ≡ label_length → ⊥) → refused 8 ≡ read_answer label
  unfolding read_answer
  wrong_length h = sym (ap (λ t. cond t (read_fields label (drop 10 label)) (refused 8)) (uneven (date_shape ++ time_shape decimals) label (λ e. h (sym e))))

  pub wrong_date :
      {k : ℕ} → (k ≡ 8) × (fits from_year_shape (part_of 2 8 label) && fits year_shape (part_of 0 4 label) ≡ false) → refused k ≡ read_answer label
  wrong_date p = ap refused p.0 ∙ sym (by_date false p.1)

  pub date_read :
      (year date : ℕ) → length label ≡ label_length → ValuesRead year_shape (part_of 0 4 label) year → ValuesRead from_year_shape (part_of 2 8 label) date →
      read_time (100 * pair_of year 0 + pair_of date 0) (pair_of date 3) (pair_of date 6) (drop 10 label) ≡ read_answer label
  date_read year date l y d =
      let e = sym (part_length 2 8 label (omega arith)) in
      let century = y.pair_is 0 (omega arith) (sym (part_length 0 4 label (omega arith))) refl refl ∙ part_number label 4 0 0 (omega arith) (omega arith) in
      let of_century = d.pair_is 0 (omega arith) e refl refl ∙ part_number label 8 2 0 (omega arith) (omega arith) in
      let month = d.pair_is 3 (omega arith) e refl refl ∙ part_number label 8 2 3 (omega arith) (omega arith) in
      let day = d.pair_is 6 (omega arith) e refl refl ∙ part_number label 8 2 6 (omega arith) (omega arith) in
      let both : 100 * pair_of year 0 + pair_of date 0 ≡ number_at 0 4 label = ap₂ (λ c y. 100 * c + y) century of_century ∙ sym (number_four label (omega arith)) in
      (λ i. read_time (both i) (month i) (day i) (drop 10 label))
      ∙ sym (by_date true (ap₂ ◌&&◌ d.shape_fits y.shape_fits))

-- ---- the time

-- the values of `HH:MM:SS`
clock_values :
    (a b m c d n e f : ℕ) {v : ℕ} → ValuesRead clock_shape (a ∷ b ∷ m ∷ c ∷ d ∷ n ∷ e ∷ f ∷ []) v → ClockValues v
clock_values a b m c d n e f r =
    let near = all_near clock_shape (a ∷ b ∷ m ∷ c ∷ d ∷ n ∷ e ∷ f ∷ []) refl r.shape_fits in
    record {
      hour_tens = a - 48;
      hour_ones = b - 48;
      minute_tens = c - 48;
      minute_ones = d - 48;
      second_tens = e - 48;
      second_ones = f - 48;
      hours_le = (near.0, near.1.0);
      minutes_le = (near.1.1.1.0, near.1.1.1.1.0);
      seconds_le = (near.1.1.1.1.1.1.0, near.1.1.1.1.1.1.1.0);
      values_are = omega (arith, r.values_are, near.1.1.0, near.1.1.1.1.1.0);
    }

-- the values of `.mmm`
module _ (a b c d : ℕ) {v : ℕ} (r : ValuesRead fraction_shape (a ∷ b ∷ c ∷ d ∷ []) v) where
  abbrev pub decimals_read : Thousandths v
  decimals_read =
      let n = all_near fraction_shape (a ∷ b ∷ c ∷ d ∷ []) refl r.shape_fits in
      record {
        tenth = b - 48;
        hundredth = c - 48;
        thousandth = d - 48;
        tenth_le = n.1.0;
        hundredth_le = n.1.1.0;
        thousandth_le = n.1.1.1.0;
        values_are = omega (arith, r.values_are, n.0);
      }

  decimals_number : number_of v 4 ≡ (b - 48) * 100 + (c - 48) * 10 + (d - 48)
  decimals_number = number_is decimals_read

-- the shape of a time: a letter, `HH:MM:SS`, `.mmm`, and a letter at the end
module _ (part : List ℕ) (l : length part ≡ 11 + decimals) where
  abbrev z_at : ℕ
  z_at = 10 + decimals

  last_letter : fits (letter_z ∷ []) (drop z_at part) ≡ fits_one letter_z (get_or part z_at 0)
  last_letter =
      let h : z_at < length part = omega arith in
      let k : length part ≤ z_at + 1 = omega arith in
      ap (fits (letter_z ∷ [])) (drop-cons part z_at 0 h)
      ∙ ap (λ r. fits_one letter_z (get_or part z_at 0) && fits [] r) (drop_of_length-le part k)
      ∙ and-true (fits_one letter_z (get_or part z_at 0))

  abbrev both_fit : Bool
  both_fit = fits clock_shape (part_of 1 8 part) && fits fraction_shape (part_of 9 4 part)

  time_by_parts : fits (time_shape decimals) part ≡ fits_one letter_t (get_or part 0 0) && (both_fit && fits_one letter_z (get_or part z_at 0))
  time_by_parts =
      let h : 0 < length part = omega arith in
      ap (fits (time_shape decimals)) (drop-cons part 0 0 h)
      ∙ ap (λ t. fits_one letter_t (get_or part 0 0) && t)
      (fits_from clock_shape (fraction_shape ++ letter_z ∷ []) part 1
      ∙ ap (λ t. fits clock_shape (part_of 1 8 part) && t) (fits_from fraction_shape (letter_z ∷ []) part 9 ∙ ap (λ t. fits fraction_shape (part_of 9 4 part) && t) last_letter)
      ∙ sym (and_assoc (fits clock_shape (part_of 1 8 part)) _ _))

  -- a part one of whose parts does not fit
  module _ (year month day : ℕ) where
    unless : (t : Bool) → fits (time_shape decimals) part ≡ t → t ≡ false → refused 8 ≡ read_time year month day part
    unless t e f =
        sym (ap (λ t. cond t (joined year month day (number_at 1 2 part) (number_at 4 2 part) (number_at 7 2 part) (number_at 10 decimals part)) (refused 8)) (e ∙ f))

    pub wrong_digits : both_fit ≡ false → refused 8 ≡ read_time year month day part
    wrong_digits e =
        unless _ time_by_parts
        (ap (λ t. fits_one letter_t (get_or part 0 0) && (t && fits_one letter_z (get_or part z_at 0))) e ∙ and-false (fits_one letter_t (get_or part 0 0)))

  pub clock_read : {v : ℕ} → ValuesRead clock_shape (part_of 1 8 part) v → ClockValues v
  clock_read {v} r =
      let bytes = part_two 1 4 4 part ∙ ap₂ ◌++◌ (part_four 1 part (omega arith)) (part_four 5 part (omega arith)) in
      clock_values (get_or part 1 0) (get_or part 2 0) (get_or part 3 0) (get_or part 4 0) (get_or part 5 0) (get_or part 6 0) (get_or part 7 0) (get_or part 8 0)
      (subst (λ t. ValuesRead clock_shape t v) bytes r)

  -- its four bytes
  fraction_bytes :
      {v : ℕ} → ValuesRead fraction_shape (part_of 9 4 part) v → ValuesRead fraction_shape (get_or part 9 0 ∷ get_or part 10 0 ∷ get_or part 11 0 ∷ get_or part 12 0 ∷ []) v
  fraction_bytes {v} r = subst (λ t. ValuesRead fraction_shape t v) (part_four 9 part (omega arith)) r

  pub fraction_read : {v : ℕ} → ValuesRead fraction_shape (part_of 9 4 part) v → Thousandths v
  fraction_read r = decimals_read (get_or part 9 0) (get_or part 10 0) (get_or part 11 0) (get_or part 12 0) (fraction_bytes r)

  decimals_are : {v : ℕ} → ValuesRead fraction_shape (part_of 9 4 part) v → number_of v 4 ≡ number_at 10 decimals part
  decimals_are r =
      decimals_number (get_or part 9 0) (get_or part 10 0) (get_or part 11 0) (get_or part 12 0) (fraction_bytes r)
      ∙ sym (ap number (part_three 10 part (omega arith)) ∙ omega arith)

  pub time_read :
      (year month day clock fraction : ℕ) → fits_one letter_t (get_or part 0 0) ≡ true → fits_one letter_z (get_or part z_at 0) ≡ true →
      ValuesRead clock_shape (part_of 1 8 part) clock → ValuesRead fraction_shape (part_of 9 4 part) fraction →
      joined_values year month day clock fraction ≡ read_time year month day part
  time_read year month day clock fraction t z r q =
      let e = sym (part_length 1 8 part (omega arith)) in
      let hour = r.pair_is 0 (omega arith) e refl refl ∙ part_number part 8 1 0 (omega arith) (omega arith) in
      let minute = r.pair_is 3 (omega arith) e refl refl ∙ part_number part 8 1 3 (omega arith) (omega arith) in
      let second = r.pair_is 6 (omega arith) e refl refl ∙ part_number part 8 1 6 (omega arith) (omega arith) in
      let whole = time_by_parts ∙ ap₂ ◌&&◌ t (ap₂ ◌&&◌ (ap₂ ◌&&◌ r.shape_fits q.shape_fits) z) in
      (λ i. joined year month day (hour i) (minute i) (second i) (decimals_are q i))
      ∙ sym (ap (λ t. cond t (joined year month day (number_at 1 2 part) (number_at 4 2 part) (number_at 7 2 part) (number_at 10 decimals part)) (refused 8)) whole)

  -- what the code reads of a part whose letters fit
  module _ (bytes : AllLe 255 part) {m n : ℕ} (em : m ≡ word (part_of 1 8 part)) (en : n ≡ word (part_of 9 4 part)) (p : OneWord clock_shape m) (q : OneWord fraction_shape n) where
    both_read_time :
        {v w : ℕ} → value (v, w) ≡ read_values clock_shape m fraction_shape n →
        ValuesRead clock_shape (part_of 1 8 part) v × ValuesRead fraction_shape (part_of 9 4 part) w
    both_read_time {v} {w} e = two_read part bytes clock_shape fraction_shape 1 9 (omega arith) (omega arith) em en v w p q e

    pub values_of : (r : Result (ℕ × ℕ) Refusal) → outcome r ≡ read_values clock_shape m fraction_shape n → IfOk r (λ t. ClockValues t.0 × Thousandths t.1)
    values_of (Ok t) e = let r = both_read_time e in (clock_read r.0, fraction_read r.1)
    values_of (Err x) e = tt

    pub told_of :
        (year month day : ℕ) → fits_one letter_t (get_or part 0 0) ≡ true → fits_one letter_z (get_or part z_at 0) ≡ true → (r : Result (ℕ × ℕ) Refusal) →
        outcome r ≡ read_values clock_shape m fraction_shape n →
        and_then (outcome r) (λ t. joined_values year month day t.0 t.1) ≡ read_time year month day part
    told_of year month day t z (Ok v) e = let r = both_read_time e in time_read year month day v.0 v.1 t z r.0 r.1
    told_of year month day t z (Err x) e =
        let w = two_wrong part bytes clock_shape fraction_shape 1 9 (omega arith) (omega arith) em en e in
        ap refused w.0 ∙ wrong_digits year month day w.1
