-- The labels' round trips, lengths and refusals.
use Rattle.std.proofs.Common.{◌≡◌, ℕ, ◌+◌, ◌-◌, ◌/◌, ◌^◌, ◌≤◌, Bool, true, false, cond, ltb, ◌↔◌, List, ◌++◌, length, drop, ℤ, pos, nat_abs, sym, refl, ap, ◌∙◌, arith, lit<}
use native.Mathlib.Nat.{pow-le-pow_right}
use Rattle.refusal.specs.Outcome.{Outcome, value, refused, refused_at, and_then}
use Rattle.numbers.specs.Range.{outside}
use Rattle.numbers.proofs.Bools.{no_both}
use Rattle.numbers.proofs.Between.{natural_within}
use Rattle.numbers.proofs.Integers.{wider}
use Rattle.refusal.proofs.Outcomes.{clash, passes, tested_then, same_value}
use Rattle.calendar.specs.Range.{first_year, last_year}
use Rattle.calendar.specs.Gregorian.{month_length, date_of}
use Rattle.calendar.specs.Answers.{of_date}
use Rattle.calendar.proofs.Epoch.{year_zero_has_its_count, year_10000_has_its_count, days_of_years}
use Rattle.instant.specs.Units.{first_instant, last_instant}
use Rattle.instant.specs.Instant.{day_of, fields_with, fields_at, fields_of, time_of_fields, instant_at}
use Rattle.instant.specs.Answers.{bad_instant, bad_time, split_answer, join_answer}
use Rattle.instant.specs.declared.Fields.{Fields}
use Rattle.instant.proofs.Ranges.{instants_of_days, day_inside}
use Rattle.instant.proofs.Laws.{split_join, join_split}
use Rattle.text.specs.Decimal.{digits, number}
use Rattle.labels.specs.Digits.{number_at, fits}
use Rattle.labels.specs.Years.{first_label_year, last_label_year}
use Rattle.labels.specs.Labelled.{first_label_day, last_label_day, first_label_instant, last_label_instant}
use Rattle.labels.specs.Rfc3339.{label_length, decimals, date_text, time_text, numbers_text, date_shape, time_shape, label_text, fields_label, instant_label, read_fields, read_answer}
use Rattle.labels.specs.Capitals.{in_capitals}
use Rattle.labels.specs.Parts.{HasRoom, NarrowFields}
use Rattle.labels.specs.Webvtt.{per_hour, position_text, position_label}
use Rattle.text.proofs.Decimal.{number_digits}
use Rattle.labels.proofs.Instants.{label_year}
use Rattle.labels.proofs.Positions.{length_position}
use Rattle.labels.proofs.Shapes.{fits_both}
use Rattle.labels.proofs.Texts.{date_back, date_capital, time_back, date_fits, time_fits}
use Rattle.labels.proofs.Instants.{fields_narrow}
use Rattle.labels.proofs.ReadBack.{position_write_read}

-- ---- positions

-- a position label is 12, 13, 14 or 15 bytes long, by the size of the hours
pub position_length :
    (n : ℕ) → length (position_text n)
    ≡ cond (ltb (n / per_hour) 100) 12 (cond (ltb (n / per_hour) 1000) 13 (cond (ltb (n / per_hour) 10000) 14 15))
position_length n = length_position n ∙ go (ltb (n / per_hour) 100) (ltb (n / per_hour) 1000) (ltb (n / per_hour) 10000)
  where
    go : (a b c : Bool) → cond a 2 (cond b 3 (cond c 4 5)) + 10 ≡ cond a 12 (cond b 13 (cond c 14 15))
    go true b c = refl
    go false true c = refl
    go false false true = refl
    go false false false = refl

-- two positions with the same label are the same position
pub same_position : (z y : ℤ) (label : List ℕ) → position_label z ≡ value label → position_label y ≡ value label → z ≡ y
same_position z y label e f = same_value (sym (position_write_read z label e) ∙ position_write_read y label f)

-- ---- instants

-- the number of a field's digits is the field
pub field_back : (count : ℕ) → (z : ℤ) → HasRoom count z → pos (number (digits (nat_abs z) count)) ≡ z
field_back count z e =
    let w = natural_within 0 (pos (10 ^ count - 1)) z e in
    let l = w.high in
    let o : 0 ≤ count = omega arith in
    let p : 1 ≤ 10 ^ count = pow-le-pow_right {n = 10} (lit< tt) o in
    ap pos (number_digits (nat_abs z) count (omega arith)) ∙ sym w.is

fields_back :
    (f : Fields) → HasRoom 4 f.year → NarrowFields f →
    read_fields (label_text f) (drop 10 (label_text f)) ≡ join_answer f.year f.month f.day f.hour f.minute f.second f.millisecond
unfolding numbers_text
fields_back f year-within n =
    let y = field_back 4 f.year year-within in
    let o = field_back 2 f.month n.month_within in
    let d = field_back 2 f.day n.day_within in
    let h = field_back 2 f.hour n.hour_within in
    let m = field_back 2 f.minute n.minute_within in
    let s = field_back 2 f.second n.second_within in
    let k = field_back decimals f.millisecond n.fraction_within in
    λ i. join_answer (y i) (o i) (d i) (h i) (m i) (s i) (k i)

label_fits : (f : Fields) → fits (date_shape ++ time_shape decimals) (label_text f) ≡ true
unfolding numbers_text
label_fits f =
    fits_both date_shape (time_shape decimals) (date_text (nat_abs f.year) (nat_abs f.month) (nat_abs f.day))
    (time_text decimals (nat_abs f.hour) (nat_abs f.minute) (nat_abs f.second) (nat_abs f.millisecond))
    (date_fits (nat_abs f.year) (nat_abs f.month) (nat_abs f.day))
    (time_fits decimals (nat_abs f.hour) (nat_abs f.minute) (nat_abs f.second) (nat_abs f.millisecond))

fields_read :
    (instant : ℤ) (f : Fields) → split_answer instant ≡ value f → outside first_label_year last_label_year f.year ≡ false →
    read_answer (label_text f) ≡ value instant
unfolding read_answer
fields_read instant f e h =
    ap (λ t. cond t (read_fields (label_text f) (drop 10 (label_text f))) (refused 8)) (label_fits f)
    ∙ fields_back f h (fields_narrow instant f e) ∙ split_join instant f e

-- an instant of the range has a year of labels exactly if it is one of document 01's
label_years :
    (instant : ℤ) → bad_instant instant ≡ false →
    outside first_label_year last_label_year (fields_of instant).year ≡ outside first_label_instant last_label_instant instant
unfolding fields_of fields_at
label_years instant h =
    days_of_years (day_of instant) (day_inside instant h) first_label_year last_label_year first_label_day last_label_day year_zero_has_its_count
    year_10000_has_its_count
    ∙ instants_of_days first_label_day last_label_day instant

-- the label of an instant, exactly: 4 outside the range, 1 outside document 01's range, else the text of its fields
pub label_exactly :
    (instant : ℤ) → instant_label instant
    ≡ cond (bad_instant instant) (refused 4)
    (cond (outside first_label_instant last_label_instant instant) (refused 1) (value (label_text (fields_of instant))))
unfolding instant_label split_answer
label_exactly instant =
    tested_then (bad_instant instant) 4 (fields_of instant) fields_label
    (λ h. ap (λ t. cond t (refused 1) (value (label_text (fields_of instant)))) (label_years instant h))

-- so every instant of document 01's range has a label
pub instant_labelled : (instant : ℤ) → outside first_label_instant last_label_instant instant ≡ false → instant_label instant ≡ value (label_text (fields_of instant))
instant_labelled instant h =
    label_exactly instant
    ∙ (λ i. cond (wider first_label_instant last_label_instant first_instant last_instant instant refl refl h i) (refused 4) (cond (h i) (refused 1) (value (label_text (fields_of instant)))))

-- writing then reading gives the instant back
pub write_read : (instant : ℤ) (label : List ℕ) → instant_label instant ≡ value label → read_answer label ≡ value instant
unfolding instant_label
write_read instant label e = go (split_answer instant) refl e
  where
    go : (o : Outcome Fields) → split_answer instant ≡ o → and_then o fields_label ≡ value label → read_answer label ≡ value instant
    go (value f) s e =
        let p = passes (outside first_label_year last_label_year f.year) 1 _ (sym e) in
        ap read_answer (same_value p.1) ∙ fields_read instant f s p.0
    go (refused n) s e = clash (cc)
    go (refused_at n place) s e = clash (cc)

-- an accepted label has the shape, and its fields make the instant
read_accepted :
    (label : List ℕ) (instant : ℤ) → read_answer label ≡ value instant →
    (fits (date_shape ++ time_shape decimals) label ≡ true) × (read_fields label (drop 10 label) ≡ value instant)
unfolding read_answer
read_accepted label instant = go (fits (date_shape ++ time_shape decimals) label)
  where
    go : (t : Bool) → cond t (read_fields label (drop 10 label)) (refused 8) ≡ value instant → (t ≡ true) × (read_fields label (drop 10 label) ≡ value instant)
    go true e = (refl, e)
    go false e = clash (cc)

-- a text of the shape is the text of its numbers, with its letters made capital
label_back :
    (label : List ℕ) → fits (date_shape ++ time_shape decimals) label ≡ true →
    date_text (number_at 0 4 label) (number_at 5 2 label) (number_at 8 2 label)
    ++ time_text decimals (number_at 1 2 (drop 10 label)) (number_at 4 2 (drop 10 label)) (number_at 7 2 (drop 10 label)) (number_at 10 decimals (drop 10 label)) ≡ in_capitals label
label_back label h =
    let d = date_back (time_shape decimals) label h in
    let year = number_at 0 4 label in
    let month = number_at 5 2 label in
    let day = number_at 8 2 label in
    sym (ap in_capitals d.0 ∙ date_capital year month day (drop 10 label) ∙ ap (λ l. date_text year month day ++ l) (time_back decimals (drop 10 label) d.1).text_is)

-- and in capitals it has the same numbers
pub capitals_fields :
    (label : List ℕ) → fits (date_shape ++ time_shape decimals) label ≡ true →
    read_fields (in_capitals label) (drop 10 (in_capitals label)) ≡ read_fields label (drop 10 label)
capitals_fields label h =
    let d = date_back (time_shape decimals) label h in
    let t = time_back decimals (drop 10 label) d.1 in
    let y : number (digits (number_at 0 4 label) 4) ≡ number_at 0 4 label = sym (ap (number_at 0 4) d.0) in
    let o : number (digits (number_at 5 2 label) 2) ≡ number_at 5 2 label = sym (ap (number_at 5 2) d.0) in
    let e : number (digits (number_at 8 2 label) 2) ≡ number_at 8 2 label = sym (ap (number_at 8 2) d.0) in
    sym (ap (λ l. read_fields l (drop 10 l)) (label_back label h))
    ∙ (λ i. join_answer (pos (y i)) (pos (o i)) (pos (e i)) (pos (t.hour_is i)) (pos (t.minute_is i)) (pos (t.second_is i)) (pos (t.fraction_is i)))

-- four digits are a year that has a label
label_year_inside : (label : List ℕ) → fits (date_shape ++ time_shape decimals) label ≡ true → outside first_label_year last_label_year (pos (number_at 0 4 label)) ≡ false
label_year_inside label h = label_year (number_at 0 4 label) (ap (number_at 0 4) (date_back (time_shape decimals) label h).0)

-- the fields that a label's numbers are
abbrev numbers_of : (label : List ℕ) → Fields
numbers_of label =
    let t = drop 10 label in
    fields_with (pos (number_at 0 4 label)) (pos (number_at 5 2 label)) (pos (number_at 8 2 label)) (pos (number_at 1 2 t)) (pos (number_at 4 2 t))
    (pos (number_at 7 2 t)) (pos (number_at 10 decimals t))

-- reading an accepted label then writing gives the same bytes, with t and z made capital
pub read_write : (label : List ℕ) (instant : ℤ) → read_answer label ≡ value instant → instant_label instant ≡ value (in_capitals label)
unfolding instant_label numbers_text
read_write label instant e =
    let a = read_accepted label instant e in
    let t = drop 10 label in
    ap (λ o. and_then o fields_label)
    (join_split (pos (number_at 0 4 label)) (pos (number_at 5 2 label)) (pos (number_at 8 2 label)) (pos (number_at 1 2 t)) (pos (number_at 4 2 t))
    (pos (number_at 7 2 t)) (pos (number_at 10 decimals t)) instant a.1)
    ∙ ap (λ y. cond y (refused 1) (value (label_text (numbers_of label)))) (label_year_inside label a.0)
    ∙ ap value (label_back label a.0)

-- every instant label has label_length bytes, and these are 24
pub label_length_lem : (f : Fields) → length (label_text f) ≡ label_length
unfolding numbers_text
label_length_lem f = refl

pub label_bytes : label_length ≡ 24
label_bytes = refl

-- ---- the reader's refusals

-- four digits are a year of the range
year_inside : (label : List ℕ) → fits (date_shape ++ time_shape decimals) label ≡ true → outside first_year last_year (pos (number_at 0 4 label)) ≡ false
year_inside label h =
    wider first_label_year last_label_year first_year last_year (pos (number_at 0 4 label)) refl refl (label_year_inside label h)

-- the refusals of fields, one after the other
by_refusal :
    {A G : Type 0} (y m d t : Bool) (v : A) (n : ℕ) → cond y (refused 1) (cond m (refused 2) (cond d (refused 3) (cond t (refused 5) (value v)))) ≡ refused n →
    (y ≡ true → n ≡ 1 → G) → (n ≡ 2 → G) → (n ≡ 3 → G) → (n ≡ 5 → G) → G
by_refusal true m d t v n e one two three five = one refl (cc)
by_refusal false true d t v n e one two three five = two (cc)
by_refusal false false true t v n e one two three five = three (cc)
by_refusal false false false true v n e one two three five = five (cc)
by_refusal false false false false v n e one two three five = clash (cc)

join_refusal :
    {G : Type 0} (year month day hour minute second millisecond : ℤ) (n : ℕ) → join_answer year month day hour minute second millisecond ≡ refused n →
    (outside first_year last_year year ≡ true → n ≡ 1 → G) → (n ≡ 2 → G) → (n ≡ 3 → G) → (n ≡ 5 → G) → G
unfolding join_answer of_date
join_refusal year month day hour minute second millisecond =
    by_refusal (outside first_year last_year year) (outside (pos 1) (pos 12) month) (outside (pos 1) (month_length year month) day) (bad_time hour minute second millisecond)
    (instant_at (date_of year month day) (time_of_fields hour minute second millisecond))

-- a label of the shape is refused with 2, 3 or 5 if it is refused
shaped_refusal :
    {G : Type 0} (label : List ℕ) (n : ℕ) → fits (date_shape ++ time_shape decimals) label ≡ true → read_fields label (drop 10 label) ≡ refused n →
    (n ≡ 2 → G) → (n ≡ 3 → G) → (n ≡ 5 → G) → G
shaped_refusal label n h e =
    let t = drop 10 label in
    join_refusal (pos (number_at 0 4 label)) (pos (number_at 5 2 label)) (pos (number_at 8 2 label)) (pos (number_at 1 2 t)) (pos (number_at 4 2 t))
    (pos (number_at 7 2 t)) (pos (number_at 10 decimals t)) n e (λ y _. no_both _ y (year_inside label h))

-- a reader that takes labels of the shape only refuses with 8 exactly those that it does not take
pub eight_if :
    (label : List ℕ) (t : Bool) → (t ≡ true → fits (date_shape ++ time_shape decimals) label ≡ true) →
    (cond t (read_fields label (drop 10 label)) (refused 8) ≡ refused 8) ↔ (t ≡ false)
eight_if label true h = (
  λ e. shaped_refusal label 8 (h refl) e (λ z. absurd (omega arith)) (λ z. absurd (omega arith)) (λ z. absurd (omega arith)),
  λ f. no_both true refl f,
)
eight_if label false h = (λ e. refl, λ f. refl)

-- reading refuses with 8 exactly if the label has another shape
pub eight_exactly : (label : List ℕ) → (read_answer label ≡ refused 8) ↔ (fits (date_shape ++ time_shape decimals) label ≡ false)
unfolding read_answer
eight_exactly label = eight_if label (fits (date_shape ++ time_shape decimals) label) (λ e. e)

-- the years of labels are in the range of years: reading never refuses with 1
pub read_year : (label : List ℕ) → read_answer label ≡ refused 1 → ⊥
unfolding read_answer
read_year label = go (fits (date_shape ++ time_shape decimals) label) refl
  where
    go : (t : Bool) → fits (date_shape ++ time_shape decimals) label ≡ t → cond t (read_fields label (drop 10 label)) (refused 8) ≡ refused 1 → ⊥
    go true h e = shaped_refusal label 1 h e (λ z. omega arith) (λ z. omega arith) (λ z. omega arith)
    go false h e = let z : ◌≡◌ {A = ℕ} 8 1 = cc in omega arith
