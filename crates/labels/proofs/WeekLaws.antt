-- Week labels: both round trips, their length, and the reader's refusals.
use Rattle.std.proofs.Common.{◌≡◌, ℕ, Bool, true, false, cond, ◌⊎◌, ◌↔◌, List, [], ◌∷◌, ◌++◌, length, drop, ℤ, pos, ◌+ℤ◌, nat_abs, sym, refl, ap, ◌∙◌, subst, inl, inr, ⊎_elim, arith, lt-ltb}
use Rattle.refusal.specs.Outcome.{Outcome, value, refused, refused_at, and_then}
use Rattle.refusal.proofs.Outcomes.{clash, passes, tested_then, same_value}
use Rattle.numbers.specs.Range.{outside, since}
use Rattle.numbers.proofs.Between.{natural_within}
use Rattle.numbers.proofs.Integers.{wider, outside_as}
use Rattle.calendar.specs.Range.{first_count, last_count}
use Rattle.calendar.specs.Closed.{leaps, start}
use Rattle.week.specs.declared.WeekDate.{WeekDate}
use Rattle.week.specs.Week.{week_date, week_date_of}
use Rattle.week.specs.Closed.{base_year, first_day}
use Rattle.week.specs.Answers.{first_week_year, last_week_year, week_answer, week_days_answer}
use Rattle.week.proofs.Weeks.{week_date_in}
use Rattle.week.proofs.OrderLaws.{in_earlier_week_year}
use Rattle.week.proofs.Laws.{days_of_week, week_of_days, week_refusal, four_at_the_ends}
use Rattle.text.specs.Decimal.{digits}
use Rattle.labels.specs.Digits.{number_at, fits}
use Rattle.labels.specs.Rfc3339.{dash}
use Rattle.labels.specs.Years.{first_label_year, last_label_year}
use Rattle.labels.specs.Labelled.{first_week_label_day, last_week_label_day}
use Rattle.labels.specs.IsoWeek.{letter_w, week_length, week_text, week_date_label, week_label, week_shape, read_numbers, read_week_answer}
use Rattle.labels.proofs.Instants.{label_year}
use Rattle.labels.proofs.Shapes.{fits_both, digits_fit, digits_front, mark_front, fits_nothing}
use Rattle.labels.proofs.Laws.{field_back}
use Rattle.labels.proofs.WeekTexts.{week_room}

-- every week label has week_length bytes, and these are 10
pub week_label_length : (year week weekday : ℕ) → length (week_text year week weekday) ≡ week_length
unfolding week_text
week_label_length year week weekday = refl

pub week_label_bytes : week_length ≡ 10
week_label_bytes = refl

-- the first days of the week years 0 and 10000
first_label_week : week_days_answer first_label_year (pos 1) (pos 1) ≡ value first_week_label_day
unfolding week_answer first_day start leaps
first_label_week =
    days_of_week first_week_label_day (week_date first_label_year (pos 1) (pos 1)) (ap value (week_date_in first_week_label_day (since base_year first_label_year) tt tt refl))

week_after_labels : week_days_answer (last_label_year +ℤ pos 1) (pos 1) (pos 1) ≡ value (last_week_label_day +ℤ pos 1)
unfolding week_answer first_day start leaps
week_after_labels =
    days_of_week (last_week_label_day +ℤ pos 1) (week_date (last_label_year +ℤ pos 1) (pos 1) (pos 1))
    (ap value (week_date_in (last_week_label_day +ℤ pos 1) (since base_year (last_label_year +ℤ pos 1)) tt tt refl))

-- the label of a day, exactly: 4 outside the range, 1 outside the days of the week years 0 to 9999, else the text of its week date
module _ (days : ℤ) where
  abbrev text_of : List ℕ
  text_of = let d = week_date_of days in week_text (nat_abs d.year) (nat_abs d.week) (nat_abs d.weekday)

  pub week_label_exactly :
      week_label days
      ≡ cond (outside first_count last_count days) (refused 4) (cond (outside first_week_label_day last_week_label_day days) (refused 1) (value text_of))
  unfolding week_label week_answer
  week_label_exactly =
      tested_then (outside first_count last_count days) 4 (week_date_of days) week_date_label
      (λ h. ap (λ t. cond t (refused 1) (value text_of))
      (outside_as (week_date_of days).year first_label_year last_label_year days first_week_label_day last_week_label_day
      (in_earlier_week_year days h first_label_year first_week_label_day first_label_week)
      (in_earlier_week_year days h (last_label_year +ℤ pos 1) (last_week_label_day +ℤ pos 1) week_after_labels)))

-- a written text has the shape
text_fits : (year week weekday : ℕ) → fits week_shape (week_text year week weekday) ≡ true
unfolding week_text
text_fits year week weekday =
    fits_both (digits 0 4) (dash ∷ letter_w ∷ digits 0 2 ++ dash ∷ digits 0 1) (digits year 4) (dash ∷ letter_w ∷ digits week 2 ++ dash ∷ digits weekday 1) (digits_fit year 4)
    (fits_both (digits 0 2) (dash ∷ digits 0 1) (digits week 2) (dash ∷ digits weekday 1) (digits_fit week 2) (digits_fit weekday 1))

-- the numbers of a written text
numbers_back : (days : ℤ) (d : WeekDate) → value d ≡ week_answer days → outside first_label_year last_label_year d.year ≡ false →
    let label = week_text (nat_abs d.year) (nat_abs d.week) (nat_abs d.weekday) in
    read_numbers label ≡ week_days_answer d.year d.week d.weekday
unfolding week_text
numbers_back days d e h =
    let r = week_room days d e in
    let y = field_back 4 d.year h in
    let w = field_back 2 d.week r.0 in
    let k = field_back 1 d.weekday r.1 in
    λ i. week_days_answer (y i) (w i) (k i)

-- writing then reading gives the day back
pub write_read_week : (days : ℤ) (label : List ℕ) → week_label days ≡ value label → read_week_answer label ≡ value days
unfolding week_label read_week_answer
write_read_week days label e = go (week_answer days) refl e
  where
    go : (o : Outcome WeekDate) → week_answer days ≡ o → and_then o week_date_label ≡ value label →
        cond (fits week_shape label) (read_numbers label) (refused 8) ≡ value days
    go (value d) s e =
        let p = passes (outside first_label_year last_label_year d.year) 1 _ (sym e) in
        let l = same_value p.1 in
        subst (λ label. cond (fits week_shape label) (read_numbers label) (refused 8) ≡ value days) (sym l)
        (ap (λ t. cond t (read_numbers (week_text (nat_abs d.year) (nat_abs d.week) (nat_abs d.weekday))) (refused 8)) (text_fits (nat_abs d.year) (nat_abs d.week) (nat_abs d.weekday))
        ∙ numbers_back days d (sym s) p.0 ∙ days_of_week days d s)
    go (refused n) s e = clash (cc)
    go (refused_at n place) s e = clash (cc)

-- a text of the shape is the text of its numbers
text_back : (label : List ℕ) → fits week_shape label ≡ true → label ≡ week_text (number_at 0 4 label) (number_at 6 2 label) (number_at 9 1 label)
unfolding week_text
text_back label h =
    let a = digits_front label 0 (dash ∷ letter_w ∷ digits 0 2 ++ dash ∷ digits 0 1) 4 h in
    let b = mark_front label 4 (letter_w ∷ digits 0 2 ++ dash ∷ digits 0 1) dash refl refl a.1 in
    let c = mark_front label 5 (digits 0 2 ++ dash ∷ digits 0 1) letter_w refl refl b.1 in
    let d = digits_front label 6 (dash ∷ digits 0 1) 2 c.1 in
    let e = mark_front label 8 (digits 0 1) dash refl refl d.1 in
    let f = digits_front label 9 [] 1 e.1 in
    let g = fits_nothing (drop 10 label) f.1 in
    a.0
    ∙ ap (λ l. digits (number_at 0 4 label) 4 ++ l)
    (b.0 ∙ ap (λ l. dash ∷ l)
    (c.0 ∙ ap (λ l. letter_w ∷ l)
    (d.0 ∙ ap (λ l. digits (number_at 6 2 label) 2 ++ l)
    (e.0 ∙ ap (λ l. dash ∷ l) (f.0 ∙ ap (λ l. digits (number_at 9 1 label) 1 ++ l) g)))))

-- four digits are a year that has a label
year_inside : (label : List ℕ) → fits week_shape label ≡ true → outside first_label_year last_label_year (pos (number_at 0 4 label)) ≡ false
unfolding week_text
year_inside label h = label_year (number_at 0 4 label) (ap (number_at 0 4) (text_back label h))

-- an accepted label has the shape, and its numbers make the day
accepted : (label : List ℕ) (days : ℤ) → read_week_answer label ≡ value days →
    (fits week_shape label ≡ true) × (read_numbers label ≡ value days)
unfolding read_week_answer
accepted label days = go (fits week_shape label)
  where
    go : (t : Bool) → cond t (read_numbers label) (refused 8) ≡ value days →
        (t ≡ true) × (read_numbers label ≡ value days)
    go true e = (refl, e)
    go false e = clash (cc)

-- reading an accepted label then writing gives the same bytes
pub read_write_week : (label : List ℕ) (days : ℤ) → read_week_answer label ≡ value days → week_label days ≡ value label
unfolding week_label
read_write_week label days e =
    let a = accepted label days e in
    ap (λ o. and_then o week_date_label) (week_of_days (pos (number_at 0 4 label)) (pos (number_at 6 2 label)) (pos (number_at 9 1 label)) days a.1)
    ∙ ap (λ t. cond t (refused 1) (value (week_text (number_at 0 4 label) (number_at 6 2 label) (number_at 9 1 label)))) (year_inside label a.0)
    ∙ ap value (sym (text_back label a.0))

-- ---- the reader's refusals

-- the years of labels are week years, and all their days lie in the range
week_year_lem : (label : List ℕ) → fits week_shape label ≡ true → outside first_week_year last_week_year (pos (number_at 0 4 label)) ≡ false
week_year_lem label h = wider first_label_year last_label_year first_week_year last_week_year (pos (number_at 0 4 label)) refl refl (year_inside label h)

numbers_refusal : (label : List ℕ) → fits week_shape label ≡ true → (n : ℕ) → read_numbers label ≡ refused n → n ≡ 16
numbers_refusal label h n e =
    let year = number_at 0 4 label in
    let week = pos (number_at 6 2 label) in
    let weekday = pos (number_at 9 1 label) in
    let l = (natural_within 0 last_label_year (pos year) (year_inside label h)).high in
    ⊎_elim (λ p. p)
    (λ p. absurd (four_at_the_ends (pos year) (week_year_lem label h) refl (lt-ltb year (nat_abs last_week_year) (omega arith)) week weekday (e ∙ ap refused p)))
    (week_refusal (pos year) (week_year_lem label h) week weekday n e)

shaped : (label : List ℕ) (n : ℕ) → fits week_shape label ≡ true → read_week_answer label ≡ refused n → n ≡ 16
unfolding read_week_answer
shaped label n h e = numbers_refusal label h n (sym (ap (λ t. cond t (read_numbers label) (refused 8)) h) ∙ e)

-- reading refuses with nothing but 8 and 16
pub read_week_refusal : (label : List ℕ) (n : ℕ) → read_week_answer label ≡ refused n → (n ≡ 8) ⊎ (n ≡ 16)
unfolding read_week_answer
read_week_refusal label n e = go (fits week_shape label) refl
  where
    eight : ◌≡◌ {A = Outcome ℤ} (refused 8) (refused n) → n ≡ 8
    eight f = cc

    go : (t : Bool) → fits week_shape label ≡ t → (n ≡ 8) ⊎ (n ≡ 16)
    go true h = inr (shaped label n h e)
    go false h = inl (eight (sym (ap (λ t. cond t (read_numbers label) (refused 8)) h) ∙ e))

-- so never with 1, and never with 4
pub read_week_year : (label : List ℕ) → read_week_answer label ≡ refused 1 → ⊥
read_week_year label e = ⊎_elim (λ p. omega arith) (λ p. omega arith) (read_week_refusal label 1 e)

pub read_week_range : (label : List ℕ) → read_week_answer label ≡ refused 4 → ⊥
read_week_range label e = ⊎_elim (λ p. omega arith) (λ p. omega arith) (read_week_refusal label 4 e)

-- reading refuses with 8 exactly if the label has another shape
pub eight_exactly_week : (label : List ℕ) → (read_week_answer label ≡ refused 8) ↔ (fits week_shape label ≡ false)
unfolding read_week_answer
eight_exactly_week label = (
  λ e. no_true (fits week_shape label) (λ h. omega (arith, shaped label 8 h e)),
  λ h. ap (λ t. cond t (read_numbers label) (refused 8)) h,
)
  where
    no_true : (t : Bool) → (t ≡ true → ⊥) → t ≡ false
    no_true true none = absurd (none refl)
    no_true false none = refl
