-- Week labels: what the code writes is the label, and what it reads are the label's numbers.
use Rattle.std.proofs.Common.{◌≡◌, ℕ, ◌+◌, ◌-◌, ◌*◌, ◌/◌, ◌<◌, Bool, false, cond, ◌&&◌, List, [], ◌∷◌, length, take, drop, ℤ, pos, sym, refl, ap, ◌∙◌, subst, ap₂, arith, length-drop, take_all, drop-cons}
use Rattle.refusal.specs.Outcome.{value, refused}
use Rattle.refusal.proofs.Outcomes.{passes, same_value}
use Rattle.numbers.specs.Range.{outside}
use Rattle.numbers.proofs.Integers.{wider}
use Rattle.calendar.specs.Range.{first_count, last_count}
use Rattle.week.specs.declared.WeekDate.{WeekDate}
use Rattle.week.specs.Week.{week_date_of}
use Rattle.week.specs.Answers.{week_answer, week_days_answer}
use Rattle.week.proofs.Laws.{week_date_is_right}
use Rattle.text.specs.Decimal.{number}
use Rattle.labels.specs.Digits.{number_at, fits}
use Rattle.labels.specs.Rfc3339.{dash}
use Rattle.labels.specs.IsoWeek.{letter_w, week_length, week_text, week_shape, read_numbers, read_week_answer}
use Rattle.text.specs.Words.{part_of}
use Rattle.labels.specs.Words.{pair_of}
use Rattle.labels.specs.Parts.{HasRoom}
use Rattle.text.proofs.Words.{part_length, part_four}
use Rattle.labels.proofs.Shapes.{uneven, fits_overlap}
use Rattle.labels.proofs.Gaps.{all_near}
use Rattle.labels.proofs.ReadValues.{ValuesRead, number_four, part_number}

-- ---- written

-- week and weekday of a day in the range have room in it
pub week_room : (days : ℤ) (d : WeekDate) → value d ≡ week_answer days → HasRoom 2 d.week × HasRoom 1 d.weekday
unfolding week_answer
week_room days d e =
    let p = passes (outside first_count last_count days) 4 (value (week_date_of days)) e in
    let r = week_date_is_right days p.0 in
    subst (λ (d : WeekDate). HasRoom 2 d.week × HasRoom 1 d.weekday) (sym (same_value p.1))
    (wider (pos 1) (pos 53) (pos 0) (pos 99) (week_date_of days).week refl refl r.0, wider (pos 1) (pos 7) (pos 0) (pos 9) (week_date_of days).weekday refl refl r.1)

-- ---- read

-- the shapes of the code: `YYYY-Www` and `ww-D`
abbrev pub to_week_shape : List ℕ
to_week_shape = 48 ∷ 48 ∷ 48 ∷ 48 ∷ dash ∷ letter_w ∷ 48 ∷ 48 ∷ []

abbrev pub from_week_shape : List ℕ
from_week_shape = 48 ∷ 48 ∷ dash ∷ 48 ∷ []

-- the last digit's value is the highest byte
last_value_lem : (a b c d : ℕ) {v : ℕ} → ValuesRead from_week_shape (a ∷ b ∷ c ∷ d ∷ []) v → v / 16777216 ≡ d - 48
last_value_lem a b c d r =
    let n = all_near from_week_shape (a ∷ b ∷ c ∷ d ∷ []) refl r.shape_fits in
    omega (arith, r.values_are, n.0, n.1.0, n.1.1.0)

module _ (label : List ℕ) where
  pub wrong_week_length : (length label ≡ week_length → ⊥) → refused 8 ≡ read_week_answer label
  unfolding read_week_answer week_text
  wrong_week_length h =
      sym (ap (λ t. cond t (read_numbers label) (refused 8)) (uneven week_shape label (λ e. h (sym e))))

  module _ (l : length label ≡ week_length) where
    -- the two have the week in common
    by_shapes : fits week_shape label ≡ fits to_week_shape (part_of 0 8 label) && fits from_week_shape (part_of 6 4 label)
    unfolding week_text
    by_shapes =
        fits_overlap (48 ∷ 48 ∷ 48 ∷ 48 ∷ dash ∷ letter_w ∷ []) (48 ∷ 48 ∷ []) (dash ∷ 48 ∷ []) label
        ∙ ap (λ t. fits to_week_shape (part_of 0 8 label) && fits from_week_shape t) (sym (take_all 4 (drop 6 label) (omega (arith, length-drop 6 label))))

    decided : {t : Bool} → fits to_week_shape (part_of 0 8 label) && fits from_week_shape (part_of 6 4 label) ≡ t →
        cond t (read_numbers label) (refused 8) ≡ read_week_answer label
    unfolding read_week_answer
    decided e = ap (λ t. cond t (read_numbers label) (refused 8)) (sym e ∙ sym by_shapes)

    pub wrong_week :
        {k : ℕ} → (k ≡ 8) × (fits to_week_shape (part_of 0 8 label) && fits from_week_shape (part_of 6 4 label) ≡ false) → refused k ≡ read_week_answer label
    wrong_week e = ap refused e.0 ∙ decided e.1

    module _ (year rest : ℕ) (y : ValuesRead to_week_shape (part_of 0 8 label) year) (r : ValuesRead from_week_shape (part_of 6 4 label) rest) where
      year_is : 100 * pair_of year 0 + pair_of year 2 ≡ number_at 0 4 label
      year_is =
          let e = sym (part_length 0 8 label (omega arith)) in
          ap₂ (λ c y. 100 * c + y)
          (y.pair_is 0 (omega arith) e refl refl ∙ part_number label 8 0 0 (omega arith) (omega arith))
          (y.pair_is 2 (omega arith) e refl refl ∙ part_number label 8 0 2 (omega arith) (omega arith))
          ∙ sym (number_four label (omega arith))

      week_is : pair_of rest 0 ≡ number_at 6 2 label
      week_is = r.pair_is 0 (omega arith) (sym (part_length 6 4 label (omega arith))) refl refl ∙ part_number label 4 6 0 (omega arith) (omega arith)

      weekday_is : rest / 16777216 ≡ number_at 9 1 label
      weekday_is =
          let h : 9 < length label = omega arith in
          let p = part_four 6 label (omega arith) in
          last_value_lem _ _ _ _ (subst (λ t. ValuesRead from_week_shape t rest) p r) ∙ sym (ap (λ t. number (take 1 t)) (drop-cons label 9 0 h) ∙ omega arith)

      pub week_read : {a b c d : ℕ} → a ≡ pair_of year 0 → b ≡ pair_of year 2 → c ≡ pair_of rest 0 → d ≡ rest / 16777216 →
          week_days_answer (pos (100 * a + b)) (pos c) (pos d) ≡ read_week_answer label
      week_read p q s t =
          (λ i. week_days_answer (pos ((ap₂ (λ a b. 100 * a + b) p q ∙ year_is) i)) (pos ((s ∙ week_is) i)) (pos ((t ∙ weekday_is) i)))
          ∙ decided (ap₂ ◌&&◌ y.shape_fits r.shape_fits)
