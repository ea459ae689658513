-- The laws of the index: each of its four answers exactly when it is given, and that its days never fall.
use Prim.Native.Nat.{ℕ, suc, ◌-◌, ◌<◌}
use mathlib.Core.Path.{◌≡◌, refl, sym, ap, ◌∙◌, subst}
use mathlib.Core.Logic.{◌↔◌}
use mathlib.Core.Bool.{Bool, true, false, cond, not}
use mathlib.Core.List.{List, [], ◌∷◌, map}
use native.Mathlib.Omega.{arith}
use native.Mathlib.Decide.{dec_lt}
use lib.Dec.{eqb, ltb}
use lib.IntN.{ℤ, pos}
use lib.ListN.{length, get_or, length-map, get_or-map}
use lib.Signed.{lt_z}
use borrow.Author.Tests.{eqb-true, eqb-false, ltb-true, ltb-false}
use Rattle.refusal.specs.Outcome.{Outcome, value, refused, refused_at}
use Rattle.refusal.proofs.Outcomes.{clash, same_value}
use Rattle.numbers.proofs.Bools.{no_both}
use Rattle.instant.specs.Instant.{day_of}
use Rattle.instant.specs.Answers.{first_bad, first_fall, index_days_answer, index_days}
use Rattle.instant.specs.Order.{AllInRange, FirstBadAt, FirstFallAt, NeverFalls}
use Rattle.instant.proofs.Lists.{bad_le, all_good, bad_first, bad_exactly, unequal, bad_found, fall_found, none_found, held}
use Rattle.instant.proofs.Falls.{fall_le, fall_falls, fall_first, fall_exactly, never_falls}
use Rattle.instant.proofs.Laws.{later_day}

-- the tests of the index and what it answers by them
answer_by : (equal bad falls : Bool) (at fall count : ℕ) → Outcome ℕ
answer_by equal bad falls at fall count =
    cond (not equal) (refused 12) (cond bad (refused_at 4 at) (cond falls (refused_at 15 fall) (value count)))

module _ (at fall count : ℕ) where
  by_lengths : (equal bad falls : Bool) → answer_by equal bad falls at fall count ≡ refused 12 → equal ≡ false
  unfolding answer_by
  by_lengths false bad falls e = refl
  by_lengths true true falls e = clash (cc)
  by_lengths true false true e = clash (cc)
  by_lengths true false false e = clash (cc)

  by_bad :
      (equal bad falls : Bool) (place : ℕ) → answer_by equal bad falls at fall count ≡ refused_at 4 place → (equal ≡ true) × ((bad ≡ true) × (at ≡ place))
  unfolding answer_by
  by_bad false bad falls place e = clash (cc)
  by_bad true true falls place e = (refl, (refl, cc))
  by_bad true false true place e = let z : ◌≡◌ {A = ℕ} 15 4 = cc in absurd (omega arith)
  by_bad true false false place e = clash (cc)

  by_fall :
      (equal bad falls : Bool) (place : ℕ) → answer_by equal bad falls at fall count ≡ refused_at 15 place →
      (equal ≡ true) × ((bad ≡ false) × ((falls ≡ true) × (fall ≡ place)))
  unfolding answer_by
  by_fall false bad falls place e = clash (cc)
  by_fall true true falls place e = let z : ◌≡◌ {A = ℕ} 4 15 = cc in absurd (omega arith)
  by_fall true false true place e = (refl, (refl, (refl, cc)))
  by_fall true false false place e = clash (cc)

  by_none :
      (equal bad falls : Bool) (n : ℕ) → answer_by equal bad falls at fall count ≡ value n →
      (equal ≡ true) × ((bad ≡ false) × ((falls ≡ false) × (count ≡ n)))
  unfolding answer_by
  by_none false bad falls n e = clash (cc)
  by_none true true falls n e = clash (cc)
  by_none true false true n e = clash (cc)
  by_none true false false n e = (refl, (refl, (refl, same_value e)))

-- where every instant lies in the range there is no first one that does not
none_is_bad : (s : List ℤ) → AllInRange s → first_bad s ≡ length s
unfolding first_bad
none_is_bad [] all = refl
none_is_bad (x ∷ s) all = rw (all 0 (omega arith)) (ap suc (none_is_bad s (λ k l. all (suc k) (omega arith))))

-- and where nothing falls there is no first fall
none_is_smaller : (s : List ℤ) → NeverFalls s → first_fall s ≡ length s
none_is_smaller s never = go (dec_lt (first_fall s) (length s))
  where
    go : Dec (first_fall s < length s) → first_fall s ≡ length s
    go (yes l) = let f = fall_falls s l in no_both _ f.smaller (never (first_fall s - 1) (first_fall s) (omega arith) l)
    go (no l) = omega (arith, fall_le s)

module _ (instants days : List ℤ) where
  abbrev equal : Bool
  equal = eqb (length instants) (length days)

  abbrev bad : Bool
  bad = ltb (first_bad instants) (length instants)

  abbrev falls : Bool
  falls = ltb (first_fall instants) (length instants)

  in_range_lem : bad ≡ false → AllInRange instants
  in_range_lem h = all_good instants (omega (arith, ltb-false (first_bad instants) (length instants) h, bad_le instants))

  no_fall_left : falls ≡ false → first_fall instants ≡ length instants
  no_fall_left h = omega (arith, ltb-false (first_fall instants) (length instants) h, fall_le instants)

  -- 12, before all others
  pub twelve_exactly : (index_days_answer instants days ≡ refused 12) ↔ (length instants ≡ length days → ⊥)
  unfolding index_days_answer answer_by
  twelve_exactly = (
    λ e. eqb-false (length instants) (length days) (by_lengths (first_bad instants) (first_fall instants) (length instants) equal bad falls e),
    λ h. unequal instants days h,
  )

  -- 4 and the place of the first instant outside the range, after 12 and whatever falls
  pub four_exactly : (place : ℕ) → (index_days_answer instants days ≡ refused_at 4 place) ↔ ((length instants ≡ length days) × FirstBadAt instants place)
  unfolding index_days_answer answer_by
  four_exactly place = (
    λ e.
        let t = by_bad (first_bad instants) (first_fall instants) (length instants) equal bad falls place e in (
          eqb-true (length instants) (length days) t.0,
          subst (FirstBadAt instants) t.1.1 (bad_first instants (ltb-true (first_bad instants) (length instants) t.1.0)),
        ),
    λ h.
        let b = bad_exactly instants place h.1 in
        let l = h.1.in_list in
        bad_found instants days h.0 (omega arith) ∙ ap (refused_at 4) b,
  )

  -- "15 and the place of the first instant smaller than the one before it", after 12 and 4
  pub fifteen_exactly :
      (place : ℕ) →
      (index_days_answer instants days ≡ refused_at 15 place) ↔ ((length instants ≡ length days) × (AllInRange instants × FirstFallAt instants place))
  unfolding index_days_answer answer_by
  fifteen_exactly place = (
    λ e.
        let t = by_fall (first_bad instants) (first_fall instants) (length instants) equal bad falls place e in (
          eqb-true (length instants) (length days) t.0,
          (
            in_range_lem t.1.0,
            subst (FirstFallAt instants) t.1.1.1 (fall_first instants (ltb-true (first_fall instants) (length instants) t.1.1.0)),
          ),
        ),
    λ h.
        let f = fall_exactly instants place h.1.1 in
        let l = h.1.1.falls.in_list in
        fall_found instants days h.0 (omega (arith, none_is_bad instants h.1.0)) (omega arith) ∙ ap (refused_at 15) f,
  )

  -- an index is accepted, and all of its days are written, exactly if its instants lie in the range and never fall
  pub accepted_exactly :
      (n : ℕ) →
      (index_days_answer instants days ≡ value n)
      ↔ ((length instants ≡ length days) × (AllInRange instants × (NeverFalls instants × (length instants ≡ n))))
  unfolding index_days_answer answer_by
  accepted_exactly n = (
    λ e.
        let t = by_none (first_bad instants) (first_fall instants) (length instants) equal bad falls n e in (
          eqb-true (length instants) (length days) t.0,
          (
            in_range_lem t.1.0,
            (never_falls instants (no_fall_left t.1.1.0), t.1.1.1),
          ),
        ),
    λ h.
        none_found instants days h.0 (omega (arith, none_is_bad instants h.1.0)) (omega (arith, none_is_smaller instants h.1.1.0))
        ∙ ap value h.1.1.1,
  )

  -- "the days handed out never fall either"
  pub days_never_fall : (n : ℕ) → index_days_answer instants days ≡ value n → NeverFalls (index_days instants days)
  unfolding day_of
  days_never_fall n e = subst NeverFalls (sym (held instants days (value n) e)) written
    where
      day_at_lem : (k : ℕ) → get_or (map day_of instants) k (pos 0) ≡ day_of (get_or instants k (pos 0))
      day_at_lem k = get_or-map day_of instants k (pos 0)

      written : NeverFalls (map day_of instants)
      written i j h l =
          ap (λ (z : ℤ). lt_z z (get_or (map day_of instants) i (pos 0))) (day_at_lem j) ∙ ap (lt_z (day_of (get_or instants j (pos 0)))) (day_at_lem i)
          ∙ later_day (get_or instants i (pos 0)) (get_or instants j (pos 0))
          (((accepted_exactly n).0 e).1.1.0 i j h (omega (arith, length-map instants day_of)))
