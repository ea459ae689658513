-- The natural numbers that an answer hands back are no larger than what was lent or asked for, so each fits an i64.
use Prim.Native.Nat.{ℕ, ◌<◌, ◌^◌}
use mathlib.Core.Path.{◌≡◌, refl, sym, ap, ◌∙◌, subst}
use mathlib.Core.Bool.{Bool, true, false, cond, not, ◌||◌}
use mathlib.Core.List.{List}
use native.Mathlib.Omega.{arith}
use borrow.Author.Tests.{ltb-true}
use lib.Dec.{eqb, ltb}
use lib.IntN.{ℤ, pos, negsuc, nat_abs}
use lib.ListN.{length}
use mir.Syntax.{w64}
use mir.Val.{SFits}
use Rattle.std.specs.Prelude.{Option, Some, Result, Ok, Err}
use Rattle.refusal.specs.Numbers.{refusal_number}
use Rattle.refusal.specs.Outcome.{Outcome, value, refused, refused_at, outcome, outcome_at}
use Rattle.refusal.specs.declared.Refusal.{Refusal}
use Rattle.refusal.specs.declared.RefusalAt.{RefusalAt}
use Rattle.refusal.specs.declared.RefusalAt.TheVariants.{At}
use Rattle.refusal.proofs.Outcomes.{clash}
use Rattle.instant.specs.Answers.{first_bad, first_fall, index_days_answer}
use Rattle.constants.specs.Least.{at, least_below}
use Rattle.constants.specs.Limits.{outside_limits, end_outside}
use Rattle.constants.specs.Answers.{difference, difference_answer, bound_answer, search_outcome, claim_outcome}
use Rattle.constants.proofs.Least.{finds_at}
use Rattle.constants.proofs.Answers.{claim_cases}
use Rattle.sheet.specs.Answers as sheets
use Rattle.sheet.specs.declared.Contents.{Contents}
use Rattle.sheet.proofs.Trailer.{opened, check_least}

-- as many days are written as there are instants, and a place that is handed back is one of them
module _ (instants days : List ℤ) (small : length instants < 2 ^ 63) where
  Fit : Outcome ℕ → Type 0
  Fit (value n) = n < 2 ^ 63
  Fit (refused number) = Unit {0}
  Fit (refused_at number place) = place < 2 ^ 63

  index_fits : Fit (index_days_answer instants days)
  unfolding index_days_answer Fit
  index_fits =
      go (not (eqb (length instants) (length days))) (ltb (first_bad instants) (length instants)) (ltb (first_fall instants) (length instants)) refl refl
    where
      go :
          (unequal bad falls : Bool) → ltb (first_bad instants) (length instants) ≡ bad → ltb (first_fall instants) (length instants) ≡ falls →
          Fit (cond unequal (refused 12) (cond bad (refused_at 4 (first_bad instants)) (cond falls (refused_at 15 (first_fall instants)) (value (length instants)))))
      go true bad falls h k = tt
      go false true falls h k = omega (arith, ltb-true (first_bad instants) (length instants) h)
      go false false true h k = omega (arith, ltb-true (first_fall instants) (length instants) k)
      go false false false h k = small

  module _ {answer : Result ℕ (RefusalAt ℕ)} (same : outcome_at answer ≡ index_days_answer instants days) where
    pub count_fits : (n : ℕ) → answer ≡ Ok n → n < 2 ^ 63
    unfolding Fit
    count_fits n e = subst Fit (sym same ∙ ap outcome_at e) index_fits

    pub place_fits : (why : Refusal) (n : ℕ) → answer ≡ Err (At why n) → n < 2 ^ 63
    unfolding Fit
    place_fits why n e = subst Fit (sym same ∙ ap outcome_at e) index_fits

-- the least n is below the end of the search, or the bound, and both are numbers of an i64
below_fits : {end : ℤ} {n : ℕ} → SFits w64 end → n < nat_abs end → n < 2 ^ 63
below_fits {end = pos a} fits l = omega (arith, fits.sfits)
below_fits {end = negsuc a} fits l = omega (arith, fits.sfits)

module _ (a b d m c k t : ℤ) where
  D : ℕ → Bool
  D = difference a b d m c k t

  found_below : (end : ℤ) (n : ℕ) → difference_answer a b d m c k t end ≡ value (at n) → n < nat_abs end
  unfolding difference_answer D
  found_below end n = go (outside_limits a b d m c k t || end_outside end)
    where
      go : (outside : Bool) → cond outside (refused 9) (value (least_below D (nat_abs end))) ≡ value (at n) → n < nat_abs end
      go true e = clash (cc)
      go false e = let found : least_below D (nat_abs end) ≡ at n = cc in ((finds_at D (nat_abs end) n).0 found).below

  least_below_lem : (bound : ℤ) (number n : ℕ) → bound_answer a b d m c k t bound ≡ refused_at number n → n < nat_abs bound
  least_below_lem bound number n =
      claim_cases a b d m c k t bound (λ o. o ≡ refused_at number n → n < nat_abs bound) (λ e. clash (cc))
      (λ l below limit e. let same : l ≡ n = cc in omega arith) (λ e. clash (cc)) (λ e. clash (cc))

  pub found_fits :
      {end : ℤ} → SFits w64 end → {answer : Result (Option ℕ) Refusal} → search_outcome answer ≡ difference_answer a b d m c k t end →
      (n : ℕ) → answer ≡ Ok (Some n) → n < 2 ^ 63
  found_fits {end} fits same n e = below_fits fits (found_below end n (sym same ∙ ap search_outcome e))

  pub least_fits :
      {bound : ℤ} → SFits w64 bound → {answer : Result (Unit {0}) (RefusalAt ℕ)} → claim_outcome answer ≡ bound_answer a b d m c k t bound →
      (why : Refusal) (n : ℕ) → answer ≡ Err (At why n) → n < 2 ^ 63
  least_fits {bound} fits same why n e = below_fits fits (least_below_lem bound (refusal_number why) n (sym same ∙ ap claim_outcome e))

-- what a sheet holds, and the least n of one of its records
pub contents_fit :
    (sheet : List ℕ) {answer : Result Contents Refusal} → outcome answer ≡ sheets.read_answer sheet →
    (contents : Contents) → answer ≡ Ok contents → (contents.records < 2 ^ 63) × (contents.offset < 2 ^ 63)
contents_fit sheet same contents e = let o = opened sheet (sym same ∙ ap outcome e) in (omega arith, omega arith)

pub check_fits :
    (sheet : List ℕ) (place : ℤ) {answer : Result (Unit {0}) (RefusalAt ℕ)} → claim_outcome answer ≡ sheets.check_answer sheet place →
    (why : Refusal) (n : ℕ) → answer ≡ Err (At why n) → n < 2 ^ 63
check_fits sheet place same why n e = let l = check_least sheet place (refusal_number why) n (sym same ∙ ap claim_outcome e) in omega arith
