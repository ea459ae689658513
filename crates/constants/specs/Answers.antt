-- What the two calls answer, in document 01's numbers: "Constants on trial" and "The numbered refusals".
use Rattle.std.specs.Prelude.{ℕ, ℤ, nat_abs, Bool, true, false, cond, ◌||◌, Option, Some, None, Result, Ok, Err}
use Rattle.refusal.specs.Outcome.{Outcome, value, refused, refused_at}
use Rattle.refusal.specs.Numbers.{refusal_number}
use Rattle.refusal.specs.declared.Refusal.{Refusal}
use Rattle.refusal.specs.declared.RefusalAt.{RefusalAt}
use Rattle.refusal.specs.declared.RefusalAt.TheVariants.{Alone, At}
use Rattle.constants.specs.Difference.{exact_quotient, device_quotient, differs}
use Rattle.constants.specs.Least.{Found, at, none, least_below}
use Rattle.constants.specs.Limits.{outside_limits, end_outside, bound_outside}

-- a difference at n, for allowed constants, none of which is below zero, on a device of any kind: its quotient at n by its m, c and k
abbrev pub difference_on : (device : (m c k n : ℕ) → ℕ) (a b d m c k t : ℤ) → (n : ℕ) → Bool
difference_on device a b d m c k t =
    differs (nat_abs t) (exact_quotient (nat_abs a) (nat_abs b) (nat_abs d)) (device (nat_abs m) (nat_abs c) (nat_abs k))

-- and on document 01's
unfoldable pub difference : (a b d m c k t : ℤ) → (n : ℕ) → Bool
difference a b d m c k t = difference_on device_quotient a b d m c k t

-- a search, of any test: 9 if a number is outside its limits, else "the least n below L with a difference, or 'none below L'"
abbrev pub searched : (outside : Bool) (test : ℕ → Bool) (end : ℤ) → Outcome Found
searched outside test end = cond outside (refused 9) (value (least_below test (nat_abs end)))

unfoldable pub difference_answer : (a b d m c k t end : ℤ) → Outcome Found
difference_answer a b d m c k t end =
    searched (outside_limits a b d m c k t || end_outside end) (difference a b d m c k t) end

pub data Acceptance : Type 0 where
  accepted : Acceptance

-- the claim, from the least difference below B and whether there is one at B: 10 with the least n if "a difference stands
-- below B", accepted "exactly if the least difference is at B", 11 if there is "no difference at or below B"
abbrev pub claimed : (below : Found) (here : Bool) → Outcome Acceptance
claimed (at n) here = refused_at 10 n
claimed none true = value accepted
claimed none false = refused 11

-- the claim: 9, then 10 or 11, or accepted
unfoldable pub bound_answer : (a b d m c k t bound : ℤ) → Outcome Acceptance
bound_answer a b d m c k t bound =
    cond (outside_limits a b d m c k t || bound_outside bound)
    (refused 9)
    (claimed
    (least_below (difference a b d m c k t) (nat_abs bound))
    (difference a b d m c k t (nat_abs bound)))

-- the number and values for each case of the code's answers
abbrev pub search_outcome : Result (Option ℕ) Refusal → Outcome Found
search_outcome (Ok (Some n)) = value (at n)
search_outcome (Ok None) = value none
search_outcome (Err why) = refused (refusal_number why)

abbrev pub claim_outcome : Result (Unit {0}) (RefusalAt ℕ) → Outcome Acceptance
claim_outcome (Ok done) = value accepted
claim_outcome (Err (Alone why)) = refused (refusal_number why)
claim_outcome (Err (At why n)) = refused_at (refusal_number why) n
