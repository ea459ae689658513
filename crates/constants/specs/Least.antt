-- The least number below an end that passes a test, for any test: document 01, "the least n below L with a difference, or 'none below L'".
use Rattle.std.specs.Prelude.{ℕ, zero, suc, ◌<◌, Bool, true, false, cond, ◌≡◌}

-- a number that was found, or none
pub data Found : Type 0 where
  at : ℕ → Found
  none : Found

-- what was found earlier, else what is found later
abbrev pub or_else : (earlier later : Found) → Found
or_else (at n) later = at n
or_else none later = later

-- the least n below l that passes the test, or none: every n is asked
unfoldable pub least_below : (test : ℕ → Bool) (l : ℕ) → Found
least_below test zero = none
least_below test (suc l) = or_else (least_below test l) (cond (test l) (at l) none)

-- "none below L": no n below l passes the test
abbrev pub NoneBelow : (test : ℕ → Bool) (l : ℕ) → Type 0
NoneBelow test l = (n : ℕ) → n < l → test n ≡ false

-- "the least n below L": n is below l and passes the test, and no smaller number does
pub record FirstAt (test : ℕ → Bool) (l n : ℕ) : Type 0 where
  pub below : n < l
  pub passes : test n ≡ true
  pub least : NoneBelow test n
