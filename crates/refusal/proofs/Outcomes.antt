-- What holds of outcomes, whatever the call.
use Prim.Native.Nat.{ℕ}
use mathlib.Core.Path.{◌≡◌, refl}
use mathlib.Core.Bool.{Bool, true, false, cond}
use native.Mathlib.Omega.{arith}
use Rattle.refusal.specs.Outcome.{Outcome, value, refused, and_then}

-- of an equation between two constructors `cc` proves that 0 is 1, and from that follows anything
pub clash : {A : Type 0} → ◌≡◌ {A = ℕ} 0 1 → A
clash e = absurd (omega arith)

-- a test in front of an outcome: where there is a value the test passed, and a refusal asks nothing of the value behind the tests
pub passes : {A : Type 0} (t : Bool) (k : ℕ) (o : Outcome A) {z : A} → value z ≡ cond t (refused k) o → (t ≡ false) × (value z ≡ o)
passes true k o e = clash (cc)
passes false k o e = (refl, e)

pub refuses :
    {A B : Type 0} (t : Bool) (k : ℕ) (o : Outcome A) (p : Outcome B) {n : ℕ} → (refused n ≡ o → refused n ≡ p) →
    refused n ≡ cond t (refused k) o → refused n ≡ cond t (refused k) p
refuses true k o p f e = cc
refuses false k o p f e = f e

-- a test, and then what is made of the value behind it
pub tested_then :
    {A B : Type 0} (t : Bool) (k : ℕ) (a : A) (next : A → Outcome B) {o : Outcome B} → (t ≡ false → next a ≡ o) →
    and_then (cond t (refused k) (value a)) next ≡ cond t (refused k) o
tested_then true k a next f = refl
tested_then false k a next f = f refl

pub not_refused : {A B : Type 0} (x : A) (p : Outcome B) {n : ℕ} → refused n ≡ value x → refused n ≡ p
not_refused x p e = clash (cc)

pub same_value : {A : Type 0} {x y : A} → value x ≡ value y → x ≡ y
same_value e = cc
