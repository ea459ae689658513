-- Tests that are both made, taken apart.
use mathlib.Core.Path.{◌≡◌, refl, sym, ◌∙◌}
use mathlib.Core.Logic.{◌↔◌, ◌⊎◌, inl, inr, ⊎_elim}
use mathlib.Core.Bool.{Bool, true, false, not, ◌&&◌, ◌||◌, beq, true≢false}

-- a test has one answer
pub no_both : {G : Type 0} (t : Bool) → t ≡ true → t ≡ false → G
no_both t p q = absurd (true≢false (sym p ∙ q))

-- two tests are one if each holds where the other does, or fails where the other does
pub same_yes : (s t : Bool) → (s ≡ true → t ≡ true) → (t ≡ true → s ≡ true) → s ≡ t
same_yes true t there back = sym (there refl)
same_yes false true there back = back refl
same_yes false false there back = refl

pub same_no : (s t : Bool) → (s ≡ false → t ≡ false) → (t ≡ false → s ≡ false) → s ≡ t
same_no false t there back = sym (there refl)
same_no true false there back = back refl
same_no true true there back = refl

-- neither of two tests holds
pub or_no : (a b : Bool) → (a || b) ≡ false → (a ≡ false) × (b ≡ false)
or_no true b h = no_both true refl h
or_no false b h = (refl, h)

-- one of them does
pub or_yes : (a b : Bool) → ((a || b) ≡ true) ↔ ((a ≡ true) ⊎ (b ≡ true))
or_yes true b = (λ h. inl refl, λ c. refl)
or_yes false b = (inr, ⊎_elim (λ h. no_both false h refl) (λ h. h))

-- both hold
pub and_left : (a b : Bool) → a && b ≡ true → a ≡ true
and_left true b h = refl
and_left false b h = h

pub and_right : (a b : Bool) → a && b ≡ true → b ≡ true
and_right true b h = h
and_right false b h = no_both false h refl

-- whether two are the same
pub beq_true : (a b : Bool) → beq a b ≡ true → a ≡ b
beq_true true true h = refl
beq_true false false h = refl
beq_true true false h = no_both false h refl
beq_true false true h = no_both false h refl

pub beq_false : (a b : Bool) → beq a b ≡ false → a ≡ not b
beq_false true true h = no_both true refl h
beq_false false false h = no_both true refl h
beq_false true false h = refl
beq_false false true h = refl
