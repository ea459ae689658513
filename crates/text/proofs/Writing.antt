-- What a writer answers, and what its buffer holds then.
use Prim.Native.Nat.{ℕ, ◌≤◌, ◌<◌}
use mathlib.Core.Path.{◌≡◌, refl, ap, ◌∙◌, subst}
use mathlib.Core.Bool.{Bool, true, false, cond}
use mathlib.Core.List.{List}
use native.Mathlib.Omega.{arith}
use borrow.Author.Tests.{ltb-false, lt-ltb, le-ltb}
use lib.Dec.{ltb}
use lib.ListN.{length}
use Rattle.refusal.specs.Outcome.{Outcome, value, refused, refused_at, map_value}
use Rattle.refusal.proofs.Outcomes.{clash}
use Rattle.refusal.specs.Written.{bytes_written, written_buffer}
use Rattle.text.specs.Filled.{filled, Stored}
use Rattle.text.proofs.Filled.{filled_front}

abbrev pub Writes : Outcome (List ℕ) → (before after : List ℕ) → Outcome ℕ → Type 0
Writes o before after r = (r ≡ bytes_written o before) × (after ≡ written_buffer o before)

pub renamed :
    (before : List ℕ) {after : List ℕ} {label o : Outcome (List ℕ)} {r : Outcome ℕ} → label ≡ o →
    Writes label before after r → Writes o before after r
renamed before {after = after} {r = r} e = subst (λ o. Writes o before after r) e

-- a refusal of the label, a buffer that is too short for it, and one that is not
pub nothing_written : (before : List ℕ) {n : ℕ} {o : Outcome (List ℕ)} → refused n ≡ o → Writes o before before (refused n)
nothing_written before {n} e = subst (λ o. Writes o before before (refused n)) e (refl, refl)

pub no_room : (label before : List ℕ) → length before < length label → Writes (value label) before before (refused 7)
no_room label before h = let t = lt-ltb (length before) (length label) h in (rw t, rw t)

pub all_written :
    (label before : List ℕ) {after : List ℕ} {n : ℕ} → length label ≤ length before → n ≡ length label → after ≡ filled 0 label before →
    Writes (value label) before after (value n)
all_written label before h e f = let t = le-ltb (length before) (length label) h in (rw t (ap value e), rw t (f ∙ filled_front label before h))

pub stored_written :
    {label before after : List ℕ} {n : ℕ} → Stored 0 label before after n → length label ≤ length before → Writes (value label) before after (value n)
stored_written {label} {before} s h = all_written label before h (omega (arith, s.end_is)) s.is_filled

-- the bytes that are written are not more than there are
pub bytes_within : (label : Outcome (List ℕ)) (buffer : List ℕ) (n : ℕ) → bytes_written label buffer ≡ value n → n ≤ length buffer
bytes_within (value label) buffer n e = go (ltb (length buffer) (length label)) refl e
  where
    go :
        (short : Bool) → ltb (length buffer) (length label) ≡ short →
        map_value length (cond short (refused 7) (value label)) ≡ value n → n ≤ length buffer
    go true h e = clash (cc)
    go false h e = let same : length label ≡ n = cc in omega (arith, ltb-false (length buffer) (length label) h)
bytes_within (refused number) buffer n e = clash (cc)
bytes_within (refused_at number place) buffer n e = clash (cc)
