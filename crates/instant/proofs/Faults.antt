-- A list with the first instant of the range in front and the last behind it: it is faulty exactly if an instant is bad or falls.
use Prim.Native.Nat.{ℕ, zero, suc, ◌+◌, ◌*◌, ◌/◌, ◌≤◌, ◌<◌}
use mathlib.Core.Path.{◌≡◌, refl, sym, ap, ◌∙◌}
use mathlib.Core.Bool.{Bool, true, false, cond, ◌||◌, or_assoc, or-false}
use mathlib.Core.List.{List, [], ◌∷◌, ◌++◌, append_assoc}
use native.Mathlib.Numerals.{add-one}
use native.Mathlib.Omega.{arith}
use native.Mathlib.Decide.{dec_lt}
use lib.IntN.{ℤ, pos}
use lib.ListN.{length, get_or, drop, drop_of_length-le}
use lib.Seq.{drop-cons}
use lib.Signed.{lt_z}
use Rattle.numbers.proofs.Bools.{no_both, or_no}
use Rattle.numbers.proofs.Integers.{not_below_trans}
use Rattle.instant.specs.Units.{first_instant, last_instant}
use Rattle.instant.specs.Answers.{bad_instant, first_bad, first_fall}
use Rattle.instant.specs.Checked.{falls_from, faulty}
use Rattle.instant.proofs.Chunks.{chunk, chunk_then, chunk_long}
use Rattle.instant.proofs.Lists.{none_here, bad_le}
use Rattle.instant.proofs.Falls.{fall_le}

-- ---- from the first instant of the range to the last

abbrev to_last : List ℤ → List ℤ
to_last s = s ++ last_instant ∷ []

reaches : (before : ℤ) (s : List ℤ) → falls_from before (to_last s) ≡ false → lt_z last_instant before ≡ false
unfolding falls_from
reaches before [] h = (or_no (lt_z last_instant before) false h).0
reaches before (x ∷ s) h =
    let o = or_no (lt_z x before) (falls_from x (to_last s)) h in
    not_below_trans last_instant x before (reaches x s o.1) o.0

none_bad : (before : ℤ) (s : List ℤ) → lt_z before first_instant ≡ false → falls_from before (to_last s) ≡ false → first_bad s ≡ length s
unfolding falls_from first_bad
none_bad before [] b h = refl
none_bad before (x ∷ s) b h =
    let o = or_no (lt_z x before) (falls_from x (to_last s)) h in
    let low = not_below_trans x before first_instant o.0 b in
    rw (low, reaches x s o.1) (ap suc (none_bad x s low o.1))

none_falls : (before : ℤ) (s : List ℤ) → falls_from before (to_last s) ≡ false → first_fall s ≡ length s
unfolding falls_from first_fall
none_falls before [] h = refl
none_falls before (x ∷ []) h = refl
none_falls before (x ∷ (y ∷ s)) h =
    let o = or_no (lt_z x before) (falls_from x (to_last (y ∷ s))) h in
    let p = or_no (lt_z y x) (falls_from y (to_last s)) o.1 in
    rw p.0 (ap suc (none_falls x (y ∷ s) o.1))

no_fall : (before x : ℤ) (s : List ℤ) → first_fall (before ∷ (x ∷ s)) ≡ suc (suc (length s)) → (lt_z x before ≡ false) × (first_fall (x ∷ s) ≡ suc (length s))
unfolding first_fall
no_fall before x s e = go (lt_z x before) e
  where
    go : (t : Bool) → cond t 1 (suc (first_fall (x ∷ s))) ≡ suc (suc (length s)) → (t ≡ false) × (first_fall (x ∷ s) ≡ suc (length s))
    go true e = absurd (omega arith)
    go false e = (refl, omega arith)

goes_on :
    (before : ℤ) (s : List ℤ) → lt_z last_instant before ≡ false → first_bad s ≡ length s → first_fall (before ∷ s) ≡ suc (length s) →
    falls_from before (to_last s) ≡ false
unfolding falls_from first_bad
goes_on before [] h b f = ap (λ t. t || false) h
goes_on before (x ∷ s) h b f =
    let g = none_here (bad_instant x) (first_bad s) (length s) b in
    let n = no_fall before x s f in
    rw n.0 (goes_on x s (or_no (lt_z x first_instant) (lt_z last_instant x) g.0).1 g.1 n.1)

from_first : (s : List ℤ) → first_bad s ≡ length s → first_fall s ≡ length s → first_fall (first_instant ∷ s) ≡ suc (length s)
unfolding first_fall first_bad
from_first [] b f = refl
from_first (x ∷ s) b f =
    let g = none_here (bad_instant x) (first_bad s) (length s) b in
    rw (or_no (lt_z x first_instant) (lt_z last_instant x) g.0).0 (ap suc f)

-- a list is faulty exactly if it has a bad instant or a fall
pub faultless : (s : List ℤ) → faulty s ≡ false → (first_bad s ≡ length s) × (first_fall s ≡ length s)
unfolding faulty
faultless s h = (none_bad first_instant s refl h, none_falls first_instant s h)

pub fault_falls : (s : List ℤ) → faulty s ≡ true → first_bad s ≡ length s → first_fall s < length s
unfolding faulty
fault_falls s h b = go (dec_lt (first_fall s) (length s))
  where
    go : Dec (first_fall s < length s) → first_fall s < length s
    go (yes l) = l
    go (no l) =
        let f : first_fall s ≡ length s = omega (arith, fall_le s) in
        no_both (faulty s) h (goes_on first_instant s refl b (from_first s b f))

-- what the places of a bad instant and of a fall say of a list
pub ruleset found = (bad_le, fall_le, faultless)

-- ---- falls, one place and some places on

-- the last instant of the range behind the list
pub falls_end : (s : List ℤ) (before : ℤ) (i : ℕ) → length s ≤ i → falls_from before (to_last (drop i s)) ≡ lt_z last_instant before
unfolding falls_from
falls_end s before i h = ap (λ (r : List ℤ). falls_from before (to_last r)) (drop_of_length-le s h) ∙ or-false (lt_z last_instant before)

-- at place i of a list
pub falls_next :
    (s : List ℤ) (before : ℤ) (i : ℕ) → i < length s →
    falls_from before (drop i s) ≡ lt_z (get_or s i (pos 0)) before || falls_from (get_or s i (pos 0)) (drop (i + 1) s)
unfolding falls_from
falls_next s before i l =
    ap (falls_from before) (drop-cons s i (pos 0) l)
    ∙ ap (λ (j : ℕ). lt_z (get_or s i (pos 0)) before || falls_from (get_or s i (pos 0)) (drop j s)) (sym (add-one i))

pub falls_none : (s : List ℤ) (before : ℤ) (i : ℕ) → length s ≤ i → falls_from before (drop i s) ≡ false
unfolding falls_from
falls_none s before i h = ap (falls_from before) (drop_of_length-le s h)

-- at place i of a list, after which `t` follows
pub falls_one :
    (s t : List ℤ) (before : ℤ) (i : ℕ) → i < length s →
    falls_from before (drop i s ++ t) ≡ lt_z (get_or s i (pos 0)) before || falls_from (get_or s i (pos 0)) (drop (i + 1) s ++ t)
unfolding falls_from
falls_one s t before i l =
    ap (λ (r : List ℤ). falls_from before (r ++ t)) (drop-cons s i (pos 0) l)
    ∙ ap (λ (j : ℕ). lt_z (get_or s i (pos 0)) before || falls_from (get_or s i (pos 0)) (drop j s ++ t)) (sym (add-one i))

-- after k + 1 instants
falls_part :
    (before : ℤ) (p t : List ℤ) (k : ℕ) → length p ≡ suc k →
    falls_from before (p ++ t) ≡ falls_from before p || falls_from (get_or p k (pos 0)) t
unfolding falls_from
falls_part before [] t k e = absurd (omega arith)
falls_part before (x ∷ []) t zero e = ap (λ b. b || falls_from x t) (sym (or-false (lt_z x before)))
falls_part before (x ∷ []) t (suc k) e = absurd (omega arith)
falls_part before (x ∷ (y ∷ p)) t zero e = absurd (omega arith)
falls_part before (x ∷ (y ∷ p)) t (suc k) e =
    ap (λ b. lt_z x before || b) (falls_part x (y ∷ p) t k (omega arith))
    ∙ sym (or_assoc (lt_z x before) (falls_from x (y ∷ p)) (falls_from (get_or (y ∷ p) k (pos 0)) t))

-- at the block of eight at place i of a list, after which `t` follows
pub falls_block :
    (s t : List ℤ) (before : ℤ) (i : ℕ) → i < length s / 8 →
    falls_from before (drop (i * 8) s ++ t)
    ≡ falls_from before (chunk 8 s i) || falls_from (get_or (chunk 8 s i) 7 (pos 0)) (drop ((i + 1) * 8) s ++ t)
falls_block s t before i l =
    ap (λ (r : List ℤ). falls_from before (r ++ t)) (chunk_then 8 s i l)
    ∙ ap (falls_from before) (append_assoc (chunk 8 s i) (drop ((i + 1) * 8) s) t)
    ∙ falls_part before (chunk 8 s i) (drop ((i + 1) * 8) s ++ t) 7 (chunk_long 8 s i l)
