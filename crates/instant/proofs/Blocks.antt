-- Parts of a list: what holds of a list holds of its parts, and a list that is filled part by part.
use Prim.Native.Nat.{ℕ, suc, ◌+◌, ◌-◌, ◌*◌, ◌/◌, ◌<◌}
use mathlib.Core.Path.{◌≡◌, refl, sym, ap, ap₂, ◌∙◌}
use mathlib.Core.Bool.{true, false}
use mathlib.Core.List.{List, [], ◌++◌, map, append-nil}
use native.Mathlib.Omega.{arith}
use borrow.Rule.Slice.PartMut.{put_mid}
use lib.IntN.{ℤ, pos, negsuc}
use lib.ListN.{length, get_or, set, take, drop, length-drop, drop_of_length-le, replicate, length-replicate, get_or-replicate, length-map, get_or-map}
use lib.Seq.{get_or-take, get_or-drop, take-add, ext_get_or}
use lib.Signed.{lt_z}
use borrow.Author.Tests.{ltb-false}
use Rattle.std.proofs.lemmas.Grind.{common_steps}
use Rattle.std.proofs.lemmas.List.{map-append, take-append-drop}
use Rattle.std.proofs.lemmas.Slice.{take-put_mid}
use Rattle.numbers.proofs.Bools.{no_both}
use Rattle.instant.specs.Instant.{day_of}
use Rattle.instant.specs.Answers.{bad_instant}
use Rattle.instant.specs.Order.{AllInRange, NeverFalls}
use Rattle.instant.proofs.Chunks.{chunk, chunk_is, chunk_fits, chunk_long}
use Rattle.instant.proofs.Laws.{later_day}

-- ---- the chunk of n instants at place i

module _ (n : ℕ) (s : List ℤ) (i : ℕ) (l : i < length s / n) where
  instant_at : (j : ℕ) → j < n → get_or (chunk n s i) j (pos 0) ≡ get_or s (i * n + j) (pos 0)
  instant_at j m =
      ap (λ (r : List ℤ). get_or r j (pos 0)) (chunk_is n s i l)
      ∙ get_or-take n (drop (i * n) s) j (pos 0) m ∙ get_or-drop (i * n) s j (pos 0)

  pub chunk_in_range : AllInRange s → AllInRange (chunk n s i)
  chunk_in_range all j m =
      let below : j < n = omega (arith, chunk_long n s i l) in
      ap bad_instant (instant_at j below) ∙ all (i * n + j) (omega (arith, chunk_fits n s i l))

  pub chunk_never_falls : NeverFalls s → NeverFalls (chunk n s i)
  chunk_never_falls never j k le m =
      let below : k < n = omega (arith, chunk_long n s i l) in
      ap (λ (z : ℤ). lt_z z (get_or (chunk n s i) j (pos 0))) (instant_at k below)
      ∙ ap (lt_z (get_or s (i * n + k) (pos 0))) (instant_at j (omega arith))
      ∙ never (i * n + j) (i * n + k) (omega arith) (omega (arith, chunk_fits n s i l))

-- ---- a list d that is filled with f of s, in front of place i so far

-- the chunk there, and all the rest
pub filled_chunk :
    (f : ℤ → ℤ) (n : ℕ) (s d v : List ℤ) (i : ℕ) → i < length s / n → length s ≡ length d → take (i * n) d ≡ map f (take (i * n) s) →
    v ≡ map f (chunk n s i) → take ((i + 1) * n) (put_mid (i * n) ((i + 1) * n - i * n) d v) ≡ map f (take ((i + 1) * n) s)
filled_chunk f n s d v i l h front part =
    let long : length v ≡ n = ap length part ∙ length-map (chunk n s i) f ∙ chunk_long n s i l in
    let fits = chunk_fits n s i l in
    let on : i * n + n ≡ (i + 1) * n = omega arith in
    take-put_mid (i * n) ((i + 1) * n - i * n) d v ((i + 1) * n) (omega arith) (omega arith)
    ∙ ap₂ ◌++◌ front (part ∙ ap (map f) (chunk_is n s i l)) ∙ sym (map-append f (take (i * n) s) (take n (drop (i * n) s)))
    ∙ ap (map f) (sym (take-add (i * n) n s) ∙ ap (λ (j : ℕ). take j s) on)

pub filled_rest :
    (f : ℤ → ℤ) (s d v : List ℤ) (i : ℕ) → length s ≡ length d → take i d ≡ map f (take i s) →
    v ≡ map f (drop i s) → put_mid i (length d - i) d v ≡ map f s
filled_rest f s d v i h front rest =
    let none : drop (length d - i) (drop i d) ≡ [] = drop_of_length-le (drop i d) (omega (arith, length-drop i d)) in
    ap (λ (r : List ℤ). take i d ++ (v ++ r)) none ∙ ap (λ (r : List ℤ). take i d ++ r) (append-nil v) ∙ ap₂ ◌++◌ front rest
    ∙ sym (map-append f (take i s) (drop i s)) ∙ ap (map f) (take-append-drop i s)

-- one more of f of s is put at the end of what is filled
pub filled_more :
    (f : ℤ → ℤ) (s d : List ℤ) (i : ℕ) (v : ℤ) → i < length s → i < length d → take i d ≡ map f (take i s) → v ≡ f (get_or s i (pos 0)) →
    take (i + 1) (set d i v) ≡ map f (take (i + 1) s)
filled_more f s d i v h k e w = grind (arith, common_steps)

-- ---- days that never fall, the first and the last of which are the same

neither_below : (a b : ℤ) → lt_z a b ≡ false → lt_z b a ≡ false → a ≡ b
neither_below (pos a) (pos b) h k = ap pos (omega (arith, ltb-false a b h, ltb-false b a k))
neither_below (pos a) (negsuc b) h k = no_both true refl k
neither_below (negsuc a) (pos b) h k = no_both true refl h
neither_below (negsuc a) (negsuc b) h k = ap negsuc (omega (arith, ltb-false b a h, ltb-false a b k))

pub same_days :
    (s : List ℤ) (n : ℕ) → length s ≡ suc n → NeverFalls s → day_of (get_or s 0 (pos 0)) ≡ day_of (get_or s n (pos 0)) →
    replicate (length s) (day_of (get_or s 0 (pos 0))) ≡ map day_of s
same_days s n h never same =
    let first = day_of (get_or s 0 (pos 0)) in
    ext_get_or (day_of (pos 0)) (replicate (length s) first) (map day_of s) (length-replicate (length s) first ∙ sym (length-map s day_of))
    (λ k l.
    let m : k < length s = omega (arith, length-replicate (length s) first) in
    let from = later_day (get_or s 0 (pos 0)) (get_or s k (pos 0)) (never 0 k (omega arith) m) in
    let to = later_day (get_or s k (pos 0)) (get_or s n (pos 0)) (never k n (omega arith) (omega arith)) in
    get_or-replicate (length s) k first (day_of (pos 0)) m
    ∙ neither_below first (day_of (get_or s k (pos 0))) (ap (λ (z : ℤ). lt_z z (day_of (get_or s k (pos 0)))) same ∙ to) from
    ∙ sym (get_or-map day_of s k (pos 0)))
