-- The chunks of n elements that `as_chunks` gives, and the list that they are of.
use Prim.Native.Nat.{ℕ, zero, suc, ◌+◌, ◌*◌, ◌/◌, ◌≤◌, ◌<◌}
use mathlib.Core.Path.{◌≡◌, sym, ap, ◌∙◌}
use mathlib.Core.List.{List, [], ◌++◌}
use native.Mathlib.Nat.{suc-mul, zero-mul, mul-le-mul_left, div-mul-le_self}
use native.Mathlib.Omega.{arith}
use lib.ListN.{length, get_or, take, drop, length-drop}
use lib.Seq.{length-take-le, drop-drop}
use Rattle.std.proofs.lemmas.List.{take-append-drop}
use Rattle.std.specs.Simd.{first_chunks}

module _ {A : Type 0} (n : ℕ) where
  chunk_in : (k : ℕ) (s : List A) (i : ℕ) → i < k → get_or (first_chunks n k s) i [] ≡ take n (drop (i * n) s)
  chunk_in zero s i l = absurd (omega arith)
  chunk_in (suc k) s zero l = ap (λ (j : ℕ). take n (drop j s)) (sym (zero-mul n))
  chunk_in (suc k) s (suc i) l =
      chunk_in k (drop n s) i (omega arith)
      ∙ ap (take n) (drop-drop (i * n) n s ∙ ap (λ (j : ℕ). drop j s) (omega (arith, suc-mul i n)))

  -- the chunk at place i
  abbrev pub chunk : List A → ℕ → List A
  chunk s i = get_or (first_chunks n (length s / n) s) i []

  module _ (s : List A) (i : ℕ) (l : i < length s / n) where
    pub chunk_fits : i * n + n ≤ length s
    chunk_fits =
        let below : i + 1 ≤ length s / n = omega arith in
        omega (arith, mul-le-mul_left n below, div-mul-le_self (length s) n)

    pub chunk_is : chunk s i ≡ take n (drop (i * n) s)
    chunk_is = chunk_in (length s / n) s i l

    pub chunk_long : length (chunk s i) ≡ n
    chunk_long = ap length chunk_is ∙ length-take-le n (drop (i * n) s) (omega (arith, chunk_fits, length-drop (i * n) s))

    -- and what follows it
    pub chunk_then : drop (i * n) s ≡ chunk s i ++ drop ((i + 1) * n) s
    chunk_then =
        sym (take-append-drop n (drop (i * n) s))
        ∙ ap (λ (r : List A). r ++ drop n (drop (i * n) s)) (sym chunk_is)
        ∙ ap (λ (r : List A). chunk s i ++ r) (drop-drop n (i * n) s ∙ ap (λ (j : ℕ). drop j s) (omega (arith, suc-mul i n)))
