-- Numbers written as bytes and read again, and bytes read as numbers and written again.
use Prim.Native.Nat.{ℕ, zero, suc, ◌+◌, ◌*◌, ◌≤◌, ◌<◌}
use mathlib.Core.Path.{◌≡◌, refl, sym, ap, ap₂, ◌∙◌}
use mathlib.Core.List.{List, [], ◌∷◌, ◌++◌, append_assoc}
use native.Mathlib.Omega.{arith}
use lib.ListN.{length, get_or, take, drop, length-append, take-append-drop}
use lib.Seq.{take-append_seam, drop-append-add, drop-drop}
use Rattle.text.specs.Words.{word, bytes_of, part_of, AllLe}
use Rattle.text.proofs.Words.{word_le, length_bytes, word_bytes, all_bytes, part_length, part_le}
use Rattle.sheet.specs.Sheet.{numbers_bytes}
use Rattle.sheet.specs.Answers.{number_at}

-- ---- written, then read

first_number : (n : ℕ) (s : List ℕ) → n ≤ 4294967295 → number_at (bytes_of 4 n ++ s) 0 ≡ n
unfolding number_at
first_number n s h =
    ap word (ap (λ k. take k (bytes_of 4 n ++ s)) (sym (length_bytes 4 n)) ∙ take-append_seam (bytes_of 4 n) s) ∙ word_bytes 4 n (omega arith)

number_behind : (p s : List ℕ) (i : ℕ) → number_at (p ++ s) (length p + i) ≡ number_at s i
unfolding number_at
number_behind p s i = ap (λ l. word (take 4 l)) (drop-append-add p s i)

-- the numbers from byte `at` on
abbrev pub numbers_at : (sheet : List ℕ) (at count : ℕ) → List ℕ
numbers_at sheet at zero = []
numbers_at sheet at (suc count) = number_at sheet at ∷ numbers_at sheet (at + 4) count

pub numbers_at_length : (sheet : List ℕ) (at count : ℕ) → length (numbers_at sheet at count) ≡ count
numbers_at_length sheet at zero = refl
numbers_at_length sheet at (suc count) = ap suc (numbers_at_length sheet (at + 4) count)

pub number_at_lem : (sheet : List ℕ) (at count i : ℕ) → i < count → get_or (numbers_at sheet at count) i 0 ≡ number_at sheet (at + 4 * i)
number_at_lem sheet at zero i h = absurd (omega arith)
number_at_lem sheet at (suc count) zero h = let e : at ≡ at + 4 * 0 = omega arith in ap (number_at sheet) e
number_at_lem sheet at (suc count) (suc i) h =
    let e : at + 4 + 4 * i ≡ at + 4 * suc i = omega arith in
    number_at_lem sheet (at + 4) count i (omega arith) ∙ ap (number_at sheet) e

-- numbers that stand behind some bytes and in front of others
pub numbers_back : (p ns t : List ℕ) → AllLe 4294967295 ns → numbers_at (p ++ (numbers_bytes ns ++ t)) (length p) (length ns) ≡ ns
numbers_back p [] t f = refl
numbers_back p (n ∷ ns) t f =
    let place : length p + 4 ≡ length (p ++ bytes_of 4 n) = omega (arith, length-append p (bytes_of 4 n), length_bytes 4 n) in
    let front : length p ≡ length p + 0 = omega arith in
    let inner = append_assoc (bytes_of 4 n) (numbers_bytes ns) t in
    let whole = p ++ (numbers_bytes (n ∷ ns) ++ t) in
    let same : whole ≡ (p ++ bytes_of 4 n) ++ (numbers_bytes ns ++ t) = ap (λ l. p ++ l) inner ∙ sym (append_assoc p (bytes_of 4 n) (numbers_bytes ns ++ t)) in
    let first : number_at whole (length p) ≡ n =
    ap (number_at whole) front ∙ number_behind p (numbers_bytes (n ∷ ns) ++ t) 0 ∙ ap (λ l. number_at l 0) inner ∙ first_number n (numbers_bytes ns ++ t) f.0 in
    let others : numbers_at whole (length p + 4) (length ns) ≡ ns =
    ap₂ (λ l k. numbers_at l k (length ns)) same place ∙ numbers_back (p ++ bytes_of 4 n) ns t f.1 in
    ap₂ (λ m l. m ∷ l) first others

-- ---- read, then written

pub numbers_at_add :
    (sheet : List ℕ) (m n at : ℕ) → numbers_at sheet at (m + n) ≡ numbers_at sheet at m ++ numbers_at sheet (at + 4 * m) n
numbers_at_add sheet zero n at =
    let e : 0 + n ≡ n = omega arith in
    let f : at ≡ at + 4 * 0 = omega arith in
    ap₂ (numbers_at sheet) f e
numbers_at_add sheet (suc m) n at =
    let e : suc m + n ≡ suc (m + n) = omega arith in
    let f : at + 4 + 4 * m ≡ at + 4 * suc m = omega arith in
    ap (numbers_at sheet at) e
    ∙ ap (λ l. number_at sheet at ∷ l) (numbers_at_add sheet m n (at + 4) ∙ ap (λ k. numbers_at sheet (at + 4) m ++ numbers_at sheet k n) f)

module _ (sheet : List ℕ) (bytes : AllLe 255 sheet) where
  four_again : (at : ℕ) → at + 4 ≤ length sheet → bytes_of 4 (number_at sheet at) ++ drop (at + 4) sheet ≡ drop at sheet
  unfolding number_at
  four_again at h =
      let four = all_bytes (part_of at 4 sheet) refl (part_le 255 at 4 sheet bytes) (part_length at 4 sheet h) in
      let rest = sym (drop-drop 4 at sheet) in
      ap₂ ◌++◌ four rest ∙ take-append-drop 4 (drop at sheet)

  pub numbers_again : (count at : ℕ) → at + 4 * count ≤ length sheet → numbers_bytes (numbers_at sheet at count) ++ drop (at + 4 * count) sheet ≡ drop at sheet
  numbers_again zero at h = let e : at + 4 * 0 ≡ at = omega arith in ap (λ k. drop k sheet) e
  numbers_again (suc count) at h =
      let e : at + 4 * suc count ≡ at + 4 + 4 * count = omega arith in
      ap (λ k. numbers_bytes (numbers_at sheet at (suc count)) ++ drop k sheet) e
      ∙ append_assoc (bytes_of 4 (number_at sheet at)) (numbers_bytes (numbers_at sheet (at + 4) count)) (drop (at + 4 + 4 * count) sheet)
      ∙ ap (λ l. bytes_of 4 (number_at sheet at) ++ l) (numbers_again count (at + 4) (omega arith)) ∙ four_again at (omega arith)

  -- a number of four bytes is one of 32 bits
  pub numbers_small : (count at : ℕ) → at + 4 * count ≤ length sheet → AllLe 4294967295 (numbers_at sheet at count)
  unfolding number_at
  numbers_small zero at h = tt
  numbers_small (suc count) at h = (small at (omega arith), numbers_small count (at + 4) (omega arith))
    where
      small : (at : ℕ) → at + 4 ≤ length sheet → number_at sheet at ≤ 4294967295
      small at h = word_le 255 (part_of at 4 sheet) 4 (omega (arith, part_length at 4 sheet h)) (part_le 255 at 4 sheet bytes)
