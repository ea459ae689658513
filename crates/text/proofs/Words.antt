-- Bytes as one number, and its bytes again.
use Prim.Native.Nat.{ℕ, zero, suc, ◌+◌, ◌*◌, ◌/◌, ◌%◌, ◌^◌, ◌≤◌, ◌<◌}
use mathlib.Core.Path.{◌≡◌, refl, sym, ap, ap₂, ◌∙◌, subst}
use mathlib.Core.List.{List, [], ◌∷◌, ◌++◌, append_assoc, append-nil}
use native.Mathlib.Nat.{zero-div, pow-zero, pow-suc}
use native.Mathlib.Omega.{arith}
use lib.ListN.{length, get_or, take, drop, replicate, length-append, length-drop}
use lib.Seq.{take-suc, take-length, take-add, drop-cons, drop-drop, length-take-le, get_or-take, get_or-drop}
use lib.Pow.{shr-shr}
use mir.Syntax.{w8}
use mir.Val.{Fits}
use Rattle.text.specs.Words.{word, byte_of, bytes_of, part_of, AllLe}

pub bytes : (l : List ℕ) → ((i : ℕ) → Fits w8 (get_or l i 0)) → AllLe 255 l
bytes [] h = tt
bytes (n ∷ ns) h = (omega (arith, (h 0).fits), bytes ns (λ i. h (suc i)))

pub lower : (low high : ℕ) (l : List ℕ) → low ≤ high → AllLe low l → AllLe high l
lower low high [] h a = tt
lower low high (x ∷ l) h a = let k = a.0 in (omega arith, lower low high l h a.1)

pub word_le : (limit : ℕ) (l : List ℕ) (k : ℕ) → length l ≤ k → AllLe limit l → word l ≤ word (replicate k limit)
word_le limit [] k h a = omega arith
word_le limit (n ∷ ns) zero h a = absurd (omega arith)
word_le limit (n ∷ ns) (suc k) h a =
    let t = word_le limit ns k (omega arith) a.1 in
    let b = a.0 in
    omega arith

pub drop_le : (limit n : ℕ) (l : List ℕ) → AllLe limit l → AllLe limit (drop n l)
drop_le limit zero l a = a
drop_le limit (suc n) [] a = tt
drop_le limit (suc n) (x ∷ l) a = drop_le limit n l a.1

-- ---- the bytes of a number

shift : (n b k : ℕ) → b ≤ 255 → (n * 256 + b) / 2 ^ (8 * suc k) ≡ n / 2 ^ (8 * k)
shift n b k h =
    let q : (n * 256 + b) / 256 ≡ n = omega arith in
    let e : 8 * suc k ≡ 8 + 8 * k = omega arith in
    ap (λ j. (n * 256 + b) / 2 ^ j) e ∙ sym (shr-shr (n * 256 + b) 8 (8 * k)) ∙ ap (λ m. m / 2 ^ (8 * k)) q

pub byte_at : (l : List ℕ) (k : ℕ) → AllLe 255 l → byte_of (word l) k ≡ get_or l k 0
byte_at [] k a = ap (λ m. m % 256) (zero-div (2 ^ (8 * k)))
byte_at (b ∷ bs) zero a = let h = a.0 in omega arith
byte_at (b ∷ bs) (suc k) a = ap (λ m. m % 256) (shift (word bs) b k a.0) ∙ byte_at bs k a.1

-- a number without its lowest bytes
pub word_drop : (l : List ℕ) (k : ℕ) → AllLe 255 l → word l / 2 ^ (8 * k) ≡ word (drop k l)
word_drop l zero a = omega arith
word_drop [] (suc k) a = zero-div (2 ^ (8 * suc k))
word_drop (b ∷ bs) (suc k) a = shift (word bs) b k a.0 ∙ word_drop bs k a.1

pub length_bytes : (count n : ℕ) → length (bytes_of count n) ≡ count
length_bytes zero n = refl
length_bytes (suc count) n = length-append (bytes_of count n) _ ∙ omega (arith, length_bytes count n)

-- the first bytes of such a number
first_bytes : (l : List ℕ) (k : ℕ) → k ≤ length l → AllLe 255 l → bytes_of k (word l) ≡ take k l
first_bytes l zero h a = refl
first_bytes l (suc k) h a =
    ap₂ (λ front byte. front ++ byte ∷ []) (first_bytes l k (omega arith) a) (byte_at l k a) ∙ sym (take-suc l k 0 h)

pub all_bytes : {n count : ℕ} (l : List ℕ) → n ≡ word l → AllLe 255 l → length l ≡ count → bytes_of count n ≡ l
all_bytes l e a h = ap₂ bytes_of (sym h) e ∙ first_bytes l (length l) (omega arith) a ∙ take-length l

-- more bytes are the first ones and others
pub more_bytes : (a k n : ℕ) → (more : List ℕ) × ((bytes_of (k + a) n ≡ bytes_of a n ++ more) × (length more ≡ k))
more_bytes a zero n = let e : 0 + a ≡ a = omega arith in ([], (ap (λ k. bytes_of k n) e ∙ sym (append-nil (bytes_of a n)), refl))
more_bytes a (suc k) n =
    let m = more_bytes a k n in
    let e : suc k + a ≡ suc (k + a) = omega arith in
    let byte = byte_of n (k + a) in (
      m.0 ++ byte ∷ [],
      (
        ap (λ k. bytes_of k n) e ∙ ap (λ l. l ++ byte ∷ []) m.1.0 ∙ append_assoc (bytes_of a n) m.0 (byte ∷ []),
        length-append m.0 (byte ∷ []) ∙ omega (arith, m.1.1),
      ),
    )

-- ---- a part of a text

pub part_length : (at count : ℕ) (text : List ℕ) → at + count ≤ length text → length (part_of at count text) ≡ count
part_length at count text h = length-take-le count (drop at text) (omega (arith, length-drop at text))

pub part_at : (at count : ℕ) (text : List ℕ) (i : ℕ) → i < count → get_or (part_of at count text) i 0 ≡ get_or text (at + i) 0
part_at at count text i h = get_or-take count (drop at text) i 0 h ∙ get_or-drop at text i 0

pub part_le : (limit at count : ℕ) (text : List ℕ) → AllLe limit text → AllLe limit (part_of at count text)
part_le limit at count text a = take_le count (drop at text) (drop_le limit at text a)
  where
    take_le : (n : ℕ) (l : List ℕ) → AllLe limit l → AllLe limit (take n l)
    take_le zero l a = tt
    take_le (suc n) [] a = tt
    take_le (suc n) (x ∷ l) a = (a.0, take_le n l a.1)

-- a part of two parts, and of a first byte and the others
pub part_two : (at m n : ℕ) (text : List ℕ) → part_of at (m + n) text ≡ part_of at m text ++ part_of (at + m) n text
part_two at m n text = take-add m n (drop at text) ∙ ap (λ l. part_of at m text ++ take n l) (drop-drop m at text)

part_cons : (at n : ℕ) (text : List ℕ) → at < length text → part_of at (suc n) text ≡ get_or text at 0 ∷ part_of (at + 1) n text
part_cons at n text h = let e : suc at ≡ at + 1 = omega arith in ap (take (suc n)) (drop-cons text at 0 h) ∙ ap (λ j. get_or text at 0 ∷ part_of j n text) e

-- one byte more
pub part_more : (at n : ℕ) (text : List ℕ) → at + n < length text → part_of at (n + 1) text ≡ part_of at n text ++ get_or text (at + n) 0 ∷ []
part_more at n text h = part_two at n 1 text ∙ ap (λ l. part_of at n text ++ l) (part_cons (at + n) 0 text h)

pub part_three : (at : ℕ) (text : List ℕ) → at + 3 ≤ length text → part_of at 3 text ≡ get_or text at 0 ∷ get_or text (at + 1) 0 ∷ get_or text (at + 2) 0 ∷ []
part_three at text h =
    let e : at + 1 + 1 ≡ at + 2 = omega arith in
    part_cons at 2 text (omega arith)
    ∙ ap (λ l. get_or text at 0 ∷ l) (part_cons (at + 1) 1 text (omega arith)
    ∙ ap (λ l. get_or text (at + 1) 0 ∷ l) (ap (λ j. part_of j 1 text) e ∙ part_cons (at + 2) 0 text (omega arith)))

pub part_four :
    (at : ℕ) (text : List ℕ) → at + 4 ≤ length text →
    part_of at 4 text ≡ get_or text at 0 ∷ get_or text (at + 1) 0 ∷ get_or text (at + 2) 0 ∷ get_or text (at + 3) 0 ∷ []
part_four at text h = part_more at 3 text (omega arith) ∙ ap (λ l. l ++ get_or text (at + 3) 0 ∷ []) (part_three at text (omega arith))

-- the numbers of four and of eight bytes
pub four_word :
    (text : List ℕ) (at : ℕ) → at + 4 ≤ length text →
    word (get_or text at 0 ∷ get_or text (at + 1) 0 ∷ get_or text (at + 2) 0 ∷ get_or text (at + 3) 0 ∷ []) ≡ word (part_of at 4 text)
four_word text at h = sym (ap word (part_four at text h))

pub eight_word :
    (text : List ℕ) (at : ℕ) → at + 8 ≤ length text → {a b : ℕ} → a ≡ word (part_of at 4 text) → b ≡ word (part_of (at + 4) 4 text) →
    a + b * 4294967296 ≡ word (part_of at 8 text)
eight_word text at h {a} {b} e f =
    let p = part_four at text (omega arith) in
    let q = part_four (at + 4) text (omega arith) in
    sym (ap word (part_two at 4 4 text ∙ ap₂ ◌++◌ p q) ∙ omega (arith, e ∙ ap word p, f ∙ ap word q))

-- ---- a number is that of its bytes

first_byte : (count n : ℕ) → bytes_of (suc count) n ≡ n % 256 ∷ bytes_of count (n / 256)
first_byte zero n = ap (λ m. m % 256 ∷ []) (omega arith)
first_byte (suc count) n =
    let e : 8 * suc count ≡ 8 + 8 * count = omega arith in
    ap₂ (λ l b. l ++ b ∷ []) (first_byte count n) (ap (λ j. n / 2 ^ j % 256) e ∙ ap (λ m. m % 256) (sym (shr-shr n 8 (8 * count))))

pub bytes_le : (count n : ℕ) → AllLe 255 (bytes_of count n)
bytes_le zero n = tt
bytes_le (suc count) n = subst (AllLe 255) (sym (first_byte count n)) (omega arith, bytes_le count (n / 256))

pub word_bytes : (count n : ℕ) → n < 256 ^ count → word (bytes_of count n) ≡ n
word_bytes zero n h = omega (arith, rw pow-zero at h)
word_bytes (suc count) n h =
    let l : n / 256 < 256 ^ count = omega (arith, rw pow-suc at h) in
    ap word (first_byte count n) ∙ omega (arith, word_bytes count (n / 256) l)
