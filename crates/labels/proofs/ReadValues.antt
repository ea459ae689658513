-- The numbers of a text, from the values of its bytes.
use Rattle.std.proofs.Common.{◌≡◌, ℕ, zero, suc, ◌+◌, ◌-◌, ◌*◌, ◌/◌, ◌^◌, ◌<◌, ◌≤◌, Bool, true, false, cond, ◌&&◌, List, [], ◌∷◌, length, get_or, take, sym, refl, ap, ◌∙◌, ap₂, arith, drop-cons}
use Rattle.refusal.proofs.Outcomes.{clash}
use Rattle.text.specs.Decimal.{number}
use Rattle.labels.specs.Digits.{number_at, fits}
use Rattle.text.specs.Words.{word, byte_of, part_of}
use Rattle.labels.specs.Words.{simple, OneWord, above, text_of, read_values, pair_of}
use Rattle.refusal.specs.Outcome.{Outcome, value, refused, refused_at}
use Rattle.text.specs.Words.{AllLe}
use Rattle.text.proofs.Words.{word_le, byte_at, part_length, part_at}
use Rattle.labels.proofs.Gaps.{all_near, near_nines}

-- ---- pairs of values

abbrev pairs_of : List ℕ → List ℕ
pairs_of [] = []
pairs_of (x ∷ xs) = (x * 10 + get_or xs 0 0) ∷ pairs_of xs

pairs_word : (x : ℕ) (xs : List ℕ) → word (x ∷ xs) * 10 + word xs ≡ word (pairs_of (x ∷ xs))
pairs_word x [] = omega arith
pairs_word x (y ∷ ys) = let e = pairs_word y ys in omega (arith, e)

first_le : (xs : List ℕ) → AllLe 9 xs → get_or xs 0 0 ≤ 9
first_le [] a = omega arith
first_le (x ∷ xs) a = a.0

pairs_le : (xs : List ℕ) → AllLe 9 xs → AllLe 255 (pairs_of xs)
pairs_le [] a = tt
pairs_le (x ∷ xs) a =
    let h = a.0 in
    let k = first_le xs a.1 in
    (omega arith, pairs_le xs a.1)

pairs_at : (xs : List ℕ) (k : ℕ) → get_or (pairs_of xs) k 0 ≡ get_or xs k 0 * 10 + get_or xs (suc k) 0
pairs_at [] k = refl
pairs_at (x ∷ xs) zero = refl
pairs_at (x ∷ xs) (suc k) = pairs_at xs k

pub pair_at : (xs : List ℕ) (k : ℕ) → AllLe 9 xs → pair_of (word xs) k ≡ get_or xs k 0 * 10 + get_or xs (suc k) 0
pair_at [] k a = byte_at [] k tt
pair_at (x ∷ xs) k a =
    let h = a.0 in
    let d : word (x ∷ xs) / 256 ≡ word xs = omega arith in
    ap (λ r. byte_of (word (x ∷ xs) * 10 + r) k) d
    ∙ ap (λ n. byte_of n k) (pairs_word x xs)
    ∙ byte_at (pairs_of (x ∷ xs)) k (pairs_le (x ∷ xs) a)
    ∙ pairs_at (x ∷ xs) k

-- ---- the numbers of a text

number_two : (text : List ℕ) (at : ℕ) → at + 2 ≤ length text → number_at at 2 text ≡ (get_or text at 0 - 48) * 10 + (get_or text (suc at) 0 - 48)
number_two text at h =
    let a : at < length text = omega arith in
    let b : suc at < length text = omega arith in
    ap (λ l. number (take 2 l)) (drop-cons text at 0 a ∙ ap (λ l. get_or text at 0 ∷ l) (drop-cons text (suc at) 0 b)) ∙ omega arith

pub number_four : (text : List ℕ) → 4 ≤ length text → number_at 0 4 text ≡ 100 * number_at 0 2 text + number_at 2 2 text
number_four text h =
    let a : 0 < length text = omega arith in
    let b : 1 < length text = omega arith in
    let c : 2 < length text = omega arith in
    let d : 3 < length text = omega arith in
    let e = number_two text 0 (omega arith) in
    let f = number_two text 2 (omega arith) in
    ap (λ l. number (take 4 l)) (drop-cons text 0 0 a ∙ ap (λ l. get_or text 0 0 ∷ l) (drop-cons text 1 0 b
    ∙ ap (λ l. get_or text 1 0 ∷ l) (drop-cons text 2 0 c ∙ ap (λ l. get_or text 2 0 ∷ l) (drop-cons text 3 0 d))))
    ∙ omega (arith, e, f)

above_at : (shape text : List ℕ) (k : ℕ) → k < length shape → k < length text → get_or (above shape text) k 0 ≡ get_or text k 0 - get_or shape k 0
above_at [] text k h l = absurd (omega arith)
above_at (s ∷ ss) [] k h l = absurd (omega arith)
above_at (s ∷ ss) (b ∷ bs) zero h l = refl
above_at (s ∷ ss) (b ∷ bs) (suc k) h l = above_at ss bs k (omega arith) (omega arith)

-- ---- what values tell of a text

above_length : (shape text : List ℕ) → length (above shape text) ≤ length shape
above_length [] text = omega arith
above_length (s ∷ ss) [] = omega arith
above_length (s ∷ ss) (b ∷ bs) = let h = above_length ss bs in omega arith

pub record ValuesRead (shape text : List ℕ) (v : ℕ) : Type 0 where
  pub shape_fits : fits shape text ≡ true
  pub small : v < 2 ^ 60
  pub pair_is : (k : ℕ) → suc k < length shape → length shape ≡ length text → get_or shape k 0 ≡ 48 → get_or shape (suc k) 0 ≡ 48 → pair_of v k ≡ number_at k 2 text
  pub pair_below : (k : ℕ) → pair_of v k < 100
  pub values_are : v ≡ word (above shape text)

values_read : (shape text : List ℕ) (v : ℕ) → length shape ≤ 8 → simple shape ≡ true → fits shape text ≡ true → v ≡ word (above shape text) → ValuesRead shape text v
values_read shape text v short p f i =
    let a = near_nines shape (above shape text) (above_length shape text) (all_near shape text p f) in
    let pair : (k : ℕ) → pair_of v k ≡ get_or (above shape text) k 0 * 10 + get_or (above shape text) (suc k) 0 = λ k. ap (λ v. pair_of v k) i ∙ pair_at (above shape text) k a in
    record {
      shape_fits = f;
      small = omega (arith, i, word_le 9 (above shape text) 8 (omega (arith, above_length shape text)) a);
      pair_is = λ k h l p q. pair k
          ∙ ap₂ (λ x y. x * 10 + y)
          (above_at shape text k (omega arith) (omega arith) ∙ ap (λ s. get_or text k 0 - s) p)
          (above_at shape text (suc k) (omega arith) (omega arith) ∙ ap (λ s. get_or text (suc k) 0 - s) q)
          ∙ sym (number_two text k (omega arith));
      pair_below = λ k. omega (arith, pair k, at_le (above shape text) k a, at_le (above shape text) (suc k) a);
      values_are = i;
    }
  where
    at_le : (l : List ℕ) (k : ℕ) → AllLe 9 l → get_or l k 0 ≤ 9
    at_le [] k a = omega arith
    at_le (x ∷ l) zero a = a.0
    at_le (x ∷ l) (suc k) a = at_le l k a.1

abbrev pub values : ℕ → ℕ → Outcome (ℕ × ℕ)
values v w = value (v, w)

abbrev pub refused_8 : Outcome (ℕ × ℕ)
refused_8 = refused 8

abbrev taken : Outcome (ℕ × ℕ) → ℕ × ℕ
taken (value p) = p
taken (refused n) = (0, 0)
taken (refused_at n place) = (0, 0)

-- two numbers against two shapes, and the texts that the numbers are
module _ (shape : List ℕ) (m : ℕ) (other : List ℕ) (n : ℕ) where
  pub both_read :
      (v w : ℕ) → OneWord shape m → OneWord other n → values v w ≡ read_values shape m other n → ValuesRead shape (text_of shape m) v × ValuesRead other (text_of other n) w
  both_read v w p q e = go (fits shape (text_of shape m)) (fits other (text_of other n)) refl refl e
    where
      go : (a b : Bool) → fits shape (text_of shape m) ≡ a → fits other (text_of other n) ≡ b →
          values v w ≡ cond (a && b) (values (word (above shape (text_of shape m))) (word (above other (text_of other n)))) refused_8 →
          ValuesRead shape (text_of shape m) v × ValuesRead other (text_of other n) w
      go true true f g e =
          let i : v ≡ word (above shape (text_of shape m)) = ap (λ o. (taken o).0) e in
          let j : w ≡ word (above other (text_of other n)) = ap (λ o. (taken o).1) e in
          (values_read shape (text_of shape m) v p.0 p.1.0 f i, values_read other (text_of other n) w q.0 q.1.0 g j)
      go true false f g e = clash (cc)
      go false b f g e = clash (cc)

  pub none_read : {k : ℕ} → refused k ≡ read_values shape m other n → (k ≡ 8) × (fits shape (text_of shape m) && fits other (text_of other n) ≡ false)
  none_read {k} e = go (fits shape (text_of shape m) && fits other (text_of other n)) e
    where
      go :
          (t : Bool) → refused k ≡ cond t (values (word (above shape (text_of shape m))) (word (above other (text_of other n)))) refused_8 →
          (k ≡ 8) × (t ≡ false)
      go true e = clash (cc)
      go false e = (cc, refl)

-- two digits of a part of a text
pub part_number : (text : List ℕ) (size from at : ℕ) → at + 2 ≤ size → from + size ≤ length text → number_at at 2 (part_of from size text) ≡ number_at (from + at) 2 text
part_number text size from at h l =
    let s : suc (from + at) ≡ from + suc at = omega arith in
    number_two (part_of from size text) at (omega (arith, part_length from size text l))
    ∙ ap₂ (λ x y. (x - 48) * 10 + (y - 48)) (part_at from size text at (omega arith))
    (part_at from size text (suc at) (omega arith) ∙ sym (ap (λ i. get_or text i 0) s))
    ∙ sym (number_two text (from + at) (omega arith))
