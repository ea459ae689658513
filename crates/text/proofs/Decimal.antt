-- Numbers and their digits.
use Prim.Native.Nat.{ℕ, zero, suc, ◌+◌, ◌-◌, ◌*◌, ◌/◌, ◌%◌, ◌^◌, ◌≤◌, ◌<◌}
use mathlib.Core.Path.{◌≡◌, refl, sym, ap, ap₂, ◌∙◌}
use mathlib.Core.Bool.{Bool, true, false, cond, ◌&&◌, and-true, and_assoc}
use mathlib.Core.List.{List, [], ◌∷◌, ◌++◌, append-nil}
use native.Mathlib.Nat.{pow-zero, pow-suc, div-div-eq-div-mul, mul_comm}
use native.Mathlib.Omega.{arith}
use borrow.Author.Tests.{ltb-true, ltb-false, leb-true, le-leb, lt-ltb, le-ltb}
use lib.Dec.{leb, ltb, lit<}
use lib.ListN.{length, get_or, get_or-append, set, drop, length-append, drop_of_length-le}
use lib.Seq.{append_snoc, drop-append-le}
use Rattle.numbers.proofs.Bools.{and_left, and_right}
use Rattle.text.specs.Filled.{filled}
use Rattle.text.proofs.Filled.{filled_after}
use Rattle.text.specs.Decimal.{digits, number_from, number, decimal_from, decimal, is_digit, all_digits}

-- ---- a digit

pub digit_range : (byte : ℕ) → is_digit byte ≡ true → (48 ≤ byte) × (byte ≤ 57)
digit_range byte h = (leb-true 48 byte (and_left (leb 48 byte) _ h), leb-true byte 57 (and_right (leb 48 byte) _ h))

pub is_digit_lem : (n : ℕ) → is_digit (48 + n % 10) ≡ true
is_digit_lem n = ap₂ ◌&&◌ (le-leb 48 (48 + n % 10) (omega arith)) (le-leb (48 + n % 10) 57 (omega arith))

-- ---- the number of a number's digits

pub from_append : (n : ℕ) (a b : List ℕ) → number_from n (a ++ b) ≡ number_from (number_from n a) b
from_append n [] b = refl
from_append n (d ∷ a) b = from_append (n * 10 + (d - 48)) a b

pub number_digits : (n count : ℕ) → n < 10 ^ count → number (digits n count) ≡ n
number_digits n zero h = omega arith
number_digits n (suc count) h =
    let l : n / 10 < 10 ^ count = omega (arith, rw pow-suc at h) in
    let e = number_digits (n / 10) count l in
    from_append 0 (digits (n / 10) count) ((48 + n % 10) ∷ []) ∙ omega arith

pub number_below : (n count : ℕ) → number (digits n count) < 10 ^ count
number_below n zero = lit< tt
number_below n (suc count) =
    let l = number_below (n / 10) count in
    let e = from_append 0 (digits (n / 10) count) ((48 + n % 10) ∷ []) in
    rw pow-suc (omega arith)

pub length_digits : (n count : ℕ) → length (digits n count) ≡ count
length_digits n zero = refl
length_digits n (suc count) = length-append (digits (n / 10) count) _ ∙ omega (arith, length_digits (n / 10) count)

tens : (n count : ℕ) → n / 10 / 10 ^ count ≡ n / 10 ^ suc count
tens n count = div-div-eq-div-mul n 10 (10 ^ count) ∙ ap (λ m. n / m) (mul_comm 10 (10 ^ count) ∙ sym (pow-suc 10 count))

-- digits without the first of them
pub drop_digits : (n k count : ℕ) → drop k (digits n (k + count)) ≡ digits n count
drop_digits n k zero =
    let e : k + 0 ≡ k = omega arith in
    let l : length (digits n k) ≤ k = omega (arith, length_digits n k) in
    ap (λ c. drop k (digits n c)) e ∙ drop_of_length-le (digits n k) l
drop_digits n k (suc count) =
    let e : k + suc count ≡ suc (k + count) = omega arith in
    ap (λ c. drop k (digits n c)) e
    ∙ drop-append-le k (digits (n / 10) (k + count)) ((48 + n % 10) ∷ []) (omega (arith, length_digits (n / 10) (k + count)))
    ∙ ap (λ l. l ++ (48 + n % 10) ∷ []) (drop_digits (n / 10) k count)

-- the first digit, and the others
pub digits_front : (n count : ℕ) → digits n (suc count) ≡ (48 + n / 10 ^ count % 10) ∷ digits n count
digits_front n zero = ap (λ m. (48 + m % 10) ∷ []) (sym (rw pow-zero (omega arith)))
digits_front n (suc count) =
    ap (λ l. l ++ (48 + n % 10) ∷ []) (digits_front (n / 10) count ∙ ap (λ m. (48 + m % 10) ∷ digits (n / 10) count) (tens n count))

-- digits stored from the last to the first: `rest` are those before the last `count`, and the next of them is stored in front of those
pub less_tens : (n count : ℕ) {rest : ℕ} → rest ≡ n / 10 ^ count → rest / 10 ≡ n / 10 ^ suc count
less_tens n count e = ap (λ m. m / 10) e ∙ div-div-eq-div-mul n (10 ^ count) 10 ∙ ap (λ m. n / m) (sym (pow-suc 10 count))

pub digit_stored :
    (at n count : ℕ) (before : List ℕ) {rest : ℕ} {between : List ℕ} → rest ≡ n / 10 ^ count → between ≡ filled (suc at) (digits n count) before →
    set between at (48 + rest % 10) ≡ filled at (digits n (suc count)) before
digit_stored at n count before {rest} e f =
    ap₂ (λ l m. set l at (48 + m % 10)) f e ∙ filled_after at (48 + n / 10 ^ count % 10) (digits n count) before
    ∙ ap (λ l. filled at l before) (sym (digits_front n count))

-- ---- a number without leading zeros

-- the last digit behind the others, if there are any
module _ (n turns : ℕ) where
  abbrev others : (small : Bool) → List ℕ
  others small = cond small [] (decimal_from turns (n / 10))

  with_last :
      (small : Bool) → decimal_from turns (n / 10) ≡ digits (n / 10) (length (decimal_from turns (n / 10))) →
      others small ++ (48 + n % 10) ∷ [] ≡ digits n (length (others small ++ (48 + n % 10) ∷ []))
  with_last true e = refl
  with_last false e =
      let l : length (decimal_from turns (n / 10) ++ (48 + n % 10) ∷ []) ≡ suc (length (decimal_from turns (n / 10))) =
      length-append (decimal_from turns (n / 10)) _ ∙ omega arith in
      ap (λ front. front ++ (48 + n % 10) ∷ []) e ∙ sym (ap (digits n) l)

from_digits : (turns n : ℕ) → decimal_from turns n ≡ digits n (length (decimal_from turns n))
from_digits zero n = refl
from_digits (suc turns) n = with_last n turns (ltb n 10) (from_digits turns (n / 10))

pub decimal_digits : (n : ℕ) {count : ℕ} → count ≡ length (decimal n) → decimal n ≡ digits n count
unfolding decimal
decimal_digits n e = from_digits n n ∙ ap (digits n) (sym e)

-- it is the number's, and does not begin with a zero but for 0 itself
from_number : (turns n : ℕ) → n ≤ turns → number (decimal_from turns n) ≡ n
from_number zero n h = omega arith
from_number (suc turns) n h = go (ltb n 10) refl (from_number turns (n / 10) (omega arith))
  where
    go : (small : Bool) → ltb n 10 ≡ small → number (decimal_from turns (n / 10)) ≡ n / 10 → number (others n turns small ++ (48 + n % 10) ∷ []) ≡ n
    go true e f = omega (arith, ltb-true n 10 e)
    go false e f = from_append 0 (decimal_from turns (n / 10)) ((48 + n % 10) ∷ []) ∙ omega arith

pub decimal_number : (n : ℕ) → number (decimal n) ≡ n
unfolding decimal
decimal_number n = from_number n n (omega arith)

from_some : (turns n : ℕ) → 1 ≤ length (decimal_from turns n)
from_some zero n = omega arith
from_some (suc turns) n = omega (arith, length-append (others n turns (ltb n 10)) ((48 + n % 10) ∷ []))

from_first : (turns n : ℕ) → 1 ≤ n → n ≤ turns → 48 < get_or (decimal_from turns n) 0 0
from_first zero n some h = absurd (omega arith)
from_first (suc turns) n some h = go (ltb n 10) refl (λ l. from_first turns (n / 10) l (omega arith))
  where
    go :
        (small : Bool) → ltb n 10 ≡ small → (1 ≤ n / 10 → 48 < get_or (decimal_from turns (n / 10)) 0 0) →
        48 < get_or (others n turns small ++ (48 + n % 10) ∷ []) 0 0
    go true e f = omega (arith, ltb-true n 10 e)
    go false e f =
        let tens = ltb-false n 10 e in
        omega (arith, f (omega arith), get_or-append (decimal_from turns (n / 10)) ((48 + n % 10) ∷ []) 0 0 (from_some turns (n / 10)))

pub no_zero_in_front : (n : ℕ) → 1 ≤ n → 48 < get_or (decimal n) 0 0
unfolding decimal
no_zero_in_front n some = from_first n n some (omega arith)

-- how many digits it has
count_below : (count : ℕ) → count < 10 ^ count
count_below zero = lit< tt
count_below (suc count) = rw pow-suc (omega (arith, count_below count))

from_length : (turns count n : ℕ) → count ≤ turns → 10 ^ count ≤ n → n < 10 ^ suc count → length (decimal_from turns n) ≡ suc count
from_length zero zero n h low high = refl
from_length zero (suc count) n h low high = absurd (omega arith)
from_length (suc turns) zero n h low high = let small : n < 10 = omega (arith, high) in rw (lt-ltb n 10 small)
from_length (suc turns) (suc count) n h low high =
    let high' = rw (pow-suc 10 (suc count)) at high in
    let low' = rw (pow-suc 10 count) at low in
    let some = count_below count in
    rw (le-ltb n 10 (omega arith))
    (length-append (decimal_from turns (n / 10)) _
    ∙ omega (arith, from_length turns count (n / 10) (omega arith) (omega arith) (omega arith)))

one_digit : (n : ℕ) → n < 10 → length (decimal_from n n) ≡ 1
one_digit zero h = refl
one_digit (suc n) h = rw (lt-ltb (suc n) 10 h)

pub decimal_length : (n count : ℕ) → 1 ≤ count → (1 < count → 10 ^ (count - 1) ≤ n) → n < 10 ^ count → count ≡ length (decimal n)
unfolding decimal
decimal_length n zero some low high = absurd (omega arith)
decimal_length n (suc zero) some low high = sym (one_digit n (omega (arith, high)))
decimal_length n (suc (suc k)) some low high =
    let e : suc (suc k) - 1 ≡ suc k = omega arith in
    let l : 10 ^ suc k ≤ n = rw e at (low (omega arith)) in
    sym (from_length n (suc k) n (omega (arith, count_below (suc k))) l high)

pub decimal_short : (n count : ℕ) → 1 ≤ count → n < 10 ^ count → length (decimal n) ≤ count
unfolding decimal
decimal_short n count = go n n count
  where
    by :
        (n turns count : ℕ) (small : Bool) → ltb n 10 ≡ small → 1 ≤ count → n < 10 ^ suc count → length (decimal_from turns (n / 10)) ≤ count →
        length (others n turns small ++ (48 + n % 10) ∷ []) ≤ suc count
    by n turns count true e some h l = omega arith
    by n turns count false e some h l = omega (arith, length-append (decimal_from turns (n / 10)) ((48 + n % 10) ∷ []))

    go : (turns n count : ℕ) → 1 ≤ count → n < 10 ^ count → length (decimal_from turns n) ≤ count
    go zero n count some h = some
    go (suc turns) n zero some h = absurd (omega arith)
    go (suc turns) n (suc zero) some h = rw (lt-ltb n 10 (omega (arith, h))) (omega arith)
    go (suc turns) n (suc (suc count)) some h =
        by n turns (suc count) (ltb n 10) refl (omega arith) h (go turns (n / 10) (suc count) (omega arith) (omega (arith, rw (pow-suc 10 (suc count)) at h)))

-- ---- the digits of a text's number

-- how many digits there are after `text`, if there were `count` before
abbrev after : (text : List ℕ) (count : ℕ) → ℕ
after [] count = count
after (b ∷ bs) count = after bs (suc count)

after_is : (text : List ℕ) (count : ℕ) → after text count ≡ length text + count
after_is [] count = omega arith
after_is (b ∷ bs) count = after_is bs (suc count) ∙ omega arith

digits_from : (text : List ℕ) (n count : ℕ) → all_digits text ≡ true → digits (number_from n text) (after text count) ≡ digits n count ++ text
digits_from [] n count h = sym (append-nil (digits n count))
digits_from (b ∷ bs) n count h =
    let r = digit_range b (and_left (is_digit b) _ h) in
    let q : (n * 10 + (b - 48)) / 10 ≡ n = omega arith in
    let m : 48 + (n * 10 + (b - 48)) % 10 ≡ b = omega arith in
    digits_from bs (n * 10 + (b - 48)) (suc count) (and_right (is_digit b) _ h)
    ∙ ap₂ (λ q m. (digits q count ++ m ∷ []) ++ bs) q m
    ∙ append_snoc (digits n count) b bs

pub digits_number : (text : List ℕ) (count : ℕ) → length text ≡ count → all_digits text ≡ true → digits (number text) count ≡ text
digits_number text count l h =
    let e : count ≡ after text 0 = omega (arith, after_is text 0) in
    ap (digits (number text)) e ∙ digits_from text 0 0 h

-- one more byte behind a text
pub all_digits_more : (text : List ℕ) (byte : ℕ) → all_digits (text ++ byte ∷ []) ≡ all_digits text && is_digit byte
all_digits_more [] byte = and-true (is_digit byte)
all_digits_more (b ∷ bs) byte = ap (λ t. is_digit b && t) (all_digits_more bs byte) ∙ sym (and_assoc (is_digit b) (all_digits bs) (is_digit byte))
