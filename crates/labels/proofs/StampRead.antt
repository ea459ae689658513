-- What the code makes of a timestamp of any length.
use Rattle.std.proofs.Common.{◌≡◌, ℕ, subst, ◌+◌, ◌-◌, ◌*◌, ◌%◌, ◌<◌, ◌≤◌, Bool, true, false, cond, ◌&&◌, ◌||◌, eqb, ltb, leb, List, [], ◌∷◌, ◌++◌, length, get_or, take, drop, nat_abs, sym, refl, ap, ◌∙◌, ap₂, add-one, arith, length-drop, take-append-drop, length-take-le, take_all, take-suc, ltb-false, ltb-true, le-ltb, lt-ltb, eqb-true, leb-true}
use borrow.Author.Tests.{eqb-false}
use Rattle.refusal.specs.Outcome.{value, refused}
use Rattle.refusal.proofs.Outcomes.{same_value}
use Rattle.numbers.proofs.Bools.{no_both, and_left, and_right}
use Rattle.labels.specs.Clock.{clock_text}
use Rattle.text.specs.Decimal.{number, number_from, is_digit}
use Rattle.labels.specs.Digits.{fits}
use Rattle.labels.specs.Webvtt.{last_position}
use Rattle.labels.specs.PositionPieces.{hundred_hours}
use Rattle.labels.specs.Timestamps.{last_nine, in_front, is_clock, are_hours, is_timestamp, position_of}
use Rattle.text.specs.Decimal.{all_digits}
use Rattle.labels.specs.Stamps.{above_limit, limited, stamp_of, one_more, limited_from, leading}
use Rattle.text.proofs.Decimal.{digit_range, all_digits_more}
use Rattle.labels.proofs.Shapes.{uneven}
use Rattle.labels.proofs.StampNumbers.{no_value, same_refusal, no_stamp, is_stamp, refused_stamp, stamp_there}
use Rattle.labels.proofs.StampParts.{Long, long_parts}

-- ---- the number of the digits in front, as far as it is read

abbrev Follows : (number limited : ℕ) → Type 0
Follows number limited = (limited ≤ 999 → number ≡ limited) × (999 < limited → 999 < number)

follow : (n m : ℕ) (text : List ℕ) → all_digits text ≡ true → Follows n m → Follows (number_from n text) (limited_from m text)
follow n m [] d f = f
follow n m (b ∷ bs) d f = follow (n * 10 + (b - 48)) (one_more m b) bs (and_right (is_digit b) _ d) (go (ltb 999 m) refl)
  where
    r : (48 ≤ b) × (b ≤ 57)
    r = digit_range b (and_left (is_digit b) _ d)

    go : (t : Bool) → ltb 999 m ≡ t → Follows (n * 10 + (b - 48)) (cond t m (m * 10 + b % 16))
    go true e = let l = ltb-true 999 m e in (λ h. absurd (omega arith), λ h. omega (arith, f.1 l))
    go false e =
        let l = ltb-false 999 m e in
        let q = f.0 l in
        let d : b % 16 ≡ b - 48 = omega (arith, r.0, r.1) in
        let s : n * 10 + (b - 48) ≡ m * 10 + b % 16 = omega (arith, q, d) in
        (λ h. s, λ h. omega (arith, s, h))

-- one more byte of a text
limited_more : (m : ℕ) (text : List ℕ) (b : ℕ) → limited_from m (text ++ b ∷ []) ≡ one_more (limited_from m text) b
limited_more m [] b = refl
limited_more m (x ∷ xs) b = limited_more (one_more m x) xs b

module _ (text : List ℕ) (i : ℕ) (h : i < length text) where
  next : take (i + 1) text ≡ take i text ++ get_or text i 0 ∷ []
  next = ap (λ j. take j text) (add-one i) ∙ take-suc text i 0 h

  -- one more byte
  pub leading_more :
      {n m : ℕ} {right digit : Bool} → n ≡ limited_from 0 (take i text) → right ≡ all_digits (take i text) → m ≡ one_more n (get_or text i 0) →
      digit ≡ is_digit (get_or text i 0) → (m ≡ limited_from 0 (take (i + 1) text)) × (right && digit ≡ all_digits (take (i + 1) text))
  leading_more so_far digits e d =
      let b = get_or text i 0 in (
        e ∙ ap (λ n. one_more n b) so_far ∙ sym (ap (limited_from 0) next ∙ limited_more 0 (take i text) b),
        ap₂ ◌&&◌ digits d ∙ sym (ap all_digits next ∙ all_digits_more (take i text) b),
      )

-- the digits in front, from their number
module _ (text : List ℕ) where
  no_leading : {k : ℕ} → refused k ≡ leading text → (k ≡ 13) × (all_digits text ≡ false)
  no_leading {k} e = go (all_digits text) e
    where
      go : (t : Bool) → refused k ≡ cond t (value (limited_from 0 text)) (refused 13) → (k ≡ 13) × (t ≡ false)
      go true e = no_value e
      go false e = (same_refusal e, refl)

  are_digits : {n : ℕ} → value n ≡ leading text → (all_digits text ≡ true) × Follows (number text) n
  are_digits {n} e = go (all_digits text) refl e
    where
      go : (t : Bool) → all_digits text ≡ t → value n ≡ cond t (value (limited_from 0 text)) (refused 13) → (t ≡ true) × Follows (number text) n
      go true d e = (refl, subst (Follows (number text)) (sym (same_value e)) (follow 0 0 text d (λ h. refl, λ h. h)))
      go false d e = no_value (sym e)

-- ---- how long a timestamp is

-- nine bytes, or twelve and more
pub stamp_length : {G : Type 0} (text : List ℕ) → is_timestamp text ≡ true → (length text ≡ 9 → G) → (12 ≤ length text → G) → G
stamp_length {G} text t nine more =
    let c = and_left (is_clock (last_nine text)) _ t in
    go (eqb (length (in_front text)) 0) refl (and_right (is_clock (last_nine text)) _ t) (clock_length (last_nine text) (and_left (fits (clock_text 3 0 0 0) (last_nine text)) _ c))
  where
    clock_length : (l : List ℕ) → fits (clock_text 3 0 0 0) l ≡ true → length l ≡ 9
    clock_length l f = decide (eqb (length l) 9) refl
      where
        decide : (t : Bool) → eqb (length l) 9 ≡ t → length l ≡ 9
        decide true e = eqb-true (length l) 9 e
        decide false e = no_both (fits (clock_text 3 0 0 0) l) f (uneven (clock_text 3 0 0 0) l (λ n. eqb-false (length l) 9 e (sym n)))

    go : (z : Bool) → eqb (length (in_front text)) 0 ≡ z → (z || are_hours (in_front text)) ≡ true → length (last_nine text) ≡ 9 → G
    go true e h l =
        let n : 9 ≤ length text = omega (arith, l, length-drop (length text - 9) text) in
        nine (omega (arith, length-take-le (length text - 9) text (omega arith), eqb-true (length (in_front text)) 0 e))
    go false e h l =
        let n : 9 ≤ length text = omega (arith, l, length-drop (length text - 9) text) in
        let two = leb-true 2 (length (in_front text) - 1) (and_left (leb 2 (length (in_front text) - 1)) _ h) in
        more (omega (arith, two, length-take-le (length text - 9) text (omega arith)))

pub few_bytes : (text : List ℕ) → length text < 12 → (length text ≡ 9 → ⊥) → refused 13 ≡ stamp_of text
few_bytes text few never = no_stamp text (λ t. stamp_length text t never (λ h. omega arith))

-- ---- what the code makes of the last twelve bytes and those in front of them

module _ (text : List ℕ) (h : 12 ≤ length text) where
  abbrev k : ℕ
  k = length text - 12

  abbrev hundreds : List ℕ
  hundreds = take k text

  -- as the code cuts it
  abbrev twelve : List ℕ
  twelve = take (length text - k) (drop k text)

  whole : hundreds ++ twelve ≡ text
  whole = ap (λ l. hundreds ++ l) (take_all (length text - k) (drop k text) (omega (arith, length-drop k text))) ∙ take-append-drop k text

  cut : Long hundreds twelve
  cut = long_parts hundreds twelve (length-take-le (length text - k) (drop k text) (omega (arith, length-drop k text)) ∙ omega arith)

  is_both : is_timestamp text ≡ all_digits hundreds && is_timestamp twelve
  is_both = sym (ap is_timestamp whole) ∙ cut.is_both

  position_is : position_of text ≡ number hundreds * hundred_hours + position_of twelve
  position_is = sym (ap position_of whole) ∙ cut.position_is

  pub wrong_front : {j : ℕ} → refused j ≡ leading hundreds → refused j ≡ stamp_of text
  wrong_front e =
      let r = no_leading hundreds e in
      ap refused r.0 ∙ no_stamp text (λ t. no_both (all_digits hundreds) (and_left (all_digits hundreds) _ (sym is_both ∙ t)) r.1)

  pub wrong_twelve : {j : ℕ} → refused j ≡ stamp_of twelve → refused j ≡ stamp_of text
  wrong_twelve e =
      let r = refused_stamp twelve e in
      ap refused r.0 ∙ no_stamp text (λ t. no_both (is_timestamp twelve) (and_right (all_digits hundreds) _ (sym is_both ∙ t)) r.1)

  module _ {front last : ℕ} (f : value front ≡ leading hundreds) (l : value last ≡ stamp_of twelve) where
    t : is_timestamp twelve ≡ true
    t = stamp_there twelve l

    d : (all_digits hundreds ≡ true) × Follows (number hundreds) front
    d = are_digits hundreds f

    whole_is : is_timestamp text ≡ true
    whole_is = is_both ∙ ap₂ ◌&&◌ d.0 t

    -- twelve bytes are never beyond the limit
    last_is : last ≡ position_of twelve
    last_is = same_value (l ∙ sym (is_stamp twelve t (omega (arith, cut.below t))))

    pub last_below : last < hundred_hours
    last_below = omega (arith, last_is, cut.below t)

    pub many_hours : 999 < front → value above_limit ≡ stamp_of text
    unfolding stamp_of
    many_hours m =
        let n = d.1.1 m in
        let p : nat_abs last_position < position_of text = omega (arith, position_is) in
        sym (ap (λ t. cond t (value (limited (position_of text))) (refused 13)) whole_is
        ∙ ap₂ (λ a b. value (cond (a || b) above_limit (position_of text))) (le-ltb (position_of text) 0 (omega arith)) (lt-ltb (nat_abs last_position) (position_of text) p))

    pub all_hours : front ≤ 999 → value (front * hundred_hours + last) ≡ stamp_of text
    all_hours m =
        let e : front * hundred_hours + last ≡ position_of text = omega (arith, position_is, ap (λ n. n * hundred_hours) (d.1.0 m), last_is) in
        ap value e ∙ is_stamp text whole_is (omega (arith, e, m, last_below))
