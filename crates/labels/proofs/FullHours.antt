-- Which timestamps are given back byte for byte, those with full hours, and which are of the same position.
use Rattle.std.proofs.Common.{◌≡◌, ℕ, suc, ◌+◌, ◌-◌, ◌*◌, ◌/◌, ◌^◌, ◌<◌, ◌≤◌, Bool, true, false, cond, not, ◌&&◌, ◌||◌, eqb, ltb, ◌↔◌, List, [], ◌∷◌, ◌++◌, length, get_or, ℤ, pos, nat_abs, sym, refl, ap, ◌∙◌, subst, ap₂, arith, lit<, take-append-drop, length-take-le, ltb-true, lt-ltb, ne_eqb, eqb-true}
use native.Mathlib.Nat.{div-div-eq-div-mul, pow-le-pow_right}
use native.Mathlib.Omega.{by_contra}
use borrow.Author.Tests.{eqb-false, not-true}
use lib.ListN.{get_or-append}
use lib.Seq.{append_snoc}
use Rattle.refusal.specs.Outcome.{value}
use Rattle.numbers.proofs.Bools.{and_left, and_right}
use Rattle.numbers.proofs.Between.{natural_within}
use Rattle.labels.specs.Clock.{colon}
use Rattle.text.specs.Decimal.{digits, number}
use Rattle.labels.specs.Webvtt.{last_position, per_hour, hour_digits, clock_of, position_text, position_label}
use Rattle.labels.specs.Timestamps.{last_nine, in_front, hours_text, are_hours, is_timestamp, clock_value, hours_value, position_of}
use Rattle.labels.specs.Timestamps.{has_full_hours, without_zeros, position_answer}
use Rattle.text.proofs.Decimal.{length_digits}
use Rattle.labels.proofs.DigitWords.{place_100, place_1000}
use Rattle.labels.proofs.TimestampParts.{hours_text_lem, hours_digits, hours_below}
use Rattle.labels.proofs.Positions.{by_hours, two_to_five, length_position}
use Rattle.labels.proofs.ReadBack.{position_read_write, clock_back, hours_small, zero_front, has_front, without_front, accepted_parts, parts_back, written}

-- from 100 hours on the first digit is not 0
pub no_leading_zero : (n : ℕ) → n ≤ nat_abs last_position → 100 ≤ n / per_hour → get_or (position_text n) 0 0 ≡ 48 → ⊥
no_leading_zero n last many =
    let h = n / per_hour in
    by_hours (λ w. get_or (digits h w ++ colon ∷ clock_of n) 0 0 ≡ 48 → ⊥) h (λ a e. omega arith)
    (λ a b e. omega (arith, place_100 h)) (λ a b e. omega (arith, place_1000 h)) (λ a e. omega (arith, place_1000 h, div-div-eq-div-mul h 1000 10))

-- a written label has full hours
pub full_written : (n : ℕ) → n ≤ nat_abs last_position → has_full_hours (position_text n) ≡ true
full_written n last = go (eqb (length (position_text n)) 12) refl
  where
    many : (hour_digits (n / per_hour) ≡ 2 → ⊥) → 100 ≤ n / per_hour
    many = by_hours (λ w. (w ≡ 2 → ⊥) → 100 ≤ n / per_hour) (n / per_hour) (λ a f. absurd (f refl)) (λ a b f. a) (λ a b f. omega arith) (λ a f. omega arith)

    go : (t : Bool) → eqb (length (position_text n)) 12 ≡ t → (t || (ltb 12 (length (position_text n)) && not (eqb (get_or (position_text n) 0 0) 48))) ≡ true
    go true e = refl
    go false e =
        let l = length_position n in
        let f : hour_digits (n / per_hour) ≡ 2 → ⊥ = λ two. eqb-false (length (position_text n)) 12 e (omega arith) in
        let m = many f in
        ap₂ (λ a b. a && not b)
        (lt-ltb 12 (length (position_text n)) (by_contra 13 (length (position_text n)) (λ few. f (omega (arith, (two_to_five (n / per_hour)).0)))))
        (ne_eqb (get_or (position_text n) 0 0) 48 (no_leading_zero n last m))

power_less : (a b n : ℕ) → 10 ^ a ≤ n → n < 10 ^ b → a < b
power_less a b n h k =
    by_contra (suc a) b (λ l. let le : b ≤ a = omega arith in let p : 10 ^ b ≤ 10 ^ a = pow-le-pow_right {n = 10} (lit< tt) le in omega arith)

-- the hours have as many digits as they need, and two at least
same_width : (h count : ℕ) → h < 100000 → 2 ≤ count → h < 10 ^ count → (2 < count → 10 ^ (count - 1) ≤ h) → hour_digits h ≡ count
same_width h count small two wide need =
    by_hours (λ w. w ≡ count) h (λ a. go 2 (omega arith) two a) (λ a b. go 3 (omega arith) (more 2 a) b) (λ a b. go 4 (omega arith) (more 3 a) b)
    (λ a. go 5 (omega arith) (more 4 a) small)
  where
    more : (w : ℕ) → 10 ^ w ≤ h → w + 1 ≤ count
    more w a = omega (arith, power_less w count h a wide)

    go : (w : ℕ) → 2 ≤ w → w ≤ count → h < 10 ^ w → w ≡ count
    go w b l a =
        let c : count ≤ w = by_contra count w (λ m. omega (arith, power_less (count - 1) w h (need (omega arith)) a)) in
        omega arith

-- a first digit that is not 0 is needed
first_needed : (h count : ℕ) → 2 < count → (get_or (digits h count) 0 0 ≡ 48 → ⊥) → 10 ^ (count - 1) ≤ h
first_needed h count two f =
    by_contra (10 ^ (count - 1)) h (λ l. let e : count ≡ suc (count - 1) = omega arith in
    f (ap (λ c. get_or (digits h c) 0 0) e ∙ ap (λ l. get_or l 0 0) (zero_front h (count - 1) l)))

-- 12 bytes, or more of them and another first byte than the digit 0
by_length :
    (text : List ℕ) (P : Type 0) → has_full_hours text ≡ true → (length text ≡ 12 → P) → (12 < length text → (get_or text 0 0 ≡ 48 → ⊥) → P) → P
by_length text P h short long = go (eqb (length text) 12) refl h
  where
    go : (t : Bool) → eqb (length text) 12 ≡ t → (t || (ltb 12 (length text) && not (eqb (get_or text 0 0) 48))) ≡ true → P
    go true e h = short (eqb-true (length text) 12 e)
    go false e h =
        long (ltb-true 12 (length text) (and_left (ltb 12 (length text)) _ h))
        (eqb-false (get_or text 0 0) 48 (not-true (eqb (get_or text 0 0) 48) (and_right (ltb 12 (length text)) _ h)))

-- a timestamp with full hours is the label of its position
module _ (text : List ℕ) (h : is_timestamp text ≡ true) where
  front_long : length (in_front text) ≡ length text - 9
  front_long = length-take-le (length text - 9) text (omega arith)

  some_hours : 12 ≤ length text → in_front text ≡ digits (hours_value (in_front text)) (length text - 10) ++ colon ∷ []
  some_hours l = go (eqb (length (in_front text)) 0) refl (has_front text h)
    where
      go : (t : Bool) → eqb (length (in_front text)) 0 ≡ t → (t || are_hours (in_front text)) ≡ true →
          in_front text ≡ digits (hours_value (in_front text)) (length text - 10) ++ colon ∷ []
      go true e a = absurd (omega (arith, front_long, eqb-true (length (in_front text)) 0 e))
      go false e a =
          let c : length (in_front text) - 1 ≡ length text - 10 = omega (arith, front_long) in
          hours_text_lem (in_front text) a ∙ ap (λ c. digits (hours_value (in_front text)) c ++ colon ∷ []) c

  whole_text : 12 ≤ length text → text ≡ digits (hours_value (in_front text)) (length text - 10) ++ colon ∷ last_nine text
  whole_text l =
      sym (take-append-drop (length text - 9) text) ∙ ap (λ f. f ++ last_nine text) (some_hours l)
      ∙ append_snoc (digits (hours_value (in_front text)) (length text - 10)) colon (last_nine text)

  first_byte : 12 < length text → get_or text 0 0 ≡ get_or (digits (hours_value (in_front text)) (length text - 10)) 0 0
  first_byte l =
      let hours = digits (hours_value (in_front text)) (length text - 10) in
      let long : 0 < length hours = omega (arith, length_digits (hours_value (in_front text)) (length text - 10)) in
      ap (λ t. get_or t 0 0) (whole_text (omega arith)) ∙ get_or-append hours (colon ∷ last_nine text) 0 0 long

  full_width : hours_value (in_front text) < 100000 → has_full_hours text ≡ true → 12 ≤ length text → hour_digits (hours_value (in_front text)) ≡ length text - 10
  full_width small f l =
      let hours = hours_value (in_front text) in
      let count = length text - 10 in
      let c : length (in_front text) - 1 ≡ count = omega (arith, front_long) in
      same_width hours count small (omega arith) (subst (λ c. hours < 10 ^ c) c (hours_below (in_front text) (has_front text h)))
      (λ more. by_length text (10 ^ (count - 1) ≤ hours) f (λ e. absurd (omega arith)) (λ m z. first_needed hours count more (λ e. z (first_byte m ∙ e))))

  full_back : hours_value (in_front text) < 100000 → has_full_hours text ≡ true → position_text (position_of text) ≡ text
  full_back small f =
      let l : 12 ≤ length text = by_length text (12 ≤ length text) f (λ e. omega arith) (λ m z. omega arith) in
      ap₂ (λ hours clock. digits hours (hour_digits hours) ++ colon ∷ clock) (parts_back text h).hours_back (clock_back text h)
      ∙ ap (λ count. digits (hours_value (in_front text)) count ++ colon ∷ last_nine text) (full_width small f l)
      ∙ sym (whole_text l)

-- reading a label then writing gives the same bytes exactly if its hours are full
pub same_bytes_exactly :
    (label : List ℕ) (position : ℤ) → position_answer label ≡ value position → (position_label position ≡ value label) ↔ (has_full_hours label ≡ true)
same_bytes_exactly label position e = (there, back)
  where
    there : position_label position ≡ value label → has_full_hours label ≡ true
    there w =
        let p = written position label w in
        ap has_full_hours p.1 ∙ full_written (nat_abs position) (natural_within 0 last_position position p.0).high

    back : has_full_hours label ≡ true → position_label position ≡ value label
    back f =
        let a = accepted_parts label position e in
        position_read_write label position e ∙ ap value (full_back label a.a_timestamp (hours_small label a.a_timestamp a.within) f)

-- ---- the same position

-- zeros in front do not change the number
number_without : (text : List ℕ) → number (without_zeros text) ≡ number text
number_without [] = refl
number_without (b ∷ bs) = go (eqb b 48) refl (number_without bs)
  where
    go : (t : Bool) → eqb b 48 ≡ t → number (without_zeros bs) ≡ number bs → number (cond t (without_zeros bs) (b ∷ bs)) ≡ number (b ∷ bs)
    go true e h = h ∙ ap (λ b. number (b ∷ bs)) (sym (eqb-true b 48 e))
    go false e h = refl

-- the same hours differ in zeros in front only
same_hours :
    (a b : List ℕ) → is_timestamp a ≡ true → is_timestamp b ≡ true → hours_value (in_front a) ≡ hours_value (in_front b) →
    without_zeros (hours_text (in_front a)) ≡ without_zeros (hours_text (in_front b))
same_hours a b f g e =
    let hours = hours_value (in_front a) in
    let k = length (in_front a) - 1 in
    let l = length (in_front b) - 1 in
    let c : l + k ≡ k + l = omega arith in
    ap without_zeros (hours_digits (in_front a) (has_front a f))
    ∙ sym (without_front hours l k (hours_below (in_front a) (has_front a f)))
    ∙ ap (λ c. without_zeros (digits hours c)) c
    ∙ without_front hours k l (subst (λ n. n < 10 ^ l) (sym e) (hours_below (in_front b) (has_front b g)))
    ∙ ap (λ n. without_zeros (digits n l)) e
    ∙ sym (ap without_zeros (hours_digits (in_front b) (has_front b g)))

-- two labels are read as the same position exactly if they differ in zeros in front of the hours, or in hours left out, only
pub same_position_exactly :
    (a b : List ℕ) (p q : ℤ) → position_answer a ≡ value p → position_answer b ≡ value q →
    (p ≡ q) ↔ ((last_nine a ≡ last_nine b) × (without_zeros (hours_text (in_front a)) ≡ without_zeros (hours_text (in_front b))))
same_position_exactly a b p q d e = (there, back)
  where
    there : p ≡ q → (last_nine a ≡ last_nine b) × (without_zeros (hours_text (in_front a)) ≡ without_zeros (hours_text (in_front b)))
    there s =
        let f = accepted_parts a p d in
        let g = accepted_parts b q e in
        let n : position_of a ≡ position_of b = ap nat_abs (sym f.position_is ∙ s ∙ g.position_is) in (
          sym (clock_back a f.a_timestamp) ∙ ap clock_of n ∙ clock_back b g.a_timestamp,
          same_hours a b f.a_timestamp g.a_timestamp
              (sym (parts_back a f.a_timestamp).hours_back ∙ ap (λ n. n / per_hour) n ∙ (parts_back b g.a_timestamp).hours_back),
        )

    back : (last_nine a ≡ last_nine b) × (without_zeros (hours_text (in_front a)) ≡ without_zeros (hours_text (in_front b))) → p ≡ q
    back s =
        (accepted_parts a p d).position_is
        ∙ ap pos (ap₂ (λ h c. h * per_hour + clock_value c)
        (sym (number_without (hours_text (in_front a))) ∙ ap number s.1 ∙ number_without (hours_text (in_front b))) s.0)
        ∙ sym (accepted_parts b q e).position_is
