-- The parts of a timestamp: `MM:SS.mmm` at its end, and what stands in front of that.
use Rattle.std.proofs.Common.{◌≡◌, ℕ, ◌+◌, ◌-◌, ◌*◌, ◌^◌, ◌<◌, Bool, true, false, ◌&&◌, ◌||◌, eqb, ltb, leb, List, [], ◌∷◌, ◌++◌, length, take, drop, sym, refl, ap, ◌∙◌, subst, ap₂, arith, length-append, take_at, drop_at, ltb-true, eqb-true}
use Rattle.numbers.proofs.Bools.{and_left, and_right}
use Rattle.labels.specs.Clock.{colon, point, clock_text}
use Rattle.text.specs.Decimal.{digits, number}
use Rattle.labels.specs.Digits.{number_at, fits}
use Rattle.labels.specs.Webvtt.{per_hour}
use Rattle.labels.specs.Timestamps.{last_nine, in_front, is_clock, hours_text, are_hours, is_timestamp, clock_value, hours_value, position_of}
use Rattle.text.proofs.Decimal.{number_below, length_digits}
use Rattle.labels.proofs.Shapes.{digits_front, mark_front, fits_nothing}

-- ---- a text whose last nine bytes are given

module _ (front nine : List ℕ) (l : length nine ≡ 9) where
  front_size : length (front ++ nine) - 9 ≡ length front
  front_size = omega (arith, length-append front nine)

  pub front_cut : in_front (front ++ nine) ≡ front
  front_cut = ap (λ n. take n (front ++ nine)) front_size ∙ take_at front nine (length front) refl

  pub nine_cut : last_nine (front ++ nine) ≡ nine
  nine_cut = ap (λ n. drop n (front ++ nine)) front_size ∙ drop_at front nine (length front) refl

  pub timestamp_cut : is_timestamp (front ++ nine) ≡ is_clock nine && (eqb (length front) 0 || are_hours front)
  timestamp_cut = ap₂ (λ f n. is_clock n && (eqb (length f) 0 || are_hours f)) front_cut nine_cut

  pub position_cut : position_of (front ++ nine) ≡ hours_value front * per_hour + clock_value nine
  position_cut = ap₂ (λ f n. hours_value f * per_hour + clock_value n) front_cut nine_cut

-- ---- the numbers of the parts

-- `MM:SS.mmm` is the text of its numbers
pub record ClockParts (text : List ℕ) : Type 0 where
  pub minute_small : number_at 0 2 text < 60
  pub second_small : number_at 3 2 text < 60
  pub fraction_small : number_at 6 3 text < 1000
  pub text_is : text ≡ clock_text 3 (number_at 0 2 text) (number_at 3 2 text) (number_at 6 3 text)

pub clock_parts : (text : List ℕ) → is_clock text ≡ true → ClockParts text
clock_parts text h =
    let f = and_left (fits (clock_text 3 0 0 0) text) _ h in
    let t = and_right (fits (clock_text 3 0 0 0) text) _ h in
    let m = digits_front text 0 (colon ∷ digits 0 2 ++ point ∷ digits 0 3) 2 f in
    let a = mark_front text 2 (digits 0 2 ++ point ∷ digits 0 3) colon refl refl m.1 in
    let s = digits_front text 3 (point ∷ digits 0 3) 2 a.1 in
    let p = mark_front text 5 (digits 0 3) point refl refl s.1 in
    let k = digits_front text 6 [] 3 p.1 in
    let e : text ≡ clock_text 3 (number_at 0 2 text) (number_at 3 2 text) (number_at 6 3 text) =
    m.0 ∙ ap (λ l. digits (number_at 0 2 text) 2 ++ l)
    (a.0 ∙ ap (λ l. colon ∷ l) (s.0 ∙ ap (λ l. digits (number_at 3 2 text) 2 ++ l)
    (p.0 ∙ ap (λ l. point ∷ l) (k.0 ∙ ap (λ l. digits (number_at 6 3 text) 3 ++ l) (fits_nothing (drop 9 text) k.1))))) in
    record {
      minute_small = ltb-true (number_at 0 2 text) 60 (and_left (ltb (number_at 0 2 text) 60) _ t);
      second_small = ltb-true (number_at 3 2 text) 60 (and_right (ltb (number_at 0 2 text) 60) _ t);
      fraction_small = subst (λ n. n < 1000) (sym (ap (number_at 6 3) e)) (number_below (number_at 6 3 text) 3);
      text_is = e;
    }

-- hours and a colon are the text of their number
pub hours_text_lem : (front : List ℕ) → are_hours front ≡ true → front ≡ digits (hours_value front) (length front - 1) ++ colon ∷ []
hours_text_lem front h =
    let n = length front - 1 in
    let f = digits_front front 0 (colon ∷ []) n (and_right (leb 2 n) _ h) in
    let a = mark_front front (0 + n) [] colon refl refl f.1 in
    f.0 ∙ ap (λ l. digits (hours_value front) n ++ l) (a.0 ∙ ap (λ l. colon ∷ l) (fits_nothing (drop (0 + n + 1) front) a.1))

module _ (front : List ℕ) (h : (eqb (length front) 0 || are_hours front) ≡ true) where
  pub hours_digits : hours_text front ≡ digits (hours_value front) (length front - 1)
  hours_digits = go front (eqb (length front) 0) refl h
    where
      go : (l : List ℕ) (t : Bool) → eqb (length l) 0 ≡ t → (t || are_hours l) ≡ true → hours_text l ≡ digits (hours_value l) (length l - 1)
      go [] t e h = refl
      go (b ∷ bs) true e h = let z : length (b ∷ bs) ≡ 0 = eqb-true (length (b ∷ bs)) 0 e in absurd (omega arith)
      go (b ∷ bs) false e h =
          let l = b ∷ bs in
          let n = length l - 1 in
          ap (take n) (hours_text_lem l h) ∙ take_at (digits (hours_value l) n) (colon ∷ []) n (length_digits (hours_value l) n)

  pub hours_below : hours_value front < 10 ^ (length front - 1)
  hours_below = subst (λ n. n < 10 ^ (length front - 1)) (sym (ap number hours_digits)) (number_below (hours_value front) (length front - 1))
