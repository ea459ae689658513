-- A position's label, from the hours and the clock behind them.
use Rattle.std.proofs.Common.{◌≡◌, ℕ, ◌+◌, ◌-◌, ◌*◌, ◌/◌, ◌%◌, ◌^◌, ◌<◌, ◌≤◌, Bool, true, false, cond, ltb, List, [], ◌∷◌, ◌++◌, length, drop, ℤ, pos, nat_abs, sym, refl, ap, ◌∙◌, subst, append_assoc, arith, length-append, to_z-of_z, w64, SFits, ltb-false, ltb-true, lt-ltb}
use native.Mathlib.Nat.{div-div-eq-div-mul}
use Rattle.refusal.specs.Outcome.{value, refused}
use Rattle.numbers.specs.Range.{outside}
use Rattle.numbers.proofs.Between.{natural_within, read_high, inside_pos}
use Rattle.numbers.proofs.Bools.{no_both}
use Rattle.numbers.proofs.Integers.{wider}
use Rattle.numbers.proofs.Machine.{read}
use Rattle.text.specs.Decimal.{digits}
use Rattle.labels.specs.Clock.{colon, clock_text}
use Rattle.text.specs.Words.{word, bytes_of}
use Rattle.text.specs.Filled.{filled, Begins}
use Rattle.labels.specs.PositionPieces.{hundred_hours, short_text}
use Rattle.labels.specs.Webvtt.{last_position, per_hour, per_minute, per_second, hour_digits, clock_of, position_text, position_label}
use Rattle.text.proofs.Decimal.{length_digits, drop_digits}
use Rattle.text.specs.Words.{AllLe}
use Rattle.text.proofs.Words.{drop_le, all_bytes, more_bytes, word_drop}
use Rattle.labels.proofs.DigitWords.{place_100, place_1000}
use Rattle.text.proofs.Filled.{filled_begins, filled_over}

-- ---- the range

-- the last position whose hours have two digits
abbrev pub last_short : ℤ
last_short = pos (hundred_hours - 1)

module _ {z : ℤ} (f : SFits w64 z) where
  pub out_of_range : outside (pos 0) last_position z ≡ true → refused 6 ≡ position_label z
  unfolding position_label
  out_of_range h = rw h

  module _ (h : outside (pos 0) last_position z ≡ false) where
    pub labelled : value (position_text (nat_abs (read z))) ≡ position_label z
    unfolding position_label
    labelled = rw h (ap (λ z. value (position_text (nat_abs z))) (to_z-of_z f))

    pub in_range_lem : nat_abs (read z) ≤ nat_abs last_position
    in_range_lem = read_high f (natural_within 0 last_position z h)

  -- the last position with two digits of hours is in the range, and a position is beyond it or not
  pub short_in_range : outside (pos 0) last_short z ≡ false → outside (pos 0) last_position z ≡ false
  short_in_range h = wider (pos 0) last_short (pos 0) last_position z refl refl h

  pub short_below : outside (pos 0) last_short z ≡ false → nat_abs (read z) < hundred_hours
  short_below h = omega (arith, read_high f (natural_within 0 last_short z h))

  pub long_above : outside (pos 0) last_short z ≡ true → outside (pos 0) last_position z ≡ false → hundred_hours ≤ nat_abs (read z)
  long_above h k = subst (λ (y : ℤ). hundred_hours ≤ nat_abs y) (sym (to_z-of_z f)) (go (ltb (nat_abs z) hundred_hours) refl)
    where
      go : (t : Bool) → ltb (nat_abs z) hundred_hours ≡ t → hundred_hours ≤ nat_abs z
      go false e = ltb-false (nat_abs z) hundred_hours e
      go true e =
          let i = (natural_within 0 last_position z k).is in
          let l = ltb-true (nat_abs z) hundred_hours e in
          no_both (outside (pos 0) last_short z) h (ap (outside (pos 0) last_short) i ∙ inside_pos 0 (nat_abs last_short) (nat_abs z) (omega arith) (omega arith))

-- ---- the clock

-- the minutes, seconds and milliseconds of an hour's milliseconds
pub clock_is :
    (n : ℕ) → clock_text 3 (n % per_hour / 1000 / 60) (n % per_hour / 1000 % 60) (n % per_hour % 1000) ≡ clock_of n
clock_is n =
    let m : n % per_hour / 1000 / 60 ≡ n % per_hour / per_minute = div-div-eq-div-mul (n % per_hour) 1000 60 in
    let s : n % per_hour / 1000 % 60 ≡ n % per_minute / per_second = omega arith in
    let k : n % per_hour % 1000 ≡ n % per_second = omega arith in
    λ i. clock_text 3 (m i) (s i) (k i)

-- the label below 100 hours, by its minutes and what is beyond them
short_hours : (n : ℕ) → n < hundred_hours → hour_digits (n / per_hour) ≡ 2
short_hours n h =
    let below : n / per_hour < 100 = omega arith in
    ap (λ t. cond t 2 (cond (ltb (n / per_hour) 1000) 3 (cond (ltb (n / per_hour) 10000) 4 5))) (lt-ltb (n / per_hour) 100 below)

pub short_text_lem : (n : ℕ) → n < hundred_hours → short_text (n / per_minute) (n % per_minute) ≡ position_text n
short_text_lem n h =
    let hours : n / per_minute / 60 ≡ n / per_hour = div-div-eq-div-mul n per_minute 60 in
    let minute : n / per_minute % 60 ≡ n % per_hour / per_minute = omega arith in
    let fraction : n % per_minute % 1000 ≡ n % per_second = omega arith in
    (λ i. digits (hours i) 2 ++ colon ∷ clock_text 3 (minute i) (n % per_minute / per_second) (fraction i)) ∙ sym (ap (λ k. digits (n / per_hour) k ++ colon ∷ clock_of n) (short_hours n h))

-- ---- the hours

-- the number of digits of the hours, by their size
pub by_hours :
    (P : ℕ → Type 0) (h : ℕ) → (h < 100 → P 2) → (100 ≤ h → h < 1000 → P 3) → (1000 ≤ h → h < 10000 → P 4) → (10000 ≤ h → P 5) → P (hour_digits h)
by_hours P h p2 p3 p4 p5 = go (ltb h 100) (ltb h 1000) (ltb h 10000) refl refl refl
  where
    go : (a b c : Bool) → ltb h 100 ≡ a → ltb h 1000 ≡ b → ltb h 10000 ≡ c → P (cond a 2 (cond b 3 (cond c 4 5)))
    go true b c p q r = p2 (ltb-true h 100 p)
    go false true c p q r = p3 (ltb-false h 100 p) (ltb-true h 1000 q)
    go false false true p q r = p4 (ltb-false h 1000 q) (ltb-true h 10000 r)
    go false false false p q r = p5 (ltb-false h 10000 r)

pub two_to_five : (h : ℕ) → (2 ≤ hour_digits h) × (hour_digits h ≤ 5)
two_to_five h =
    by_hours (λ d. (2 ≤ d) × (d ≤ 5)) h (λ a. (omega arith, omega arith)) (λ a b. (omega arith, omega arith)) (λ a b. (omega arith, omega arith))
    (λ a. (omega arith, omega arith))

pub length_position : (n : ℕ) → length (position_text n) ≡ hour_digits (n / per_hour) + 10
length_position n = length-append (digits (n / per_hour) (hour_digits (n / per_hour))) (colon ∷ clock_of n) ∙ ap (λ l. l + 10) (length_digits (n / per_hour) (hour_digits (n / per_hour)))

pub short_length : (n : ℕ) → n < hundred_hours → length (position_text n) ≡ 12
short_length n h = length_position n ∙ ap (λ d. d + 10) (short_hours n h)

five_digits : (n : ℕ) → n < 100000 → (48 + n / 10000) ∷ digits (n % 10000) 4 ≡ digits n 5
five_digits n h =
    let z : n / 10000 ≡ n / 10 / 10 / 10 / 10 % 10 = rw (place_1000 n, div-div-eq-div-mul n 1000 10) (omega arith) in
    let a : n % 10000 / 10 / 10 / 10 % 10 ≡ n / 10 / 10 / 10 % 10 = rw (place_1000 n, place_1000 (n % 10000)) (omega arith) in
    let b : n % 10000 / 10 / 10 % 10 ≡ n / 10 / 10 % 10 = rw (place_100 n, place_100 (n % 10000)) (omega arith) in
    let d : n % 10000 / 10 % 10 ≡ n / 10 % 10 = omega arith in
    let e : n % 10000 % 10 ≡ n % 10 = omega arith in
    cc

module _ (h : ℕ) {count : ℕ} (c : count ≡ hour_digits h) (buffer : List ℕ) {after : List ℕ} (room : 8 ≤ length buffer) where
  -- five digits in one number, without the first ones
  pub hours_begin :
      h < 100000 → {four : ℕ} → four ≡ word (digits (h % 10000) 4) →
      after ≡ filled 0 (bytes_of 7 ((four * 256 + (48 + h / 10000)) / 2 ^ (8 * (5 - count))) ++ 0 ∷ []) buffer →
      Begins (digits h count) 8 buffer after
  hours_begin l {four} f e =
      let text = digits h count in
      let most : count ≤ 5 = omega (arith, two_to_five h) in
      let k = 5 - count in
      let w : four * 256 + (48 + h / 10000) ≡ word (digits h 5) = omega (arith, f) ∙ ap word (five_digits h l) in
      let a : AllLe 255 (digits h 5) = (omega arith, (omega arith, (omega arith, (omega arith, (omega arith, tt))))) in
      let s : k + count ≡ 5 = omega arith in
      let cut : drop k (digits h 5) ≡ text = ap (λ n. drop k (digits h n)) (sym s) ∙ drop_digits h k count in
      let n = (four * 256 + (48 + h / 10000)) / 2 ^ (8 * k) in
      let v : n ≡ word text = ap (λ w. w / 2 ^ (8 * k)) w ∙ word_drop (digits h 5) k a ∙ ap word cut in
      let b : bytes_of count n ≡ text = all_bytes text v (subst (AllLe 255) cut (drop_le 255 k (digits h 5) a)) (length_digits h count) in
      let m = more_bytes count (7 - count) n in
      let t : 7 - count + count ≡ 7 = omega arith in
      let p : bytes_of 7 n ++ 0 ∷ [] ≡ text ++ (m.0 ++ 0 ∷ []) =
      ap (λ j. bytes_of j n ++ 0 ∷ []) (sym t) ∙ ap (λ l. l ++ 0 ∷ []) (m.1.0 ∙ ap (λ l. l ++ m.0) b) ∙ append_assoc text m.0 (0 ∷ []) in
      filled_begins text (m.0 ++ 0 ∷ []) buffer (e ∙ ap (λ l. filled 0 l buffer) p)
      (omega (arith, length-append text (m.0 ++ 0 ∷ []), length-append m.0 (0 ∷ []), length_digits h count, m.1.1)) room

-- the clock behind the hours makes the label
pub clock_behind :
    (n : ℕ) (before : List ℕ) {count : ℕ} {between after : List ℕ} → count ≡ hour_digits (n / per_hour) → Begins (digits (n / per_hour) count) 8 before between →
    length between ≡ length before → count + 10 ≤ length before → after ≡ filled count (colon ∷ clock_of n) between → after ≡ filled 0 (position_text n) before
clock_behind n before {count} {between} c b l room e =
    let h = n / per_hour in
    let t = length_digits h count in
    e ∙ ap (λ k. filled k (colon ∷ clock_of n) between) (sym t)
    ∙ filled_over (digits h count) (colon ∷ clock_of n) b (omega (arith, t)) (omega (arith, t, l)) (omega (arith, t))
    ∙ ap (λ k. filled 0 (digits h k ++ colon ∷ clock_of n) before) c
