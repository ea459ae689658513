-- The blanks of a line, or the bytes between them, and where the first timestamp ends.
use Rattle.std.proofs.Common.{◌≡◌, ℕ, zero, suc, ◌+◌, ◌<◌, ◌≤◌, Bool, true, false, cond, not, List, [], ◌∷◌, length, get_or, take, drop, sym, refl, ap, ◌∙◌, arith, length-take-le}
use mathlib.Core.Bool.{beq}
use borrow.Author.Tests.{not-true, ltb-false}
use Rattle.std.proofs.Common.{Option, ltb}
use Rattle.std.specs.Option.{unwrap_or}
use Rattle.std.specs.List.{position, position_or_len}
use Rattle.labels.specs.CueLines.{is_blank}
use Rattle.labels.specs.Timestamps.{is_timestamp}
use Rattle.labels.specs.Timings.{same, run, run_le, AllAre, stamp_solid, EndsFirst}
use Rattle.labels.proofs.StampRead.{stamp_length}

-- a run goes to the first byte that is not of its kind
abbrev pub other : (blank : Bool) (byte : ℕ) → Bool
other blank byte = not (beq (is_blank byte) blank)

pub run_is : (blank : Bool) (text : List ℕ) → position_or_len (other blank) text ≡ run blank text
run_is blank [] = refl
run_is blank (b ∷ bs) = go (is_blank b) blank (run_is blank bs)
  where
    go : (t k : Bool) {m n : ℕ} → m ≡ n → cond (not (not (beq t k))) (1 + m) 0 ≡ cond (same k t) (suc n) 0
    go true true e = omega arith
    go true false e = refl
    go false true e = refl
    go false false e = omega arith

pub run_found : (blank : Bool) (text : List ℕ) (r : Option ℕ) → r ≡ position (other blank) text → unwrap_or r (length text) ≡ run blank text
run_found blank text r e = ap (λ r. unwrap_or r (length text)) e ∙ go (ltb (run blank text) (length text)) refl
  where
    go : (t : Bool) → ltb (run blank text) (length text) ≡ t → unwrap_or (position (other blank) text) (length text) ≡ run blank text
    go true h = rw (run_is blank text, h) refl
    go false h = rw (run_is blank text, h) (omega (arith, ltb-false (run blank text) (length text) h, run_le blank text))

-- ---- the bytes in front of the first blank

front_run : (b : ℕ) (bs : List ℕ) (t : Bool) → is_blank b ≡ t → run false (b ∷ bs) ≡ cond (not t) (suc (run false bs)) 0
front_run b bs t e = ap (λ t. cond (not t) (suc (run false bs)) 0) e

-- they end at a blank, and not before another byte
blank_stops : (line : List ℕ) (i : ℕ) → i < length line → is_blank (get_or line i 0) ≡ true → run false line ≤ i
blank_stops [] i h e = absurd (omega arith)
blank_stops (b ∷ bs) zero h e = omega (arith, front_run b bs true e)
blank_stops (b ∷ bs) (suc i) h e = step (is_blank b) refl (blank_stops bs i (omega arith) e)
  where
    step : (t : Bool) → is_blank b ≡ t → run false bs ≤ i → run false (b ∷ bs) ≤ suc i
    step true f l = omega (arith, front_run b bs true f)
    step false f l = omega (arith, front_run b bs false f)

pub solid_goes_on : (line : List ℕ) (i : ℕ) → i < length line → is_blank (get_or line i 0) ≡ false → run false line ≡ i → ⊥
solid_goes_on [] i h e r = omega arith
solid_goes_on (b ∷ bs) zero h e r = omega (arith, front_run b bs false e)
solid_goes_on (b ∷ bs) (suc i) h e r = step (is_blank b) refl (solid_goes_on bs i (omega arith) e)
  where
    step : (t : Bool) → is_blank b ≡ t → (run false bs ≡ i → ⊥) → ⊥
    step true f never = omega (arith, front_run b bs true f)
    step false f never = never (omega (arith, front_run b bs false f))

-- as many bytes as are known to be no blanks
solid_run : (line : List ℕ) (k : ℕ) → k ≤ length line → AllAre false (take k line) → k ≤ run false line
solid_run line zero h a = omega arith
solid_run [] (suc k) h a = absurd (omega arith)
solid_run (b ∷ bs) (suc k) h a =
    let l = solid_run bs k (omega arith) a.1 in
    omega (arith, front_run b bs false (not-true (is_blank b) a.0))

run_from : (line : List ℕ) (k : ℕ) → k ≤ run false line → run false line ≡ k + run false (drop k line)
run_from line zero h = omega arith
run_from [] (suc k) h = absurd (omega arith)
run_from (b ∷ bs) (suc k) h = step (is_blank b) refl (run_from bs k)
  where
    step : (t : Bool) → is_blank b ≡ t → (k ≤ run false bs → run false bs ≡ k + run false (drop k bs)) → run false (b ∷ bs) ≡ suc k + run false (drop k bs)
    step true f next = absurd (omega (arith, h, front_run b bs true f))
    step false f next = let l = front_run b bs false f in l ∙ omega (arith, next (omega (arith, h, l)))

-- ---- where the first timestamp ends

module _ (line : List ℕ) where
  abbrev end : ℕ
  end = run false line

  -- nine bytes, or twelve and more
  there : {G : Type 0} → is_timestamp (take end line) ≡ true → (end ≡ 9 → G) → (12 ≤ end → G) → G
  there t nine more =
      let l = length-take-le end line (run_le false line) in
      stamp_length (take end line) t (λ e. nine (sym l ∙ e)) (λ h. more (omega (arith, l, h)))

  taken : (k : ℕ) → k ≤ length line → is_timestamp (take k line) ≡ true → k ≤ end
  taken k h t = solid_run line k h (stamp_solid (take k line) t)

  module _ (long : 13 ≤ length line) {u : Bool} (e : u ≡ is_blank (get_or line 9 0)) where
    pub ends_at_nine : u ≡ true → EndsFirst line 9
    ends_at_nine b =
        let s = blank_stops line 9 (omega arith) (sym e ∙ b) in
        record {
          if_there = λ t. there t (λ n. sym n) (λ m. absurd (omega arith));
          if_taken = λ t. omega (arith, s, taken 9 (omega arith) t);
        }

    module _ (b : u ≡ false) {v : Bool} (f : v ≡ is_blank (get_or line 12 0)) where
      past_nine : end ≡ 9 → ⊥
      past_nine = solid_goes_on line 9 (omega arith) (sym e ∙ b)

      pub ends_at_twelve : v ≡ true → EndsFirst line 12
      ends_at_twelve c =
          let s = blank_stops line 12 (omega arith) (sym f ∙ c) in
          record {
            if_there = λ t. there t (λ n. absurd (past_nine n)) (λ m. omega arith);
            if_taken = λ t. omega (arith, s, taken 12 (omega arith) t);
          }

      pub ends_later : v ≡ false → {r : ℕ} → r ≡ 13 + run false (drop 13 line) → r ≤ length line → EndsFirst line r
      ends_later c {r} g h =
          let past-twelve = solid_goes_on line 12 (omega arith) (sym f ∙ c) in
          record {
            if_there = λ t. there t (λ n. absurd (past_nine n)) (λ m. g ∙ sym (run_from line 13 (omega (arith, past-twelve, m))));
            if_taken = λ t. g ∙ sym (run_from line 13 (omega (arith, g, taken r h t)));
          }
