-- The cue of two timestamps, from what the code makes of them.
use Rattle.std.proofs.Common.{◌≡◌, ℕ, ◌≤◌, Bool, true, false, cond, ◌&&◌, ◌||◌, ltb, List, pos, nat_abs, sym, refl, ap, ◌∙◌, ap₂, le-ltb}
use Rattle.refusal.specs.Outcome.{Outcome, value, refused}
use Rattle.numbers.proofs.Bools.{no_both}
use Rattle.labels.specs.Webvtt.{last_position}
use Rattle.labels.specs.Timestamps.{is_timestamp, position_of, position_answer}
use Rattle.labels.specs.Timings.{has_arrow, first_of, second_of, is_cue_line, is_cue, parts}
use Rattle.labels.specs.Cues.{cue_between, cue_of, cue_line_answer}
use Rattle.labels.specs.Stamps.{above_limit, stamp_of, cue_of_both}
use Rattle.labels.specs.declared.webvtt.Cue.{Cue}
use Rattle.labels.proofs.CueParts.{cue_line, no_cue_line}
use Rattle.labels.proofs.StampNumbers.{no_stamp, by_stamp}

-- the order of two positions
abbrev then_order : ℕ → ℕ → Outcome Cue
then_order a b = cond (ltb a b) (value (record { start = pos a; end = pos b })) (refused 13)

-- ---- two timestamps

-- a position in the range is not above it
small : (p : ℕ) → p ≤ nat_abs last_position → ltb 359999999999 p ≡ false
small p h = le-ltb 359999999999 p h

-- the refusals of two positions, then their order
abbrev ordered : (first second : List ℕ) → (t u o r : Bool) → Outcome Cue
ordered first second t u o r =
    cue_between (cond t (cond o (refused 6) (value (pos (position_of first)))) (refused 13))
    (cond u (cond r (refused 6) (value (pos (position_of second)))) (refused 13))

pub cue_of_texts : (first second : List ℕ) → is_timestamp first ≡ true → is_timestamp second ≡ true → cue_of first second ≡ cue_of_both (stamp_of first) (stamp_of second)
unfolding cue_of position_answer
cue_of_texts first second f s =
    by_stamp first (λ t e. no_both (is_timestamp first) f t)
    (λ t o e. by_stamp second (λ u d. no_both (is_timestamp second) s u)
    (λ u r d. (λ i. ordered first second (t i) (u i) (o i) (r i)) ∙ sym (ap₂ cue_of_both e d))
    (λ u r d l. (λ i. ordered first second (t i) (u i) (o i) (r i)) ∙ sym (ap₂ cue_of_both e d)))
    (λ t o e k. by_stamp second (λ u d. no_both (is_timestamp second) s u)
    (λ u r d. (λ i. ordered first second (t i) (u i) (o i) (r i))
    ∙ sym (ap₂ cue_of_both e d ∙ ap (λ w. cond (w || true) (refused 6) (then_order (position_of first) above_limit)) (small (position_of first) k)))
    (λ u r d l. (λ i. ordered first second (t i) (u i) (o i) (r i))
    ∙ sym (ap₂ cue_of_both e d
    ∙ ap₂ (λ v w. cond (v || w) (refused 6) (then_order (position_of first) (position_of second))) (small (position_of first) k) (small (position_of second) l))))

-- ---- a line

pub by_cuts : (line : List ℕ) → cue_line_answer line ≡ cond (has_arrow line) (cue_of_both (stamp_of (first_of line)) (stamp_of (second_of line))) (refused 13)
by_cuts line = go (has_arrow line) refl
  where
    no_line : is_cue_line line ≡ false → cue_line_answer line ≡ refused 13
    no_line e = no_cue_line line (λ first second c. no_both (is_cue_line line) (is_cue line first second c) e)

    none : (text : List ℕ) → is_timestamp text ≡ false → refused 13 ≡ stamp_of text
    none text f = no_stamp text (λ t. no_both (is_timestamp text) t f)

    stamps : (t u : Bool) → is_timestamp (first_of line) ≡ t → is_timestamp (second_of line) ≡ u → has_arrow line ≡ true →
        cue_line_answer line ≡ cue_of_both (stamp_of (first_of line)) (stamp_of (second_of line))
    stamps true true e f a =
        cue_line line (first_of line) (second_of line) (parts line (ap₂ ◌&&◌ a (ap₂ ◌&&◌ e f))) ∙ cue_of_texts (first_of line) (second_of line) e f
    stamps false u e f a =
        no_line (ap₂ ◌&&◌ a (ap (λ t. t && is_timestamp (second_of line)) e))
        ∙ ap (λ n. cue_of_both n (stamp_of (second_of line))) (no_stamp (first_of line) (λ t. no_both (is_timestamp (first_of line)) t e))
    stamps true false e f a =
        no_line (ap₂ ◌&&◌ a (ap₂ ◌&&◌ e f))
        ∙ by_stamp (first_of line) (λ t d. no_both (is_timestamp (first_of line)) e t)
        (λ t o d. sym (ap₂ cue_of_both d (sym (none (second_of line) f)))) (λ t o d l. sym (ap₂ cue_of_both d (sym (none (second_of line) f))))

    go : (a : Bool) → has_arrow line ≡ a → cue_line_answer line ≡ cond a (cue_of_both (stamp_of (first_of line)) (stamp_of (second_of line))) (refused 13)
    go true a = stamps (is_timestamp (first_of line)) (is_timestamp (second_of line)) refl refl a
    go false a = no_line (ap (λ a. a && (is_timestamp (first_of line) && is_timestamp (second_of line))) a)
