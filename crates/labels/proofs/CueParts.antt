-- What a cue line answers, from its two timestamps.
use Rattle.std.proofs.Common.{◌≡◌, ℕ, List, sym, refl, ◌∙◌, ap₂}
use Rattle.refusal.specs.Outcome.{refused}
use Rattle.labels.specs.CueLines.{CueLine, Timing, between, of_none}
use Rattle.labels.specs.Timings.{timing_of, cuts_of}
use Rattle.labels.specs.Cues.{cue_of, timing_answer, cue_line_answer}

-- a line is a cue line of one start and one end only
pub one_cue :
    (line first second other_first other_second : List ℕ) → CueLine line first second → CueLine line other_first other_second →
    (first ≡ other_first) × (second ≡ other_second)
one_cue line first second other_first other_second c d =
    let a = cuts_of line first second c in
    let b = cuts_of line other_first other_second d in
    (sym a.first_cut ∙ b.first_cut, sym a.second_cut ∙ b.second_cut)

-- a cue line answers what its timestamps make
pub cue_line : (line first second : List ℕ) → CueLine line first second → cue_line_answer line ≡ cue_of first second
unfolding cue_line_answer
cue_line line first second c = go (timing_of line)
  where
    go : (t : Timing line) → timing_answer t ≡ cue_of first second
    go (between f s d) = let e = one_cue line f s first second d c in ap₂ cue_of e.0 e.1
    go (of_none never) = absurd (never first second c)

-- and any other line 13
pub no_cue_line : (line : List ℕ) → ((first second : List ℕ) → CueLine line first second → ⊥) → cue_line_answer line ≡ refused 13
unfolding cue_line_answer
no_cue_line line h = go (timing_of line)
  where
    go : (t : Timing line) → timing_answer t ≡ refused 13
    go (between f s d) = absurd (h f s d)
    go (of_none never) = refl
