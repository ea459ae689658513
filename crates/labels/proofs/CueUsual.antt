-- Lines of two timestamps of the same length, with one space on each side of the arrow.
use Rattle.std.proofs.Common.{◌≡◌, ℕ, ◌+◌, ◌-◌, take, true, List, [], ◌∷◌, ◌++◌, length, drop, sym, refl, ap, ◌∙◌, ap₂, arith, length-drop, take-append-drop, take_all, drop-drop}
use Rattle.labels.specs.Digits.{fits}
use Rattle.text.specs.Words.{part_of}
use Rattle.labels.specs.CueLines.{CueLine}
use Rattle.labels.specs.Timings.{usual_gap, marks_fit}
use Rattle.labels.specs.Cues.{cue_line_answer}
use Rattle.refusal.specs.Outcome.{value}
use Rattle.labels.specs.Stamps.{stamp_of, cue_of_stamps, cue_of_both}
use Rattle.labels.proofs.StampNumbers.{stamp_there}
use Rattle.labels.proofs.CueParts.{cue_line}
use Rattle.labels.proofs.CueStamps.{cue_of_texts}

module _ (line : List ℕ) (n : ℕ) (l : length line ≡ n + 5 + n) (gap : fits usual_gap (part_of n 5 line) ≡ true) where
  abbrev first : List ℕ
  first = part_of 0 n line

  abbrev second : List ℕ
  second = take (length line - (n + 5)) (drop (n + 5) line)

  line_is : line ≡ first ++ (usual_gap ++ second)
  line_is =
      sym (take-append-drop n line)
      ∙ ap (λ r. first ++ r)
      (sym (take-append-drop 5 (drop n line))
      ∙ ap₂ ◌++◌ (marks_fit usual_gap (part_of n 5 line) (refl, (refl, (refl, (refl, (refl, tt))))) gap)
      (drop-drop 5 n line ∙ sym (take_all (length line - (n + 5)) (drop (n + 5) line) (omega (arith, l, length-drop (n + 5) line)))))

  pub usual_line : {a b : ℕ} → value a ≡ stamp_of first → value b ≡ stamp_of second → cue_of_stamps a b ≡ cue_line_answer line
  usual_line {a} {b} e f =
      let t = stamp_there first e in
      let u = stamp_there second f in
      let c : CueLine line first second =
      record { before = 32 ∷ []; behind = 32 ∷ []; line_is = line_is; first_is = t; blanks_before = refl; blanks_behind = refl; second_is = u } in
      ap₂ cue_of_both e f ∙ sym (cue_line line first second c ∙ cue_of_texts first second t u)
