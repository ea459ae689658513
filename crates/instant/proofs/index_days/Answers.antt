-- No instant is bad and none falls: the list is faultless, or both were looked for and not found.
use Rattle.std.proofs.Common.{◌≡◌, length, arith, sym, ◌∙◌}
use Rattle.std.proofs.lemmas.Grind.{common_steps}
use Rattle.instant.specs.Answers.{first_bad, first_fall}
use Rattle.instant.proofs.Lists.{bad_le, all_good}
use Rattle.instant.proofs.Falls.{fall_le, never_falls}
use Rattle.instant.proofs.Faults.{faultless}
use Rattle.instant.proofs.index_days.Goals as goal
use Rattle.instant.proofs.index_days.Goals.{then-is_faulty+in_default+in_default-first_fall, else-is_faulty}

pub fill_days-requires : goal.fill_days-requires
fill_days-requires c =
    let s = c.args.instants.now in
    let bad : first_bad s ≡ length s =
    elim c.if-is_faulty.branch [
      | then-is_faulty+in_default+in_default-first_fall w ↦
          grind (arith, common_steps, bad_le s, w.first_bad.ensures, w.in_default.not-Some)
      | else-is_faulty w ↦ (faultless s (sym c.is_faulty.ensures ∙ w.if-is_faulty.false)).0
    ]
    in
    let fall : first_fall s ≡ length s =
    elim c.if-is_faulty.branch [
      | then-is_faulty+in_default+in_default-first_fall w ↦
          grind (arith, common_steps, fall_le s, w.first_fall.ensures, w.in_default-first_fall.not-Some)
      | else-is_faulty w ↦ (faultless s (sym c.is_faulty.ensures ∙ w.if-is_faulty.false)).1
    ]
    in
    (c.if-count-days.false, (all_good s bad, never_falls s fall))
