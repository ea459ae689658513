use Rattle.std.specs.Prelude.{Err}
use Rattle.refusal.specs.declared.RefusalAt.TheVariants.{At}
use mathlib.Core.Path.{◌≡◌, sym, ap, ◌∙◌}
use mathlib.Core.List.{◌++◌}
use native.Mathlib.Omega.{arith}
use lib.ListN.{length}
use Rattle.text.specs.Decimal.{decimal}
use Rattle.text.proofs.Filled.{stored_as}
use Rattle.constants.specs.Answers.{claim_outcome}
use Rattle.sheet.specs.Report.{space, verdict_text}
use Rattle.sheet.proofs.LineTexts.{put_spaced}
use Rattle.sheet.proofs.lines.put_verdict.Goals as goal

pub returns-in-Err-At : goal.returns-in-Err-At
returns-in-Err-At c =
    let a = decimal c.number-in-Err-At.result in
    let b = decimal c.in-Err-At.n in
    let same : c.args.answer ≡ Err (At c.in-Err-At.why c.in-Err-At.n) = c.in-Err-At.is ∙ ap Err (rw c.in-Err-At.is at c.in-Err-At.field-0-is) in
    let text : a ++ space ++ b ≡ verdict_text (claim_outcome c.args.answer) =
    ap (λ k. decimal k ++ space ++ b) c.number-in-Err-At.ensures ∙ sym (ap (λ o. verdict_text (claim_outcome o)) same) in
    stored_as text
    (put_spaced c.args.at a b c.args.out.now (omega (arith, c.requires, ap length text))
    (c.put_number-behind_number.ensures.place, c.put_number-behind_number.ensures.buffer) (c.put-behind_space.ensures.place, c.put-behind_space.ensures.buffer)
    (c.put_number-in-Err-At.ensures.place, c.put_number-in-Err-At.ensures.buffer))
