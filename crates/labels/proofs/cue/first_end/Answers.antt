use Rattle.std.proofs.Common.{arith}
use Rattle.labels.proofs.CueRuns.{ends_at_nine, ends_at_twelve, ends_later}
use Rattle.labels.proofs.cue.first_end.Goals as goal

pub returns-then-is_blank : goal.returns-then-is_blank
returns-then-is_blank c =
    let s = c.before.before.before.before in
    (ends_at_nine s.args.line.now s.requires c.is_blank.ensures c.if-is_blank.true, omega arith)

pub returns-then-is_blank-2 : goal.returns-then-is_blank-2
returns-then-is_blank-2 c =
    let s = c.before.before.before.before.before.before.before in
    (ends_at_twelve s.args.line.now s.requires c.is_blank.ensures c.if-is_blank.false c.is_blank-2.ensures c.if-is_blank-2.true, omega arith)

pub returns : goal.returns
returns c =
    let s = c.before.before.before.before.before.before.before.before in
    let r = c.run_end in (
      ends_later s.args.line.now s.requires c.is_blank.ensures c.if-is_blank.false c.is_blank-2.ensures c.if-is_blank-2.false r.ensures.0 r.ensures.1,
      r.ensures.1,
    )
