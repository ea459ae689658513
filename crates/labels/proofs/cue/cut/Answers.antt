use Rattle.labels.proofs.CueCuts.{few_bytes_line, cut_short, no_mark, glued_back, both_there}
use Rattle.labels.proofs.cue.cut.Goals as goal
use Rattle.labels.proofs.cue.cut.Goals.{then-line-arrow_at-lt3-via-then-line-arrow_at-lt3, then-line-arrow_at-lt3-via-else-line-arrow_at-lt3+then-not-has_arrow}

pub returns-then-line-lt-SHORTEST_LINE-clause-told : goal.returns-then-line-lt-SHORTEST_LINE-clause-told
returns-then-line-lt-SHORTEST_LINE-clause-told c = few_bytes_line c.args.line.now c.if-line-lt-SHORTEST_LINE.true

pub returns-then-line-arrow_at-lt3-clause-told : goal.returns-then-line-arrow_at-lt3-clause-told
returns-then-line-arrow_at-lt3-clause-told c =
    let line = c.args.line.now in
    elim c.then-line-arrow_at-lt3.branch [
      | then-line-arrow_at-lt3-via-then-line-arrow_at-lt3 w ↦ cut_short line c.first_end-first_end.ensures.0 c.run_end-arrow_at.ensures.0 w.if-line-arrow_at-lt3.true
      | then-line-arrow_at-lt3-via-else-line-arrow_at-lt3+then-not-has_arrow w ↦ no_mark line c.first_end-first_end.ensures.0 c.run_end-arrow_at.ensures.0
          w.has_arrow.ensures w.if-not-has_arrow.true
    ]

pub returns-then-second_at-arrow_end-clause-told : goal.returns-then-second_at-arrow_end-clause-told
returns-then-second_at-arrow_end-clause-told c =
    glued_back c.args.line.now c.first_end-first_end.ensures.0 c.run_end-arrow_at.ensures.0 c.if-line-arrow_at-lt3.false c.has_arrow.ensures c.if-not-has_arrow.false
    c.run_end-second_at.ensures.0 c.if-second_at-arrow_end.true

pub returns-clause-told : goal.returns-clause-told
returns-clause-told c =
    both_there c.args.line.now c.first_end-first_end.ensures.0 c.run_end-arrow_at.ensures.0 c.if-line-arrow_at-lt3.false c.has_arrow.ensures c.if-not-has_arrow.false
    c.run_end-second_at.ensures.0 c.if-second_at-arrow_end.false
