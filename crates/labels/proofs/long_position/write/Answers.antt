use Rattle.std.proofs.Common.{◌+◌, arith}
use Rattle.labels.specs.Webvtt.{position_text}
use Rattle.text.proofs.Writing.{all_written}
use Rattle.labels.proofs.Positions.{length_position, clock_behind}
use Rattle.labels.proofs.long_position.write.Goals as goal

pub returns-clause-buffer : goal.returns-clause-buffer
returns-clause-buffer c =
    let a = c.args in
    let d = c.hour_digits-count.ensures.0 in
    let l = length_position a.n in
    let e = clock_behind a.n a.out.now d c.put_hours.ensures (omega arith) (omega arith) c.put_clock.ensures in
    (all_written (position_text a.n) a.out.now {n = c.hour_digits-count.result + 10} (omega arith) (omega arith) e).1
