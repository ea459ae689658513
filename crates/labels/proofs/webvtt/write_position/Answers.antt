use Rattle.std.proofs.Common.{◌≡◌, false, pos}
use Rattle.numbers.specs.Range.{outside}
use Rattle.numbers.proofs.Between.{natural_within, cast_within}
use Rattle.numbers.proofs.Machine.{answered}
use Rattle.labels.specs.Webvtt.{last_position}
use Rattle.text.proofs.Writing.{renamed, nothing_written}
use Rattle.labels.proofs.Positions.{last_short, out_of_range, labelled, in_range_lem, short_in_range, short_below, long_above}
use Rattle.labels.proofs.webvtt.write_position.Goals as goal
use Rattle.labels.proofs.webvtt.write_position.Goals.{Else-outside, Then-not-outside}

-- the answers of the two tests
is_short : (c : Then-not-outside) → outside (pos 0) last_short c.args.position ≡ false
is_short c =
    let s = c.before.before.before in
    answered (pos 0) last_short s.ranges.position c.outside.ensures c.if-not-outside.true

pub overflow_cast-position : goal.overflow_cast-position
overflow_cast-position c =
    let s = c.before.before.before in
    cast_within s.ranges.position (natural_within 0 last_short s.args.position (is_short c))

pub write-requires : goal.write-requires
write-requires c = short_below c.ranges.position (is_short (goal.at.write-requires c).Then-not-outside)

pub returns-then-not-outside : goal.returns-then-not-outside
returns-then-not-outside c =
    let t = (goal.at.returns-then-not-outside c).Then-not-outside in
    let s = t.before.before.before in
    let both = renamed s.args.out.now (labelled s.ranges.position (short_in_range s.ranges.position (is_short t))) (c.write.ensures.answer, c.write.ensures.buffer) in record { answer = both.0; buffer = both.1 }

pub returns-then-outside : goal.returns-then-outside
returns-then-outside c =
    let s = c.before.before.before.before.before in
    let both = nothing_written s.args.out.now
    (out_of_range s.ranges.position (answered (pos 0) last_position s.ranges.position c.outside-2.ensures c.if-outside.true)) in record { answer = both.0; buffer = both.1 }

in_the_range : (c : Else-outside) → outside (pos 0) last_position c.args.position ≡ false
in_the_range c =
    let s = c.before.before.before.before.before in
    answered (pos 0) last_position s.ranges.position c.outside-2.ensures c.if-outside.false

pub overflow_cast-position-2 : goal.overflow_cast-position-2
overflow_cast-position-2 c =
    let s = c.before.before.before.before.before in
    cast_within s.ranges.position (natural_within 0 last_position s.args.position (in_the_range c))

pub write-requires-2 : goal.write-requires-2
write-requires-2 c =
    let e = (goal.at.write-requires-2 c).Else-outside in
    let s = e.before.before.before.before.before in
    let long = answered (pos 0) last_short s.ranges.position e.outside.ensures e.if-not-outside.false in
    (long_above s.ranges.position long (in_the_range e), in_range_lem s.ranges.position (in_the_range e))

pub returns : goal.returns
returns c =
    let e = (goal.at.returns c).Else-outside in
    let s = e.before.before.before.before.before in
    let both = renamed s.args.out.now (labelled s.ranges.position (in_the_range e)) (c.write-2.ensures.answer, c.write-2.ensures.buffer) in record { answer = both.0; buffer = both.1 }
