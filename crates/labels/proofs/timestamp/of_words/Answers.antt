use Rattle.std.proofs.Common.{arith}
use Rattle.labels.proofs.ClockWords.{high_byte, first_sum, rest_sum, no_room, first_small, decimals, words_stamp}
use Rattle.labels.proofs.timestamp.of_words.Goals as goal

pub returns-then-clock-fraction-ne0 : goal.returns-then-clock-fraction-ne0
returns-then-clock-fraction-ne0 c =
    let s = c.before in
    high_byte s.args.clock s.args.fraction s.ranges.clock.fits s.requires c.if-clock-fraction-ne0.true

pub overflow_add-v : goal.overflow_add-v
overflow_add-v c =
    let s = c.before in
    record { fits = first_sum s.args.clock s.args.fraction s.ranges.clock.fits s.requires c.if-clock-fraction-ne0.false }

pub overflow_add-w : goal.overflow_add-w
overflow_add-w c =
    let s = c.before in
    record { fits = rest_sum s.args.clock s.args.fraction s.ranges.clock.fits s.requires c.if-clock-fraction-ne0.false }

pub returns-then-v-w-ne0 : goal.returns-then-v-w-ne0
returns-then-v-w-ne0 c =
    let s = c.before.before in
    no_room s.args.clock s.args.fraction s.ranges.clock.fits s.requires c.if-v-w-ne0.true

pub pair-requires : goal.pair-requires
pair-requires c =
    let s = c.before.before in
    (first_small s.args.clock s.args.fraction s.ranges.clock.fits s.requires c.if-clock-fraction-ne0.false c.if-v-w-ne0.false, omega arith)

pub pair-requires-2 : goal.pair-requires-2
pair-requires-2 c =
    let s = c.before.before.before in
    (first_small s.args.clock s.args.fraction s.ranges.clock.fits s.requires c.if-clock-fraction-ne0.false c.if-v-w-ne0.false, omega arith)

pub pair-requires-3 : goal.pair-requires-3
pair-requires-3 c =
    let s = c.before.before.before.before in
    (first_small s.args.clock s.args.fraction s.ranges.clock.fits s.requires c.if-clock-fraction-ne0.false c.if-v-w-ne0.false, omega arith)

pub thousandths-requires : goal.thousandths-requires
thousandths-requires c =
    let s = c.before.before.before.before.before in
    decimals s.args.clock s.args.fraction s.ranges.clock.fits s.requires c.if-clock-fraction-ne0.false c.if-v-w-ne0.false

pub returns : goal.returns
returns c =
    let s = c.before.before.before.before.before.before in
    words_stamp s.args.clock s.args.fraction s.ranges.clock.fits s.requires c.if-clock-fraction-ne0.false c.if-v-w-ne0.false
    c.pair-3.ensures c.pair.ensures c.pair-2.ensures c.thousandths.ensures.0
