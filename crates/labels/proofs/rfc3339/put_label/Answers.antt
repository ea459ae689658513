use Rattle.std.proofs.Common.{arith, lit<}
use Rattle.labels.specs.Rfc3339.{decimals}
use Rattle.labels.proofs.Instants.{room_cast, room_below, label_filled}
use Rattle.labels.proofs.rfc3339.put_label.Goals as goal

pub overflow_cast-fields : goal.overflow_cast-fields
overflow_cast-fields c = room_cast 4 (lit< tt) c.args.fields.year c.requires.0.0

pub overflow_cast-fields-2 : goal.overflow_cast-fields-2
overflow_cast-fields-2 c = room_cast 2 (lit< tt) c.args.fields.month c.requires.0.1.month_within

pub overflow_cast-fields-3 : goal.overflow_cast-fields-3
overflow_cast-fields-3 c = room_cast 2 (lit< tt) c.args.fields.day c.requires.0.1.day_within

pub overflow_cast-fields-4 : goal.overflow_cast-fields-4
overflow_cast-fields-4 c = room_cast 2 (lit< tt) c.args.fields.hour c.requires.0.1.hour_within

pub overflow_cast-fields-5 : goal.overflow_cast-fields-5
overflow_cast-fields-5 c = room_cast 2 (lit< tt) c.args.fields.minute c.requires.0.1.minute_within

pub overflow_cast-fields-6 : goal.overflow_cast-fields-6
overflow_cast-fields-6 c = room_cast 2 (lit< tt) c.args.fields.second c.requires.0.1.second_within

pub overflow_cast-fields-7 : goal.overflow_cast-fields-7
overflow_cast-fields-7 c = room_cast decimals (lit< tt) c.args.fields.millisecond c.requires.0.1.fraction_within

pub three_pairs-to_hour-requires : goal.three_pairs-to_hour-requires
three_pairs-to_hour-requires c =
    let f = c.args.fields in
    let n = c.requires.0.1 in
    (room_below 2 (lit< tt) f.month n.month_within, (room_below 2 (lit< tt) f.day n.day_within, room_below 2 (lit< tt) f.hour n.hour_within))

pub put-requires : goal.put-requires
put-requires c =
    let f = c.args.fields in
    let n = c.requires.0.1 in (
      (
        room_below 2 (lit< tt) f.minute n.minute_within,
        (room_below 2 (lit< tt) f.second n.second_within, room_below decimals (lit< tt) f.millisecond n.fraction_within),
      ),
      omega arith,
    )

pub returns : goal.returns
returns c =
    label_filled c.args.fields c.requires.0.0 c.requires.0.1 c.args.out.now c.four.ensures c.store.ensures c.three_pairs-to_hour.ensures c.store-2.ensures c.put.ensures
    c.store-3.ensures
