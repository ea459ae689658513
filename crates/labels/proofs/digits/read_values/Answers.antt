use Rattle.std.proofs.Common.{◌≡◌, sym, refl, ap, ◌∙◌, arith}
use Rattle.text.specs.Words.{word}
use Rattle.labels.specs.Words.{rooms}
use Rattle.labels.proofs.ShapeWords.{eight_bytes, four_bytes, rooms_are}
use Rattle.labels.proofs.Values.{one_is_wrong, both_are_right}
use Rattle.labels.proofs.digits.read_values.Goals as goal
use Rattle.labels.proofs.digits.read_values.Goals.{After-from_le_bytes-4}

-- the rooms of both shapes as numbers
first_rooms : (c : After-from_le_bytes-4) → c.from_le_bytes-3.result ≡ word (rooms c.args.shape.now)
first_rooms c =
    let m = c.map.ensures.items in
    eight_bytes c.map.result m.long c.from_le_bytes-3.ensures
    ∙ ap word (rooms_are c.args.shape.now c.map.result (m.long ∙ sym c.told-shape) (λ k l. (m.at k 0 0 (omega (arith, c.told-shape))).2.met.0))

second_rooms : (c : After-from_le_bytes-4) → c.from_le_bytes-4.result ≡ word (rooms c.args.other.now)
second_rooms c =
    let m = c.map-2.ensures.items in
    four_bytes c.map-2.result m.long c.from_le_bytes-4.ensures
    ∙ ap word (rooms_are c.args.other.now c.map-2.result (m.long ∙ sym c.told-other) (λ k l. (m.at k 0 0 (omega (arith, c.told-other))).2.met.0))

pub returns-then-first-second-ne0 : goal.returns-then-first-second-ne0
returns-then-first-second-ne0 c =
    let a = c.args in
    one_is_wrong a.shape.now a.first a.other.now a.second c.requires.0 c.requires.1 (eight_bytes a.shape.now c.told-shape c.from_le_bytes.ensures)
    (four_bytes a.other.now c.told-other c.from_le_bytes-2.ensures) (first_rooms c.before) (second_rooms c.before) refl refl c.if-first-second-ne0.true

pub returns : goal.returns
returns c =
    let a = c.args in
    both_are_right a.shape.now a.first a.other.now a.second c.requires.0 c.requires.1 (eight_bytes a.shape.now c.told-shape c.from_le_bytes.ensures)
    (four_bytes a.other.now c.told-other c.from_le_bytes-2.ensures) (first_rooms c.before) (second_rooms c.before) refl refl c.if-first-second-ne0.false
