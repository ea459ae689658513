use Rattle.std.proofs.Common.{◌≡◌, ◌^◌, ◌<◌, take}
use Rattle.text.specs.Decimal.{all_digits}
use Rattle.labels.specs.Stamps.{limited_from}
use Rattle.labels.proofs.timestamp.leading_digits.Given as goal

abbrev pub invariant-loop-byte : goal.invariant-loop-byte
invariant-loop-byte l =
    (l.n < 2 ^ 14) × ((l.n ≡ limited_from 0 (take l.byte-index l.text)) × (l.right ≡ all_digits (take l.byte-index l.text)))
