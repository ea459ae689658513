use Rattle.std.proofs.Common.{◌≡◌, ℕ, ◌+◌, ◌*◌, ◌/◌, ◌%◌, pos, ap, ◌∙◌, arith, w64}
use lib.Bits.{bit_and}
use mir.Facts.{to_z_pos}
use Rattle.refusal.specs.Outcome.{value}
use Rattle.instant.specs.Units.{per_second, per_minute}
use Rattle.labels.specs.Words.{pairs, pair_of, number_of}
use Rattle.labels.proofs.Rooms.{highest}
use Rattle.labels.proofs.Thousandths.{number_small}
use Rattle.labels.proofs.TimesOfDay.{minutes_are, tens_small, small_tens, no_time, time_is}
use Rattle.labels.proofs.clock.time_of_day.Goals as goal
use Rattle.labels.proofs.clock.time_of_day.Goals.{then-minutes-gt1439-via-then-minutes-gt1439, then-minutes-gt1439-via-else-minutes-gt1439+then-clock-ne0}

-- the minutes of the day as the code has them
abbrev minutes : (p : ℕ) → ℕ
minutes p = bit_and p 4278190335 * 1006632961 / 16777216 % 65536

minutes_is : (clock : ℕ) {p : ℕ} → p ≡ pairs clock → minutes p ≡ pair_of clock 0 * 60 + pair_of clock 3
minutes_is clock e = ap minutes e ∙ minutes_are (pairs clock)

-- the tens raised, of which no highest bit may be set
abbrev bits : (clock : ℕ) → ℕ
bits clock = bit_and (clock / 16777216 % 4294967296 + 2046820474) highest

pub returns-then-minutes-gt1439 : goal.returns-then-minutes-gt1439
returns-then-minutes-gt1439 c =
    let s = c in
    let v = s.args.clock in
    let n = minutes_is v c.pairs.ensures in
    no_time (pair_of v 0) (pair_of v 3) (pair_of v 6) (number_of s.args.fraction 4)
    (λ h m k. elim c.then-minutes-gt1439.branch [
      | then-minutes-gt1439-via-then-minutes-gt1439 t ↦ omega (arith, n, t.if-minutes-gt1439.true, h, m)
      | then-minutes-gt1439-via-else-minutes-gt1439+then-clock-ne0 t ↦ absurd (t.if-clock-ne0.true (small_tens s.requires.0 m k))
    ])

pub returns : goal.returns
returns c =
    let s = c in
    let v = s.args.clock in
    let p = c.pairs in
    let m = minutes_is v p.ensures in
    let a = c.if-minutes-gt1439.false in
    let t = tens_small s.requires.0 c.if-clock-ne0.false in
    let b = t.0 in
    let d = t.1 in
    let q = c.pair-seconds.ensures in
    let f = c.thousandths.ensures.0 in
    let k = number_small s.requires.1 in
    let n = minutes p.result * per_minute + c.pair-seconds.result * per_second + c.thousandths.result in
    ap value (to_z_pos w64 {n = n} (omega arith) ∙ ap pos (omega arith))
    ∙ time_is (pair_of v 0) (pair_of v 3) (pair_of v 6) (number_of s.args.fraction 4) (omega arith) b d (omega (arith, k))
