-- The numbers of the refusals are small.
use Prim.Native.Nat.{◌≤◌}
use native.Mathlib.Omega.{arith}
use Rattle.refusal.specs.Numbers.{refusal_number}
use Rattle.refusal.specs.declared.Refusal.{Refusal}
use Rattle.refusal.specs.declared.Refusal.TheVariants.{YearOutOfRange, MonthOutOfRange, DayOutOfRange, OutOfRange, TimeOutOfRange, PositionOutOfRange, BufferTooShort, MalformedLabel, ConstantOutOfLimits, DifferenceBelowBound, NoDifferenceUpToBound, UnequalLengths, MalformedTiming, ClockOutOfRange, OutOfOrder, WeekOutOfRange, MalformedSheet}

pub number_le : (r : Refusal) → refusal_number r ≤ 17
number_le YearOutOfRange = omega arith
number_le MonthOutOfRange = omega arith
number_le DayOutOfRange = omega arith
number_le OutOfRange = omega arith
number_le TimeOutOfRange = omega arith
number_le PositionOutOfRange = omega arith
number_le BufferTooShort = omega arith
number_le MalformedLabel = omega arith
number_le ConstantOutOfLimits = omega arith
number_le DifferenceBelowBound = omega arith
number_le NoDifferenceUpToBound = omega arith
number_le UnequalLengths = omega arith
number_le MalformedTiming = omega arith
number_le ClockOutOfRange = omega arith
number_le OutOfOrder = omega arith
number_le WeekOutOfRange = omega arith
number_le MalformedSheet = omega arith
