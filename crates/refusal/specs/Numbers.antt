-- The number of each refusal: document 01, "The numbered refusals", and from 13 on document 02, whose "numbers added here .. join" them.
use Rattle.std.specs.Prelude.{ℕ}
use Rattle.refusal.specs.declared.Refusal.{Refusal}
use Rattle.refusal.specs.declared.Refusal.TheVariants.{YearOutOfRange, MonthOutOfRange, DayOutOfRange, OutOfRange, TimeOutOfRange, PositionOutOfRange, BufferTooShort, MalformedLabel, ConstantOutOfLimits, DifferenceBelowBound, NoDifferenceUpToBound, UnequalLengths, MalformedTiming, ClockOutOfRange, OutOfOrder, WeekOutOfRange, MalformedSheet}

abbrev pub refusal_number : Refusal → ℕ
refusal_number YearOutOfRange = 1
refusal_number MonthOutOfRange = 2
refusal_number DayOutOfRange = 3
refusal_number OutOfRange = 4
refusal_number TimeOutOfRange = 5
refusal_number PositionOutOfRange = 6
refusal_number BufferTooShort = 7
refusal_number MalformedLabel = 8
refusal_number ConstantOutOfLimits = 9
refusal_number DifferenceBelowBound = 10
refusal_number NoDifferenceUpToBound = 11
refusal_number UnequalLengths = 12
refusal_number MalformedTiming = 13
refusal_number ClockOutOfRange = 14
refusal_number OutOfOrder = 15
refusal_number WeekOutOfRange = 16
refusal_number MalformedSheet = 17
