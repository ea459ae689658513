-- The day, the time of day and the fields of an instant, and the instant of fields: document 01, "Instants and the two labels".
use Rattle.std.specs.Prelude.{ℕ, ◌/◌, ◌%◌, ℤ, pos, ◌+ℤ◌, ◌*ℤ◌}
use Rattle.numbers.specs.Floor.{floor_quotient, floor_remainder}
use Rattle.calendar.specs.Count.{date_of_count, count_of_date}
use Rattle.calendar.specs.declared.Date.{Date}
use Rattle.instant.specs.Units.{per_second, per_minute, per_hour, per_day}
use Rattle.instant.specs.declared.Fields.{Fields}

-- the day: the quotient, rounded toward minus infinity, also below zero
unfoldable pub day_of : (instant : ℤ) → ℤ
day_of instant = floor_quotient instant per_day

-- the time of day: the remainder, from 0 to one less than a day
unfoldable pub time_of : (instant : ℤ) → ℕ
time_of instant = floor_remainder instant per_day

abbrev pub fields_with : (year month day hour minute second millisecond : ℤ) → Fields
fields_with year month day hour minute second millisecond =
    record { year = year; month = month; day = day; hour = hour; minute = minute; second = second; millisecond = millisecond }

-- a date and a time of day as fields
unfoldable pub fields_at : Date → (time : ℕ) → Fields
fields_at d time =
    fields_with d.year d.month d.day (pos (time / per_hour)) (pos (time % per_hour / per_minute)) (pos (time % per_minute / per_second))
    (pos (time % per_second))

-- the fields of an instant
unfoldable pub fields_of : (instant : ℤ) → Fields
fields_of instant = fields_at (date_of_count (day_of instant)) (time_of instant)

-- the time of day of its fields
unfoldable pub time_of_fields : (hour minute second millisecond : ℤ) → ℤ
time_of_fields hour minute second millisecond = hour *ℤ pos per_hour +ℤ minute *ℤ pos per_minute +ℤ second *ℤ pos per_second +ℤ millisecond

-- the instant of a date and a time of day
unfoldable pub instant_at : Date → (time : ℤ) → ℤ
instant_at d time = count_of_date d *ℤ pos per_day +ℤ time
