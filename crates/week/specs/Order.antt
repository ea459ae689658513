-- What the theorems say of week dates; no contract uses it.
use Rattle.std.specs.Prelude.{ℕ, ◌≡◌, true, false, ℤ, pos}
use Rattle.std.specs.Int.Signed.{lt_z}
use Rattle.numbers.specs.Range.{outside}
use Rattle.calendar.specs.declared.Date.{Date}
use Rattle.calendar.specs.Gregorian.{month_length}
use Rattle.week.specs.Week.{week_date, week_date_of}
use Rattle.week.specs.declared.WeekDate.{WeekDate}

-- d is an earlier week date than e
pub data EarlierWeek (d e : WeekDate) : Type 0 where
  by_year : lt_z d.year e.year ≡ true → EarlierWeek d e
  by_week : d.year ≡ e.year → lt_z d.week e.week ≡ true → EarlierWeek d e
  by_weekday : d.year ≡ e.year → d.week ≡ e.week → lt_z d.weekday e.weekday ≡ true → EarlierWeek d e

-- a day, in the range or not, that has the week date
pub record DayOf (year week weekday : ℤ) : Type 0 where
  pub day : ℤ
  pub has : week_date_of day ≡ week_date year week weekday

-- a month and a day of it, of any year
pub record RightDate (d : Date) : Type 0 where
  pub month_inside : outside (pos 1) (pos 12) d.month ≡ false
  pub day_inside : outside (pos 1) (month_length d.year d.month) d.day ≡ false

-- a year has the weeks 1 to last, each of the weekdays 1 to 7, and no other
pub record HasWeeks (year : ℤ) (last : ℕ) : Type 0 where
  pub each : (week weekday : ℤ) → outside (pos 1) (pos last) week ≡ false → outside (pos 1) (pos 7) weekday ≡ false → DayOf year week weekday
  pub week_of : (week weekday : ℤ) → DayOf year week weekday → outside (pos 1) (pos last) week ≡ false
  pub weekday_of : (week weekday : ℤ) → DayOf year week weekday → outside (pos 1) (pos 7) weekday ≡ false
