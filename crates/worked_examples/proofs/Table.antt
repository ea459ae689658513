-- The starred rows of document 01, "Numbers to try", as one checked table of theorems about the definitions; then two labels of the
-- other rows, and rows of document 02.
use mathlib.Core.Path.{◌≡◌, refl, ap}
use mathlib.Core.List.{[], ◌∷◌}
use lib.Dec.{lit≤}
use native.Mathlib.Omega.{arith}
use lib.IntN.{ℤ, pos, negsuc, nat_abs}
use Rattle.refusal.specs.Outcome.{value, refused, refused_at, and_then}
use Rattle.numbers.specs.Range.{since}
use Rattle.calendar.specs.Range.{first_count}
use Rattle.calendar.specs.Gregorian.{date_of}
use Rattle.calendar.specs.Count.{date_of_count, weekday}
use Rattle.calendar.specs.Answers.{leap_answer, civil_answer, weekday_answer}
use Rattle.calendar.specs.Closed.{base_year, leap_day, leapℕ, leaps, start, month_days, before, day_number}
use Rattle.calendar.proofs.Laws.{date_at, first_count_is_first_date, last_count_is_last_date}
use Rattle.calendar.proofs.Epoch.{civil_at, new_year_0}
use Rattle.week.specs.Week.{week_date}
use Rattle.week.specs.Answers.{first_week_year, last_week_year, week_answer, week_days_answer}
use Rattle.week.specs.Closed.{first_day, first_week, weeks}
use Rattle.week.specs.Closed as week
use Rattle.week.proofs.Weeks.{week_date_in}
use Rattle.week.proofs.Answers.{no_week}
use Rattle.week.proofs.Laws.{day_is_answered, days_of_week}
use Rattle.instant.specs.Instant.{day_of, time_of, fields_of, fields_at}
use Rattle.instant.specs.Answers.{first_bad, first_fall, day_answer, split_answer, index_days_answer}
use Rattle.labels.specs.Rfc3339.{numbers_text, fields_label, instant_label, read_answer}
use Rattle.labels.specs.IsoWeek.{week_text, week_date_label, week_label, read_week_answer}
use Rattle.labels.specs.Webvtt.{position_label}
use Rattle.labels.specs.Timestamps.{position_answer}
use Rattle.labels.specs.Cues.{cue_of, cue_line_answer}
use Rattle.labels.proofs.Laws.{write_read, label_exactly}
use Rattle.labels.proofs.WeekLaws.{write_read_week}
use Rattle.labels.proofs.CueParts.{cue_line}
use Rattle.constants.specs.Difference.{exact_quotient, device_quotient, differs}
use Rattle.constants.specs.Least.{at, least_below}
use Rattle.constants.specs.Limits.{outside_limits}
use Rattle.constants.specs.Answers.{difference, difference_answer}
use Rattle.constants.proofs.Laws.{found_early}
use Rattle.transport.specs.Answers.{follow_answer}
use Rattle.std.specs.declared.option.Option.TheVariants.{Some}

leap_day_0_row : civil_answer (negsuc 719468) ≡ value (date_of (pos 0) (pos 2) (pos 29))
unfolding day_number start leaps leap_day leapℕ before month_days
leap_day_0_row = civil_at (negsuc 719468) (since base_year (pos 0)) 2 29 tt tt tt tt refl refl

after_leap_day_0_row : civil_answer (negsuc 719467) ≡ value (date_of (pos 0) (pos 3) (pos 1))
unfolding day_number start leaps leap_day leapℕ before month_days
after_leap_day_0_row = civil_at (negsuc 719467) (since base_year (pos 0)) 3 1 tt tt tt tt refl refl

february_1900_row : civil_answer (negsuc 25508) ≡ value (date_of (pos 1900) (pos 2) (pos 28))
unfolding day_number start leaps leap_day leapℕ before month_days
february_1900_row = civil_at (negsuc 25508) (since base_year (pos 1900)) 2 28 tt tt tt tt refl refl

march_1900_row : civil_answer (negsuc 25507) ≡ value (date_of (pos 1900) (pos 3) (pos 1))
unfolding day_number start leaps leap_day leapℕ before month_days
march_1900_row = civil_at (negsuc 25507) (since base_year (pos 1900)) 3 1 tt tt tt tt refl refl

before_epoch_row : civil_answer (negsuc 0) ≡ value (date_of (pos 1969) (pos 12) (pos 31))
unfolding day_number start leaps leap_day leapℕ before month_days
before_epoch_row = civil_at (negsuc 0) (since base_year (pos 1969)) 12 31 tt tt tt tt refl refl

leap_day_2000_row : civil_answer (pos 11016) ≡ value (date_of (pos 2000) (pos 2) (pos 29))
unfolding day_number start leaps leap_day leapℕ before month_days
leap_day_2000_row = civil_at (pos 11016) (since base_year (pos 2000)) 2 29 tt tt tt tt refl refl

february_2100_row : civil_answer (pos 47540) ≡ value (date_of (pos 2100) (pos 2) (pos 28))
unfolding day_number start leaps leap_day leapℕ before month_days
february_2100_row = civil_at (pos 47540) (since base_year (pos 2100)) 2 28 tt tt tt tt refl refl

march_2100_row : civil_answer (pos 47541) ≡ value (date_of (pos 2100) (pos 3) (pos 1))
unfolding day_number start leaps leap_day leapℕ before month_days
march_2100_row = civil_at (pos 47541) (since base_year (pos 2100)) 3 1 tt tt tt tt refl refl

year_9999_row : civil_answer (pos 2932896) ≡ value (date_of (pos 9999) (pos 12) (pos 31))
unfolding day_number start leaps leap_day leapℕ before month_days
year_9999_row = civil_at (pos 2932896) (since base_year (pos 9999)) 12 31 tt tt tt tt refl refl

-- each n up to the difference is asked
tenth_row : difference_answer (pos 1) (pos 0) (pos 10) (pos 26) (pos 0) (pos 8) (pos 0) (pos 4294967295) ≡ value (at 69)
unfolding outside_limits difference differs exact_quotient device_quotient least_below
tenth_row = found_early (pos 1) (pos 0) (pos 10) (pos 26) (pos 0) (pos 8) (pos 0) (pos 4294967295) refl 70 69 refl (lit≤ tt)

tenth_within_one_row : difference_answer (pos 1) (pos 0) (pos 10) (pos 26) (pos 0) (pos 8) (pos 1) (pos 4294967295) ≡ value (at 709)
unfolding outside_limits difference differs exact_quotient device_quotient least_below
tenth_within_one_row = found_early (pos 1) (pos 0) (pos 10) (pos 26) (pos 0) (pos 8) (pos 1) (pos 4294967295) refl 710 709 refl (lit≤ tt)

tenth_too_small_row : difference_answer (pos 1) (pos 0) (pos 10) (pos 25) (pos 0) (pos 8) (pos 0) (pos 4294967295) ≡ value (at 10)
unfolding outside_limits difference differs exact_quotient device_quotient least_below
tenth_too_small_row = found_early (pos 1) (pos 0) (pos 10) (pos 25) (pos 0) (pos 8) (pos 0) (pos 4294967295) refl 11 10 refl (lit≤ tt)

month_row : difference_answer (pos 5) (pos 461) (pos 153) (pos 2141) (pos 197913) (pos 16) (pos 0) (pos 4294967295) ≡ value (at 734)
unfolding outside_limits difference differs exact_quotient device_quotient least_below
month_row = found_early (pos 5) (pos 461) (pos 153) (pos 2141) (pos 197913) (pos 16) (pos 0) (pos 4294967295) refl 735 734 refl (lit≤ tt)

pub record StarredRows : Type 0 where
  pub year_0 : (civil_answer (negsuc 719527) ≡ value (date_of (pos 0) (pos 1) (pos 1))) × (weekday_answer (negsuc 719527) ≡ value (pos 6))
  pub leap_day_0 : civil_answer (negsuc 719468) ≡ value (date_of (pos 0) (pos 2) (pos 29))
  pub after_leap_day_0 : civil_answer (negsuc 719467) ≡ value (date_of (pos 0) (pos 3) (pos 1))
  pub february_1900 : civil_answer (negsuc 25508) ≡ value (date_of (pos 1900) (pos 2) (pos 28))
  pub march_1900 : civil_answer (negsuc 25507) ≡ value (date_of (pos 1900) (pos 3) (pos 1))
  pub before_epoch : (civil_answer (negsuc 0) ≡ value (date_of (pos 1969) (pos 12) (pos 31))) × (weekday_answer (negsuc 0) ≡ value (pos 3))
  pub leap_day_2000 : civil_answer (pos 11016) ≡ value (date_of (pos 2000) (pos 2) (pos 29))
  pub february_2100 : civil_answer (pos 47540) ≡ value (date_of (pos 2100) (pos 2) (pos 28))
  pub march_2100 : civil_answer (pos 47541) ≡ value (date_of (pos 2100) (pos 3) (pos 1))
  pub year_9999 : (civil_answer (pos 2932896) ≡ value (date_of (pos 9999) (pos 12) (pos 31))) × (weekday_answer (pos 2932896) ≡ value (pos 5))
  pub day_before_epoch : day_answer (negsuc 86399999) ≡ value (negsuc 0)
  pub two_days_before_epoch : day_answer (negsuc 86400000) ≡ value (negsuc 1)
  -- a=1 b=0 d=10 m=26 c=0 k=8, t=0 and t=1; m=25; and a month step of source document 000
  pub tenth : difference_answer (pos 1) (pos 0) (pos 10) (pos 26) (pos 0) (pos 8) (pos 0) (pos 4294967295) ≡ value (at 69)
  pub tenth_within_one : difference_answer (pos 1) (pos 0) (pos 10) (pos 26) (pos 0) (pos 8) (pos 1) (pos 4294967295) ≡ value (at 709)
  pub tenth_too_small : difference_answer (pos 1) (pos 0) (pos 10) (pos 25) (pos 0) (pos 8) (pos 0) (pos 4294967295) ≡ value (at 10)
  pub month : difference_answer (pos 5) (pos 461) (pos 153) (pos 2141) (pos 197913) (pos 16) (pos 0) (pos 4294967295) ≡ value (at 734)

pub table : StarredRows
unfolding day_answer day_of weekday_answer weekday
table =
    record {
      year_0 = (new_year_0, refl);
      leap_day_0 = leap_day_0_row;
      after_leap_day_0 = after_leap_day_0_row;
      february_1900 = february_1900_row;
      march_1900 = march_1900_row;
      before_epoch = (before_epoch_row, refl);
      leap_day_2000 = leap_day_2000_row;
      february_2100 = february_2100_row;
      march_2100 = march_2100_row;
      year_9999 = (year_9999_row, refl);
      day_before_epoch = refl;
      two_days_before_epoch = refl;
      tenth = tenth_row;
      tenth_within_one = tenth_within_one_row;
      tenth_too_small = tenth_too_small_row;
      month = month_row;
    }

-- ---- two of the other rows, so that the order of a label's fields is shown of the definitions too

day_19487 : date_of_count (pos 19487) ≡ date_of (pos 2023) (pos 5) (pos 10)
unfolding date_of_count day_number start leaps leap_day leapℕ before month_days
day_19487 =
    date_at (since first_count (pos 19487)) (since base_year (pos 2023)) 5 10
    (record { month_low = lit≤ tt; month_high = lit≤ tt; day_low = lit≤ tt; day_high = lit≤ tt })
    refl

-- `2023-05-10T14:30:00.000Z`
pub instant_label_row :
    instant_label (pos 1683729000000)
    ≡ value (50 ∷ 48 ∷ 50 ∷ 51 ∷ 45 ∷ 48 ∷ 53 ∷ 45 ∷ 49 ∷ 48 ∷ 84 ∷ 49 ∷ 52 ∷ 58 ∷ 51 ∷ 48 ∷ 58 ∷ 48 ∷ 48 ∷ 46 ∷ 48 ∷ 48 ∷ 48 ∷ 90 ∷ [])
unfolding instant_label split_answer fields_of fields_at day_of time_of numbers_text
instant_label_row = ap (λ d. fields_label (fields_at d (time_of (pos 1683729000000)))) day_19487

-- `2023-05-10t14:30:00.000z`, document 02, request Three
pub small_letters_row :
    read_answer (50 ∷ 48 ∷ 50 ∷ 51 ∷ 45 ∷ 48 ∷ 53 ∷ 45 ∷ 49 ∷ 48 ∷ 116 ∷ 49 ∷ 52 ∷ 58 ∷ 51 ∷ 48 ∷ 58 ∷ 48 ∷ 48 ∷ 46 ∷ 48 ∷ 48 ∷ 48 ∷ 122 ∷ [])
    ≡ value (pos 1683729000000)
unfolding read_answer
small_letters_row = write_read (pos 1683729000000) _ instant_label_row

-- `1191:02:47.296`
pub position_label_row : position_label (pos 4287767296) ≡ value (49 ∷ 49 ∷ 57 ∷ 49 ∷ 58 ∷ 48 ∷ 50 ∷ 58 ∷ 52 ∷ 55 ∷ 46 ∷ 50 ∷ 57 ∷ 54 ∷ [])
unfolding position_label
position_label_row = refl

-- ---- document 02, request One: `01:02.003` reads as 62003 and is written `00:01:02.003`; and a cue line

pub timestamp_row : position_answer (48 ∷ 49 ∷ 58 ∷ 48 ∷ 50 ∷ 46 ∷ 48 ∷ 48 ∷ 51 ∷ []) ≡ value (pos 62003)
unfolding position_answer
timestamp_row = refl

pub written_row : position_label (pos 62003) ≡ value (48 ∷ 48 ∷ 58 ∷ 48 ∷ 49 ∷ 58 ∷ 48 ∷ 50 ∷ 46 ∷ 48 ∷ 48 ∷ 51 ∷ [])
unfolding position_label
written_row = refl

-- `00:01.000 --> 00:02.500`
pub cue_row :
    cue_line_answer (48 ∷ 48 ∷ 58 ∷ 48 ∷ 49 ∷ 46 ∷ 48 ∷ 48 ∷ 48 ∷ 32 ∷ 45 ∷ 45 ∷ 62 ∷ 32 ∷ 48 ∷ 48 ∷ 58 ∷ 48 ∷ 50 ∷ 46 ∷ 53 ∷ 48 ∷ 48 ∷ [])
    ≡ value (record { start = pos 1000; end = pos 2500 })
unfolding cue_of position_answer
cue_row =
    cue_line (48 ∷ 48 ∷ 58 ∷ 48 ∷ 49 ∷ 46 ∷ 48 ∷ 48 ∷ 48 ∷ 32 ∷ 45 ∷ 45 ∷ 62 ∷ 32 ∷ 48 ∷ 48 ∷ 58 ∷ 48 ∷ 50 ∷ 46 ∷ 53 ∷ 48 ∷ 48 ∷ [])
    (48 ∷ 48 ∷ 58 ∷ 48 ∷ 49 ∷ 46 ∷ 48 ∷ 48 ∷ 48 ∷ []) (48 ∷ 48 ∷ 58 ∷ 48 ∷ 50 ∷ 46 ∷ 53 ∷ 48 ∷ 48 ∷ [])
    (record {
      before = 32 ∷ [];
      behind = 32 ∷ [];
      line_is = refl;
      first_is = refl;
      blanks_before = refl;
      blanks_behind = refl;
      second_is = refl;
    })

-- ---- document 02, request Four: 2100-02-28 is a Sunday

pub sunday_row : weekday_answer (pos 47540) ≡ value (pos 7)
unfolding weekday_answer weekday
sunday_row = refl

-- ---- document 02, request Five: past the wrap; and half a wrap, which goes backwards

pub wrap_row : follow_answer (Some (pos 8589934500)) (pos 2910) ≡ value (record { ticks = pos 8589937502; milliseconds = pos 95443750 })
unfolding follow_answer
wrap_row = refl

pub half_a_wrap_row : follow_answer (Some (pos 8589934592)) (pos 4294967296) ≡ value (record { ticks = pos 4294967296; milliseconds = pos 47721858 })
unfolding follow_answer
half_a_wrap_row = refl

-- ---- document 02, request Six: the later one's place; and a fall in front of a bad instant, which is refused with 4

pub fall_row : index_days_answer (pos 0 ∷ pos 86400000 ∷ pos 86399999 ∷ []) (pos 7 ∷ pos 7 ∷ pos 7 ∷ []) ≡ refused_at 15 2
unfolding index_days_answer first_bad first_fall
fall_row = refl

pub bad_instant_row : index_days_answer (pos 1 ∷ pos 0 ∷ pos 947655244800000 ∷ []) (pos 7 ∷ pos 7 ∷ pos 7 ∷ []) ≡ refused_at 4 2
unfolding index_days_answer first_bad first_fall
bad_instant_row = refl

-- ---- document 02, request Seven: 2023-05-10, 2020-12-31 and 2021-01-01; day -719528; and a week that the year -1 does not have

pub week_row : week_answer (pos 19487) ≡ value (week_date (pos 2023) (pos 19) (pos 3))
unfolding week_answer first_day start leaps
week_row = ap value (week_date_in (pos 19487) (since week.base_year (pos 2023)) tt tt refl)

pub week_53_row : week_answer (pos 18627) ≡ value (week_date (pos 2020) (pos 53) (pos 4))
unfolding week_answer first_day start leaps
week_53_row = ap value (week_date_in (pos 18627) (since week.base_year (pos 2020)) tt tt refl)

pub new_year_row : week_answer (pos 18628) ≡ value (week_date (pos 2020) (pos 53) (pos 5))
unfolding week_answer first_day start leaps
new_year_row = ap value (week_date_in (pos 18628) (since week.base_year (pos 2020)) tt tt refl)

pub week_of_year_0_row : week_answer (negsuc 719527) ≡ value (week_date (negsuc 0) (pos 52) (pos 6))
unfolding week_answer first_day start leaps
week_of_year_0_row = ap value (week_date_in (negsuc 719527) (since week.base_year (negsuc 0)) tt tt refl)

pub year_0_of_week_row : week_days_answer (negsuc 0) (pos 52) (pos 6) ≡ value (negsuc 719527)
year_0_of_week_row = days_of_week (negsuc 719527) (week_date (negsuc 0) (pos 52) (pos 6)) week_of_year_0_row

pub no_week_row : week_days_answer (negsuc 0) (pos 53) (pos 1) ≡ refused 16
unfolding weeks first_week first_day start leaps
no_week_row =
    no_week {y = since week.base_year (negsuc 0)} refl refl (lit≤ tt) (lit≤ tt) (pos 53) (pos 1) (λ w d p q h. omega (arith, h.week_high, ap nat_abs p))

-- `2023-W19-3`
pub week_label_row : week_label (pos 19487) ≡ value (50 ∷ 48 ∷ 50 ∷ 51 ∷ 45 ∷ 87 ∷ 49 ∷ 57 ∷ 45 ∷ 51 ∷ [])
unfolding week_label week_text
week_label_row = ap (λ o. and_then o week_date_label) week_row

pub week_read_row : read_week_answer (50 ∷ 48 ∷ 50 ∷ 51 ∷ 45 ∷ 87 ∷ 49 ∷ 57 ∷ 45 ∷ 51 ∷ []) ≡ value (pos 19487)
week_read_row = write_read_week (pos 19487) _ week_label_row

-- ---- document 02, request Eight: the first and the last day, and what stands beside the range; 9999-W52-6 is 10000-01-01, day 2932897;
-- the week dates at both ends; and instants of years that have no label

pub first_of_range_row :
    (civil_answer (negsuc 12407287) ≡ value (date_of (negsuc 31999) (pos 1) (pos 1))) × (weekday_answer (negsuc 12407287) ≡ value (pos 6))
unfolding weekday_answer weekday
first_of_range_row = (first_count_is_first_date, refl)

pub last_of_range_row : (civil_answer (pos 10968231) ≡ value (date_of (pos 31999) (pos 12) (pos 31))) × (weekday_answer (pos 10968231) ≡ value (pos 5))
unfolding weekday_answer weekday
last_of_range_row = (last_count_is_last_date, refl)

pub beside_range_row : (civil_answer (negsuc 12407288) ≡ refused 4) × (civil_answer (pos 10968232) ≡ refused 4)
unfolding civil_answer
beside_range_row = (refl, refl)

pub beside_years_row : (leap_answer (negsuc 32000) ≡ refused 1) × (leap_answer (pos 32000) ≡ refused 1)
unfolding leap_answer
beside_years_row = (refl, refl)

pub beside_week_years_row : (week weekday : ℤ) → (week_days_answer (negsuc 32001) week weekday ≡ refused 1) × (week_days_answer (pos 32000) week weekday ≡ refused 1)
unfolding week_days_answer
beside_week_years_row week weekday = (refl, refl)

pub week_years_row : (first_week_year ≡ negsuc 32000) × (last_week_year ≡ pos 31999)
week_years_row = (refl, refl)

pub week_of_10000_row : week_days_answer (pos 9999) (pos 52) (pos 6) ≡ value (pos 2932897)
unfolding first_day start leaps
week_of_10000_row =
    day_is_answered (pos 9999) refl (pos 52) (pos 6) (record { day = pos 2932897; has = week_date_in (pos 2932897) (since week.base_year (pos 9999)) tt tt refl })

pub first_week_of_range_row : week_days_answer (negsuc 32000) (pos 52) (pos 6) ≡ value (negsuc 12407287)
unfolding first_day start leaps
first_week_of_range_row =
    day_is_answered (negsuc 32000) refl (pos 52) (pos 6)
    (record { day = negsuc 12407287; has = week_date_in (negsuc 12407287) (since week.base_year (negsuc 32000)) tt tt refl })

pub day_before_row : week_days_answer (negsuc 32000) (pos 52) (pos 5) ≡ refused 4
unfolding first_day start leaps
day_before_row =
    day_is_answered (negsuc 32000) refl (pos 52) (pos 5)
    (record { day = negsuc 12407288; has = week_date_in (negsuc 12407288) (since week.base_year (negsuc 32000)) tt tt refl })

pub day_after_row : week_days_answer (pos 31999) (pos 52) (pos 6) ≡ refused 4
unfolding first_day start leaps
day_after_row =
    day_is_answered (pos 31999) refl (pos 52) (pos 6)
    (record { day = pos 10968232; has = week_date_in (pos 10968232) (since week.base_year (pos 31999)) tt tt refl })

pub no_label_row : (instant_label (negsuc 62167219200000) ≡ refused 1) × (instant_label (pos 253402300800000) ≡ refused 1)
no_label_row = (label_exactly (negsuc 62167219200000), label_exactly (pos 253402300800000))

pub no_instant_row : (instant_label (negsuc 1071989683200000) ≡ refused 4) × (instant_label (pos 947655244800000) ≡ refused 4)
no_instant_row = (label_exactly (negsuc 1071989683200000), label_exactly (pos 947655244800000))
