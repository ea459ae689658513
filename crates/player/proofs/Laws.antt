-- What each call returns is 0 or more exactly if the call is done: a refusal is below zero, and no value is. A weekday is 1 to 7. The
-- two numbers of a transport clock stand for the clock.
use Prim.Native.Nat.{ℕ, zero, suc}
use mathlib.Core.Path.{◌≡◌, refl, sym, ap, ◌∙◌}
use mathlib.Core.Bool.{Bool, true, false, cond, not, ◌||◌}
use mathlib.Core.List.{List, [], ◌∷◌, ◌++◌}
use lib.IntN.{ℤ, pos, nat_abs, neg_ℤ, ◌+ℤ◌}
use lib.Dec.{eqb, leb, ltb}
use lib.ListN.{length}
use lib.Signed.{non_neg, lt_z}
use Rattle.std.specs.Prelude.{Option, Some}
use Rattle.refusal.specs.Outcome.{Outcome, value, refused, refused_at, and_then, map_value, after_call}
use Rattle.numbers.specs.Range.{outside}
use Rattle.numbers.proofs.Between.{natural_within}
use Rattle.numbers.proofs.Bools.{or_no}
use Rattle.calendar.specs.Range.{first_year, last_year, first_count, last_count}
use Rattle.calendar.specs.Gregorian.{leap_year, month_length, date_of, ValidDate}
use Rattle.calendar.specs.Count.{weekday, day_of_year}
use Rattle.calendar.specs.Answers.{days_answer, civil_answer, weekday_answer, leap_answer, last_day_answer, day_of_year_answer, add_days_answer, of_date}
use Rattle.calendar.specs.declared.Date.{Date}
use Rattle.calendar.proofs.Laws.{day_of_year_is_in_range}
use Rattle.calendar.proofs.WeekdayLaws.{weekday_is_in_range}
use Rattle.week.specs.Week.{week_date, week_date_of, same_week_date}
use Rattle.week.specs.Answers.{week_answer, first_week_year, last_week_year, day_with, look_from, look_through, week_days_answer}
use Rattle.week.specs.declared.WeekDate.{WeekDate}
use Rattle.instant.specs.Answers.{bad_instant, bad_time, first_bad, first_fall, day_answer, split_answer, join_answer, index_days_answer}
use Rattle.labels.specs.Digits.{fits}
use Rattle.refusal.specs.Written.{bytes_written}
use Rattle.labels.specs.Rfc3339.{decimals, date_shape, time_shape, fields_label, instant_label, read_answer}
use Rattle.labels.specs.Years.{first_label_year, last_label_year}
use Rattle.labels.specs.IsoWeek.{week_date_label, week_label, week_shape, read_week_answer}
use Rattle.labels.specs.Webvtt.{last_position, position_label}
use Rattle.labels.specs.Timestamps.{is_timestamp, position_of, position_answer}
use Rattle.labels.specs.CueLines.{Timing, between, of_none}
use Rattle.labels.specs.Timings.{timing_of}
use Rattle.labels.specs.Cues.{cue_between, cue_of, timing_answer, cue_line_answer}
use Rattle.constants.specs.Least.{Found, at, none, least_below}
use Rattle.constants.specs.Limits.{last_end, outside_limits, end_outside, bound_outside}
use Rattle.constants.specs.Answers.{difference, difference_answer, claimed, bound_answer}
use Rattle.sheet.specs.Answers as sheets
use Rattle.sheet.specs.Report.{report_text}
use Rattle.transport.specs.Wraps.{reached, milliseconds_of}
use Rattle.transport.specs.Wraps as T
use Rattle.transport.specs.Answers.{not_followed, follow_answer, clock_after, follow_all_answer}
use Rattle.transport.specs.declared.Position.{Position}
use Rattle.transport.proofs.Answered.{reached_inside}
use Rattle.transport.proofs.Laws.{first_and_rest}
use Rattle.player.specs.Returned.{returned, returned_count, returned_flag, returned_done, returned_found, returned_records, returned_milliseconds, clock_of, clock_numbers, clock_after_value, clock_after_values, done, Tells}
use Rattle.player.proofs.ClockPlace.{all_over, batch_place}

-- what is told on either side of a test
by_test :
    {A : Type 0} (returns : Outcome A → ℤ) (test : Bool) (a b : Outcome A) → (test ≡ true → Tells returns a) → (test ≡ false → Tells returns b) →
    Tells returns (cond test a b)
by_test returns true a b f g = f refl
by_test returns false a b f g = g refl

-- a test that refuses, in front of what tells
guarded :
    {A : Type 0} (returns : Outcome A → ℤ) (test : Bool) (a b : Outcome A) → Tells returns a → Tells returns b → Tells returns (cond test a b)
guarded returns test a b p q = by_test returns test a b (λ _. p) (λ _. q)

told : {A : Type 0} {returns : Outcome A → ℤ} {answer : Outcome A} → non_neg (returns answer) ≡ done answer → Tells returns answer
told e = record { exactly = e }

-- ---- dates

of_date_lem :
    {A : Type 0} (f : Date → Outcome A) (year month day : ℤ) → Tells returned_done (f (date_of year month day)) →
    Tells returned_done (of_date year month day f)
unfolding of_date
of_date_lem f year month day t =
    guarded returned_done (outside first_year last_year year) _ _ (told refl)
    (guarded returned_done (outside (pos 1) (pos 12) month) _ _ (told refl)
    (guarded returned_done (outside (pos 1) (month_length year month) day) _ _ (told refl) t))

pub days_tell : (year month day : ℤ) → Tells returned_done (days_answer year month day)
unfolding days_answer
days_tell year month day = of_date_lem _ year month day (told refl)

pub civil_tells : (days : ℤ) → Tells returned_done (civil_answer days)
unfolding civil_answer
civil_tells days = guarded returned_done (outside first_count last_count days) _ _ (told refl) (told refl)

pub weekday_tells : (days : ℤ) → Tells returned (weekday_answer days)
unfolding weekday_answer weekday
weekday_tells days = guarded returned (outside first_count last_count days) _ _ (told refl) (told refl)

-- 1 to 7 for a count in the range, else refusal 4 negated
pub weekday_returned :
    (days : ℤ) → (outside first_count last_count days ≡ false → outside (pos 1) (pos 7) (returned (weekday_answer days)) ≡ false)
    × (outside first_count last_count days ≡ true → returned (weekday_answer days) ≡ neg_ℤ (pos 4))
unfolding weekday_answer
weekday_returned days = (λ h. rw h (weekday_is_in_range days), λ h. rw h refl)

flag_tells : (flag : Bool) → Tells returned_flag (value flag)
flag_tells true = told refl
flag_tells false = told refl

pub leap_tells : (year : ℤ) → Tells returned_flag (leap_answer year)
unfolding leap_answer
leap_tells year = guarded returned_flag (outside first_year last_year year) _ _ (told refl) (flag_tells (leap_year year))

pub last_day_tells : (year month : ℤ) → Tells returned (last_day_answer year month)
unfolding last_day_answer month_length
last_day_tells year month =
    guarded returned (outside first_year last_year year) _ _ (told refl)
    (guarded returned (outside (pos 1) (pos 12) month) _ _ (told refl) (told refl))

pub day_of_year_tells : (year month day : ℤ) → Tells returned (day_of_year_answer year month day)
unfolding day_of_year_answer of_date
day_of_year_tells year month day =
    by_test returned (outside first_year last_year year) _ _ (λ _. told refl) (λ y.
    by_test returned (outside (pos 1) (pos 12) month) _ _ (λ _. told refl) (λ m.
    by_test returned (outside (pos 1) (month_length year month) day) _ _ (λ _. told refl) (λ d. told (in_year (record { year_inside = y; month_inside = m; day_inside = d })))))
  where
    in_year : ValidDate (date_of year month day) → non_neg (day_of_year (date_of year month day)) ≡ true
    in_year v =
        ap non_neg
        (natural_within 1 (cond (leap_year year) (pos 366) (pos 365)) (day_of_year (date_of year month day)) (day_of_year_is_in_range (date_of year month day) v)).is

pub add_days_tells : (year month day days : ℤ) → Tells returned_done (add_days_answer year month day days)
unfolding add_days_answer
add_days_tells year month day days = of_date_lem _ year month day (civil_tells _)

-- ---- week dates

pub week_tells : (days : ℤ) → Tells returned_done (week_answer days)
unfolding week_answer
week_tells days = guarded returned_done (outside first_count last_count days) _ _ (told refl) (told refl)

pub week_days_tell : (year week weekday : ℤ) → Tells returned_done (week_days_answer year week weekday)
unfolding week_days_answer day_with
week_days_tell year week weekday =
    guarded returned_done (outside first_week_year last_week_year year) _ _ (told refl) (searched (week_date year week weekday) look_through look_from)
  where
    searched : (w : WeekDate) (n : ℕ) (z : ℤ) → Tells returned_done (day_with w n z)
    searched w zero z = told refl
    searched w (suc n) z =
        guarded returned_done (same_week_date (week_date_of z) w) _ _ (guarded returned_done (outside first_count last_count z) _ _ (told refl) (told refl)) (searched w n (z +ℤ pos 1))

-- ---- instants

pub day_tells : (instant : ℤ) → Tells returned_done (day_answer instant)
unfolding day_answer
day_tells instant = guarded returned_done (bad_instant instant) _ _ (told refl) (told refl)

pub split_tells : (instant : ℤ) → Tells returned_done (split_answer instant)
unfolding split_answer
split_tells instant = guarded returned_done (bad_instant instant) _ _ (told refl) (told refl)

pub join_tells :
    (year month day hour minute second millisecond : ℤ) → Tells returned_done (join_answer year month day hour minute second millisecond)
unfolding join_answer
join_tells year month day hour minute second millisecond =
    of_date_lem _ year month day (guarded returned_done (bad_time hour minute second millisecond) _ _ (told refl) (told refl))

pub index_tells : (instants days : List ℤ) → Tells returned_count (index_days_answer instants days)
unfolding index_days_answer
index_tells instants days =
    guarded returned_count (not (eqb (length instants) (length days))) _ _ (told refl)
    (guarded returned_count (ltb (first_bad instants) (length instants)) _ _ (told refl)
    (guarded returned_count (ltb (first_fall instants) (length instants)) _ _ (told refl) (told refl)))

-- ---- labels

-- what is written of a label tells if the label does
written_tells : (label : Outcome (List ℕ)) (buffer : List ℕ) → Tells returned_done label → Tells returned_count (bytes_written label buffer)
written_tells (value text) buffer t = go (ltb (length buffer) (length text))
  where
    go : (short : Bool) → Tells returned_count (map_value length (cond short (refused 7) (value text)))
    go true = told refl
    go false = told refl
written_tells (refused number) buffer t = told t.exactly
written_tells (refused_at number place) buffer t = told t.exactly

-- a call, and then another, tells if both do
then_tells :
    {A B : Type 0} (answer : Outcome A) (next : A → Outcome B) → Tells returned_done answer → ((a : A) → Tells returned_done (next a)) →
    Tells returned_done (and_then answer next)
then_tells (value a) next t n = n a
then_tells (refused number) next t n = told t.exactly
then_tells (refused_at number place) next t n = told t.exactly

pub write_instant_tells : (instant : ℤ) (buffer : List ℕ) → Tells returned_count (bytes_written (instant_label instant) buffer)
unfolding instant_label
write_instant_tells instant buffer =
    written_tells _ buffer
    (then_tells (split_answer instant) fields_label (split_tells instant)
    (λ f. guarded returned_done (outside first_label_year last_label_year f.year) _ _ (told refl) (told refl)))

pub write_week_tells : (days : ℤ) (buffer : List ℕ) → Tells returned_count (bytes_written (week_label days) buffer)
unfolding week_label
write_week_tells days buffer =
    written_tells _ buffer
    (then_tells (week_answer days) week_date_label (week_tells days)
    (λ d. guarded returned_done (outside first_label_year last_label_year d.year) _ _ (told refl) (told refl)))

pub read_week_tells : (label : List ℕ) → Tells returned_done (read_week_answer label)
unfolding read_week_answer
read_week_tells label = guarded returned_done (fits week_shape label) _ _ (week_days_tell _ _ _) (told refl)

pub write_position_tells : (position : ℤ) (buffer : List ℕ) → Tells returned_count (bytes_written (position_label position) buffer)
unfolding position_label
write_position_tells position buffer =
    written_tells _ buffer (guarded returned_done (outside (pos 0) last_position position) _ _ (told refl) (told refl))

pub read_instant_tells : (label : List ℕ) → Tells returned_done (read_answer label)
unfolding read_answer
read_instant_tells label =
    guarded returned_done (fits (date_shape ++ time_shape decimals) label) _ _ (join_tells _ _ _ _ _ _ _) (told refl)

pub read_position_tells : (text : List ℕ) → Tells returned (position_answer text)
unfolding position_answer
read_position_tells text =
    guarded returned (is_timestamp text) _ _ (guarded returned (outside (pos 0) last_position (pos (position_of text))) _ _ (told refl) (told refl)) (told refl)

-- a cue line refuses what one of its timestamps does
pub read_cue_tells : (line : List ℕ) → Tells returned_done (cue_line_answer line)
unfolding cue_line_answer cue_of
read_cue_tells line = go (timing_of line)
  where
    both : (a b : Outcome ℤ) → Tells returned a → Tells returned b →
        Tells returned_done (cue_between a b)
    both (value start) (value end) p q = guarded returned_done (lt_z start end) _ _ (told refl) (told refl)
    both (value start) (refused number) p q = told q.exactly
    both (value start) (refused_at number place) p q = told q.exactly
    both (refused number) b p q = told p.exactly
    both (refused_at number place) b p q = told p.exactly

    go : (t : Timing line) → Tells returned_done (timing_answer t)
    go (between first second parts) =
        both (position_answer first) (position_answer second) (read_position_tells first) (read_position_tells second)
    go (of_none never) = told refl

-- ---- constants

found_tells : (end : ℤ) (found : Found) → end_outside end ≡ false → Tells (returned_found end) (value found)
found_tells end (at n) h = told refl
found_tells end none h = told (ap non_neg (natural_within 0 (pos last_end) end h).is)

pub difference_tells : (a b d m c k t end : ℤ) → Tells (returned_found end) (difference_answer a b d m c k t end)
unfolding difference_answer
difference_tells a b d m c k t end =
    by_test (returned_found end) (outside_limits a b d m c k t || end_outside end) _ _ (λ _. told refl)
    (λ h. found_tells end _ (or_no (outside_limits a b d m c k t) (end_outside end) h).1)

claimed_tells : (below : Found) (here : Bool) → Tells returned_done (claimed below here)
claimed_tells (at n) here = told refl
claimed_tells none true = told refl
claimed_tells none false = told refl

pub bound_tells : (a b d m c k t bound : ℤ) → Tells returned_done (bound_answer a b d m c k t bound)
unfolding bound_answer
bound_tells a b d m c k t bound =
    guarded returned_done (outside_limits a b d m c k t || bound_outside bound) _ _ (told refl)
    (claimed_tells (least_below (difference a b d m c k t) (nat_abs bound)) (difference a b d m c k t (nat_abs bound)))

-- ---- sheets

pub sheet_read_tells : (sheet : List ℕ) → Tells returned_records (sheets.read_answer sheet)
unfolding sheets.read_answer
sheet_read_tells sheet = guarded returned_records (sheets.no_sheet sheet) _ _ (told refl) (told refl)

pub sheet_record_tells : (sheet : List ℕ) (place : ℤ) → Tells returned_done (sheets.record_answer sheet place)
unfolding sheets.record_answer sheets.read_answer
sheet_record_tells sheet place =
    then_tells (sheets.read_answer sheet) (λ contents. sheets.record_in_place sheet contents place)
    (guarded returned_done (sheets.no_sheet sheet) _ _ (told refl) (told refl))
    (λ contents. guarded returned_done (lt_z place (pos 0) || leb contents.records (nat_abs place)) _ _ (told refl) (told refl))

pub sheet_check_tells : (sheet : List ℕ) (place : ℤ) → Tells returned_done (sheets.check_answer sheet place)
unfolding sheets.check_answer sheets.verdict
sheet_check_tells sheet place =
    then_tells (sheets.record_answer sheet place) sheets.verdict (sheet_record_tells sheet place) (λ claim. bound_tells _ _ _ _ _ _ _ _)

pub sheet_write_tells : (note numbers buffer : List ℕ) → Tells returned_count (bytes_written (sheets.sheet_text note numbers) buffer)
unfolding sheets.sheet_text
sheet_write_tells note numbers buffer =
    written_tells _ buffer (guarded returned_done (sheets.unfit (length note) (length numbers)) _ _ (told refl) (told refl))

pub sheet_report_tells : (sheet buffer : List ℕ) → Tells returned_count (bytes_written (value (report_text sheet)) buffer)
sheet_report_tells sheet buffer = written_tells (value (report_text sheet)) buffer (told refl)

-- ---- the transport clock

pub follow_tells : (clock : Option ℤ) (heard : ℤ) → Tells returned_milliseconds (follow_answer clock heard)
unfolding follow_answer
follow_tells clock heard =
    by_test returned_milliseconds (not_followed clock heard) _ _ (λ _. told refl) (λ h.
    told (ap (λ z. non_neg (milliseconds_of z)) (natural_within 0 T.last_position (reached clock heard) (reached_inside clock heard h)).is))

-- the two numbers stand for the clock, after a value and after a list of them
pub numbers_follow : (numbers : List ℤ) (heard : ℤ) → clock_of (clock_after_value numbers heard) ≡ clock_after (clock_of numbers) heard
unfolding clock_after_value clock_after
numbers_follow numbers heard = go (follow_answer (clock_of numbers) heard)
  where
    go :
        (answer : Outcome Position) → clock_of (after_call answer (λ p. clock_numbers p.ticks) numbers)
        ≡ after_call answer (λ p. Some p.ticks) (clock_of numbers)
    go (value p) = refl
    go (refused number) = refl
    go (refused_at number place) = refl

pub numbers_follow_all : (numbers values : List ℤ) → clock_of (clock_after_values numbers values) ≡ (follow_all_answer (clock_of numbers) values).clock
unfolding clock_after_values follow_all_answer
numbers_follow_all numbers [] = refl
numbers_follow_all numbers (heard ∷ values) =
    numbers_follow_all (clock_after_value numbers heard) values ∙ ap (λ clock. (follow_all_answer clock values).clock) (numbers_follow numbers heard)
    ∙ sym (ap (λ b. b.clock) (first_and_rest (clock_of numbers) heard values))

-- where no value is accepted neither number changes
pub none_accepted :
    (numbers values : List ℤ) → (follow_all_answer (clock_of numbers) values).skipped ≡ length values → clock_after_values numbers values ≡ numbers
none_accepted numbers values e =
    sym (batch_place numbers values) ∙ all_over (length values) (follow_all_answer (clock_of numbers) values) numbers e
