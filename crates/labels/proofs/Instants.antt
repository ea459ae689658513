-- The fields of an instant but the year have room in its label, and what the code writes of them is the label.
use Rattle.std.proofs.Common.{◌≡◌, ℕ, ◌+◌, ◌-◌, ◌^◌, ◌<◌, ◌≤◌, false, T, List, [], ◌∷◌, ◌++◌, ℤ, pos, nat_abs, sym, refl, ap, ◌∙◌, arith, lit<, w32, Fits}
use lib.Signed.{non_neg}
use Rattle.refusal.specs.Outcome.{value}
use Rattle.numbers.specs.Range.{outside, Within}
use Rattle.numbers.proofs.Machine.{read}
use Rattle.numbers.proofs.Between.{inside_pos, abs_read, cast_small, read_below}
use Rattle.calendar.specs.Gregorian.{date_of}
use Rattle.calendar.specs.Answers.{days_answer}
use Rattle.calendar.specs.declared.Date.{Date}
use Rattle.calendar.specs.Count.{count_of_date}
use Rattle.calendar.proofs.Tests.{accepted_valid}
use Rattle.calendar.proofs.Dates as calendar
use Rattle.instant.specs.Answers.{split_answer, join_answer}
use Rattle.instant.specs.declared.Fields.{Fields}
use Rattle.instant.proofs.Times as times
use Rattle.instant.proofs.Joined.{join_accepted}
use Rattle.instant.proofs.Laws.{split_join}
use Rattle.text.specs.Decimal.{digits, number}
use Rattle.labels.specs.Digits.{letter_t, letter_z}
use Rattle.labels.specs.Clock.{colon, clock_text}
use Rattle.labels.specs.Rfc3339.{dash, label_length, decimals, numbers_text, label_text}
use Rattle.text.specs.Words.{word, bytes_of}
use Rattle.text.specs.Filled.{filled}
use Rattle.labels.specs.Parts.{HasRoom, NarrowFields}
use Rattle.labels.proofs.DigitWords.{four_stored, pairs_stored}
use Rattle.text.proofs.Filled.{filled_then}
use Rattle.text.proofs.Decimal.{number_below}
use Rattle.labels.specs.Years.{first_label_year, last_label_year}

-- a number that four digits are is a year that has a label
pub label_year : (n : ℕ) → n ≡ number (digits n 4) → outside first_label_year last_label_year (pos n) ≡ false
label_year n e = inside_pos 0 (nat_abs last_label_year) n (omega arith) (omega (arith, number_below n 4, e))

-- ---- fields that make an instant

room_in : {k : ℕ} (count : ℕ) {z : ℤ} → Within 0 k z → k ≤ 10 ^ count - 1 → HasRoom count z
room_in count {z} w h = let s = w.high in ap (outside (pos 0) (pos (10 ^ count - 1))) w.is ∙ inside_pos 0 (10 ^ count - 1) (nat_abs z) (omega arith) (omega arith)

joined_narrow :
    (year month day hour minute second fraction instant : ℤ) → join_answer year month day hour minute second fraction ≡ value instant →
    NarrowFields (record { year = year; month = month; day = day; hour = hour; minute = minute; second = second; millisecond = fraction })
unfolding days_answer
joined_narrow year month day hour minute second fraction instant e =
    let a = join_accepted year month day hour minute second fraction instant (sym e) in
    let v = accepted_valid year month day count_of_date a.count a.days in
    let n = calendar.natural (date_of year month day) v in
    let c = times.natural hour minute second fraction a.not_bad in
    record {
      month_within = ap (λ (d : Date). outside (pos 0) (pos 99) d.month) n.is ∙ inside_pos 0 99 n.m (omega arith) (omega (arith, n.is_valid.month_high));
      day_within = ap (λ (d : Date). outside (pos 0) (pos 99) d.day) n.is ∙ inside_pos 0 99 n.d (omega arith) (omega (arith, calendar.day_small n.y n.m n.d n.is_valid));
      hour_within = room_in 2 c.hour_within (omega arith);
      minute_within = room_in 2 c.minute_within (omega arith);
      second_within = room_in 2 c.second_within (omega arith);
      fraction_within = room_in decimals c.fraction_within (omega arith);
    }

pub fields_narrow : (instant : ℤ) (f : Fields) → split_answer instant ≡ value f → NarrowFields f
fields_narrow instant f e = joined_narrow f.year f.month f.day f.hour f.minute f.second f.millisecond instant (split_join instant f e)

-- ---- a field in its digits, as the code reads it

module _ (count : ℕ) (few : 10 ^ count - 1 < 2 ^ 32) (z : ℤ) (h : HasRoom count z) where
  pub room_cast : T (non_neg (read z)) × Fits w32 (nat_abs (read z))
  room_cast = cast_small (10 ^ count - 1) few z h

  pub room_below : nat_abs (read z) < 10 ^ count - 1 + 1
  room_below = read_below (10 ^ count - 1) few z h

  pub room_abs : nat_abs (read z) ≡ nat_abs z
  room_abs = abs_read (10 ^ count - 1) few z h

module _ (f : Fields) (year-within : HasRoom 4 f.year) (n : NarrowFields f) where
  pub text_read :
      numbers_text (nat_abs (read f.year)) (nat_abs (read f.month)) (nat_abs (read f.day)) (nat_abs (read f.hour)) (nat_abs (read f.minute))
      (nat_abs (read f.second)) (nat_abs (read f.millisecond)) ≡ label_text f
  text_read =
      let y = room_abs 4 (lit< tt) f.year year-within in
      let o = room_abs 2 (lit< tt) f.month n.month_within in
      let d = room_abs 2 (lit< tt) f.day n.day_within in
      let h = room_abs 2 (lit< tt) f.hour n.hour_within in
      let m = room_abs 2 (lit< tt) f.minute n.minute_within in
      let s = room_abs 2 (lit< tt) f.second n.second_within in
      let k = room_abs decimals (lit< tt) f.millisecond n.fraction_within in
      λ i. numbers_text (y i) (o i) (d i) (h i) (m i) (s i) (k i)

-- ---- the label from its pieces

module _ (f : Fields) (year-within : HasRoom 4 f.year) (n : NarrowFields f) (before : List ℕ) where
  -- the fields as the code reads them
  abbrev pub year_of : ℕ
  year_of = nat_abs (read f.year)

  abbrev pub front : List ℕ
  front = digits year_of 4 ++ dash ∷ []

  abbrev pub middle : List ℕ
  middle = (digits (nat_abs (read f.month)) 2 ++ dash ∷ digits (nat_abs (read f.day)) 2 ++ letter_t ∷ digits (nat_abs (read f.hour)) 2) ++ colon ∷ []

  abbrev pub clock : List ℕ
  clock = clock_text decimals (nat_abs (read f.minute)) (nat_abs (read f.second)) (nat_abs (read f.millisecond))

  pub label_filled :
      {one two three four : List ℕ} {y t : ℕ} → y ≡ word (digits year_of 4) → one ≡ filled 0 (bytes_of 4 y ++ dash ∷ []) before →
      t ≡ word (digits (nat_abs (read f.month)) 2 ++ dash ∷ digits (nat_abs (read f.day)) 2 ++ letter_t ∷ digits (nat_abs (read f.hour)) 2) →
      two ≡ filled 5 (bytes_of 8 t ++ colon ∷ []) one → three ≡ filled 14 clock two → four ≡ filled (label_length - 1) (letter_z ∷ []) three →
      four ≡ filled 0 (label_text f) before
  unfolding numbers_text
  label_filled {one} y e t g h k =
      let year_small = room_below 4 (lit< tt) f.year year-within in
      let month_small = room_below 2 (lit< tt) f.month n.month_within in
      let day_small = room_below 2 (lit< tt) f.day n.day_within in
      let hour_small = room_below 2 (lit< tt) f.hour n.hour_within in
      let e' : one ≡ filled 0 front before = e ∙ ap (λ l. filled 0 (l ++ dash ∷ []) before) (four_stored year_of year_small y) in
      let g' = g
      ∙ ap (λ l. filled 5 (l ++ colon ∷ []) one)
      (pairs_stored (nat_abs (read f.month)) dash (nat_abs (read f.day)) letter_t (nat_abs (read f.hour)) month_small day_small hour_small (omega arith) (omega arith) t) in
      let ab = filled_then 0 front middle before e' refl g' in
      let abc = filled_then 0 (front ++ middle) clock before ab refl h in
      filled_then 0 ((front ++ middle) ++ clock) (letter_z ∷ []) before abc refl k ∙ ap (λ text. filled 0 text before) (text_read f year-within n)
