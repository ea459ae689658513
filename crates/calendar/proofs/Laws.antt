-- The theorems of the calendar, over the definition by steps.
use Prim.Native.Nat.{ℕ, ◌+◌, ◌-◌, ◌/◌, ◌^◌, ◌≤◌, ◌<◌}
use mathlib.Core.Path.{◌≡◌, refl, sym, ap, ap₂, ◌∙◌, subst}
use mathlib.Core.Logic.{◌↔◌}
use mathlib.Core.Bool.{Bool, true, false, cond, not, ◌&&◌}
use native.Mathlib.Numerals.{add-one}
use native.Mathlib.Omega.{arith}
use lib.Bits.{bit_or, bit_xor}
use lib.Dec.{ltb}
use lib.IntN.{ℤ, pos, negsuc, nat_abs, ◌+ℤ◌, +ℤ_assoc}
use lib.ListN.{get_or, take}
use lib.Signed.{lt_z}
use borrow.Author.Tests.{ltb-true, lt-ltb, eqb-true, eq-eqb, ne_eqb}
use Rattle.refusal.specs.Outcome.{value, refused}
use Rattle.numbers.specs.Floor.{floor_remainder}
use Rattle.numbers.specs.Range.{outside, since}
use Rattle.refusal.proofs.Outcomes.{clash, passes, same_value}
use Rattle.numbers.proofs.Integers.{outside_no, add_since, since_add, since_le, lt_add, add_injective}
use Rattle.numbers.proofs.Between.{natural_within, inside_pos, inside_from}
use Rattle.numbers.proofs.Bools.{no_both}
use Rattle.calendar.specs.declared.Date.{Date}
use Rattle.calendar.specs.Range.{first_year, last_year, first_count, last_count}
use Rattle.calendar.specs.Gregorian.{divides, leap_year, month_lengths, month_length, days_before, date_of, next_day, date_after, ValidDate, Earlier, by_year, by_month, by_day}
use Rattle.calendar.specs.Count.{date_of_count, count_of_date, sum, day_of_year}
use Rattle.calendar.specs.Answers.{days_answer, civil_answer, add_days_answer}
use Rattle.calendar.specs.Closed.{from_year, to_year, base_year, cycle, last_day, leap_day, leapℕ, leaps, start, month_days, before, Valid, InRange, day_number, public}
use Rattle.calendar.proofs.Leap.{leap_public}
use Rattle.calendar.proofs.Months.{length_of, length_public, within_year, table_sum}
use Rattle.calendar.proofs.Lengths.{bits_days}
use Rattle.calendar.proofs.Order.{Precedes, in_year, in_month, in_day, precedes_less, trichotomy}
use Rattle.calendar.proofs.Steps.{at, found, count_after, at_in_range}
use Rattle.calendar.proofs.Tests.{valid_answer, accepted_valid, accepted_is}
use Rattle.calendar.proofs.Dates.{natural, year_day, counted, count_inside, days_inside, added}

-- counts and valid dates correspond one to one

-- a count of the range, counted from the first
count_from : (z : ℤ) → outside first_count last_count z ≡ false → (first_count +ℤ pos (since first_count z) ≡ z) × (since first_count z ≤ last_day)
count_from z h =
    let t = outside_no first_count last_count z h in
    (add_since first_count z t.0, since_le first_count last_count refl z t.0 t.1)

pub count_of_date_of_count : (z : ℤ) → outside first_count last_count z ≡ false → count_of_date (date_of_count z) ≡ z
unfolding date_of_count
count_of_date_of_count z h = let f = count_from z h in count_after (since first_count z) f.1 ∙ f.0

pub date_of_count_of_date : (d : Date) → ValidDate d → date_of_count (count_of_date d) ≡ d
unfolding date_of_count
date_of_count_of_date d v =
    let k = counted d v in
    ap (λ z. date_after (since first_count z)) k.count_is ∙ ap date_after (since_add first_count k.n) ∙ sym k.date_is

-- a date of natural numbers in the years of the range is valid
natural_valid : (y m d : ℕ) → InRange y m d → ValidDate (public y m d)
natural_valid y m d r =
    let v = r.is_valid in
    record {
      year_inside = inside_from base_year from_year to_year y r.from r.to;
      month_inside = inside_pos 1 12 m v.month_low v.month_high;
      day_inside =
          ap (λ l. outside (pos 1) l (pos d)) (length_public y m v.month_low v.month_high)
          ∙ inside_pos 1 (month_days (leap_day y) m) d v.day_low v.day_high;
    }

pub date_of_count_is_valid : (z : ℤ) → outside first_count last_count z ≡ false → ValidDate (date_of_count z)
unfolding date_of_count
date_of_count_is_valid z h =
    let n = since first_count z in
    let a = at n in
    subst ValidDate (sym a.is) (natural_valid a.year a.month a.day (at_in_range n (count_from z h).1))

pub count_of_valid_date_is_in_range : (d : Date) → ValidDate d → outside first_count last_count (count_of_date d) ≡ false
count_of_valid_date_is_in_range = count_inside

-- the same of the two calls: each undoes the other
civil_value : (z : ℤ) (d : Date) → civil_answer z ≡ value d → (outside first_count last_count z ≡ false) × (date_of_count z ≡ d)
unfolding civil_answer
civil_value z d e = let p = passes (outside first_count last_count z) 4 _ (sym e) in (p.0, sym (same_value p.1))

pub days_of_date_of_count :
    (z : ℤ) → outside first_count last_count z ≡ false → days_answer (date_of_count z).year (date_of_count z).month (date_of_count z).day ≡ value z
unfolding days_answer
days_of_date_of_count z h =
    valid_answer (date_of_count z) (λ d. value (count_of_date d)) (date_of_count_is_valid z h) ∙ ap value (count_of_date_of_count z h)

pub days_of_civil : (z : ℤ) (d : Date) → civil_answer z ≡ value d → days_answer d.year d.month d.day ≡ value z
days_of_civil z d h =
    let c = civil_value z d h in
    ap (λ (d : Date). days_answer d.year d.month d.day) (sym c.1) ∙ days_of_date_of_count z c.0

pub date_of_days : (year month day z : ℤ) → days_answer year month day ≡ value z → date_of_count z ≡ date_of year month day
unfolding days_answer
date_of_days year month day z h =
    ap date_of_count (accepted_is year month day count_of_date z (sym h))
    ∙ date_of_count_of_date (date_of year month day) (accepted_valid year month day count_of_date z (sym h))

pub civil_of_days : (year month day z : ℤ) → days_answer year month day ≡ value z → civil_answer z ≡ value (date_of year month day)
unfolding civil_answer
civil_of_days year month day z h =
    ap (λ t. cond t (refused 4) (value (date_of_count z))) (days_inside year month day z (sym h))
    ∙ ap value (date_of_days year month day z h)

-- the next count is the next day
pub next_count_is_next_day : (z : ℤ) → outside first_count last_count z ≡ false → date_of_count (z +ℤ pos 1) ≡ next_day (date_of_count z)
unfolding date_of_count date_after
next_count_is_next_day z h =
    let f = count_from z h in
    ap date_after
    (ap (λ z. since first_count (z +ℤ pos 1)) (sym f.0) ∙ ap (since first_count) (+ℤ_assoc first_count (pos (since first_count z)) (pos 1))
    ∙ since_add first_count (since first_count z + 1) ∙ add-one (since first_count z))

-- and the next day has the next count
pub next_day_has_next_count :
    (year month day z : ℤ) → days_answer year month day ≡ value z → outside first_count last_count (z +ℤ pos 1) ≡ false →
    let next = next_day (date_of year month day) in
    days_answer next.year next.month next.day ≡ value (z +ℤ pos 1)
next_day_has_next_count year month day z e h =
    let next = next_count_is_next_day z (days_inside year month day z (sym e)) ∙ ap next_day (date_of_days year month day z e) in
    ap (λ (d : Date). days_answer d.year d.month d.day) (sym next) ∙ days_of_date_of_count (z +ℤ pos 1) h

-- an earlier date has a smaller count, and the other way round
up : (y m d y' m' d' : ℕ) → Precedes y m d y' m' d' → Earlier (public y m d) (public y' m' d')
up y m d y' m' d' (in_year h) = by_year (lt_add base_year y y' ∙ lt-ltb y y' h)
up y m d y' m' d' (in_month p h) = by_month (ap (λ y. base_year +ℤ pos y) p) (lt-ltb m m' h)
up y m d y' m' d' (in_day p q h) = by_day (ap (λ y. base_year +ℤ pos y) p) (ap pos q) (lt-ltb d d' h)

down : (y m d y' m' d' : ℕ) → Earlier (public y m d) (public y' m' d') → Precedes y m d y' m' d'
down y m d y' m' d' (by_year h) = in_year (ltb-true y y' (sym (lt_add base_year y y') ∙ h))
down y m d y' m' d' (by_month p h) = in_month (add_injective base_year y y' p) (ltb-true m m' h)
down y m d y' m' d' (by_day p q h) = in_day (add_injective base_year y y' p) (ap nat_abs q) (ltb-true d d' h)

module _ (a b : ℕ) where
  earlier_less : Earlier (date_after a) (date_after b) → a < b
  earlier_less e =
      let x = at a in
      let y = at b in
      let l =
      precedes_less x.year x.month x.day y.year y.month y.day x.is_valid y.is_valid
      (down x.year x.month x.day y.year y.month y.day (subst (λ d. Earlier d (public y.year y.month y.day)) x.is (subst (Earlier (date_after a)) y.is e))) in
      omega (arith, x.number, y.number)

  less_earlier : a < b → Earlier (date_after a) (date_after b)
  less_earlier h =
      let x = at a in
      let y = at b in
      let w : Precedes x.year x.month x.day y.year y.month y.day =
      trichotomy x.year x.month x.day y.year y.month y.day (λ w. w)
      (λ p q r. absurd (let e : day_number x.year x.month x.day ≡ day_number y.year y.month y.day = λ i. day_number (p i) (q i) (r i) in omega (arith, x.number, y.number)))
      (λ w. absurd (let l = precedes_less y.year y.month y.day x.year x.month x.day y.is_valid x.is_valid w in omega (arith, x.number, y.number))) in
      subst (λ d. Earlier d (date_after b)) (sym x.is) (subst (Earlier (public x.year x.month x.day)) (sym y.is) (up x.year x.month x.day y.year y.month y.day w))

module _ (a b : ℤ) (p : outside first_count last_count a ≡ false) (q : outside first_count last_count b ≡ false) where
  from_firsts : lt_z a b ≡ ltb (since first_count a) (since first_count b)
  from_firsts = ap₂ lt_z (sym (count_from a p).0) (sym (count_from b q).0) ∙ lt_add first_count (since first_count a) (since first_count b)

  pub earlier_has_smaller_count : Earlier (date_of_count a) (date_of_count b) → lt_z a b ≡ true
  unfolding date_of_count
  earlier_has_smaller_count e =
      from_firsts ∙ lt-ltb (since first_count a) (since first_count b) (earlier_less (since first_count a) (since first_count b) e)

  pub smaller_count_is_earlier : lt_z a b ≡ true → Earlier (date_of_count a) (date_of_count b)
  unfolding date_of_count
  smaller_count_is_earlier h =
      less_earlier (since first_count a) (since first_count b) (ltb-true (since first_count a) (since first_count b) (sym from_firsts ∙ h))

-- an earlier valid date exactly where the count is smaller
pub earlier_exactly : (d e : Date) → ValidDate d → ValidDate e → Earlier d e ↔ (lt_z (count_of_date d) (count_of_date e) ≡ true)
earlier_exactly d e v w =
    let a = count_inside d v in
    let b = count_inside e w in
    let p = date_of_count_of_date d v in
    let q = date_of_count_of_date e w in (
      λ h. earlier_has_smaller_count (count_of_date d) (count_of_date e) a b (subst (λ x. Earlier x (date_of_count (count_of_date e))) (sym p) (subst (Earlier d) (sym q) h)),
      λ h. subst (Earlier d) q (subst (λ x. Earlier x (date_of_count (count_of_date e))) p (smaller_count_is_earlier (count_of_date d) (count_of_date e) a b h)),
    )

-- the ends of the range
pub first_count_is_first_date : civil_answer first_count ≡ value (date_of first_year (pos 1) (pos 1))
unfolding civil_answer date_of_count date_after
first_count_is_first_date = refl

-- the date of a count, by the closed forms: a valid date with the right number is the date
pub date_at : (n y m d : ℕ) → Valid y m d → day_number y m d ≡ cycle + n → date_after n ≡ public y m d
date_at = found

pub last_count_is_last_date : civil_answer last_count ≡ value (date_of last_year (pos 12) (pos 31))
unfolding civil_answer date_of_count day_number start leaps leap_day leapℕ before month_days
last_count_is_last_date =
    ap value
    (found last_day to_year 12 31
    (record { month_low = omega arith; month_high = omega arith; day_low = omega arith; day_high = omega arith })
    refl)

-- the day of the year: 1 to 366 in a leap year, 1 to 365 in a common one
year_length : (y : ℕ) → cond (leap_year (base_year +ℤ pos y)) (pos 366) (pos 365) ≡ pos (365 + leap_day y)
unfolding leap_day
year_length y = rw (leap_public y) (go (leapℕ y))
  where
    go : (t : Bool) → cond t (pos 366) (pos 365) ≡ pos (365 + cond t 1 0)
    go true = refl
    go false = refl

pub day_of_year_is_in_range : (d : Date) → ValidDate d → outside (pos 1) (cond (leap_year d.year) (pos 366) (pos 365)) (day_of_year d) ≡ false
day_of_year_is_in_range d v =
    let t = natural d v in
    let w = t.is_valid in
    let l = leap_day t.y in
    ap (λ (d : Date). outside (pos 1) (cond (leap_year d.year) (pos 366) (pos 365)) (day_of_year d)) t.is
    ∙ ap₂ (outside (pos 1)) (year_length t.y) (year_day t.y t.m t.d w)
    ∙ inside_pos 1 (365 + l) (before l t.m + t.d) (omega (arith, w.day_low))
    (omega (arith, within_year l t.m t.d w.month_low w.month_high w.day_low w.day_high))

-- the rule of the table of days before each month: the sum of the lengths of the months before it
pub table_rule : (m : ℕ) → 1 ≤ m → m ≤ 12 → get_or days_before (m - 1) 0 ≡ sum (take (m - 1) (month_lengths false))
table_rule = table_sum

-- outside February the length of each month, in leap and common years, is the form of source document 001
pub length_by_bits :
    (year month : ℤ) → outside (pos 1) (pos 12) month ≡ false → (month ≡ pos 2 → ⊥) →
    month_length year month ≡ pos (bit_or 30 (bit_xor (nat_abs month) (nat_abs month / 2 ^ 3)))
unfolding month_length
length_by_bits year month h other =
    let n = natural_within 1 (pos 12) month h in
    let e = bits_days (cond (leap_year year) 1 0) (nat_abs month) n.low n.high in
    ap pos
    (length_of (leap_year year) (nat_abs month) n.low n.high
    ∙ sym (rw (ne_eqb (nat_abs month) 2 (λ p. other (n.is ∙ ap pos p))) at e))

-- the leap flag is the leap rule
leap_tests : (a b c : Bool) → ((a && not (b && not c)) ≡ true) ↔ ((a ≡ true) × (b ≡ true → c ≡ true))
leap_tests false b c = (λ h. no_both false h refl, λ h. h.0)
leap_tests true false c = (λ h. (refl, λ k. no_both false k refl), λ h. refl)
leap_tests true true c = (λ h. (refl, λ k. not_not c h), λ h. twice c (h.1 refl))
  where
    not_not : (c : Bool) → not (not c) ≡ true → c ≡ true
    not_not true h = refl
    not_not false h = h

    twice : (c : Bool) → c ≡ true → not (not c) ≡ true
    twice true h = refl
    twice false h = h

pub leap_rule : (y : ℤ) → (leap_year y ≡ true) ↔ ((floor_remainder y 4 ≡ 0) × (floor_remainder y 100 ≡ 0 → floor_remainder y 400 ≡ 0))
unfolding leap_year
leap_rule y =
    let t = leap_tests (divides 4 y) (divides 100 y) (divides 400 y) in (
      λ h. (
        eqb-true (floor_remainder y 4) 0 (t.0 h).0,
        λ k. eqb-true (floor_remainder y 400) 0 ((t.0 h).1 (eq-eqb (floor_remainder y 100) 0 k)),
      ),
      λ h. t.1 (eq-eqb (floor_remainder y 4) 0 h.0, λ k. eq-eqb (floor_remainder y 400) 0 (h.1 (eqb-true (floor_remainder y 100) 0 k))),
    )

pub year_zero_is_leap : leap_year (pos 0) ≡ true
unfolding leap_year
year_zero_is_leap = refl

-- the leap rule below zero: -4 and -400 are leap, -1 and -100 are not
pub leap_below_zero :
    (leap_year (negsuc 3) ≡ true) × ((leap_year (negsuc 399) ≡ true) × ((leap_year (negsuc 0) ≡ false) × (leap_year (negsuc 99) ≡ false)))
unfolding leap_year
leap_below_zero = (refl, (refl, (refl, refl)))

-- a shifted date is the date of the sum of the count and the days, taken in whole numbers, or 4 exactly if that lies outside the range
pub add_days_is_date_of_sum : (year month day z p : ℤ) → days_answer year month day ≡ value z → add_days_answer year month day p ≡ civil_answer (z +ℤ p)
add_days_is_date_of_sum year month day z p h = added year month day z (sym h) p

pub civil_refuses_exactly_outside : (z : ℤ) → (civil_answer z ≡ refused 4) ↔ (outside first_count last_count z ≡ true)
unfolding civil_answer
civil_refuses_exactly_outside z = go (outside first_count last_count z)
  where
    go : (t : Bool) → (cond t (refused 4) (value (date_of_count z)) ≡ refused 4) ↔ (t ≡ true)
    go true = (λ h. refl, λ h. refl)
    go false = (λ h. clash (cc), λ h. no_both false h refl)
