-- An earlier week date exactly when a smaller count.
use Prim.Native.Nat.{ℕ, ◌+◌, ◌-◌, ◌/◌, ◌%◌, ◌<◌}
use mathlib.Core.Path.{◌≡◌, refl, sym, ap, ap₂, ◌∙◌, subst}
use mathlib.Core.Logic.{◌↔◌}
use mathlib.Core.Bool.{true, false}
use native.Mathlib.Omega.{arith}
use lib.IntN.{ℤ, pos, nat_abs, ◌+ℤ◌}
use lib.Signed.{lt_z}
use borrow.Author.Tests.{ltb-true, lt-ltb}
use Rattle.refusal.specs.Outcome.{value}
use Rattle.refusal.proofs.Outcomes.{passes, same_value}
use Rattle.numbers.specs.Range.{outside, since}
use Rattle.numbers.proofs.Integers.{outside_no, lt_add, add_injective}
use Rattle.numbers.proofs.Bools.{no_both, same_yes}
use Rattle.calendar.specs.Range.{first_count, last_count}
use Rattle.calendar.proofs.Order.{Precedes, in_year, in_month, in_day, trichotomy}
use Rattle.week.specs.declared.WeekDate.{WeekDate}
use Rattle.week.specs.Week.{week_date, week_date_of}
use Rattle.week.specs.Answers.{week_answer, week_days_answer}
use Rattle.week.specs.Order.{EarlierWeek, by_year, by_week, by_weekday}
use Rattle.week.specs.Closed.{base_year, base_count, first_day}
use Rattle.week.proofs.Years.{thursday_at, first_day_monotone, WeekDay}
use Rattle.week.proofs.Dates.{on_day}
use Rattle.week.proofs.Weeks.{week_at, week_date_at}
use Rattle.numbers.proofs.Based.{is}
use Rattle.week.proofs.Laws.{week_of_days, week_date_is_right}

-- a day that precedes another by year, week and weekday
precedes_less : (n n' y w d y' w' d' : ℕ) → WeekDay n y w d → WeekDay n' y' w' d' → Precedes y w d y' w' d' → n < n'
precedes_less n n' y w d y' w' d' a b (in_year h) = omega (arith, a.in_year.high, b.in_year.low, first_day_monotone (y + 1) y' (omega arith))
precedes_less n n' y w d y' w' d' a b (in_month p h) = omega (arith, ap first_day p, a.week, b.week, a.in_year.low, b.in_year.low)
precedes_less n n' y w d y' w' d' a b (in_day p q h) =
    omega (arith, ap first_day p, q, a.week, b.week, a.in_year.low, b.in_year.low, a.weekday, b.weekday)

same_day : (n n' y w d y' w' d' : ℕ) → WeekDay n y w d → WeekDay n' y' w' d' → y ≡ y' → w ≡ w' → d ≡ d' → n ≡ n'
same_day n n' y w d y' w' d' a b p q r =
    omega (arith, ap first_day p, q, r, a.week, b.week, a.in_year.low, b.in_year.low, a.weekday, b.weekday)

-- the year and the week of day n
abbrev year_of : ℕ → ℕ
year_of n = (on_day (thursday_at n)).year

abbrev week_of : ℕ → ℕ
week_of n = (thursday_at n - first_day (year_of n)) / 7 + 1

of_day : (n : ℕ) → WeekDay n (year_of n) (week_of n) (n % 7 + 1)
of_day n = record { in_year = (on_day (thursday_at n)).in_year; week = refl; weekday = refl }

module _ (m n : ℕ) where
  abbrev Before : Type 0
  Before = Precedes (year_of m) (week_of m) (m % 7 + 1) (year_of n) (week_of n) (n % 7 + 1)

  down : EarlierWeek (week_at m (year_of m)) (week_at n (year_of n)) → Before
  down (by_year h) = in_year (ltb-true (year_of m) (year_of n) (sym (lt_add base_year (year_of m) (year_of n)) ∙ h))
  down (by_week p h) = in_month (add_injective base_year (year_of m) (year_of n) p) (ltb-true (week_of m) (week_of n) h)
  down (by_weekday p q h) = in_day (add_injective base_year (year_of m) (year_of n) p) (ap nat_abs q) (ltb-true (m % 7 + 1) (n % 7 + 1) h)

  up : Before → EarlierWeek (week_at m (year_of m)) (week_at n (year_of n))
  up (in_year h) = by_year (lt_add base_year (year_of m) (year_of n) ∙ lt-ltb (year_of m) (year_of n) h)
  up (in_month p h) = by_week (ap (λ y. base_year +ℤ pos y) p) (lt-ltb (week_of m) (week_of n) h)
  up (in_day p q h) = by_weekday (ap (λ y. base_year +ℤ pos y) p) (ap pos q) (lt-ltb (m % 7 + 1) (n % 7 + 1) h)

earlier_less : (m n : ℕ) → EarlierWeek (week_at m (year_of m)) (week_at n (year_of n)) → m < n
earlier_less m n e = precedes_less m n _ _ _ _ _ _ (of_day m) (of_day n) (down m n e)

less_earlier : (m n : ℕ) → m < n → EarlierWeek (week_at m (year_of m)) (week_at n (year_of n))
less_earlier m n h =
    trichotomy (year_of m) (week_of m) (m % 7 + 1) (year_of n) (week_of n) (n % 7 + 1) (up m n)
    (λ p q r. absurd (omega (arith, same_day m n _ _ _ _ _ _ (of_day m) (of_day n) p q r)))
    (λ a. absurd (omega (arith, precedes_less n m _ _ _ _ _ _ (of_day n) (of_day m) a)))

-- of days of the range
module _ (a b : ℤ) (p : outside first_count last_count a ≡ false) (q : outside first_count last_count b ≡ false) where
  abbrev m : ℕ
  m = since base_count a

  abbrev n : ℕ
  n = since base_count b

  day : (z : ℤ) → outside first_count last_count z ≡ false → week_date_of z ≡ week_at (since base_count z) (year_of (since base_count z))
  day z h = ap week_date_of (sym (is base_count first_count last_count refl refl z h)) ∙ week_date_at _ _ (on_day (thursday_at (since base_count z))).in_year

  less : lt_z a b ≡ lt_z (base_count +ℤ pos m) (base_count +ℤ pos n)
  less = sym (ap₂ lt_z (is base_count first_count last_count refl refl a p) (is base_count first_count last_count refl refl b q))

  pub earlier_week_exactly : EarlierWeek (week_date_of a) (week_date_of b) ↔ (lt_z a b ≡ true)
  earlier_week_exactly = (
    λ e. less ∙ lt_add base_count m n ∙ lt-ltb m n (earlier_less m n (subst (λ (d : WeekDate). EarlierWeek d (week_at n (year_of n))) (day a p) (subst (EarlierWeek (week_date_of a)) (day b q) e))),
    λ h. subst (λ (d : WeekDate). EarlierWeek d (week_date_of b)) (sym (day a p)) (subst (EarlierWeek (week_at m (year_of m))) (sym (day b q)) (less_earlier m n (ltb-true m n (sym (lt_add base_count m n) ∙ sym less ∙ h)))),
  )

-- no day of a week year is before its first
first_of_year : (year z : ℤ) → outside first_count last_count z ≡ false → EarlierWeek (week_date_of z) (week_date year (pos 1) (pos 1)) → lt_z (week_date_of z).year year ≡ true
first_of_year year z h (by_year l) = l
first_of_year year z h (by_week p l) = no_both _ l (outside_no (pos 1) (pos 53) (week_date_of z).week (week_date_is_right z h).0).0
first_of_year year z h (by_weekday p q l) = no_both _ l (outside_no (pos 1) (pos 7) (week_date_of z).weekday (week_date_is_right z h).1).0

-- and of accepted week dates
accepted : (d : WeekDate) (z : ℤ) → week_days_answer d.year d.week d.weekday ≡ value z → (outside first_count last_count z ≡ false) × (week_date_of z ≡ d)
unfolding week_answer
accepted d z e =
    let k = passes (outside first_count last_count z) 4 (value (week_date_of z)) (sym (week_of_days d.year d.week d.weekday z e)) in
    (k.0, sym (same_value k.1))

-- a day lies in an earlier week year exactly if its count is smaller than that of the year's first day
pub in_earlier_week_year :
    (z : ℤ) → outside first_count last_count z ≡ false → (year first : ℤ) → week_days_answer year (pos 1) (pos 1) ≡ value first →
    lt_z (week_date_of z).year year ≡ lt_z z first
in_earlier_week_year z h year first e =
    let k = accepted (week_date year (pos 1) (pos 1)) first e in
    let o = earlier_week_exactly z first h k.0 in
    same_yes (lt_z (week_date_of z).year year) (lt_z z first)
    (λ t. o.0 (subst (EarlierWeek (week_date_of z)) (sym k.1) (by_year t)))
    (λ t. first_of_year year z h (subst (EarlierWeek (week_date_of z)) k.1 (o.1 t)))

pub earlier_accepted_exactly :
    (d e : WeekDate) (a b : ℤ) → week_days_answer d.year d.week d.weekday ≡ value a → week_days_answer e.year e.week e.weekday ≡ value b →
    EarlierWeek d e ↔ (lt_z a b ≡ true)
earlier_accepted_exactly d e a b p q =
    let x = accepted d a p in
    let y = accepted e b q in
    subst (λ (d : WeekDate). EarlierWeek d e ↔ (lt_z a b ≡ true)) x.1 (subst (λ (e : WeekDate). EarlierWeek (week_date_of a) e ↔ (lt_z a b ≡ true)) y.1 (earlier_week_exactly a b x.0 y.0))
