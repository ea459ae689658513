-- The time of day of the values of `HH:MM:SS` and of `.mmm`.
use Rattle.std.proofs.Common.{◌≡◌, ℕ, suc, ◌+◌, ◌-◌, ◌*◌, ◌/◌, ◌%◌, ◌^◌, ◌<◌, ◌≤◌, Bool, true, false, cond, ◌||◌, List, [], ◌∷◌, get_or, pos, sym, refl, ap, ◌∙◌, ap₂, arith, lit<}
use lib.Bits.{bit_and, and_block, and_mask}
use Rattle.refusal.specs.Outcome.{value, refused}
use Rattle.numbers.proofs.Between.{inside_pos}
use Rattle.instant.specs.Units.{per_second, per_minute, per_hour}
use Rattle.instant.specs.Instant.{time_of_fields}
use Rattle.instant.specs.Answers.{bad_time}
use Rattle.instant.specs.Checked.{time_answer}
use Rattle.instant.proofs.Times.{natural}
use Rattle.text.specs.Words.{word, byte_of}
use Rattle.labels.specs.Words.{pair_of, ClockValues}
use Rattle.text.specs.Words.{AllLe}
use Rattle.labels.proofs.Rooms.{highest, low_clear, clear_low}
use Rattle.labels.proofs.ReadValues.{pair_at}

-- the first and the fourth byte of some pairs, as 60 times the first and the fourth
pub minutes_are : (pairs : ℕ) → bit_and pairs 4278190335 * 1006632961 / 16777216 % 65536 ≡ byte_of pairs 0 * 60 + byte_of pairs 3
minutes_are pairs =
    let high = pairs / 16777216 in
    let low = pairs % 16777216 in
    let l : low < 16777216 = omega arith in
    let e : pairs ≡ high * 16777216 + low = omega arith in
    let k : low % 256 ≡ pairs % 256 = omega arith in
    let masked : bit_and pairs 4278190335 ≡ high % 256 * 16777216 + pairs % 256 =
    ap (λ n. bit_and n 4278190335) e ∙ and_block 24 high 255 low 255 l (lit< tt) ∙ ap₂ (λ x y. x * 16777216 + y) (and_mask high 8) (and_mask low 8 ∙ k) in
    ap (λ n. n * 1006632961 / 16777216 % 65536) masked ∙ times (high % 256) (pairs % 256) (omega arith) (omega arith) ∙ omega arith
  where
    times : (m h : ℕ) → m ≤ 255 → h ≤ 255 → (m * 16777216 + h) * 1006632961 / 16777216 % 65536 ≡ h * 60 + m
    times m h k l =
        let q : (m * 16777216 + h) * 1006632961 / 16777216 ≡ 1006632961 * m + 60 * h = omega arith in
        ap (λ n. n % 65536) q ∙ omega arith

-- ---- the values of a clock

module _ {values : ℕ} (c : ClockValues values) where
  abbrev digits : List ℕ
  digits = c.hour_tens ∷ c.hour_ones ∷ 0 ∷ c.minute_tens ∷ c.minute_ones ∷ 0 ∷ c.second_tens ∷ c.second_ones ∷ []

  nines : AllLe 9 digits
  nines = (c.hours_le.0, (c.hours_le.1, (omega arith, (c.minutes_le.0, (c.minutes_le.1, (omega arith, (c.seconds_le.0, (c.seconds_le.1, tt))))))))

  pub small_clock : values < 2 ^ 60
  small_clock = omega (arith, c.values_are, c.hours_le.0, c.hours_le.1, c.minutes_le.0, c.minutes_le.1, c.seconds_le.0, c.seconds_le.1)

  pair_is : (k : ℕ) → pair_of values k ≡ get_or digits k 0 * 10 + get_or digits (suc k) 0
  pair_is k = ap (λ v. pair_of v k) c.values_are ∙ pair_at digits k nines

  -- the tens of minutes and seconds, raised, and what stands between them
  abbrev raised_tens : List ℕ
  raised_tens = (c.minute_tens + 122) ∷ c.minute_ones ∷ 0 ∷ (c.second_tens + 122) ∷ []

  tens_are : values / 16777216 % 4294967296 + 2046820474 ≡ word raised_tens
  tens_are =
      omega (arith, c.values_are, c.hours_le.0, c.hours_le.1, c.minutes_le.0, c.minutes_le.1, c.seconds_le.0, c.seconds_le.1)

  -- no highest bit is set exactly if both numbers are below 60
  pub tens_small : bit_and (values / 16777216 % 4294967296 + 2046820474) highest ≡ 0 → (pair_of values 3 ≤ 59) × (pair_of values 6 ≤ 59)
  tens_small e =
      let bytes : AllLe 255 raised_tens = omega (arith, c.minutes_le.0, c.minutes_le.1, c.seconds_le.0) in
      let a = clear_low raised_tens 8 (omega arith) bytes (sym (ap (λ n. bit_and n highest) tens_are) ∙ e) in
      (omega (arith, pair_is 3, a.0, c.minutes_le.1), omega (arith, pair_is 6, a.1.1.1.0, c.seconds_le.1))

  pub small_tens : pair_of values 3 ≤ 59 → pair_of values 6 ≤ 59 → bit_and (values / 16777216 % 4294967296 + 2046820474) highest ≡ 0
  small_tens m s =
      let low : AllLe 127 raised_tens = omega (arith, pair_is 3, pair_is 6, c.minutes_le.1) in
      ap (λ n. bit_and n highest) tens_are ∙ low_clear raised_tens 8 (omega arith) low

-- ---- fields

module _ (hour minute second thousandths : ℕ) where
  -- fields of which one is too large
  pub no_time : (hour ≤ 23 → minute ≤ 59 → second ≤ 59 → ⊥) → refused 5 ≡ time_answer (pos hour) (pos minute) (pos second) (pos thousandths)
  unfolding time_answer
  no_time never = go (bad_time (pos hour) (pos minute) (pos second) (pos thousandths)) refl
    where
      go : (t : Bool) → bad_time (pos hour) (pos minute) (pos second) (pos thousandths) ≡ t →
          refused 5 ≡ cond t (refused 5) (value (time_of_fields (pos hour) (pos minute) (pos second) (pos thousandths)))
      go true e = refl
      go false e =
          let n = natural (pos hour) (pos minute) (pos second) (pos thousandths) e in
          absurd (never n.hour_within.high n.minute_within.high n.second_within.high)

  -- fields all of which are in their limits
  pub time_is :
      hour ≤ 23 → minute ≤ 59 → second ≤ 59 → thousandths < per_second →
      value (pos (hour * per_hour + minute * per_minute + second * per_second + thousandths)) ≡ time_answer (pos hour) (pos minute) (pos second) (pos thousandths)
  unfolding time_answer time_of_fields
  time_is h m s t =
      let zero-le : (n : ℕ) → 0 ≤ n = λ n. omega arith in
      let bad : bad_time (pos hour) (pos minute) (pos second) (pos thousandths) ≡ false =
      ap₂ ◌||◌ (inside_pos 0 23 hour (zero-le hour) h)
      (ap₂ ◌||◌ (inside_pos 0 59 minute (zero-le minute) m)
      (ap₂ ◌||◌ (inside_pos 0 59 second (zero-le second) s) (inside_pos 0 (per_second - 1) thousandths (zero-le thousandths) (omega arith)))) in
      sym (ap (λ t. cond t (refused 5) (value (time_of_fields (pos hour) (pos minute) (pos second) (pos thousandths)))) bad)
