-- The texts of a report's lines, and how long they are.
use Prim.Native.Nat.{ℕ, zero, suc, ◌+◌, ◌-◌, ◌*◌, ◌^◌, ◌≤◌, ◌<◌}
use mathlib.Core.Path.{◌≡◌, refl, ap, ◌∙◌}
use mathlib.Core.List.{List, [], ◌++◌}
use native.Mathlib.Decide.{dec_lt}
use native.Mathlib.Numerals.{add-one}
use native.Mathlib.Omega.{arith}
use lib.Dec.{lit<}
use lib.IntN.{pos}
use lib.ListN.{length, length-append}
use Rattle.refusal.specs.Outcome.{Outcome, value, refused, refused_at}
use Rattle.text.specs.Decimal.{decimal}
use Rattle.text.specs.Filled.{Stored}
use Rattle.text.proofs.Decimal.{decimal_short}
use Rattle.text.proofs.Filled.{Puts, put_stored, put_then}
use Rattle.constants.specs.Answers.{Acceptance}
use Rattle.constants.proofs.Answers.{claim_cases}
use Rattle.sheet.specs.declared.Claim.{Claim}
use Rattle.sheet.specs.declared.Contents.{Contents}
use Rattle.sheet.specs.Answers.{read_answer, claim_in_place, verdict, check_answer}
use Rattle.sheet.specs.Report.{space, newline, verdict_text, line, lines_of, report_text}
use Rattle.sheet.proofs.Trailer.{opened, refused_so, check_here}

pub least_length : (number n : ℕ) → length (verdict_text (refused_at number n)) ≡ length (decimal number) + 1 + length (decimal n)
least_length number n = length-append (decimal number ++ space) (decimal n) ∙ omega (arith, length-append (decimal number) space)

pub line_length : (place : ℕ) (o : Outcome Acceptance) → length (line place o) ≡ length (decimal place) + 1 + length (verdict_text o) + 1
line_length place o =
    length-append (decimal place ++ space ++ verdict_text o) newline
    ∙ omega (arith, length-append (decimal place ++ space) (verdict_text o), length-append (decimal place) space)

-- two texts and a space between them, put one behind the other
pub put_spaced :
    (at : ℕ) (a b before : List ℕ) {one two after : List ℕ} {p q r : ℕ} → at + length (a ++ space ++ b) ≤ length before → Puts at a before one p →
    Puts p space one two q → Puts q b two after r → Stored at (a ++ space ++ b) before after r
put_spaced at a b before h f g i =
    let both : at + length (a ++ space) ≤ length before = omega (arith, h, length-append (a ++ space) b) in
    put_then at (a ++ space) b (put_then at a space (put_stored at a before (omega (arith, both, length-append a space)) f) both g) h i

-- ---- the lines one behind the other

pub lines_next : (sheet : List ℕ) (i : ℕ) {o : Outcome Acceptance} → o ≡ check_answer sheet (pos i) → lines_of sheet i ++ line i o ≡ lines_of sheet (i + 1)
unfolding lines_of
lines_next sheet i e = rw (add-one i) (ap (λ o. lines_of sheet i ++ line i o) e)

pub no_lines : (sheet : List ℕ) → [] ≡ lines_of sheet 0
unfolding lines_of
no_lines sheet = refl

pub next_length :
    (sheet : List ℕ) (i : ℕ) → length (lines_of sheet (suc i)) ≡ length (lines_of sheet i) + length (line i (check_answer sheet (pos i)))
unfolding lines_of
next_length sheet i = length-append (lines_of sheet i) (line i (check_answer sheet (pos i)))

pub lines_grow : (sheet : List ℕ) (i n : ℕ) → i ≤ n → length (lines_of sheet i) ≤ length (lines_of sheet n)
lines_grow sheet i zero h = let e : i ≡ 0 = omega arith in omega (arith, ap (λ k. length (lines_of sheet k)) e)
lines_grow sheet i (suc n) h = go (dec_lt i (suc n)) (λ l. lines_grow sheet i n l)
  where
    go : Dec (i < suc n) → (i ≤ n → length (lines_of sheet i) ≤ length (lines_of sheet n)) → length (lines_of sheet i) ≤ length (lines_of sheet (suc n))
    go (yes l) before = omega (arith, before (omega arith), next_length sheet n)
    go (no l) before = let e : i ≡ suc n = omega arith in omega (arith, ap (λ k. length (lines_of sheet k)) e)

-- ---- the longest report

verdict_short : (claim : Claim) → length (verdict_text (verdict claim)) ≤ 13
unfolding verdict
verdict_short claim =
    claim_cases _ _ _ _ _ _ _ (pos claim.bound) (λ o. length (verdict_text o) ≤ 13) (few 9 (lit< tt))
    (λ n l m. omega (arith, least_length 10 n, decimal_short 10 2 (omega arith) (lit< tt), decimal_short n 10 (omega arith) (omega arith)))
    (omega arith) (few 11 (lit< tt))
  where
    few : (n : ℕ) → n < 100 → length (decimal n) ≤ 13
    few n h = omega (arith, decimal_short n 2 (omega arith) (omega arith))

-- how many bytes the lines of the first records have at most: 15 and the place's digits to each
abbrev most : (count : ℕ) → ℕ
most count = 16 * count + (count - 10) + (count - 100) + (count - 1000)

most_next : (i : ℕ) → i < 1024 → most i + 15 + length (decimal i) ≤ most (suc i)
most_next i h = go (dec_lt i 10) (dec_lt i 100) (dec_lt i 1000)
  where
    go : Dec (i < 10) → Dec (i < 100) → Dec (i < 1000) → most i + 15 + length (decimal i) ≤ most (suc i)
    go (yes l) t u = omega (arith, decimal_short i 1 (omega arith) (omega arith))
    go (no k) (yes l) u = omega (arith, decimal_short i 2 (omega arith) (omega arith))
    go (no k) (no l) (yes m) = omega (arith, decimal_short i 3 (omega arith) (omega arith))
    go (no k) (no l) (no m) = omega (arith, decimal_short i 4 (omega arith) (omega arith))

module _ (sheet : List ℕ) {contents : Contents} (e : read_answer sheet ≡ value contents) where
  -- the verdict on a record
  short : (i : ℕ) → i < contents.records → length (verdict_text (check_answer sheet (pos i))) ≤ 13
  short i h = let answer = check_here sheet e i h refl in omega (arith, verdict_short (claim_in_place sheet contents i), ap (λ o. length (verdict_text o)) answer)

  pub line_short : (i : ℕ) → i < contents.records → length (line i (check_answer sheet (pos i))) ≤ 19
  line_short i h =
      let o = opened sheet e in
      let few : i < 10 ^ 4 = omega (arith, o.records_are, o.records_le) in
      omega (arith, line_length i (check_answer sheet (pos i)), short i h, decimal_short i 4 (omega arith) few)

  up_to : (i : ℕ) → i ≤ contents.records → length (lines_of sheet i) ≤ most i
  up_to zero h = omega (arith, ap length (no_lines sheet))
  up_to (suc i) h =
      let o = opened sheet e in
      omega (arith, up_to i (omega arith), next_length sheet i, line_length i (check_answer sheet (pos i)), most_next i (omega (arith, o.records_are, o.records_le)), short i h)

  pub lines_short : length (lines_of sheet contents.records) ≤ 18346
  lines_short = let o = opened sheet e in omega (arith, up_to contents.records (omega arith), o.records_are, o.records_le)

-- ---- the report

pub report_refused : (sheet : List ℕ) {n : ℕ} → refused n ≡ read_answer sheet → decimal n ++ newline ≡ report_text sheet
unfolding report_text
report_refused sheet {n} e = rw (refused_so sheet e).0 (ap (λ n. decimal n ++ newline) (refused_so sheet e).1)

pub report_lines : (sheet : List ℕ) {contents : Contents} → read_answer sheet ≡ value contents → lines_of sheet contents.records ≡ report_text sheet
unfolding report_text
report_lines sheet e = let o = opened sheet e in rw o.is_sheet (ap (lines_of sheet) o.records_are)
