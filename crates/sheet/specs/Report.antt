-- The lines that the program prints for a sheet: document 02, request Nine.
use Rattle.std.specs.Prelude.{ℕ, zero, suc, cond, List, [], ◌∷◌, ◌++◌, pos}
use Rattle.refusal.specs.Outcome.{Outcome, value, refused, refused_at}
use Rattle.text.specs.Decimal.{decimal}
use Rattle.constants.specs.Answers.{Acceptance}
use Rattle.sheet.specs.Answers.{no_sheet, records, claim_of, verdict, check_answer}

abbrev pub space : List ℕ
space = 32 ∷ []

abbrev pub newline : List ℕ
newline = 10 ∷ []

-- "`accepted`, `9`, `10` with a space and its least n, or `11`"
abbrev pub accepted_text : List ℕ
accepted_text = 97 ∷ 99 ∷ 99 ∷ 101 ∷ 112 ∷ 116 ∷ 101 ∷ 100 ∷ []

abbrev pub verdict_text : Outcome Acceptance → List ℕ
verdict_text (value Acceptance.accepted) = accepted_text
verdict_text (refused number) = decimal number
verdict_text (refused_at number n) = decimal number ++ space ++ decimal n

-- "its place from 0, a space, and" the verdict; each line ends with a newline
abbrev pub line : (place : ℕ) → Outcome Acceptance → List ℕ
line place outcome = decimal place ++ space ++ verdict_text outcome ++ newline

-- "one line for each record in order": those of the first places, of the answers to them
abbrev pub lines_up_to : (answers : ℕ → Outcome Acceptance) (count : ℕ) → List ℕ
lines_up_to answers zero = []
lines_up_to answers (suc i) = lines_up_to answers i ++ line i (answers i)

unfoldable pub lines_of : (sheet : List ℕ) (count : ℕ) → List ℕ
lines_of sheet count = lines_up_to (λ i. check_answer sheet (pos i)) count

-- "A refused sheet prints the one line `17`"
unfoldable pub report_text : (sheet : List ℕ) → List ℕ
report_text sheet = cond (no_sheet sheet) (decimal 17 ++ newline) (lines_of sheet (records sheet))

-- for theorems: the lines of the checker's answers to records that are given as numbers
unfoldable pub claim_lines : (numbers : List ℕ) (count : ℕ) → List ℕ
claim_lines numbers count = lines_up_to (λ i. verdict (claim_of numbers i)) count
