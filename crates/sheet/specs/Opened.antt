-- For proofs and private contracts only: a sheet that was read.
use Rattle.std.specs.Prelude.{ℕ, ◌≡◌, List, Result, Ok, Err}
use Rattle.refusal.specs.declared.Refusal.{Refusal}
use Rattle.refusal.specs.Numbers.{refusal_number}
use Rattle.refusal.specs.Outcome.{refused}
use Rattle.sheet.specs.declared.opened.Opened.{Opened}
use Rattle.sheet.specs.Answers.{read_answer}
use Rattle.sheet.specs.Report.{lines_of}

-- what the reader of a trailer tells
abbrev pub Opens : (bytes : List ℕ) → Result Opened Refusal → Type 0
Opens bytes (Ok sheet) = sheet.bytes.now ≡ bytes
Opens bytes (Err why) = refused (refusal_number why) ≡ read_answer bytes

-- the lines of a report on it
abbrev pub lines_in : Opened → List ℕ
lines_in sheet = lines_of sheet.bytes.now sheet.contents.records
