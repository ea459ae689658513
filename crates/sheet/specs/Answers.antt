-- What each call on a sheet answers: document 02, request Nine.
use Rattle.std.specs.Prelude.{ℕ, ◌+◌, ◌-◌, ◌*◌, ◌%◌, Bool, cond, not, ◌||◌, List, eqb, leb, ltb, ℤ, pos, nat_abs, length, get_or}
use Rattle.std.specs.Int.Signed.{lt_z}
use Rattle.refusal.specs.Outcome.{Outcome, value, refused, and_then}
use Rattle.text.specs.Words.{word, part_of}
use Rattle.constants.specs.Answers.{Acceptance, bound_answer}
use Rattle.constants.specs.declared.Constants.{Constants}
use Rattle.sheet.specs.Sheet.{numbers_each, record_length, trailer_length, sheet_length, sheet_bytes, most_bytes, most_records}
use Rattle.sheet.specs.declared.Contents.{Contents}
use Rattle.sheet.specs.declared.Claim.{Claim}

-- the number of the four bytes from byte `at` on
unfoldable pub number_at : (sheet : List ℕ) (at : ℕ) → ℕ
number_at sheet at = word (part_of at 4 sheet)

-- the three numbers of the trailer
abbrev pub offset : (sheet : List ℕ) → ℕ
offset sheet = number_at sheet (length sheet - trailer_length)

abbrev pub records : (sheet : List ℕ) → ℕ
records sheet = number_at sheet (length sheet - 8)

abbrev pub whole : (sheet : List ℕ) → ℕ
whole sheet = number_at sheet (length sheet - 4)

-- "a trailer that doesn't fit these rules, or more than 1,024 records", in a file of some length
abbrev pub misfits : (offset records whole length : ℕ) → Bool
misfits offset records whole length =
    ltb most_records records || not (eqb whole length) || not (eqb (offset + record_length * records + trailer_length) length)

-- "a longer file, one shorter than 12 bytes", or one whose trailer does not fit
unfoldable pub no_sheet : (sheet : List ℕ) → Bool
no_sheet sheet =
    ltb most_bytes (length sheet) || ltb (length sheet) trailer_length || misfits (offset sheet) (records sheet) (whole sheet) (length sheet)

-- the reader: 17, or the number of records and where the first begins
unfoldable pub read_answer : (sheet : List ℕ) → Outcome Contents
read_answer sheet = cond (no_sheet sheet) (refused 17) (value (record { records = records sheet; offset = offset sheet }))

-- the eight numbers from byte `at` on
unfoldable pub claim_at : (sheet : List ℕ) (at : ℕ) → Claim
claim_at sheet at =
    record {
      a = number_at sheet at;
      b = number_at sheet (at + 4);
      d = number_at sheet (at + 8);
      m = number_at sheet (at + 12);
      c = number_at sheet (at + 16);
      k = number_at sheet (at + 20);
      t = number_at sheet (at + 24);
      bound = number_at sheet (at + 28);
    }

-- the record at a place, the first of which is 0
abbrev pub claim_in_place : (sheet : List ℕ) → Contents → (place : ℕ) → Claim
claim_in_place sheet contents place = claim_at sheet (contents.offset + record_length * place)

-- "Asked for a record that isn't there, the reader answers 17": a place below 0, or not below the number of records
abbrev pub record_in_place : (sheet : List ℕ) → Contents → (place : ℤ) → Outcome Claim
record_in_place sheet contents place =
    cond (lt_z place (pos 0) || leb contents.records (nat_abs place)) (refused 17) (value (claim_in_place sheet contents (nat_abs place)))

unfoldable pub record_answer : (sheet : List ℕ) (place : ℤ) → Outcome Claim
record_answer sheet place = and_then (read_answer sheet) (λ contents. record_in_place sheet contents place)

-- the constants of a claim
abbrev pub constants_of : Claim → Constants
constants_of r = record { a = pos r.a; b = pos r.b; d = pos r.d; m = pos r.m; c = pos r.c; k = pos r.k; t = pos r.t }

-- "Each record otherwise gets accepted, 9, 10 with its least n, or 11": the checker's own answer to the claim of its numbers
unfoldable pub verdict : Claim → Outcome Acceptance
verdict r = bound_answer (pos r.a) (pos r.b) (pos r.d) (pos r.m) (pos r.c) (pos r.k) (pos r.t) (pos r.bound)

unfoldable pub check_answer : (sheet : List ℕ) (place : ℤ) → Outcome Acceptance
check_answer sheet place = and_then (record_answer sheet place) verdict

-- for theorems: the record at a place of a list of numbers, eight to a record
unfoldable pub claim_of : (numbers : List ℕ) (place : ℕ) → Claim
claim_of numbers place =
    record {
      a = get_or numbers (numbers_each * place) 0;
      b = get_or numbers (numbers_each * place + 1) 0;
      d = get_or numbers (numbers_each * place + 2) 0;
      m = get_or numbers (numbers_each * place + 3) 0;
      c = get_or numbers (numbers_each * place + 4) 0;
      k = get_or numbers (numbers_each * place + 5) 0;
      t = get_or numbers (numbers_each * place + 6) 0;
      bound = get_or numbers (numbers_each * place + 7) 0;
    }

-- "17 for a part record or too many records or bytes", by the lengths of the note and of the list of numbers
abbrev pub unfit : (note numbers : ℕ) → Bool
unfit note numbers =
    not (eqb (numbers % numbers_each) 0) || ltb (numbers_each * most_records) numbers || ltb most_bytes (sheet_length note numbers)

-- the writer's text; 7 for a buffer that is too short for it comes after
unfoldable pub sheet_text : (note numbers : List ℕ) → Outcome (List ℕ)
sheet_text note numbers = cond (unfit (length note) (length numbers)) (refused 17) (value (sheet_bytes note numbers))
