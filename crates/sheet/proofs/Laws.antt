-- The theorems of request Nine: a sheet is what its note and its records, written, give.
use Prim.Native.Nat.{ℕ, zero, suc, ◌+◌, ◌-◌, ◌*◌, ◌/◌, ◌≤◌, ◌<◌}
use mathlib.Core.Path.{◌≡◌, refl, sym, ap, ap₂, ◌∙◌}
use mathlib.Core.Logic.{◌↔◌, ⊎_elim}
use mathlib.Core.Bool.{Bool, true, false, cond}
use mathlib.Core.List.{List, [], ◌∷◌, ◌++◌, append-nil}
use native.Mathlib.Omega.{arith}
use borrow.Author.Tests.{le-ltb, lt-leb}
use lib.IntN.{pos}
use lib.ListN.{length, get_or, take, drop, length-append, get_or-append, take-append-drop}
use lib.Seq.{get_or-append-add, take-append_seam, drop-length, length-take-le}
use Rattle.refusal.specs.Outcome.{value, refused}
use Rattle.refusal.specs.Written.{bytes_written}
use Rattle.refusal.proofs.Outcomes.{clash, same_value}
use Rattle.text.specs.Words.{AllLe}
use Rattle.text.specs.Decimal.{decimal}
use Rattle.text.proofs.Decimal.{decimal_short}
use Rattle.sheet.specs.declared.Contents.{Contents}
use Rattle.sheet.specs.Sheet.{trailer, numbers_bytes, sheet_bytes, IsSheet}
use Rattle.sheet.specs.Answers.{number_at, offset, records, read_answer, claim_at, record_answer, verdict, check_answer, claim_of, unfit, sheet_text}
use Rattle.sheet.specs.Report.{newline, line, lines_of, report_text, claim_lines}
use Rattle.sheet.proofs.Fitting.{Fit, fit, fits_so, text_is, refused_or_written}
use Rattle.sheet.proofs.NumberBytes.{numbers_append, sheet_length_lem}
use Rattle.sheet.proofs.Trailer.{contents_of, opened, is_opened, refused_or_read, in_place, record_in, check_in}
use Rattle.sheet.proofs.LineTexts.{lines_short, report_refused, report_lines}
use Rattle.sheet.proofs.RoundTrip.{numbers_at, number_at_lem, numbers_back, numbers_at_length, numbers_at_add, numbers_again, numbers_small}

-- ---- what is written is a sheet, and a sheet is what is written

pub written_is_sheet :
    (note numbers : List ℕ) {sheet : List ℕ} → AllLe 4294967295 numbers → sheet_text note numbers ≡ value sheet → IsSheet sheet note numbers
unfolding sheet_text
written_is_sheet note numbers {sheet} small = go (unfit (length note) (length numbers)) refl
  where
    go :
        (t : Bool) → unfit (length note) (length numbers) ≡ t → cond t (refused 17) (value (sheet_bytes note numbers)) ≡ value sheet → IsSheet sheet note numbers
    go true h e = clash (cc)
    go false h e =
        let f = fit (length note) (length numbers) h in
        let same : sheet_bytes note numbers ≡ sheet = same_value e in
        record {
          bytes_are = sym same;
          whole_records = f.whole_are;
          records_le = f.numbers_le;
          length_le = omega (arith, f.length_le, sheet_length_lem note numbers, ap length same);
          numbers_fit = small;
        }

pub sheet_is_written : {sheet note numbers : List ℕ} → IsSheet sheet note numbers → sheet_text note numbers ≡ value sheet
sheet_is_written {sheet} {note} {numbers} s =
    let l = sheet_length_lem note numbers in
    let e = ap length s.bytes_are in
    let f : Fit (length note) (length numbers) =
    record { whole_are = s.whole_records; numbers_le = s.records_le; length_le = omega (arith, s.length_le, l, e) } in
    sym (text_is note numbers (fits_so (length note) (length numbers) f)) ∙ ap value (sym s.bytes_are)

-- ---- read back, a written sheet gives the same note and records

module _ {sheet note numbers : List ℕ} (s : IsSheet sheet note numbers) where
  abbrev last : List ℕ
  last = trailer (length note) (length numbers / 8) (length note + 4 * length numbers + 12)

  long : length sheet ≡ length note + 4 * length numbers + 12
  long = ap length s.bytes_are ∙ sheet_length_lem note numbers

  all_small : AllLe 4294967295 (numbers ++ last)
  all_small = go numbers s.numbers_fit
    where
      go : (ns : List ℕ) → AllLe 4294967295 ns → AllLe 4294967295 (ns ++ last)
      go [] f = let l = s.length_le in (omega (arith, long), (omega (arith, long), (omega (arith, long), tt)))
      go (n ∷ ns) f = (f.0, go ns f.1)

  -- the i-th of the numbers and the trailer's three
  nth : (i : ℕ) → i < length numbers + 3 → number_at sheet (length note + 4 * i) ≡ get_or (numbers ++ last) i 0
  unfolding sheet_bytes
  nth i h =
      let bytes : sheet ≡ note ++ (numbers_bytes (numbers ++ last) ++ []) = s.bytes_are ∙ ap (λ l. note ++ l) (sym (append-nil (numbers_bytes (numbers ++ last)))) in
      let below : i < length (numbers ++ last) = omega (arith, length-append numbers last) in
      sym (number_at_lem sheet (length note) (length (numbers ++ last)) i below)
      ∙ ap (λ l. get_or (numbers_at l (length note) (length (numbers ++ last))) i 0) bytes ∙ ap (λ l. get_or l i 0) (numbers_back note (numbers ++ last) [] all_small)

  in_trailer : (j at : ℕ) → j < 3 → at ≡ length note + 4 * (length numbers + j) → number_at sheet at ≡ get_or last j 0
  in_trailer j at h e = ap (number_at sheet) e ∙ nth (length numbers + j) (omega arith) ∙ get_or-append-add numbers last j 0

  pub sheet_reads : read_answer sheet ≡ value (contents_of (length numbers / 8) (length note))
  sheet_reads =
      let w = s.whole_records in
      is_opened sheet s.length_le (omega (arith, long))
      (in_trailer 0 (length sheet - 12) (omega arith) (omega (arith, long)))
      (in_trailer 1 (length sheet - 8) (omega arith) (omega (arith, long)))
      (omega (arith, s.records_le))
      (in_trailer 2 (length sheet - 4) (omega arith) (omega (arith, long)) ∙ sym long)
      (omega (arith, long))

  pub note_back : take (length note) sheet ≡ note
  unfolding sheet_bytes
  note_back = ap (take (length note)) s.bytes_are ∙ take-append_seam note (numbers_bytes (numbers ++ last))

  pub numbers_are : numbers_at sheet (length note) (length numbers) ≡ numbers
  unfolding sheet_bytes
  numbers_are =
      ap (λ l. numbers_at l (length note) (length numbers)) (s.bytes_are ∙ ap (λ l. note ++ l) (numbers_append numbers last))
      ∙ numbers_back note numbers (numbers_bytes last) s.numbers_fit

  number_in : (i at : ℕ) → i < length numbers → at ≡ length note + 4 * i → number_at sheet at ≡ get_or numbers i 0
  number_in i at h e = ap (number_at sheet) e ∙ nth i (omega arith) ∙ get_or-append numbers last 0 i h

  claim_in : (place : ℕ) → place < length numbers / 8 → claim_at sheet (length note + 32 * place) ≡ claim_of numbers place
  unfolding claim_at claim_of
  claim_in place h =
      let i = 8 * place in
      let at = length note + 32 * place in
      rw (
        number_in i at (omega arith) (omega arith),
        number_in (i + 1) (at + 4) (omega arith) (omega arith),
        number_in (i + 2) (at + 8) (omega arith) (omega arith),
        number_in (i + 3) (at + 12) (omega arith) (omega arith),
        number_in (i + 4) (at + 16) (omega arith) (omega arith),
        number_in (i + 5) (at + 20) (omega arith) (omega arith),
        number_in (i + 6) (at + 24) (omega arith) (omega arith),
        number_in (i + 7) (at + 28) (omega arith) (omega arith),
      )

  pub record_back : (place : ℕ) → place < length numbers / 8 → record_answer sheet (pos place) ≡ value (claim_of numbers place)
  record_back place h =
      let contents = contents_of (length numbers / 8) (length note) in
      sym (record_in sheet sheet_reads (pos place))
      ∙ sym (in_place sheet contents (pos place) (le-ltb place 0 (omega arith)) (lt-leb (length numbers / 8) place h)) ∙ ap value (claim_in place h)

  -- ---- the report's lines are the verdicts in order

  verdict_in : (place : ℕ) → place < length numbers / 8 → check_answer sheet (pos place) ≡ verdict (claim_of numbers place)
  verdict_in place h = sym (check_in sheet (pos place) (sym (record_back place h)))

  first_lines : (count : ℕ) → count ≤ length numbers / 8 → lines_of sheet count ≡ claim_lines numbers count
  unfolding lines_of claim_lines
  first_lines zero h = refl
  first_lines (suc i) h = ap₂ (λ l o. l ++ line i o) (first_lines i (omega arith)) (verdict_in i h)

  pub report_verdicts : report_text sheet ≡ claim_lines numbers (length numbers / 8)
  report_verdicts = sym (report_lines sheet sheet_reads) ∙ first_lines (length numbers / 8) (omega arith)

-- the same of what is written
pub write_read :
    (note numbers : List ℕ) {sheet : List ℕ} → AllLe 4294967295 numbers → sheet_text note numbers ≡ value sheet →
    (read_answer sheet ≡ value (contents_of (length numbers / 8) (length note)))
    × ((take (length note) sheet ≡ note)
    × ((place : ℕ) → place < length numbers / 8 → record_answer sheet (pos place) ≡ value (claim_of numbers place)))
write_read note numbers small e = let s = written_is_sheet note numbers small e in (sheet_reads s, (note_back s, record_back s))

-- a sheet has one note and one list of numbers
pub one_note_and_numbers :
    {sheet note numbers note' numbers' : List ℕ} → IsSheet sheet note numbers → IsSheet sheet note' numbers' → (note ≡ note') × (numbers ≡ numbers')
one_note_and_numbers {sheet} {note} {numbers} {note'} {numbers'} s s' =
    let same : contents_of (length numbers / 8) (length note) ≡ contents_of (length numbers' / 8) (length note') = same_value (sym (sheet_reads s) ∙ sheet_reads s') in
    let offsets = ap (λ c. c.offset) same in
    let counts : length numbers ≡ length numbers' = omega (arith, ap (λ c. c.records) same, s.whole_records, s'.whole_records) in (
      sym (note_back s) ∙ ap (λ k. take k sheet) offsets ∙ note_back s',
      sym (numbers_are s) ∙ ap₂ (numbers_at sheet) offsets counts ∙ numbers_are s',
    )

-- a sheet without records prints nothing
pub no_records_no_lines : {sheet note : List ℕ} → IsSheet sheet note [] → report_text sheet ≡ []
unfolding claim_lines
no_records_no_lines s = report_verdicts s

-- ---- what reads is a sheet, and so what its note and records give

abbrev pub note_of : (sheet : List ℕ) → List ℕ
note_of sheet = take (offset sheet) sheet

abbrev pub numbers_of : (sheet : List ℕ) → List ℕ
numbers_of sheet = numbers_at sheet (offset sheet) (8 * records sheet)

module _ (sheet : List ℕ) (bytes : AllLe 255 sheet) {contents : Contents} (e : read_answer sheet ≡ value contents) where
  together : sheet ≡ sheet_bytes (note_of sheet) (numbers_of sheet)
  unfolding sheet_bytes
  together =
      let o = opened sheet e in
      let p = offset sheet in
      let m = 8 * records sheet in
      let note-long : length (note_of sheet) ≡ p = length-take-le p sheet (omega arith) in
      let numbers-long : length (numbers_of sheet) ≡ m = numbers_at_length sheet p m in
      let a1 : p + 4 * m ≡ length sheet - 12 = omega arith in
      let a2 : p + 4 * m + 4 ≡ length sheet - 8 = omega arith in
      let a3 : p + 4 * m + 4 + 4 ≡ length sheet - 4 = omega arith in
      let three : numbers_at sheet (p + 4 * m) 3 ≡ trailer p (records sheet) (length sheet) =
      rw (a3, a2, a1) (ap (λ w. trailer p (records sheet) w) o.whole_is) in
      let q : m / 8 ≡ records sheet = omega arith in
      let w : p + 4 * m + 12 ≡ length sheet = omega arith in
      let last : trailer (length (note_of sheet)) (length (numbers_of sheet) / 8) (length (note_of sheet) + 4 * length (numbers_of sheet) + 12) ≡ numbers_at sheet (p + 4 * m) 3 =
      rw (note-long, numbers-long, q, w) (sym three) in
      let end : p + 4 * (m + 3) ≡ length sheet = omega arith in
      let behind : numbers_bytes (numbers_at sheet p (m + 3)) ≡ drop p sheet =
      sym (append-nil _) ∙ ap (λ l. numbers_bytes (numbers_at sheet p (m + 3)) ++ l) (sym (ap (λ k. drop k sheet) end ∙ drop-length sheet))
      ∙ numbers_again sheet bytes (m + 3) p (omega arith) in
      sym (take-append-drop p sheet)
      ∙ ap (λ l. note_of sheet ++ l) (sym behind ∙ ap numbers_bytes (numbers_at_add sheet m 3 p ∙ ap (λ l. numbers_of sheet ++ l) (sym last)))

  pub read_is_sheet : IsSheet sheet (note_of sheet) (numbers_of sheet)
  read_is_sheet =
      let o = opened sheet e in
      let l = numbers_at_length sheet (offset sheet) (8 * records sheet) in
      record {
        bytes_are = together;
        whole_records = omega (arith, l);
        records_le = omega (arith, l);
        length_le = o.length_le;
        numbers_fit = numbers_small sheet bytes (8 * records sheet) (offset sheet) (omega arith);
      }

  pub read_write : sheet_text (note_of sheet) (numbers_of sheet) ≡ value sheet
  read_write = sheet_is_written read_is_sheet

-- 17 exactly if there are no such note and records
pub seventeen_exactly :
    (sheet : List ℕ) → AllLe 255 sheet → (read_answer sheet ≡ refused 17) ↔ ((note numbers : List ℕ) → IsSheet sheet note numbers → ⊥)
seventeen_exactly sheet bytes =
    (λ e note numbers s. clash (both e (sheet_reads s)), λ none. ⊎_elim (λ e. e) (λ c. absurd (none _ _ (read_is_sheet sheet bytes c.1))) (refused_or_read sheet))
  where
    both : {contents : Contents} → read_answer sheet ≡ refused 17 → read_answer sheet ≡ value contents → ◌≡◌ {A = ℕ} 0 1
    both e f = cc

-- and the writer's, exactly if there is no sheet with the note and the numbers
pub writer_seventeen_exactly :
    (note numbers : List ℕ) → AllLe 4294967295 numbers → (sheet_text note numbers ≡ refused 17) ↔ ((sheet : List ℕ) → IsSheet sheet note numbers → ⊥)
writer_seventeen_exactly note numbers small =
    (λ e sheet s. clash (both e (sheet_is_written s)), λ none. ⊎_elim (λ e. e) (λ e. absurd (none _ (written_is_sheet note numbers small e))) (refused_or_written note numbers))
  where
    both : {sheet : List ℕ} → sheet_text note numbers ≡ refused 17 → sheet_text note numbers ≡ value sheet → ◌≡◌ {A = ℕ} 0 1
    both e f = cc

-- ---- 18,346 bytes always suffice

pub report_longest : (sheet : List ℕ) → length (report_text sheet) ≤ 18346
report_longest sheet = ⊎_elim refused_line read_lines (refused_or_read sheet)
  where
    refused_line : read_answer sheet ≡ refused 17 → length (report_text sheet) ≤ 18346
    refused_line e =
        omega (arith, ap length (report_refused sheet (sym e)), length-append (decimal 17) newline, decimal_short 17 2 (omega arith) (omega arith))

    read_lines : (contents : Contents) × (read_answer sheet ≡ value contents) → length (report_text sheet) ≤ 18346
    read_lines c = omega (arith, ap length (report_lines sheet c.1), lines_short sheet c.1)

pub report_suffices : (sheet buffer : List ℕ) → 18346 ≤ length buffer → bytes_written (value (report_text sheet)) buffer ≡ value (length (report_text sheet))
report_suffices sheet buffer h = rw (le-ltb (length buffer) (length (report_text sheet)) (omega (arith, report_longest sheet)))
