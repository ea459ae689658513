-- A sheet of claims, as bytes: document 02, request Nine. The papers' words stand in quotes.
use Rattle.std.specs.Prelude.{ℕ, ◌+◌, ◌*◌, ◌/◌, ◌%◌, ◌≤◌, ◌≡◌, List, [], ◌∷◌, ◌++◌, length}
use Rattle.text.specs.Words.{bytes_of, AllLe}

-- "All numbers are little-endian u32": four bytes to a number, the lowest first
abbrev pub numbers_bytes : (numbers : List ℕ) → List ℕ
numbers_bytes [] = []
numbers_bytes (n ∷ ns) = bytes_of 4 n ++ numbers_bytes ns

-- "Each record has 32 bytes: a, b, d, m, c, k, t, B"; the numbers of all records stand one behind the other, eight to a record
abbrev pub numbers_each : ℕ
numbers_each = 8

abbrev pub record_length : ℕ
record_length = 4 * numbers_each

-- "The last 12 bytes of the file are a trailer: offset of the first record, number of records, length of the whole file"
abbrev pub trailer_length : ℕ
trailer_length = 12

abbrev pub trailer : (offset records whole : ℕ) → List ℕ
trailer offset records whole = offset ∷ records ∷ whole ∷ []

-- how long a sheet is, by the lengths of its note and of its list of numbers
abbrev pub sheet_length : (note numbers : ℕ) → ℕ
sheet_length note numbers = note + 4 * numbers + trailer_length

-- "Records run from that offset up to the trailer without gap; bytes before them are a free note"
unfoldable pub sheet_bytes : (note numbers : List ℕ) → List ℕ
sheet_bytes note numbers =
    note ++ numbers_bytes (numbers ++ trailer (length note) (length numbers / numbers_each) (sheet_length (length note) (length numbers)))

-- "A sheet has at most 65,536 bytes", and not "more than 1,024 records"
abbrev pub most_bytes : ℕ
most_bytes = 65536

abbrev pub most_records : ℕ
most_records = 1024

-- the bytes are a sheet with this note and these records
pub record IsSheet (sheet note numbers : List ℕ) : Type 0 where
  pub bytes_are : sheet ≡ sheet_bytes note numbers
  pub whole_records : length numbers % numbers_each ≡ 0
  pub records_le : length numbers ≤ numbers_each * most_records
  pub length_le : length sheet ≤ most_bytes
  pub numbers_fit : AllLe 4294967295 numbers
