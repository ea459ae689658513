-- Numbers as bytes, four to a number.
use Prim.Native.Nat.{ℕ, ◌+◌, ◌-◌, ◌≤◌, ◌*◌, ◌/◌, ◌%◌, ◌<◌}
use mathlib.Core.Path.{◌≡◌, refl, sym, ap, ap₂, ◌∙◌}
use mathlib.Core.List.{List, [], ◌∷◌, ◌++◌, append_assoc, append-nil}
use native.Mathlib.Numerals.{add-one}
use native.Mathlib.Omega.{arith}
use lib.ListN.{length, get_or, take, length-append, take-append-drop}
use lib.Seq.{sets, sets-eq, take-suc, length-take-le}
use mir.Syntax.{w32}
use borrow.Rule.Slice.PartMut.{put_mid}
use Rattle.std.specs.Int.{to_le_bytes}
use Rattle.std.proofs.lemmas.Slice.{take-put_mid, drop-put_mid}
use Rattle.text.specs.Words.{bytes_of}
use Rattle.text.specs.Filled.{filled, Stored}
use Rattle.text.proofs.Words.{length_bytes}
use Rattle.text.proofs.Filled.{filled_then}
use Rattle.sheet.specs.Sheet.{numbers_bytes, trailer, sheet_bytes}

pub numbers_append : (a b : List ℕ) → numbers_bytes (a ++ b) ≡ numbers_bytes a ++ numbers_bytes b
numbers_append [] b = refl
numbers_append (n ∷ a) b = ap (λ l. bytes_of 4 n ++ l) (numbers_append a b) ∙ sym (append_assoc (bytes_of 4 n) (numbers_bytes a) (numbers_bytes b))

pub numbers_length : (ns : List ℕ) → length (numbers_bytes ns) ≡ 4 * length ns
numbers_length [] = refl
numbers_length (n ∷ ns) = length-append (bytes_of 4 n) (numbers_bytes ns) ∙ omega (arith, length_bytes 4 n, numbers_length ns)

-- four bytes that are copied into a part of a buffer are a number's
pub number_stored :
    (at n : ℕ) (before bytes : List ℕ) → at + 4 ≤ length before → bytes ≡ to_le_bytes w32 n → put_mid at (at + 4 - at) before bytes ≡ filled at (bytes_of 4 n) before
unfolding filled
number_stored at n before bytes h e =
    let l : length bytes ≡ 4 = ap length e in
    let all = put_mid at (at + 4 - at) before bytes in
    let same : bytes ≡ bytes_of 4 n = e ∙ ap (λ m. m % 256 ∷ n / 256 % 256 ∷ n / 65536 % 256 ∷ n / 16777216 % 256 ∷ []) (omega arith) in
    sym (take-append-drop (at + length bytes) all)
    ∙ ap₂ ◌++◌ (take-put_mid at (at + 4 - at) before bytes (at + length bytes) refl (omega arith)) (drop-put_mid at (at + 4 - at) before bytes (at + length bytes) (omega arith) (omega arith) (omega arith))
    ∙ sym (sets-eq bytes before at (omega arith)) ∙ ap (sets before at) same

-- one more number behind those that are stored
pub one_more_number :
    (at i : ℕ) (numbers before : List ℕ) {between after : List ℕ} → i < length numbers → between ≡ filled at (numbers_bytes (take i numbers)) before →
    after ≡ filled (at + 4 * i) (bytes_of 4 (get_or numbers i 0)) between → after ≡ filled at (numbers_bytes (take (i + 1) numbers)) before
one_more_number at i numbers before h e f =
    let l : at + length (numbers_bytes (take i numbers)) ≡ at + 4 * i =
    omega (arith, numbers_length (take i numbers), length-take-le i numbers (omega arith)) in
    let n = ap (λ k. take k numbers) (add-one i) ∙ take-suc numbers i 0 h in
    filled_then at (numbers_bytes (take i numbers)) (bytes_of 4 (get_or numbers i 0)) before e l f
    ∙ ap (λ t. filled at t before) (sym (ap numbers_bytes n ∙ numbers_append (take i numbers) (get_or numbers i 0 ∷ []) ∙ ap (λ l. numbers_bytes (take i numbers) ++ l) (append-nil (bytes_of 4 (get_or numbers i 0)))))

-- ---- a whole sheet

pub sheet_length_lem : (note numbers : List ℕ) → length (sheet_bytes note numbers) ≡ length note + 4 * length numbers + 12
unfolding sheet_bytes
sheet_length_lem note numbers =
    let end = trailer (length note) (length numbers / 8) (length note + 4 * length numbers + 12) in
    length-append note (numbers_bytes (numbers ++ end)) ∙ omega (arith, numbers_length (numbers ++ end), length-append numbers end)

-- the note, the numbers and the trailer, stored one behind the other
pub sheet_stored :
    (note numbers before : List ℕ) {noted numbered after : List ℕ} {offset end : ℕ} → Stored 0 note before noted offset →
    numbered ≡ filled offset (numbers_bytes numbers) noted → end ≡ offset + 4 * length numbers →
    after ≡ filled end (numbers_bytes (trailer offset (length numbers / 8) (end + 12))) numbered → after ≡ filled 0 (sheet_bytes note numbers) before
unfolding sheet_bytes
sheet_stored note numbers before {noted} {numbered} {after} {offset} {end} s e h f =
    let place : 0 + length note ≡ offset = sym s.end_is in
    let n = filled_then 0 note (numbers_bytes numbers) before s.is_filled place e in
    let l : 0 + length (note ++ numbers_bytes numbers) ≡ end = omega (arith, length-append note (numbers_bytes numbers), numbers_length numbers) in
    let o : offset ≡ length note = omega arith in
    let t : end + 12 ≡ length note + 4 * length numbers + 12 = omega arith in
    let last = trailer (length note) (length numbers / 8) (length note + 4 * length numbers + 12) in
    filled_then 0 (note ++ numbers_bytes numbers) (numbers_bytes last) before n l
    (f ∙ ap₂ (λ o t. filled end (numbers_bytes (trailer o (length numbers / 8) t)) numbered) o t)
    ∙ ap (λ text. filled 0 text before) (append_assoc note (numbers_bytes numbers) (numbers_bytes last) ∙ ap (λ l. note ++ l) (sym (numbers_append numbers last)))
