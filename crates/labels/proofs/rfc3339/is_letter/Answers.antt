use Rattle.std.proofs.Common.{◌≡◌, ℕ, ◌+◌, true, cond, ◌&&◌, ◌||◌, eqb, sym, ap, ◌∙◌, ap₂, ⊎_elim, arith, eq-eqb, ne_eqb}
use Rattle.numbers.proofs.Bools.{no_both}
use Rattle.text.specs.Decimal.{is_digit}
use Rattle.labels.specs.Digits.{has_small, small, fits_one}
use Rattle.labels.specs.Timings.{letter_is}
use Rattle.labels.proofs.rfc3339.is_letter.Goals as goal

-- a letter is no digit, and fits as a small one or as it is
letter_fits : (letter byte : ℕ) → has_small letter ≡ true → fits_one letter byte ≡ (eqb byte (small letter) || eqb byte letter)
letter_fits letter byte h =
    ap₂ (λ d t. cond d (is_digit byte) ((t && eqb byte (small letter)) || eqb byte letter)) (ne_eqb letter 48 (λ e. no_both _ h (ap has_small e))) h

pub overflow_add-letter : goal.overflow_add-letter
overflow_add-letter c = ⊎_elim (λ e. omega arith) (λ e. omega arith) (letter_is c.args.letter c.requires)

pub returns-then-byte-letter : goal.returns-then-byte-letter
returns-then-byte-letter c = let a = c.args in
    let e = eq-eqb a.byte (a.letter + 32) c.if-byte-letter.true in
    e ∙ sym (letter_fits a.letter a.byte c.requires ∙ ap (λ t. t || eqb a.byte a.letter) e)

pub returns-else-byte-letter : goal.returns-else-byte-letter
returns-else-byte-letter c = let a = c.args in
    sym (letter_fits a.letter a.byte c.requires ∙ ap (λ t. t || eqb a.byte a.letter) (ne_eqb a.byte (a.letter + 32) c.if-byte-letter.false))
