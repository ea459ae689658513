-- Numbers in decimal, as bytes. 48 is the byte of the digit 0, and 57 that of 9.
use Rattle.std.specs.Prelude.{ℕ, zero, suc, ◌+◌, ◌-◌, ◌*◌, ◌/◌, ◌%◌, Bool, true, cond, ◌&&◌, List, [], ◌∷◌, ◌++◌, leb, ltb}

-- the last `count` decimal digits of n, the most significant first
abbrev pub digits : (n count : ℕ) → List ℕ
digits n zero = []
digits n (suc count) = digits (n / 10) count ++ (48 + n % 10) ∷ []

-- the number that is `so far`, followed by digits
abbrev pub number_from : (so_far : ℕ) → List ℕ → ℕ
number_from so_far [] = so_far
number_from so_far (byte ∷ bytes) = number_from (so_far * 10 + (byte - 48)) bytes

-- the number of a text of digits
abbrev pub number : List ℕ → ℕ
number = number_from 0

-- a number without leading zeros: its last digit, behind the digits of its tens where it has any, in as many turns as n suffices for
abbrev pub decimal_from : (turns n : ℕ) → List ℕ
decimal_from zero n = (48 + n % 10) ∷ []
decimal_from (suc turns) n = cond (ltb n 10) [] (decimal_from turns (n / 10)) ++ (48 + n % 10) ∷ []

unfoldable pub decimal : (n : ℕ) → List ℕ
decimal n = decimal_from n n

-- a byte of 48 to 57
abbrev pub is_digit : ℕ → Bool
is_digit byte = leb 48 byte && leb byte 57

-- all of a text are digits
abbrev pub all_digits : (text : List ℕ) → Bool
all_digits [] = true
all_digits (byte ∷ bytes) = is_digit byte && all_digits bytes
