-- The years that a label's four digits tell: those of instants, and the week years of week dates.
use Rattle.std.specs.Prelude.{ℤ, pos}

abbrev pub first_label_year : ℤ
first_label_year = pos 0

abbrev pub last_label_year : ℤ
last_label_year = pos 9999
