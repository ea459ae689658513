-- Which days and instants have labels, for theorems only.
use Rattle.std.specs.Prelude.{◌≡◌, ◌-◌, ℤ, pos, negsuc, ◌+ℤ◌, ◌*ℤ◌, refl}
use Rattle.instant.specs.Units.{per_day}

-- the days of the years 0 to 9999, which are document 01's; `negsuc n` is -(n + 1)
abbrev pub first_label_day : ℤ
first_label_day = negsuc 719527

abbrev pub last_label_day : ℤ
last_label_day = pos 2932896

-- their instants, from the first of the first day to the last of the last
abbrev pub first_label_instant : ℤ
first_label_instant = first_label_day *ℤ pos per_day

abbrev pub last_label_instant : ℤ
last_label_instant = last_label_day *ℤ pos per_day +ℤ pos (per_day - 1)

-- these are document 01's numbers
pub first_label_is : first_label_instant ≡ negsuc 62167219199999
first_label_is = refl

pub last_label_is : last_label_instant ≡ pos 253402300799999
last_label_is = refl

-- the days of these week years, from 0000-01-03, a Monday, to 10000-01-02, a Sunday
abbrev pub first_week_label_day : ℤ
first_week_label_day = negsuc 719525

abbrev pub last_week_label_day : ℤ
last_week_label_day = pos 2932898
