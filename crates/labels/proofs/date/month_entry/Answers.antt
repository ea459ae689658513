use Rattle.std.proofs.Common.{◌≡◌, ℕ, zero, suc, ◌-◌, ◌<◌, ◌≤◌, [], get_or, arith}
use Rattle.calendar.specs.Closed.{before, month_days}
use Rattle.calendar.proofs.Months.{each_month}
use Rattle.labels.specs.Parts.{month_entry}
use Rattle.labels.specs.declared.date.TheConstants.{ENTRIES}
use Rattle.labels.proofs.date.month_entry.Goals as goal

-- the entry in the row of a month
abbrev entry_of : (l m : ℕ) → ℕ
entry_of l m = get_or (get_or ENTRIES.now (m - 1) []) l 0

table_entry : (l m : ℕ) → l ≤ 1 → 1 ≤ m → m ≤ 12 → (entry_of l m ≡ month_entry l m) × (entry_of l m < 12000)
unfolding before month_days
table_entry zero m h lo hi = each_month (λ m. (entry_of 0 m ≡ month_entry 0 m) × (entry_of 0 m < 12000)) (omega arith) m lo hi
table_entry (suc zero) m h lo hi = each_month (λ m. (entry_of 1 m ≡ month_entry 1 m) × (entry_of 1 m < 12000)) (omega arith) m lo hi
table_entry (suc (suc l)) m h lo hi = absurd (omega arith)

pub returns : goal.returns
returns c = table_entry c.args.leap c.args.month c.requires.0 c.requires.1.0 c.requires.1.1
