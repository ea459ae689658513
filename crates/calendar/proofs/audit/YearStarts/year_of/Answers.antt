use Prim.Native.Nat.{ℕ}
use mathlib.Core.Path.{◌≡◌}
use mathlib.Core.Bool.{true, false}
use lib.Dec.{leb}
use lib.ListN.{length}
use borrow.Author.Rules.{rules}
use Rattle.std.specs.List.Sorted.{IsPartitionPoint}
use Rattle.std.proofs.lemmas.List.Sorted.{IsPartitionPoint-from_clause, IsPartitionedBy-leb}
use Rattle.calendar.proofs.YearTable.{starts_rise, year_found}
use Rattle.calendar.proofs.audit.YearStarts.year_of.Goals as goal
use Rattle.calendar.proofs.audit.YearStarts.year_of.Goals.{After-partition_point}

-- the first year after those that have begun by the day r
parted : (c : After-partition_point) → IsPartitionPoint (λ (y : ℕ). leb y c.args.r ≡ true) (λ y. leb y c.args.r ≡ false) c.args.self.now.days c.partition_point.result
parted c =
    let t = c.args.self.now in
    let n : length t.days ≡ 401 = search rules in
    IsPartitionPoint-from_clause (λ y. leb y c.args.r) t.days c.partition_point.result c.partition_point.ensures.partitioned
    (IsPartitionedBy-leb (λ y. y) t.days c.args.r (starts_rise t.days n t.filled)) (λ a r q k. search rules)

pub overflow_sub-result : goal.overflow_sub-result
overflow_sub-result c =
    let t = c.args.self.now in
    let n : length t.days ≡ 401 = search rules in
    (year_found t.days n t.filled c.args.r c.partition_point.result c.requires (parted c)).0

pub returns : goal.returns
returns c =
    let t = c.args.self.now in
    let n : length t.days ≡ 401 = search rules in
    (year_found t.days n t.filled c.args.r c.partition_point.result c.requires (parted c)).1
