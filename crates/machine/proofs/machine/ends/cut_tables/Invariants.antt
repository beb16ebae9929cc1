use Rattle.std.proofs.Common.{get_or}
use Rattle.tables.specs.Contents.{contents}
use Rattle.machine.proofs.Cuts.{CutTo}
use Rattle.machine.proofs.machine.ends.cut_tables.Given as goal

abbrev pub invariant-loop-table : goal.invariant-loop-table
invariant-loop-table l = CutTo (λ q. get_or l.count-items q 0) (contents l.initial.tables) l.table (contents l.tables)
