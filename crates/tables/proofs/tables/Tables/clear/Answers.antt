use Rattle.std.proofs.Common.{arith}
use Rattle.std.proofs.lemmas.List.{length-set}
use Rattle.tables.proofs.Counts.{one_more_empty}
use Rattle.tables.proofs.tables.Tables.clear.Goals as goal

pub loop-table-preserved : goal.loop-table-preserved
loop-table-preserved c =
    let h = c.loop-table.invariant in
    record {
      four = simp length-set h.four;
      emptied = one_more_empty c.loop-table.table-items c.loop-table.table-index c.clear.new.self (omega arith) c.clear.ensures h.emptied;
    }
