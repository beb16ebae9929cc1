use Rattle.std.proofs.Common.{get_or, arith}
use Rattle.tables.specs.Contents.{contents}
use Rattle.tables.proofs.Goods.{good}
use Rattle.machine.proofs.Cuts.{cut_all}
use Rattle.machine.proofs.machine.ends.cut_tables.Goals as goal

pub returns : goal.returns
returns c =
    cut_all (λ q. get_or c.args.issued q 0) (contents c.args.tables) c.loop-table.table (contents c.loop-table.tables)
    (omega (arith, (good c.args.tables).tables)) c.loop-table.invariant
