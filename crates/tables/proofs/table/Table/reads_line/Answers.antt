use Rattle.std.proofs.Common.{vec_items, arith}
use Rattle.tables.proofs.Pushes.{reading_line}
use Rattle.tables.proofs.table.Table.reads_line.Goals as goal

pub returns-then-number-gt0 : goal.returns-then-number-gt0
returns-then-number-gt0 c =
    let r = reading_line (vec_items c.args.self.now.lines) c.args.number (omega arith) in
    grind (arith, r)
