use Rattle.std.proofs.Common.{◌/◌, ◌%◌, ap, sym, ◌∙◌, arith, rules}
use Rattle.tables.specs.Size.{table, row}
use Rattle.tables.specs.Lines.{nth}
use Rattle.tables.specs.Rows.{Rows}
use Rattle.tables.proofs.Counts.{rows_past}
use Rattle.tables.proofs.tables.Tables.line_at.Goals as goal

pub returns-in_err-table : goal.returns-in_err-table
unfolding table row
returns-in_err-table c =
    let t = c.args.self.now in
    let p = rows_past t.rows (c.args.place / 32) (omega (arith, t.four, c.in_err-table.ensures)) in
    let q = ap (λ (s : Rows). nth s.lines (c.args.place % 32)) p in
    c.from_residual.ensures ∙ sym q

pub returns : goal.returns
unfolding table row
returns c = search rules
