use Rattle.std.proofs.Common.{sym, arith}
use Rattle.faults.specs.declared.Fault.TheVariants.{CopyAmiss}
use Rattle.tables.specs.Rows.{rows_of}
use Rattle.record.proofs.EntryTests.{copy_fails, reading_within}
use Rattle.record.proofs.Tested.{fails_test}
use Rattle.record.proofs.sections.Part.copied.Goals as goal

pub returns-then-not-reads_line : goal.returns-then-not-reads_line
returns-then-not-reads_line c =
    fails_test c.args.self.bytes.now c.args.self.start _ _ c.in_ok-line.line _ _ CopyAmiss
    c.in_ok-line.ensures (copy_fails (rows_of c.args.table.now) c.in_ok-line.line (sym c.if-not-reads_line.ensures)) c.place-place.ensures

pub overflow_cast-result : goal.overflow_cast-result
overflow_cast-result c =
    let h = reading_within c.args.table.now c.in_ok-line.line (sym c.if-not-reads_line.ensures) in omega arith
