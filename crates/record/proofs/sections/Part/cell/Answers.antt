use Rattle.std.proofs.Common.{arith}
use Rattle.std.proofs.lemmas.Bool.Decides.{nat_tests}
use Rattle.faults.specs.declared.Fault.TheVariants.{CellBeyond}
use Rattle.record.specs.Table.{cell_test}
use Rattle.record.proofs.Tested.{fails_test}
use Rattle.record.proofs.sections.Part.cell.Goals as goal

pub returns-then-cell-from : goal.returns-then-cell-from
returns-then-cell-from c =
    fails_test c.args.self.bytes.now c.args.self.start cell_test _ c.in_ok-cell.cell _ _ CellBeyond
    c.in_ok-cell.ensures (grind (arith, nat_tests)) c.place-place.ensures
