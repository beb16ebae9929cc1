use Rattle.std.proofs.Common.{refl, arith}
use Rattle.tables.specs.Size.{table, row}
use Rattle.tables.proofs.line_id.LineId.at.Goals as goal

pub returns : goal.returns
unfolding table row
returns c = (omega arith, refl)
