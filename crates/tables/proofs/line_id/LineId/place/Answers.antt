use Rattle.std.proofs.Common.{arith}
use Rattle.tables.specs.Size.{number}
use Rattle.tables.proofs.line_id.LineId.place.Goals as goal

pub returns-clause-value : goal.returns-clause-value
unfolding number
returns-clause-value c = omega arith
