use Rattle.std.proofs.Common.{arith}
use Rattle.numbers.specs.Number.{bound}
use Rattle.numbers.proofs.writing.put_number.Goals as goal

pub put_groups-requires : goal.put_groups-requires
unfolding bound
put_groups-requires c = omega arith
