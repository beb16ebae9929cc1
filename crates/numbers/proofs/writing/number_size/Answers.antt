use Rattle.std.proofs.Common.{arith}
use Rattle.numbers.specs.Number.{bound}
use Rattle.numbers.proofs.Standing.{fewest}
use Rattle.numbers.proofs.writing.number_size.Goals as goal

pub groups-requires : goal.groups-requires
unfolding bound
groups-requires c = omega arith

pub returns-clause-fewest : goal.returns-clause-fewest
returns-clause-fewest c = λ bytes at last s. let h = fewest 5 bytes at c.args.value last s in omega arith
