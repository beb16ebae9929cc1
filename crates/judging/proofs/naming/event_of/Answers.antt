use Rattle.std.proofs.Common.{arith}
use Rattle.tables.specs.Size.{places}
use Rattle.judging.proofs.naming.event_of.Goals as goal

pub unreachable-requires : goal.unreachable-requires
unfolding places
unreachable-requires c = let h = c.in-Err.ensures.back in omega arith
