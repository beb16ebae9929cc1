use Rattle.std.proofs.Common.{arith}
use Rattle.std.proofs.lemmas.Bool.Decides.{nat_tests}
use Rattle.judging.specs.Tests.{missing}
use Rattle.judging.proofs.standing.Standing.is_missing.Goals as goal

pub returns-then-self-e-eq0 : goal.returns-then-self-e-eq0
unfolding missing
returns-then-self-e-eq0 c = let k = (c.args.self.now.stood c.args.e c.requires).1 in grind (arith, nat_tests)

pub returns-else-self-e-eq0 : goal.returns-else-self-e-eq0
unfolding missing
returns-else-self-e-eq0 c = let k = (c.args.self.now.stood c.args.e c.requires).1 in grind (arith, nat_tests)
