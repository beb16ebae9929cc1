use Rattle.std.proofs.Common.{arith}
use Rattle.std.proofs.lemmas.Bool.Decides.{nat_tests}
use Rattle.judging.specs.Tests.{order_bad}
use Rattle.judging.proofs.standing.Standing.breaks_order.Goals as goal
use Rattle.judging.proofs.standing.Standing.breaks_order.Goals.{then-is_read, else-is_read}

pub returns-then-times-ne1 : goal.returns-then-times-ne1
unfolding order_bad
returns-then-times-ne1 c = let k = (c.args.self.now.stood c.args.e c.requires).1 in grind (arith, nat_tests)

pub returns-then-is_write : goal.returns-then-is_write
unfolding order_bad
returns-then-is_write c =
    let k = (c.args.self.now.stood c.args.e c.requires).1 in
    elim c.if-is_read.branch [ then-is_read w ↦ grind (arith, nat_tests) | else-is_read w ↦ grind (arith, nat_tests) ]

pub returns-else-is_write : goal.returns-else-is_write
unfolding order_bad
returns-else-is_write c = let k = (c.args.self.now.stood c.args.e c.requires).1 in grind (arith, nat_tests)
