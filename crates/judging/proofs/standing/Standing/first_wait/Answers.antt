use Rattle.std.proofs.Common.{rules}
use Rattle.tables.specs.Contents.{contents}
use Rattle.tables.specs.Size.{unit}
use Rattle.tables.proofs.Goods.{good}
use Rattle.judging.specs.Tests.{wait_bad}
use Rattle.judging.proofs.Beyond.{past_write}
use Rattle.judging.proofs.Lowest.{lowest_pair_from}
use Rattle.judging.proofs.Scans.{wait_none}
use Rattle.judging.proofs.standing.Standing.first_wait.Goals as goal

pub returns : goal.returns
returns g c =
    let t = c.args.self.now.tables.now in
    let ts = contents t in
    let o = c.args.self.now.order.now in
    lowest_pair_from (wait_bad unit ts o g.R.WaitRule.waits) c.lowest_pair.result c.lowest_pair.ensures
    (λ i l. wait_none ts o i g.R.WaitRule.waits (past_write ts (good t).tables i l)) (λ i f l k. search rules)
