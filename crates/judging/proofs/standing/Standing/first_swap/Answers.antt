use Rattle.std.proofs.Common.{rules}
use Rattle.tables.specs.Contents.{contents}
use Rattle.tables.specs.Size.{unit}
use Rattle.tables.proofs.Goods.{good}
use Rattle.judging.specs.Tests.{swap_bad}
use Rattle.judging.proofs.Beyond.{past_swap}
use Rattle.judging.proofs.Lowest.{lowest_pair_from}
use Rattle.judging.proofs.Scans.{swap_none}
use Rattle.judging.proofs.standing.Standing.first_swap.Goals as goal

pub returns : goal.returns
returns c =
    let t = c.args.self.now.tables.now in
    let ts = contents t in
    let o = c.args.self.now.order.now in
    lowest_pair_from (swap_bad unit ts o) c.lowest_pair.result c.lowest_pair.ensures
    (λ i l. swap_none ts o i (past_swap ts (good t).tables i l)) (λ i f l k. search rules)
