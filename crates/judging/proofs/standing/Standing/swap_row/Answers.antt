use Rattle.std.proofs.Common.{◌≡◌, true, false, sym, arith, rules}
use Rattle.std.proofs.lemmas.Iterator.{first_from_Range}
use borrow.Author.Tests.{tests}
use Rattle.tables.specs.Contents.{contents}
use Rattle.tables.specs.Size.{unit}
use Rattle.tables.proofs.Goods.{good}
use Rattle.judging.specs.Tests.{swap_bad, writes_between}
use Rattle.judging.proofs.Beyond.{past_write}
use Rattle.judging.proofs.Scans.{swap_none, swap_here, swap_not, past_between}
use Rattle.judging.proofs.Lowest.{lowest_from}
use Rattle.judging.proofs.standing.Standing.swap_row.Goals as goal
use Rattle.judging.proofs.standing.Standing.swap_row.Goals.{then-not-is_swap-via-then-not-is_swap, then-not-is_swap-via-else-not-is_swap+then-is_close}

pub returns-then-not-is_swap : goal.returns-then-not-is_swap
returns-then-not-is_swap c =
    elim c.then-not-is_swap.branch [
      | then-not-is_swap-via-then-not-is_swap w ↦
          swap_none (contents c.args.self.now.tables.now) c.args.self.now.order.now c.args.e (sym w.if-not-is_swap.ensures)
      | then-not-is_swap-via-else-not-is_swap+then-is_close w ↦ w.is_close.ensures w.if-is_close.true
    ]

pub returns : goal.returns
returns c =
    let t = c.args.self.now.tables.now in
    let ts = contents t in
    let o = c.args.self.now.order.now in
    let e = c.args.e in
    let b = writes_between unit ts o e in
    lowest_from (swap_bad unit ts o e) 0 256 (λ f. b f ≡ true) (λ f. b f ≡ false) (λ j h. absurd (omega arith))
    (λ j l. swap_not ts o e j (past_between ts o e j (past_write ts (good t).tables j l)))
    (λ f l u h. swap_here ts o e f (sym c.if-not-is_swap.ensures) h) (λ f l u h. swap_not ts o e f h) c.find.result
    (first_from_Range _ _ _ _ (λ f. b f ≡ true) (λ f. b f ≡ false) c.find.ensures.ran (λ x q k. search (rules, tests))
    (λ x q k. search (rules, tests)))
