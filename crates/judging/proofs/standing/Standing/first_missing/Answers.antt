use Rattle.std.proofs.Common.{◌≡◌, true, false, arith, rules}
use Rattle.std.proofs.lemmas.Iterator.{first_from_Range}
use borrow.Author.Tests.{tests}
use Rattle.tables.specs.Contents.{contents}
use Rattle.tables.specs.Size.{unit}
use Rattle.tables.proofs.Goods.{good}
use Rattle.judging.specs.Tests.{missing}
use Rattle.judging.proofs.Beyond.{past_missing}
use Rattle.judging.proofs.Lowest.{lowest_from}
use Rattle.judging.proofs.standing.Standing.first_missing.Goals as goal

pub returns : goal.returns
returns c =
    let t = c.args.self.now.tables.now in
    let o = c.args.self.now.order.now in
    let b = missing unit (contents t) o in
    lowest_from b 0 256 (λ e. b e ≡ true) (λ e. b e ≡ false) (λ j h. absurd (omega arith))
    (past_missing (contents t) (good t).tables o) (λ j l u h. h) (λ j l u h. h) c.find.result
    (first_from_Range _ _ _ _ (λ e. b e ≡ true) (λ e. b e ≡ false) c.find.ensures.ran (λ x q k. search (rules, tests))
    (λ x q k. search (rules, tests)))
