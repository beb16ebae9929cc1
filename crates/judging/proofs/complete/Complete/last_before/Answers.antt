use Rattle.std.proofs.Common.{◌*◌, ◌/◌, ℕ, Option, get_or, option_map, sym, subst, ap, ◌∙◌, arith, rules}
use Rattle.std.proofs.lemmas.List.{length-take-le}
use borrow.Author.Tests.{tests}
use Rattle.tables.specs.Contents.{contents}
use Rattle.tables.specs.Size.{unit}
use Rattle.tables.proofs.Goods.{good}
use Rattle.model.proofs.Positions.{place_le}
use Rattle.judging.specs.Sources.{Best}
use Rattle.judging.proofs.Backwards.{last_from}
use Rattle.judging.proofs.Beyond.{event_low}
use Rattle.judging.proofs.Choosing.{IsWrite, IsNoWrite, best_before}
use Rattle.judging.proofs.complete.Complete.last_before.Goals as goal

pub slice_bounds-before-end : goal.slice_bounds-before-end
slice_bounds-before-end c =
    let s = c.args.self.now.standing in
    let at = (s.stood (2 * c.args.n) (let x = c.requires in omega arith)).0 in
    let b = place_le s.order.now (2 * c.args.n) in
    sym (length-take-le _ s.order.now (omega arith))

pub returns : goal.returns
returns c =
    let s = c.args.self.now.standing in
    let ts = contents s.tables.now in
    let o = s.order.now in
    let n = c.args.n in
    let at = (s.stood (2 * n) (let x = c.requires in omega arith)).0 in
    subst (λ (r : Option ℕ). Best unit ts o n (n / 32 * 32) r) (ap (option_map (λ (i : ℕ). get_or o i 0 / 2)) c.in_ok-i.was)
    (best_before ts o c.args.self.now.settled n (λ i h. event_low ts (good s.tables.now).tables (get_or o i 0) (s.listed i h)) _ at
    c.rposition.result
    (last_from (IsWrite ts n) (IsNoWrite ts n) (λ a r q k. search rules) (λ x k. search (rules, tests)) (λ x k. search (rules, tests))
    c.iter.result _ c.iter.ensures.rest c.iter.ensures.runs_back c.rposition.result c.rposition.ensures.bound c.rposition.ensures.runs))

pub returns-in_err-i : goal.returns-in_err-i
returns-in_err-i c =
    let s = c.args.self.now.standing in
    let ts = contents s.tables.now in
    let o = s.order.now in
    let n = c.args.n in
    let at = (s.stood (2 * n) (let x = c.requires in omega arith)).0 in
    subst (λ (r : Option ℕ). Best unit ts o n (n / 32 * 32) r)
    (ap (option_map (λ (i : ℕ). get_or o i 0 / 2)) c.in_err-i.was ∙ sym c.from_residual.ensures)
    (best_before ts o c.args.self.now.settled n (λ i h. event_low ts (good s.tables.now).tables (get_or o i 0) (s.listed i h)) _ at
    c.rposition.result
    (last_from (IsWrite ts n) (IsNoWrite ts n) (λ a r q k. search rules) (λ x k. search (rules, tests)) (λ x k. search (rules, tests))
    c.iter.result _ c.iter.ensures.rest c.iter.ensures.runs_back c.rposition.result c.rposition.ensures.bound c.rposition.ensures.runs))
