use Rattle.std.proofs.Common.{◌≡◌, ℕ, ◌+◌, ◌<◌, ◌≤◌, true, false, ◌⊎◌, get_or, sym, inl, inr, arith, rules}
use Rattle.std.proofs.lemmas.Iterator.{first_from_Range}
use borrow.Author.Tests.{tests}
use Rattle.tables.specs.Contents.{contents}
use Rattle.tables.specs.Size.{unit}
use Rattle.tables.specs.View.{is_event}
use Rattle.judging.specs.Standings.{nowhere}
use Rattle.judging.specs.Tests.{load_bad}
use Rattle.judging.proofs.Scans.{load_none, load_until, load_here, load_not, load_late}
use Rattle.judging.proofs.Lowest.{lowest_from}
use Rattle.judging.proofs.standing.Standing.load_row.Goals as goal

pub returns-then-not-is_read : goal.returns-then-not-is_read
returns-then-not-is_read c =
    load_none (contents c.args.self.now.tables.now) c.args.self.now.order.now c.args.e (sym c.if-not-is_read.ensures)

pub returns : goal.returns
returns c =
    let s = c.args.self.now in
    let ts = contents s.tables.now in
    let o = s.order.now in
    let e = c.args.e in
    let x = c.requires in
    let a = s.stood e x in
    let at : ℕ → ℕ = λ f. (get_or s.stands f nowhere).place in
    let Yes : ℕ → Type 0 = λ f. (at f ≤ at e) × (is_event unit ts f ≡ true) in
    let No : ℕ → Type 0 = λ f. (at e < at f) ⊎ (is_event unit ts f ≡ false) in
    lowest_from (load_bad unit ts o e) c.first_behind.result c.past_table.result Yes No (load_until ts o e c.first_behind.result c.first_behind.ensures.ahead)
    (λ j h. load_late ts o e j (omega arith))
    (λ f l u h. let b = s.stood f (omega arith) in load_here ts o e f (sym c.if-not-is_read.ensures) (omega arith) (omega arith) h.1 (omega arith))
    (λ f l u h. let b = s.stood f (omega arith) in load_not ts o e f (elim h [ inl y ↦ inr (omega arith) | inr y ↦ inl y ]))
    c.find.result
    (first_from_Range _ _ _ _ Yes No c.find.ensures.ran (λ f q k. search (rules, tests)) (λ f q k. search (rules, tests)))
