use Rattle.std.proofs.Common.{◌≡◌, ℕ, ◌+◌, ◌/◌, ◌<◌, ◌≤◌, Bool, true, false, ◌⊎◌, get_or, sym, inl, inr, arith, rules}
use Rattle.std.proofs.lemmas.Iterator.{first_from_Range}
use borrow.Author.Tests.{tests}
use Rattle.tables.specs.Contents.{contents}
use Rattle.tables.specs.Size.{unit}
use Rattle.tables.specs.View.{line_at}
use Rattle.rules.specs.Waits.{waits_at}
use Rattle.judging.specs.Standings.{nowhere}
use Rattle.judging.specs.Tests.{wait_bad, waits_here}
use Rattle.judging.proofs.Scans.{wait_none, wait_until, wait_here, wait_not, wait_late}
use Rattle.judging.proofs.Lowest.{lowest_from}
use Rattle.judging.proofs.standing.Standing.wait_row.Goals as goal

pub returns-then-not-is_write : goal.returns-then-not-is_write
returns-then-not-is_write g c =
    wait_none (contents c.args.self.now.tables.now) c.args.self.now.order.now c.args.e g.R.WaitRule.waits (sym c.if-not-is_write.ensures)

pub returns : goal.returns
returns g c =
    let s = c.args.self.now in
    let ts = contents s.tables.now in
    let o = s.order.now in
    let e = c.args.e in
    let x = c.requires in
    let a = s.stood e x in
    let at : ℕ → ℕ = λ f. (get_or s.stands f nowhere).place in
    let w = g.R.WaitRule.waits in
    let must : ℕ → Bool = λ f. waits_at w (line_at unit ts (e / 2)) (line_at unit ts (f / 2)) in
    let Yes : ℕ → Type 0 = λ f. (at f ≤ at e) × (waits_here unit ts f ≡ true) × (must f ≡ true) in
    let No : ℕ → Type 0 = λ f. (at e < at f) ⊎ ((waits_here unit ts f ≡ false) ⊎ (must f ≡ false)) in
    lowest_from (wait_bad unit ts o w e) c.first_behind.result c.past_table.result Yes No (wait_until ts o e w c.first_behind.result c.first_behind.ensures.ahead)
    (λ j h. wait_late ts o e w j (omega arith))
    (λ f l u h.
    let b = s.stood f (omega arith) in
    wait_here ts o e w f (sym c.if-not-is_write.ensures) (omega arith) (omega arith) h.1 (omega arith) h.2)
    (λ f l u h. let b = s.stood f (omega arith) in wait_not ts o e w f (elim h [
      | inl y ↦ inr (inl (omega arith))
      | inr y ↦ elim y [ inl z ↦ inl z | inr z ↦ inr (inr z) ]
    ]))
    c.find.result
    (first_from_Range _ _ _ _ Yes No c.find.ensures.ran (λ f q k. search (rules, tests)) (λ f q k. search (rules, tests)))
