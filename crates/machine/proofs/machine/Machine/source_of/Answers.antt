use Rattle.std.proofs.Common.{◌≡◌, ℕ, ◌≤◌, true, false, ◌&&◌, eqb, rules, ap, ◌∙◌, arith}
use borrow.Author.Tests.{tests}
use Rattle.tables.specs.Size.{unit, places}
use Rattle.tables.specs.View.{cell_at}
use Rattle.model.specs.Machine.{or_else, highest, earlier}
use Rattle.machine.specs.Machines.{state_of, lines_of}
use Rattle.machine.proofs.Scans.{highest_found, last_from_Range, cell_fits}
use Rattle.machine.proofs.machine.Machine.source_of.Goals as goal

pub or_else-requires : goal.or_else-requires
or_else-requires c = let h : c.args.cell ≤ 63 = omega (arith, c.requires.own, cell_fits c.args.self.now.inner.tables c.args.n) in search (rules, h)

pub returns-clause-value : goal.returns-clause-value
unfolding places
returns-clause-value c =
    let at = cell_at unit (lines_of c.args.self.now) in let s = state_of c.args.self.now in let n = c.args.n in let cell = c.args.cell in
    let run = c.find.ensures.runs in
    let back = c.rev.ensures.runs run.0 run.0.seen run.1 in
    let found = highest_found s.held (λ k. eqb (at k) cell) n c.requires.within _
    (last_from_Range run.0 back.0 _ _ _ (λ k. (s.held k && eqb (at k) cell) ≡ true) (λ k. (s.held k && eqb (at k) cell) ≡ false)
    back.1 back.2 (search (rules, tests)) (λ x k. search (rules, tests)) (λ x k. search (rules, tests)) _ run.2) in
    let either : c.or_else.result ≡ or_else c.find.result (s.last cell) = search rules in
    either ∙ ap (λ o. or_else o (s.last cell)) found
    ∙ ap (λ (k : ℕ). or_else (highest (λ j. s.held j && (earlier unit j n && eqb (at j) k)) 128) (s.last k)) c.requires.own
