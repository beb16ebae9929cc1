use Rattle.std.proofs.Common.{◌≡◌, true, false, ◌&&◌, rules}
use borrow.Author.Tests.{tests}
use Rattle.std.proofs.lemmas.Iterator.{first_from_Range}
use Rattle.tables.specs.Size.{places}
use Rattle.machine.specs.Machines.{state_of, program_of}
use Rattle.machine.proofs.Scans.{lowest_found}
use Rattle.machine.proofs.machine.Machine.lowest_stop.Goals as goal

pub returns : goal.returns
unfolding places
returns g c =
    let P = program_of g.R.WaitRule.waits c.args.self.now in let s = state_of c.args.self.now in let n = c.args.n in
    lowest_found s.held (λ k. P.wait k n) n c.requires _
    (first_from_Range _ _ _ _ (λ k. (s.held k && P.wait k n) ≡ true) (λ k. (s.held k && P.wait k n) ≡ false) c.find.ensures.ran (λ x q k. search (rules, tests)) (λ x q k. search (rules, tests)))
