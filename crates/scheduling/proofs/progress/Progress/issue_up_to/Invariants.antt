use Rattle.std.proofs.Common.{◌≡◌, ℕ, ◌+◌, ◌-◌, ◌≤◌, length}
use Rattle.numbers.specs.Put.{Put}
use Rattle.model.specs.Schedule.{fill, more}
use Rattle.scheduling.specs.Calls.{issued_by, codes_of}
use Rattle.scheduling.proofs.progress.Progress.issue_up_to.Given as goal

abbrev pub invariant-loop-self : goal.invariant-loop-self
invariant-loop-self l =
    (k : ℕ)
    × (k ≤ l.row + 1 - issued_by l.initial.self.issued l.table)
    × (length l.self.issued ≡ 4)
    × Put (codes_of (fill k l.table)) l.initial.output l.initial.self.count l.self.count l.output
    × ((q : ℕ) → issued_by l.self.issued q ≡ more (issued_by l.initial.self.issued) l.table k q)

abbrev pub decreases-loop-self : goal.decreases-loop-self
decreases-loop-self l = l.row + 1 - issued_by l.self.issued l.table
