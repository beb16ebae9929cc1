use Rattle.std.proofs.Common.{◌≡◌, ℕ, ◌<◌}
use Rattle.tables.specs.Contents.{contents}
use Rattle.rules.specs.Waits.{Waits}
use Rattle.judging.specs.Case.{case}
use Rattle.judging.specs.Values.{Right}
use Rattle.judging.proofs.complete.Complete.first_wrong.Given as goal

abbrev pub invariant-loop-n : goal.invariant-loop-n
invariant-loop-n g l =
    (l.sheet ≡ l.initial.sheet)
    × ((w : Waits) (j : ℕ) → j < l.n
    → Right
    (case w g.K.WordKind (contents l.self.standing.tables.now) l.self.standing.order.now
    l.initial.sheet.places.now)
    j)
