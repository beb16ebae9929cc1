use Rattle.std.proofs.Common.{◌≡◌, ◌*◌, ◌≤◌}
use Rattle.tables.specs.Contents.{contents}
use Rattle.scheduling.proofs.Needing.{calls_below}
use Rattle.scheduling.proofs.needed.calls_needed.Given as goal

abbrev pub invariant-loop-place : goal.invariant-loop-place
invariant-loop-place l = (l.calls ≡ calls_below (contents l.tables) l.place) × (l.calls ≤ 2 * l.place)
