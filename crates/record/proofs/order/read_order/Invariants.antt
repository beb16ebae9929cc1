use Rattle.std.proofs.Common.{◌-◌, ◌≤◌, length}
use Rattle.record.proofs.Events.{Events}
use Rattle.record.proofs.order.read_order.Given as goal

abbrev pub invariant-loop-at : goal.invariant-loop-at
invariant-loop-at l = Events l.part.bytes.now l.part.start l.codes.items l.at × (l.at ≤ length l.part.bytes.now)

abbrev pub decreases-loop-at : goal.decreases-loop-at
decreases-loop-at l = length l.part.bytes.now - l.at
