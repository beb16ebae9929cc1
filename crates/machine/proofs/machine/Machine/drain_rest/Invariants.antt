use Rattle.std.proofs.Common.{◌≡◌}
use Rattle.tables.specs.Size.{unit}
use Rattle.tables.specs.View.{cell_at}
use Rattle.model.specs.Machine.{sweep}
use Rattle.machine.specs.Machines.{state_of, lines_of}
use Rattle.machine.proofs.machine.Machine.drain_rest.Given as goal

abbrev pub invariant-loop-n : goal.invariant-loop-n
invariant-loop-n l =
    (state_of l.self ≡ sweep (cell_at unit (lines_of l.initial.self)) (state_of l.initial.self) l.n)
    × (lines_of l.self ≡ lines_of l.initial.self)
