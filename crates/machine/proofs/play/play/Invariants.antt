use Rattle.std.proofs.Common.{◌≡◌, map, take}
use Rattle.tables.specs.Size.{unit}
use Rattle.model.specs.Program.{stored_at}
use Rattle.model.specs.Machine.{run}
use Rattle.machine.specs.Machines.{lines_of, program_of}
use Rattle.machine.specs.Calls.{run_of}
use Rattle.machine.proofs.play.play.Given as goal

abbrev pub invariant-loop-call : goal.invariant-loop-call
invariant-loop-call g l =
    (run_of l.machine (map g.K.WordKind.meaning l.sheet.places.now)
    ≡ run (program_of g.R.WaitRule.waits l.initial.machine)
    (stored_at (record { start = g.K.WordKind.starts; written = g.K.WordKind.writtens }) unit (lines_of l.initial.machine)) g.K.WordKind.starts
    (take l.call-index l.calls) (run_of l.initial.machine (map g.K.WordKind.meaning l.initial.sheet.places.now)))
    × (lines_of l.machine ≡ lines_of l.initial.machine)
    × (l.sheet.places.ghost_name ≡ l.initial.sheet.places.ghost_name)
