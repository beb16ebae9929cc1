-- A machine as the model's state and program.
use Rattle.std.specs.Prelude.{List}
use Rattle.tables.specs.Size.{unit}
use Rattle.tables.specs.Rows.{Rows}
use Rattle.tables.specs.Contents.{contents}
use Rattle.rules.specs.Waits.{Waits}
use Rattle.model.specs.Program.{Program, program}
use Rattle.model.specs.Machine.{State}
use Rattle.machine.specs.declared.machine.Machine.{Machine}
use Rattle.machine.specs.States.{inside}

abbrev pub state_of : Machine → State
state_of m = inside m.inner

-- its tables
abbrev pub lines_of : Machine → List Rows
lines_of m = contents m.inner.tables

-- its lines under a waiting rule
abbrev pub program_of : Waits → Machine → Program
program_of w m = program unit w (lines_of m)
