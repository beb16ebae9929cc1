-- What a call that is not refused does to a machine, and to a sheet by the meanings of its words.
use Rattle.std.specs.Prelude.{◌≡◌, ℕ, ◌-◌, List, None}
use Rattle.tables.specs.Size.{unit, number}
use Rattle.tables.specs.View.{cell_at}
use Rattle.rules.specs.Waits.{Waits}
use Rattle.model.specs.Program.{Words, stored_at}
use Rattle.model.specs.Machine.{Run, next, issue_refusal, drain_refusal, after_drain, issued_line}
use Rattle.machine.specs.declared.machine.Machine.{Machine}
use Rattle.machine.specs.Machines.{state_of, lines_of, program_of}

-- machine and sheet together
abbrev pub run_of : {M : Type 0} → Machine → List M → Run M
run_of m sheet = record { state = state_of m; sheet = sheet }

-- an issue of processor p on a sheet with so many places takes the next line
pub record Issued {M : Type 0} (w : Waits) (K : Words M) (m : Machine) (sheet : List M) (room p : ℕ) (m' : Machine) (sheet' : List M) : Type 0 where
  pub allowed : issue_refusal (program_of w m) (state_of m) room p ≡ None
  pub after : run_of m' sheet' ≡ issued_line (program_of w m) (stored_at K unit (lines_of m)) K.start (run_of m sheet) (next (program_of w m) (state_of m) (p - 1))

-- a drain of line l of processor p moves its held write to the end of the order
pub record Drained (w : Waits) (m : Machine) (p l : ℕ) (m' : Machine) : Type 0 where
  pub allowed : drain_refusal (program_of w m) (state_of m) p l ≡ None
  pub after : state_of m' ≡ after_drain (state_of m) (number unit (p - 1) (l - 1)) (cell_at unit (lines_of m) (number unit (p - 1) (l - 1)))
