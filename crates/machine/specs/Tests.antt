-- What the tests of a call have found when none of them fails.
use Rattle.std.specs.Prelude.{◌≡◌, ℕ, ◌-◌, ◌/◌, ◌%◌, ◌<◌, ◌≤◌, true, Some, None, slice_index}
use Rattle.tables.specs.declared.line.Line.{Line}
use Rattle.tables.specs.Size.{unit, number}
use Rattle.tables.specs.View.{line_at}
use Rattle.rules.specs.Waits.{Waits}
use Rattle.model.specs.Machine.{next, issue_refusal, drain_refusal}
use Rattle.machine.specs.declared.machine.Machine.{Machine}
use Rattle.machine.specs.Machines.{state_of, lines_of, program_of}

module _ (w : Waits) (m : Machine) where
  -- line n is the next of processor p, and may be issued on a sheet with so many places
  pub record Issuable (room p n : ℕ) (l : Line) : Type 0 where
    pub allowed : issue_refusal (program_of w m) (state_of m) room p ≡ None
    pub is : n ≡ next (program_of w m) (state_of m) (p - 1)
    pub within : n < 128
    pub row : n % 32 ≡ slice_index m.inner.issued (n / 32)
    pub line : Some l ≡ line_at unit (lines_of m) n
    pub wide : 128 ≤ room

  -- n is line l of processor p, and its write may be drained
  pub record Drainable (p l n : ℕ) : Type 0 where
    pub allowed : drain_refusal (program_of w m) (state_of m) p l ≡ None
    pub is : n ≡ number unit (p - 1) (l - 1)
    pub within : n < 128
    pub held : (state_of m).held n ≡ true
