-- Which line is asked about, and when that is refused.
use Rattle.std.specs.Prelude.{ℕ, ◌-◌, cond, List, Some, None, Option}
use Rattle.faults.specs.declared.Fault.{Fault}
use Rattle.faults.specs.declared.Fault.TheVariants.{NothingRead}
use Rattle.tables.specs.Size.{unit, number}
use Rattle.tables.specs.Rows.{Rows}
use Rattle.tables.specs.Places.{line_refused}
use Rattle.tables.specs.View.{reads_at}

-- line l of processor p, both counted from 1, by its number
abbrev pub asked_line : ℕ → ℕ → ℕ
asked_line p l = number unit (p - 1) (l - 1)

-- a refusal if there is one, and else what the next test says
abbrev pub or_next : Option Fault → Option Fault → Option Fault
or_next None r = r
or_next (Some e) r = Some e

-- the first test that fails, if one does: the processor, the line in its table, and that it reads
abbrev pub ask_refused : List Rows → ℕ → ℕ → Option Fault
ask_refused ts p l = or_next (line_refused ts p l) (cond (reads_at unit ts (asked_line p l)) None (Some (NothingRead l)))
