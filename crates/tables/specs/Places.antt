-- A line by its processor and its number there, both counted from 1, and when there is none.
use Rattle.std.specs.Prelude.{ℕ, ◌-◌, cond, List, Some, None, Option, nat_lt, slice_index_or}
use Rattle.faults.specs.declared.Fault.{Fault}
use Rattle.faults.specs.declared.Fault.TheVariants.{ProcessorUnknown, LineUnknown}
use Rattle.tables.specs.declared.line.Line.{Line}
use Rattle.tables.specs.Size.{unit}
use Rattle.tables.specs.Lines.{nth}
use Rattle.tables.specs.Rows.{Rows, empty}

abbrev pub no_line : ℕ → Option Line → Option Fault
no_line l None = Some (LineUnknown l)
no_line l (Some x) = None

-- the first test that fails, if one does: the processor, then the line in its table
abbrev pub line_refused : List Rows → ℕ → ℕ → Option Fault
line_refused ts p l =
    cond (nat_lt p 1) (Some ProcessorUnknown)
    (cond (nat_lt unit.tables p) (Some ProcessorUnknown)
    (cond (nat_lt l 1) (Some (LineUnknown l)) (no_line l (nth (slice_index_or ts (p - 1) empty).lines (l - 1)))))
