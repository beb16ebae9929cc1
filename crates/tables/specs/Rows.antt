-- A table as its lines and its barriers, and what adding to it does.
use Rattle.std.specs.Prelude.{ℕ, ◌+◌, cond, List, [], ◌∷◌, ◌++◌, length, Some, None, vec_items, Option, nat_le, nat_lt}
use Rattle.faults.specs.declared.Fault.{Fault}
use Rattle.faults.specs.declared.Fault.TheVariants.{TableFull, CellBeyond, CopyAmiss}
use Rattle.tables.specs.declared.line.Line.{Line}
use Rattle.tables.specs.declared.line.Entry.{Entry}
use Rattle.tables.specs.declared.line.Entry.TheVariants.{Operation, Barrier}
use Rattle.tables.specs.declared.table.Table.{Table}
use Rattle.tables.specs.Size.{unit, most_barriers, last_cell}
use Rattle.tables.specs.Lines.{names}

-- barriers after the last line count too
pub record Rows : Type 0 where
  pub lines : List Line
  pub barriers : ℕ

abbrev pub rows_of : Table → Rows
rows_of t = record { lines = vec_items t.lines; barriers = t.barriers }

abbrev pub empty : Rows
empty = record { lines = []; barriers = 0 }

-- why an entry is refused, if it is: no room, then the cell, then the copy; the place is the number it would have had
abbrev pub refusal : Rows → Entry → Option Fault
refusal s (Operation a c) =
    cond (nat_le unit.lines (length s.lines)) (Some (TableFull (length s.lines + 1)))
    (cond (nat_lt last_cell c) (Some (CellBeyond (length s.lines + 1)))
    (cond (names s.lines a) None (Some (CopyAmiss (length s.lines + 1)))))
refusal s Barrier = cond (nat_le most_barriers s.barriers) (Some (TableFull (s.barriers + 1))) None

-- one line more, numbered by the barriers before it, or one barrier more
abbrev pub added : Rows → Entry → Rows
added s (Operation a c) = record { lines = s.lines ++ record { access = a; cell = c; barrier = s.barriers } ∷ []; barriers = s.barriers }
added s Barrier = record { lines = s.lines; barriers = s.barriers + 1 }
