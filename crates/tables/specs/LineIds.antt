-- Lines by processor and number there, both counted from 1, over the size of the unit.
use Rattle.std.specs.Prelude.{ℕ, ◌+◌, ◌-◌, List, ◌++◌, codes, decimal}
use Rattle.tables.specs.declared.line_id.LineId.{LineId}
use Rattle.tables.specs.Size.{Size, number, table, row}

-- the line at a place
abbrev pub line_id : Size → ℕ → LineId
line_id z n = record { processor = table z n + 1; line = row z n + 1 }

-- the place of a line; it is also the line's number, counted from 0
abbrev pub place_of : Size → LineId → ℕ
place_of z l = number z (l.processor - 1) (l.line - 1)

-- how a line is printed: the first line of processor 2 is 2.1
abbrev pub line_id_text : LineId → List ℕ
line_id_text l = decimal l.processor ++ (codes "." ++ decimal l.line)
