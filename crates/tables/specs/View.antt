-- What the axioms and the machine ask of tables: which lines read and write, on which cell, copying what.
use Rattle.std.specs.Prelude.{◌≡◌, ℕ, ◌-◌, ◌/◌, ◌%◌, ◌<◌, ◌≤◌, Bool, true, false, ◌&&◌, ◌||◌, List, length, Some, None, Option, ◌==◌, slice_index_or}
use Rattle.tables.specs.declared.line.Operand.{Operand}
use Rattle.tables.specs.declared.line.Operand.TheVariants.{Written, Copied}
use Rattle.tables.specs.declared.line.Access.{Access}
use Rattle.tables.specs.declared.line.Access.TheVariants.{Load, Store, Swap}
use Rattle.tables.specs.declared.line.Line.{Line}
use Rattle.tables.specs.Size.{Size, number, table, row}
use Rattle.tables.specs.Lines.{nth, line_reads, line_writes}
use Rattle.tables.specs.Rows.{Rows, empty}

-- the line of a number, if there is one
abbrev pub line_at : Size → List Rows → ℕ → Option Line
line_at z ts n = nth (slice_index_or ts (table z n) empty).lines (row z n)

-- f of a line, or d where there is none
abbrev pub of_line : {X : Type 0} → X → (Line → X) → Option Line → X
of_line d f None = d
of_line d f (Some l) = f l

abbrev pub reads_at : Size → List Rows → ℕ → Bool
reads_at z ts n = of_line false line_reads (line_at z ts n)

abbrev pub writes_at : Size → List Rows → ℕ → Bool
writes_at z ts n = of_line false line_writes (line_at z ts n)

abbrev pub cell_at : Size → List Rows → ℕ → ℕ
cell_at z ts n = of_line 0 (λ l. l.cell) (line_at z ts n)

-- a code is that of a read event, or of a write event, of the tables
abbrev pub is_read : Size → List Rows → ℕ → Bool
is_read z ts e = e % 2 == 0 && reads_at z ts (e / 2)

abbrev pub is_write : Size → List Rows → ℕ → Bool
is_write z ts e = e % 2 == 1 && writes_at z ts (e / 2)

abbrev pub is_event : Size → List Rows → ℕ → Bool
is_event z ts e = is_read z ts e || is_write z ts e

-- what an access writes; a load has no operand
abbrev pub operand_of : Access → Option Operand
operand_of Load = None
operand_of (Store o) = Some o
operand_of (Swap o) = Some o

-- what the line of a number writes, if there is one and it writes
abbrev pub operand_at : Size → List Rows → ℕ → Option Operand
operand_at z ts m = of_line None (λ l. operand_of l.access) (line_at z ts m)

-- the line whose word line m copies, if it copies one
abbrev pub copied_by : Size → ℕ → Option Operand → Option ℕ
copied_by z m None = None
copied_by z m (Some (Written v)) = None
copied_by z m (Some (Copied k)) = Some (number z (table z m) (k - 1))

abbrev pub copy_at : Size → List Rows → ℕ → Option ℕ
copy_at z ts m = of_line None (λ l. copied_by z m (operand_of l.access)) (line_at z ts m)

-- the number that a line writes; 0 stands for it where a line writes none, which nobody asks for
abbrev pub written_number : Option Operand → ℕ
written_number None = 0
written_number (Some (Written v)) = v
written_number (Some (Copied k)) = 0

abbrev pub number_at : Size → List Rows → ℕ → ℕ
number_at z ts m = of_line 0 (λ l. written_number (operand_of l.access)) (line_at z ts m)

-- tables of that size, whose copies name an earlier line of the table that reads
pub record Good (z : Size) (ts : List Rows) : Type 0 where
  pub tables : length ts ≡ z.tables
  pub rows : (p : ℕ) → length (slice_index_or ts p empty).lines ≤ z.lines
  pub copies : (m k : ℕ) → copy_at z ts m ≡ Some k → (table z k ≡ table z m) × (k < m) × (reads_at z ts k ≡ true)
