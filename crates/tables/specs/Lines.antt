-- Lines: what they do, and what a line must be among the lines of its table.
use Rattle.std.specs.Prelude.{◌≡◌, ℕ, zero, suc, ◌<◌, ◌≤◌, Bool, true, false, List, [], ◌∷◌, length, take, Some, None, Option}
use Rattle.tables.specs.declared.line.Operand.{Operand}
use Rattle.tables.specs.declared.line.Operand.TheVariants.{Written, Copied}
use Rattle.tables.specs.declared.line.Access.{Access}
use Rattle.tables.specs.declared.line.Access.TheVariants.{Load as Loads, Store as Stores, Swap as Swaps}
use Rattle.tables.specs.declared.line.Kind.{Kind}
use Rattle.tables.specs.declared.line.Kind.TheVariants.{Load, Store, Swap}
use Rattle.tables.specs.declared.line.Line.{Line}
use Rattle.tables.specs.Size.{last_cell}

-- an access without its operand
abbrev pub kind_of : Access → Kind
kind_of Loads = Load
kind_of (Stores o) = Store
kind_of (Swaps o) = Swap

abbrev pub reads : Kind → Bool
reads Load = true
reads Store = false
reads Swap = true

abbrev pub writes : Kind → Bool
writes Load = false
writes Store = true
writes Swap = true

abbrev pub line_reads : Line → Bool
line_reads l = reads (kind_of l.access)

abbrev pub line_writes : Line → Bool
line_writes l = writes (kind_of l.access)

-- what stands at a position, counted from 0
abbrev pub nth : {X : Type 0} → List X → ℕ → Option X
nth [] k = None
nth (x ∷ xs) zero = Some x
nth (x ∷ xs) (suc k) = nth xs k

-- whether there is a line of this number, counted from 1, and it reads
abbrev pub reading : List Line → ℕ → Bool
reading ls zero = false
reading [] (suc k) = false
reading (l ∷ ls) (suc zero) = line_reads l
reading (l ∷ ls) (suc (suc k)) = reading ls (suc k)

abbrev pub sound : List Line → Operand → Bool
sound ls (Written n) = true
sound ls (Copied k) = reading ls k

-- whether what is copied, if anything, is what one of these lines reads
abbrev pub names : List Line → Access → Bool
names ls Loads = true
names ls (Stores o) = sound ls o
names ls (Swaps o) = sound ls o

abbrev pub CellsFit : List Line → Type 0
CellsFit ls = (k : ℕ) (l : Line) → nth ls k ≡ Some l → l.cell ≤ last_cell

-- each copy is of an earlier line that reads
abbrev pub CopiesFit : List Line → Type 0
CopiesFit ls = (k : ℕ) (l : Line) → nth ls k ≡ Some l → names (take k ls) l.access ≡ true

-- no barrier number passes the table's barriers
abbrev pub BarriersWithin : List Line → ℕ → Type 0
BarriersWithin ls total = (k : ℕ) (l : Line) → nth ls k ≡ Some l → l.barrier ≤ total

abbrev pub barrier_at : List Line → ℕ → ℕ
barrier_at [] k = 0
barrier_at (l ∷ ls) zero = l.barrier
barrier_at (l ∷ ls) (suc k) = barrier_at ls k

-- barrier numbers never fall
abbrev pub BarriersRise : List Line → Type 0
BarriersRise ls = (j k : ℕ) → j ≤ k → k < length ls → barrier_at ls j ≤ barrier_at ls k
