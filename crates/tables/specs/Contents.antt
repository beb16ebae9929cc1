-- The contents of all tables, and what adding to one of them does.
use Rattle.std.specs.Prelude.{ℕ, ◌-◌, cond, List, [], ◌∷◌, map, Some, Option, nat_lt, slice_index_or, slice_set}
use Rattle.faults.specs.declared.Fault.{Fault}
use Rattle.faults.specs.declared.Fault.TheVariants.{ProcessorUnknown}
use Rattle.tables.specs.declared.line.Entry.{Entry}
use Rattle.tables.specs.declared.tables.Tables.{Tables}
use Rattle.tables.specs.Size.{unit}
use Rattle.tables.specs.Rows.{Rows, rows_of, empty, refusal, added}

abbrev pub contents : Tables → List Rows
contents t = map rows_of t.rows

abbrev pub blank : List Rows
blank = empty ∷ empty ∷ empty ∷ empty ∷ []

-- the first test that fails: the processor, then those of its table
abbrev pub refused : List Rows → ℕ → Entry → Option Fault
refused ts p e =
    cond (nat_lt p 1) (Some ProcessorUnknown) (cond (nat_lt unit.tables p) (Some ProcessorUnknown) (refusal (slice_index_or ts (p - 1) empty) e))

-- one line or barrier more in the table of processor p, and the others as they were
abbrev pub with_added : List Rows → ℕ → Entry → List Rows
with_added ts p e = slice_set ts (p - 1) (added (slice_index_or ts (p - 1) empty) e)
