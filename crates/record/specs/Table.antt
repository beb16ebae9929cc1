-- The format of a table's section: entries up to its end, each a code and the numbers that follow such a code.
use Rattle.std.specs.Prelude.{◌≡◌, ℕ, zero, suc, Bool, cond, List, [], ◌∷◌, length, Some, None, ◌==◌, nat_le, nat_lt}
use Rattle.faults.specs.declared.Fault.TheVariants.{EntryUnknown, TableFull, CellBeyond, CopyAmiss}
use Rattle.tables.specs.Size.{unit, most_barriers, last_cell}
use Rattle.tables.specs.Lines.{reading}
use Rattle.tables.specs.Rows.{Rows}
use Rattle.record.specs.declared.entries.Item.{Item}
use Rattle.record.specs.declared.entries.EntryCode.TheVariants.{Barrier}
use Rattle.record.specs.declared.entries.Source.{Source}
use Rattle.record.specs.declared.entries.Source.TheVariants.{Number, Copy}
use Rattle.record.specs.Form.{Form, Test, say, ◌then◌, tested, repeated}
use Rattle.record.specs.Section.{held}
use Rattle.record.specs.Entries.{code_of, numbers_of, rows}

-- what a number after an entry's code stands for
pub data Role : Type 0 where
  cell : Role
  number : Role
  copied : Role
  claim : Role

-- the numbers that follow each entry code
abbrev pub roles : ℕ → List Role
roles zero = cell ∷ claim ∷ []
roles (suc zero) = cell ∷ number ∷ []
roles (suc (suc zero)) = cell ∷ copied ∷ []
roles (suc (suc (suc zero))) = cell ∷ number ∷ claim ∷ []
roles (suc (suc (suc (suc zero)))) = cell ∷ copied ∷ claim ∷ []
roles (suc (suc (suc (suc (suc n))))) = []

-- what the number stands for that says what a line writes
abbrev pub role_of : Source → Role
role_of Number = number
role_of Copy = copied

-- an entry of this code would be a line or a barrier too many
abbrev pub full : Rows → ℕ → Bool
full s code = cond (code == code_of Barrier) (nat_le most_barriers s.barriers) (nat_le unit.lines (length s.lines))

-- no entry has a code above that of a barrier, and the table has room
abbrev pub code_test : Rows → Test
code_test s code = cond (nat_lt (code_of Barrier) code) (Some EntryUnknown) (cond (full s code) (Some TableFull) None)

abbrev pub cell_test : Test
cell_test v = cond (nat_lt last_cell v) (Some CellBeyond) None

-- a copied line is an earlier one that reads
abbrev pub copied_test : Rows → Test
copied_test s v = cond (reading s.lines v) None (Some CopyAmiss)

abbrev pub test : Rows → Role → Test
test s cell = cell_test
test s number = λ _. None
test s copied = copied_test s
test s claim = λ _. None

-- numbers of these roles, one after the other
abbrev pub parts : List ℕ → ℕ → Rows → List Role → Form (List ℕ)
parts part base s [] = say []
parts part base s (r ∷ rs) = tested part base (test s r) then λ v. parts part base s rs then λ vs. say (v ∷ vs)

-- the entry that is written as these numbers
abbrev pub numbered : List ℕ → Form Item
numbered ns = record { is = λ at x next. (numbers_of x ≡ ns) × (next ≡ at); amiss = λ at e. ⊥ }

-- an entry that follows those of the table s
abbrev pub entry_form : List ℕ → ℕ → Rows → Form Item
entry_form part base s = tested part base (code_test s) then λ code. parts part base s (roles code) then λ ns. numbered (code ∷ ns)

-- a table: entries up to the end of its part
abbrev pub table_form : List ℕ → ℕ → Form (List Item)
table_form part base = repeated (λ front. entry_form part base (rows front)) (λ front p. p ≡ length part)

-- the tables of all processors, a section for each
abbrev pub tables_form : List ℕ → Form (List (List Item))
tables_form bytes = repeated (λ front. held bytes table_form) (λ front p. length front ≡ unit.tables)
