-- A table's entries: their codes, the numbers that they are written as, the table that they make, and the claims of its lines.
use Rattle.std.specs.Prelude.{◌≡◌, ℕ, ◌<◌, List, [], ◌∷◌, Some, None, fold, Option, Result, MatchResult, slice_index_or}
use Rattle.std.specs.List.{flat_map}
use Rattle.tables.specs.declared.line.Operand.{Operand}
use Rattle.tables.specs.declared.line.Operand.TheVariants.{Written, Copied}
use Rattle.tables.specs.declared.line.Access.TheVariants.{Load, Store, Swap}
use Rattle.tables.specs.declared.line.Entry.{Entry}
use Rattle.tables.specs.declared.line.Entry.TheVariants.{Operation, Barrier}
use Rattle.tables.specs.Size.{unit, table, row}
use Rattle.tables.specs.Rows.{Rows, empty, added}
use Rattle.record.specs.declared.entries.Item.{Item}
use Rattle.record.specs.declared.entries.EntryCode.{EntryCode}
use Rattle.record.specs.declared.entries.UnknownCode.{UnknownCode}
use Rattle.record.specs.declared.entries.EntryCode.TheVariants.{Load as Loads, Store as Stores, Swap as Swaps, Barrier as Bars}
use Rattle.record.specs.declared.entries.Source.{Source}
use Rattle.record.specs.declared.entries.Source.TheVariants.{Number, Copy}

-- the code by which a kind of entry is known
abbrev pub code_of : EntryCode → ℕ
code_of Loads = 0
code_of (Stores Number) = 1
code_of (Stores Copy) = 2
code_of (Swaps Number) = 3
code_of (Swaps Copy) = 4
code_of Bars = 5

-- r is the kind with this code, or no kind has it
abbrev pub Decodes : ℕ → Result EntryCode UnknownCode → Type 0
Decodes code r = MatchResult r (λ k. code_of k ≡ code) (λ e. code_of Bars < code)

-- a claim as it is written, if there is one
abbrev pub claim_numbers : Option ℕ → List ℕ
claim_numbers None = []
claim_numbers (Some c) = c ∷ []

-- where the word comes from that a line writes, and the number that says it: the word itself, or the line that is copied
abbrev pub source_of : Operand → Source
source_of (Written n) = Number
source_of (Copied l) = Copy

abbrev pub operand_number : Operand → ℕ
operand_number (Written n) = n
operand_number (Copied l) = l

abbrev pub entry_numbers : Entry → Option ℕ → List ℕ
entry_numbers (Operation Load c) k = code_of Loads ∷ c ∷ claim_numbers k
entry_numbers (Operation (Store o) c) k = code_of (Stores (source_of o)) ∷ c ∷ operand_number o ∷ claim_numbers k
entry_numbers (Operation (Swap o) c) k = code_of (Swaps (source_of o)) ∷ c ∷ operand_number o ∷ claim_numbers k
entry_numbers Barrier k = code_of Bars ∷ claim_numbers k

-- the numbers that an entry with its claim is written as
abbrev pub numbers_of : Item → List ℕ
numbers_of x = entry_numbers x.entry x.claim

-- the table that entries make
abbrev pub rows : List Item → Rows
rows xs = fold (λ s x. added s x.entry) empty xs

abbrev pub line_claim : Entry → Option ℕ → List (Option ℕ)
line_claim (Operation a c) k = k ∷ []
line_claim Barrier k = []

-- the claims of the lines, in the sequence of the lines
abbrev pub claims_of : List Item → List (Option ℕ)
claims_of xs = flat_map (λ x. line_claim x.entry x.claim) xs

-- the claim of the line with this place on a sheet, if the tables have such a line and it reads
abbrev pub claim_at : List (List Item) → ℕ → Option ℕ
claim_at ts n = slice_index_or (claims_of (slice_index_or ts (table unit n) [])) (row unit n) None
