-- What a reader keeps of the tables that it has read: a draft's tables, and a claim for each place.
use Rattle.std.specs.Prelude.{◌≡◌, ℕ, List, [], ◌∷◌, ◌++◌, length, None, Option, slice_index_or, slice_set}
use Rattle.tables.specs.declared.line.Entry.{Entry}
use Rattle.tables.specs.declared.line.Entry.TheVariants.{Operation, Barrier}
use Rattle.tables.specs.Size.{unit, number}
use Rattle.tables.specs.Rows.{Rows, empty}
use Rattle.rules.specs.declared.rule.Rule.{Rule}
use Rattle.record.specs.declared.entries.Item.{Item}
use Rattle.record.specs.Entries.{rows, claim_at}
use Rattle.record.specs.Table.{table_form}
use Rattle.record.specs.Record.{Said, record_form}

-- rs and cs hold what the tables ts say, and nothing else
pub record Kept (ts : List (List Item)) (rs : List Rows) (cs : List (Option ℕ)) : Type 0 where
  pub count : length rs ≡ unit.tables
  pub tables : (k : ℕ) → slice_index_or rs k empty ≡ rows (slice_index_or ts k [])
  pub size : length cs ≡ 128
  pub claims : (n : ℕ) → slice_index_or cs n None ≡ claim_at ts n

abbrev pub note_at : Entry → Option ℕ → ℕ → List (Option ℕ) → List (Option ℕ)
note_at (Operation a c) k n cs = slice_set cs n k
note_at Barrier k n cs = cs

-- the claims after one entry more in table p, which is s
abbrev pub noted : ℕ → Rows → Item → List (Option ℕ) → List (Option ℕ)
noted p s x cs = note_at x.entry x.claim (number unit p (length s.lines)) cs

-- the entries of a part are those of table p, and are kept after those of the tables before it
pub record Tabled (part : List ℕ) (base p : ℕ) (rs rs' : List Rows) (cs cs' : List (Option ℕ)) : Type 0 where
  pub items : List Item
  pub is : (table_form part base).is 0 items (length part)
  pub kept : (ts : List (List Item)) → length ts ≡ p → Kept ts rs cs → Kept (ts ++ items ∷ []) rs' cs'

-- bytes are a record of this rule and of this order, and its tables are kept
pub record Gathered (bytes : List ℕ) (rule : Rule) (rs : List Rows) (cs : List (Option ℕ)) (order : List ℕ) : Type 0 where
  pub said : Said
  pub is : (record_form bytes).is 0 said (length bytes)
  pub rule_is : rule ≡ said.rule
  pub kept : Kept said.tables rs cs
  pub order_is : order ≡ said.order
