-- The format of a whole record, and what reading one does to a sheet and an output.
use Rattle.std.specs.Prelude.{◌≡◌, ℕ, ◌+◌, ◌<◌, ◌≤◌, ◌⊎◌, List, [], ◌∷◌, ◌++◌, map, length, take, drop, Some, None, Option, ◌≢◌, nat_le, slice_index}
use Rattle.faults.specs.declared.Fault.{Fault}
use Rattle.faults.specs.declared.Fault.TheVariants.{RecordTooLong, MarkMissing, RuleUnknown, BytesLeft, SheetShort, OutputShort}
use Rattle.numbers.specs.Number.{Number}
use Rattle.numbers.specs.Amiss.{NoNumber}
use Rattle.tables.specs.Size.{unit, places}
use Rattle.tables.specs.Rows.{Rows}
use Rattle.rules.specs.declared.rule.Rule.{Rule}
use Rattle.rules.specs.Rules.{number_of}
use Rattle.record.specs.declared.entries.Item.{Item}
use Rattle.record.specs.Form.{Form, demand, say, ◌then◌}
use Rattle.record.specs.Section.{held}
use Rattle.record.specs.Entries.{rows, claim_at}
use Rattle.record.specs.Table.{tables_form}
use Rattle.record.specs.Order.{order_form}

-- how every record begins
abbrev pub mark : List ℕ
mark = 0x53 ∷ 0x4F ∷ 0x52 ∷ 0x31 ∷ []

-- how many bytes a record has at most
abbrev pub longest : ℕ
longest = 4096

abbrev pub Marked : List ℕ → ℕ → Type 0
Marked bytes at = take (length mark) (drop at bytes) ≡ mark

abbrev pub marked : List ℕ → Form (Unit {0})
marked bytes = record {
  is = λ at _ next. Marked bytes at × (next ≡ at + length mark);
  amiss = λ at e. (Marked bytes at → ⊥) × (e ≡ MarkMissing);
}

-- a number stands at `at` that no rule has
pub record Ruleless (bytes : List ℕ) (at : ℕ) : Type 0 where
  pub value : ℕ
  pub next : ℕ
  pub stands : Number bytes at value next
  pub unknown : (w : Rule) → number_of w ≢ value

-- a rule, by its number
abbrev pub ruled : List ℕ → Form Rule
ruled bytes = record {
  is = λ at w next. Number bytes at (number_of w) next;
  amiss = λ at e. NoNumber bytes 0 at e ⊎ ((e ≡ RuleUnknown at) × Ruleless bytes at);
}

-- the bytes end here
abbrev pub ended : List ℕ → Form (Unit {0})
ended bytes = record { is = λ at _ next. (at ≡ length bytes) × (next ≡ at); amiss = λ at e. (at < length bytes) × (e ≡ BytesLeft at) }

-- what a record says
pub record Said : Type 0 where
  pub rule : Rule
  pub tables : List (List Item)
  pub order : List ℕ

-- a record: not too long, its mark, the rule, the tables, the order, and no more
abbrev pub record_form : List ℕ → Form Said
record_form bytes =
    demand (nat_le (length bytes) longest) (RecordTooLong longest)
    then λ _. marked bytes
    then λ _. ruled bytes
    then λ w. tables_form bytes
    then λ ts. held bytes order_form
    then λ o. ended bytes
    then λ _. say (record { rule = w; tables = ts; order = o })

-- reading a record for a sheet of so many places and an output of such a length
abbrev pub read_form : List ℕ → ℕ → ℕ → Form Said
read_form bytes sheet output =
    demand (nat_le (places unit) sheet) (SheetShort sheet)
    then λ _. record_form bytes
    then λ s. demand (nat_le (length s.order) output) (OutputShort (length s.order))
    then λ _. say s

abbrev pub or_else : Option ℕ → ℕ → ℕ
or_else None d = d
or_else (Some c) d = c

-- a sheet after reading: each claim stands at the place of its line, and every other place is as it was
pub record Claimed (ts : List (List Item)) (before after : List ℕ) : Type 0 where
  pub size : length after ≡ length before
  pub words : (n : ℕ) → slice_index after n ≡ or_else (claim_at ts n) (slice_index before n)

-- bytes are read: rule and tables are what they say, the claims stand on the sheet, and the order at the front of the output
pub record Read (bytes sheet sheet' output output' : List ℕ) (rule : Rule) (ts : List Rows) (count : ℕ) : Type 0 where
  pub said : Said
  pub says : (read_form bytes (length sheet) (length output)).is 0 said (length bytes)
  pub rule_is : rule ≡ said.rule
  pub tables_are : ts ≡ map rows said.tables
  pub claimed : Claimed said.tables sheet sheet'
  pub counted : count ≡ length said.order
  pub fits : count ≤ length output
  pub ordered : output' ≡ said.order ++ drop count output

-- bytes are not read, and nothing changes
pub record NotRead (bytes sheet sheet' output output' : List ℕ) (e : Fault) : Type 0 where
  pub amiss : (read_form bytes (length sheet) (length output)).amiss 0 e
  pub sheet_kept : sheet' ≡ sheet
  pub output_kept : output' ≡ output
