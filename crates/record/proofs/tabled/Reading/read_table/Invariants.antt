use Rattle.std.proofs.Common.{◌≡◌, ◌-◌, ◌≤◌, List, [], ◌∷◌, ◌++◌, length, get_or}
use Rattle.tables.specs.Rows.{empty}
use Rattle.tables.specs.Contents.{contents}
use Rattle.record.specs.declared.entries.Item.{Item}
use Rattle.record.specs.Form.{Run}
use Rattle.record.specs.Entries.{rows}
use Rattle.record.specs.Table.{entry_form}
use Rattle.record.specs.Kept.{Kept}
use Rattle.record.proofs.tabled.Reading.read_table.Given as goal

abbrev pub invariant-loop-at : goal.invariant-loop-at
invariant-loop-at l =
    (items : List Item)
    × Run (λ front. entry_form l.part.bytes.now l.part.start (rows front)) (λ front p. p ≡ length l.part.bytes.now) 0 items l.at
    × (l.at ≤ length l.part.bytes.now)
    × (get_or (contents l.self.draft.tables) l.table empty ≡ rows items)
    × ((ts : List (List Item)) → length ts ≡ l.table → Kept ts (contents l.initial.self.draft.tables) l.initial.self.claims
    → Kept (ts ++ items ∷ []) (contents l.self.draft.tables) l.self.claims)

abbrev pub decreases-loop-at : goal.decreases-loop-at
decreases-loop-at l = length l.part.bytes.now - l.at
