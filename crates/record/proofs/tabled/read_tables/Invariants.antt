use Rattle.std.proofs.Common.{◌≡◌, List, length}
use Rattle.tables.specs.Size.{unit}
use Rattle.tables.specs.Contents.{contents}
use Rattle.record.specs.declared.entries.Item.{Item}
use Rattle.record.specs.Form.{Run}
use Rattle.record.specs.Section.{held}
use Rattle.record.specs.Table.{table_form}
use Rattle.record.specs.Kept.{Kept}
use Rattle.record.proofs.tabled.read_tables.Given as goal

abbrev pub invariant-loop-table : goal.invariant-loop-table
invariant-loop-table l =
    (ts : List (List Item))
    × Run (λ front. held l.bytes table_form) (λ front p. length front ≡ unit.tables) l.at ts l.next
    × (length ts ≡ l.table)
    × Kept ts (contents l.reading.draft.tables) l.reading.claims
