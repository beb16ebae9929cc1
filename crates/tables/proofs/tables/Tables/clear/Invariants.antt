use Rattle.std.proofs.Common.{◌≡◌, ℕ, ◌<◌, map, length, get_or}
use Rattle.tables.specs.Rows.{rows_of, empty}
use Rattle.tables.proofs.tables.Tables.clear.Given as goal

abbrev pub invariant-loop-table : goal.invariant-loop-table
invariant-loop-table l = record {
  four : length l.table-items ≡ 4;
  emptied : (k : ℕ) → k < l.table-index → get_or (map rows_of l.table-items) k empty ≡ empty;
}
