-- What is asked of one table among all of them.
use Rattle.std.proofs.Common.{◌≡◌, ℕ, ◌+◌, ◌<◌, ◌≤◌, List, map, length, get_or, set, ap, ◌∙◌, inl, inr, arith}
use lib.ListN.{length-map}
use Rattle.std.proofs.lemmas.List.{get_or_past, map-set, get_or-set_same, get_or-set_other}
use Rattle.std.proofs.lemmas.Bool.{cases_eq}
use Rattle.tables.specs.declared.table.Table.{Table}
use Rattle.tables.specs.Rows.{Rows, rows_of, empty}

-- past the last table there is nothing
pub rows_past : (ts : List Table) (p : ℕ) → length ts ≤ p → get_or (map rows_of ts) p empty ≡ empty
rows_past ts p h = let n = length-map ts rows_of in get_or_past (map rows_of ts) p empty (omega arith)

-- one more table with nothing in it
pub one_more_empty :
    (ts : List Table) (i : ℕ) (u : Table) → i < length ts → rows_of u ≡ empty
    → ((k : ℕ) → k < i → get_or (map rows_of ts) k empty ≡ empty)
    → (k : ℕ) → k < i + 1 → get_or (map rows_of (set ts i u)) k empty ≡ empty
one_more_empty ts i u h e f k l =
    let n = length-map ts rows_of in
    ap (λ (x : List Rows). get_or x k empty) (map-set rows_of ts i u)
    ∙ elim (cases_eq k i) [
      | inl q ↦ ap (λ (m : ℕ). get_or (set (map rows_of ts) i (rows_of u)) m empty) q ∙ get_or-set_same (map rows_of ts) i (rows_of u) empty (omega arith) ∙ e
      | inr q ↦ get_or-set_other (map rows_of ts) i k (rows_of u) empty q ∙ f k (omega arith)
    ]
