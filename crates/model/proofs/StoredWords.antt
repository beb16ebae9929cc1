-- The word that a line writes, by what it copies or by its number.
use Rattle.std.proofs.Common.{◌≡◌, ℕ, suc, ◌+◌, ◌-◌, ◌*◌, ◌/◌, ◌≤◌, List, Some, None, ap, ◌∙◌, arith}
use Rattle.std.proofs.lemmas.List.{get_or_past}
use Rattle.tables.specs.declared.tables.Tables.{Tables}
use Rattle.tables.specs.Contents.{contents}
use Rattle.tables.specs.Size.{unit, number, table, row}
use Rattle.tables.specs.LineIds.{line_id}
use Rattle.tables.specs.Lines.{nth}
use Rattle.tables.specs.Rows.{Rows, empty}
use Rattle.tables.specs.View.{of_line, operand_of, copied_by, copy_at, number_at}
use Rattle.tables.proofs.Goods.{good}
use Rattle.model.specs.Program.{Words, written_at, written_or_copied, stored_at}

-- past the last place no line copies
pub copy_at_past : (t : Tables) (m : ℕ) → 128 ≤ m → copy_at unit (contents t) m ≡ None
unfolding table
copy_at_past t m h =
    ap (λ (s : Rows). of_line None (λ l. copied_by unit m (operand_of l.access)) (nth s.lines (row unit m)))
    (get_or_past (contents t) (m / 32) empty (let e = (good t).tables in omega arith))

-- the place of a copied line, as it is computed
pub copied_by_place : (m k r : ℕ) → r ≡ k - 1 → number unit (table unit m) (k - 1) ≡ m / 32 * 32 + r
unfolding table number
copied_by_place m k r e = omega arith

module _ {M : Type 0} (K : Words M) (ts : List Rows) (words : ℕ → M) (m : ℕ) where
  pub stored_written :
      copy_at unit ts m ≡ None
      → stored_at K unit ts words m ≡ K.written (number_at unit ts m) (line_id unit m).processor (line_id unit m).line
  stored_written p =
      let i : suc (table unit m) ≡ table unit m + 1 = omega arith in
      let j : suc (row unit m) ≡ row unit m + 1 = omega arith in
      ap (written_or_copied (written_at K unit ts) words m) p
      ∙ ap (λ (y : ℕ). K.written (number_at unit ts m) y (suc (row unit m))) i ∙ ap (K.written (number_at unit ts m) (table unit m + 1)) j

  pub stored_copied : (k : ℕ) → copy_at unit ts m ≡ Some k → stored_at K unit ts words m ≡ words k
  stored_copied k p = ap (written_or_copied (written_at K unit ts) words m) p
