-- The facts of division on which numbers of lines rest; elsewhere table and row are taken as they are.
use Rattle.std.proofs.Common.{◌≡◌, ℕ, ◌+◌, ◌*◌, ◌/◌, ◌%◌, ◌<◌, List, get_or, ap₂, ap, ◌∙◌, mul_comm, arith}
use native.Mathlib.Nat.{div-add-mod}
use Rattle.std.proofs.lemmas.Nat.{div-mul-add, mod-mul-add, mod_below, div_below, mul-add-lt}
use Rattle.tables.specs.Size.{Size, number, table, row, places, Earlier}
use Rattle.tables.specs.Lines.{nth}
use Rattle.tables.specs.Rows.{Rows, empty}
use Rattle.tables.specs.View.{line_at}

module _ (z : Size) where
  pub number_table_row : (n : ℕ) → number z (table z n) (row z n) ≡ n
  unfolding number table row
  number_table_row n = div-add-mod n z.lines

  pub row_below : (n : ℕ) → row z n < z.lines
  unfolding row
  row_below n = mod_below n z.lines z.some_line

  pub table_number : (p k : ℕ) → k < z.lines → table z (number z p k) ≡ p
  unfolding number table
  table_number p k l = ap (λ (x : ℕ). (x + k) / z.lines) (mul_comm z.lines p) ∙ div-mul-add p z.lines k l

  pub row_number : (p k : ℕ) → k < z.lines → row z (number z p k) ≡ k
  unfolding number row
  row_number p k l = ap (λ (x : ℕ). (x + k) % z.lines) (mul_comm z.lines p) ∙ mod-mul-add p z.lines k l

  -- the line of a table's row
  pub line_of_row : (ts : List Rows) (p k : ℕ) → k < z.lines → line_at z ts (number z p k) ≡ nth (get_or ts p empty).lines k
  line_of_row ts p k l = ap₂ (λ (q i : ℕ). nth (get_or ts q empty).lines i) (table_number p k l) (row_number p k l)

  pub number_below : (p k : ℕ) → p < z.tables → k < z.lines → number z p k < places z
  unfolding number places
  number_below p k t l = omega (arith, mul-add-lt p z.lines k z.tables t l)

  pub table_below : (n : ℕ) → n < places z → table z n < z.tables
  unfolding table places
  table_below n l = div_below n z.lines z.tables z.some_line (omega arith)

  -- within a table, numbers go by rows
  number_more : (p j k : ℕ) → j < k → number z p j < number z p k
  unfolding number
  number_more p j k l = omega arith

  pub same_row : (m n : ℕ) → table z m ≡ table z n → row z m ≡ row z n → m ≡ n
  same_row m n t r = let a = number_table_row m in let b = number_table_row n in cc

  pub row_earlier : (m n : ℕ) → table z m ≡ table z n → row z m < row z n → Earlier z m n
  row_earlier m n t l =
      let a = number_table_row m in let b = number_table_row n in
      let c = number_more (table z m) (row z m) (row z n) l in
      let d : number z (table z m) (row z n) ≡ n = cc in
      (t, omega arith)

  pub earlier_row : (m n : ℕ) → Earlier z m n → row z m < row z n
  unfolding number
  earlier_row m n e =
      let a = number_table_row m in let b = number_table_row n in
      let d : z.lines * table z m ≡ z.lines * table z n = ap (λ (x : ℕ). z.lines * x) e.0 in
      omega arith

  pub number_earlier : (n k : ℕ) → k < row z n → Earlier z (number z (table z n) k) n
  number_earlier n k l =
      let h = row_below n in
      let t = table_number (table z n) k (omega arith) in
      let r = row_number (table z n) k (omega arith) in
      row_earlier (number z (table z n) k) n t (omega arith)
