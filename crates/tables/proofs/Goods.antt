-- What the struct's invariant gives of all tables together: they are good tables of the unit.
use Rattle.std.proofs.Common.{◌≡◌, ℕ, zero, suc, ◌-◌, ◌<◌, ◌≤◌, true, false, List, [], ◌∷◌, map, length, get_or, take, Some, None, Option, sym, refl, ap, ◌∙◌, arith}
use lib.ListN.{length-map}
use Rattle.tables.specs.declared.line.Operand.{Operand}
use Rattle.tables.specs.declared.line.Operand.TheVariants.{Written, Copied}
use Rattle.tables.specs.declared.line.Access.{Access}
use Rattle.tables.specs.declared.line.Access.TheVariants.{Load, Store, Swap}
use Rattle.tables.specs.declared.line.Line.{Line}
use Rattle.tables.specs.declared.table.Table.{Table}
use Rattle.tables.specs.declared.tables.Tables.{Tables}
use Rattle.tables.specs.Size.{unit, number, table, row, last_cell}
use Rattle.tables.specs.Lines.{nth, line_reads, reading, sound, names, CellsFit, CopiesFit}
use Rattle.tables.specs.Rows.{rows_of, empty}
use Rattle.tables.specs.Contents.{contents}
use Rattle.tables.specs.View.{line_at, of_line, reads_at, operand_of, copied_by, copy_at, Good}
use Rattle.tables.proofs.Numbering.{row_below, table_number, row_number, number_earlier}

-- the lines of table p
abbrev lines_of : List Table → ℕ → List Line
lines_of ts p = (get_or (map rows_of ts) p empty).lines

few_at : (ts : List Table) (p : ℕ) → length (lines_of ts p) ≤ 32
few_at [] p = omega arith
few_at (t ∷ ts) zero = t.few
few_at (t ∷ ts) (suc p) = few_at ts p

copies_at : (ts : List Table) (p : ℕ) → CopiesFit (lines_of ts p)
copies_at [] p k l e = absurd (cc)
copies_at (t ∷ ts) zero k l e = t.copies k l e
copies_at (t ∷ ts) (suc p) k l e = copies_at ts p k l e

cells_at : (ts : List Table) (p : ℕ) → CellsFit (lines_of ts p)
cells_at [] p k l e = absurd (cc)
cells_at (t ∷ ts) zero k l e = t.cells k l e
cells_at (t ∷ ts) (suc p) k l e = cells_at ts p k l e

-- a line that reads among the first k is a line below k, and reads
reading_take : (ls : List Line) (k j : ℕ) → reading (take k ls) (suc j) ≡ true → (j < k) × (of_line false line_reads (nth ls j) ≡ true)
reading_take ls zero j e = absurd (cc)
reading_take [] (suc k) j e = absurd (cc)
reading_take (l ∷ ls) (suc k) zero e = (omega arith, e)
reading_take (l ∷ ls) (suc k) (suc j) e = let h = reading_take ls k j e in (omega (arith, h.0), h.1)

sound_row : (m k : ℕ) (ls : List Line) (o : Operand) → copied_by unit m (Some o) ≡ Some k → sound ls o ≡ true
    → (j : ℕ) × ((k ≡ number unit (table unit m) j) × (reading ls (suc j) ≡ true))
sound_row m k ls (Written v) e h = absurd (cc)
sound_row m k ls (Copied zero) e h = absurd (cc)
sound_row m k ls (Copied (suc j)) e h =
    let s : suc j - 1 ≡ j = omega arith in
    let i : number unit (table unit m) (suc j - 1) ≡ k = cc in
    (j, (sym i ∙ ap (number unit (table unit m)) s, h))

-- what a sound access copies, by its row
copied_row : (m k : ℕ) (ls : List Line) (a : Access) → copied_by unit m (operand_of a) ≡ Some k → names ls a ≡ true
    → (j : ℕ) × ((k ≡ number unit (table unit m) j) × (reading ls (suc j) ≡ true))
copied_row m k ls Load e h = absurd (cc)
copied_row m k ls (Store o) e h = sound_row m k ls o e h
copied_row m k ls (Swap o) e h = sound_row m k ls o e h

copy_is : (m k : ℕ) (x : Option Line) → of_line None (λ l. copied_by unit m (operand_of l.access)) x ≡ Some k
    → (l : Line) × ((x ≡ Some l) × (copied_by unit m (operand_of l.access) ≡ Some k))
copy_is m k None e = absurd (cc)
copy_is m k (Some l) e = (l, (refl, e))

copies_good : (ts : List Table) (m k : ℕ) → copy_at unit (map rows_of ts) m ≡ Some k
    → (table unit k ≡ table unit m) × (k < m) × (reads_at unit (map rows_of ts) k ≡ true)
copies_good ts m k e =
    let c = copy_is m k (line_at unit (map rows_of ts) m) e in
    let l = c.0 in
    let p = table unit m in
    let ls = lines_of ts p in
    let d = copied_row m k (take (row unit m) ls) l.access c.1.1 (copies_at ts p (row unit m) l c.1.0) in
    let j = d.0 in
    let r = reading_take ls (row unit m) j d.1.1 in
    let b = row_below unit m in
    let tk : table unit k ≡ p = ap (table unit) d.1.0 ∙ table_number unit p j (omega (arith, r.0, b)) in
    let rk : row unit k ≡ j = ap (row unit) d.1.0 ∙ row_number unit p j (omega (arith, r.0, b)) in
    let f = number_earlier unit m j r.0 in
    let lower : k < m = omega (arith, f.1, d.1.0) in
    let here : line_at unit (map rows_of ts) k ≡ nth ls j =
    ap (λ (q : ℕ). nth (lines_of ts q) (row unit k)) tk ∙ ap (λ (q : ℕ). nth ls q) rk in
    (tk, lower, ap (of_line false line_reads) here ∙ r.1)

pub good_tables : (ts : List Table) → length ts ≡ 4 → Good unit (map rows_of ts)
good_tables ts four = record { tables = length-map ts rows_of ∙ four; rows = few_at ts; copies = copies_good ts }

pub good : (t : Tables) → Good unit (contents t)
good t = good_tables t.rows t.four

-- every line's cell is a cell
pub cells_good : (t : Tables) (n : ℕ) (l : Line) → line_at unit (contents t) n ≡ Some l → l.cell ≤ last_cell
cells_good t n l e = cells_at t.rows (table unit n) (row unit n) l e
