use Rattle.std.proofs.Common.{◌≡◌, ℕ, suc, zero, ◌+◌, ◌-◌, ◌*◌, ◌<◌, ◌≤◌, List, [], ◌∷◌, length, get_or, IsSome, sym, subst, arith, rules}
use Rattle.tables.specs.declared.line.Line.{Line}
use Rattle.tables.specs.Size.{unit, number}
use Rattle.tables.specs.Lines.{nth}
use Rattle.tables.specs.Rows.{Rows, empty}
use Rattle.tables.specs.Contents.{contents}
use Rattle.tables.specs.View.{line_at}
use Rattle.tables.proofs.Numbering.{line_of_row}
use Rattle.tables.proofs.Goods.{good}
use Rattle.tables.proofs.tables.Tables.place_of.Goals as goal

nth_some : (ls : List Line) (k : ℕ) → k < length ls → IsSome (nth ls k)
nth_some [] k h = absurd (omega arith)
nth_some (l ∷ ls) zero h = search rules
nth_some (l ∷ ls) (suc k) h = nth_some ls k (omega arith)

number_is : (q l : ℕ) → 1 ≤ l → q * 32 + l - 1 ≡ number unit q (l - 1)
unfolding number
number_is q l a = omega arith

found : (ts : List Rows) (q l : ℕ) → 1 ≤ l → l ≤ 32 → l ≤ length (get_or ts q empty).lines → IsSome (line_at unit ts (number unit q (l - 1)))
found ts q l a b h = subst IsSome (sym (line_of_row unit ts q (l - 1) (omega arith))) (nth_some (get_or ts q empty).lines (l - 1) (omega arith))

pub returns-clause-place : goal.returns-clause-place
unfolding number
returns-clause-place c = omega (arith, c.in_ok-table.ensures)

pub returns-clause-below : goal.returns-clause-below
returns-clause-below c =
    let few = (good c.args.self.now).rows c.in_ok-table.table in
    omega (arith, c.in_ok-table.ensures)

pub returns-clause-found : goal.returns-clause-found
returns-clause-found c =
    let t = c.args.self.now in
    let q = c.in_ok-table.table in
    let few = (good t).rows q in
    subst (λ (n : ℕ). IsSome (line_at unit (contents t) n)) (sym (number_is q c.args.line (omega arith)))
    (found (contents t) q c.args.line (omega arith) (omega arith) (omega arith))
