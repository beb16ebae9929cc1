-- What the first lines of a table keep.
use Rattle.std.proofs.Common.{◌≡◌, ℕ, zero, suc, ◌<◌, ◌≤◌, List, [], ◌∷◌, length, take, Some, refl, ap, ◌∙◌, arith}
use Rattle.std.proofs.lemmas.List.{take-take}
use Rattle.tables.specs.declared.line.Line.{Line}
use Rattle.tables.specs.Lines.{nth, names, CellsFit, CopiesFit, BarriersWithin, barrier_at, BarriersRise}

-- a line of the first k is a line below k
pub nth_first : (ls : List Line) (k i : ℕ) (l : Line) → nth (take k ls) i ≡ Some l → (i < k) × (nth ls i ≡ Some l)
nth_first ls zero i l e = absurd (cc)
nth_first [] (suc k) i l e = absurd (cc)
nth_first (a ∷ ls) (suc k) zero l e = (omega arith, e)
nth_first (a ∷ ls) (suc k) (suc i) l e = let h = nth_first ls k i l e in (let p = h.0 in omega arith, h.1)

pub first_few : (ls : List Line) (k : ℕ) → length (take k ls) ≤ length ls
first_few ls zero = omega arith
first_few [] (suc k) = omega arith
first_few (a ∷ ls) (suc k) = let h = first_few ls k in omega arith

first_barrier : (ls : List Line) (k j : ℕ) → j < length (take k ls) → barrier_at (take k ls) j ≡ barrier_at ls j
first_barrier ls zero j h = absurd (omega arith)
first_barrier [] (suc k) j h = absurd (omega arith)
first_barrier (a ∷ ls) (suc k) zero h = refl
first_barrier (a ∷ ls) (suc k) (suc j) h = first_barrier ls k j (omega arith)

module _ (ls : List Line) (k : ℕ) where
  pub cells_first : CellsFit ls → CellsFit (take k ls)
  cells_first f i l e = f i l (nth_first ls k i l e).1

  pub copies_first : CopiesFit ls → CopiesFit (take k ls)
  copies_first f i l e =
      let h = nth_first ls k i l e in
      let p = h.0 in
      ap (λ (t : List Line). names t l.access) (take-take i k ls (omega arith)) ∙ f i l h.1

  pub within_first : {n : ℕ} → BarriersWithin ls n → BarriersWithin (take k ls) n
  within_first f i l e = f i l (nth_first ls k i l e).1

  pub rising_first : BarriersRise ls → BarriersRise (take k ls)
  rising_first f i j o h =
      let n = first_few ls k in
      let a = first_barrier ls k i (omega arith) in
      let b = first_barrier ls k j h in
      let c = f i j o (omega arith) in omega arith
