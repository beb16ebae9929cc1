-- Searches of the lines above a line.
use Rattle.std.proofs.Common.{◌≡◌, ℕ, ◌+◌, ◌-◌, ◌/◌, ◌%◌, ◌<◌, ◌≤◌, Bool, true, false, ◌&&◌, eqb, ltb, Some, None, Option, sym, refl, ap, ◌∙◌, subst, inl, inr, arith, Bor, IfSome, IsSomeAnd, MatchOption}
use denote.Param.Members.{Mut}
use Rattle.std.specs.Fn.{CalledAt}
use Rattle.std.specs.Iterator.Runs.{Run, IsIdenticalRun, ItemsCountDown, CallKeepsClosure, NoItemPasses, EndsAtFirstPassing}
use Rattle.std.specs.Option.{option_map}
use Rattle.std.specs.declared.ops.Range.{Range}
use Rattle.std.proofs.iter.runs.Sources.{nat_range_steps_back, range_runs_back}
use Rattle.std.proofs.lemmas.Bool.{cases_lt, and_left, and_right, ne_eqb, eq-eqb, lt-ltb, le-ltb, and_from}
use Rattle.tables.specs.declared.line.Line.{Line}
use Rattle.tables.specs.declared.tables.Tables.{Tables}
use Rattle.tables.specs.Size.{unit, table}
use Rattle.tables.specs.Contents.{contents}
use Rattle.tables.specs.View.{line_at, of_line, cell_at}
use Rattle.tables.proofs.Goods.{cells_good}
use Rattle.model.specs.Machine.{highest, lowest, earlier}
use Rattle.model.proofs.Extremes.{none_below, some_here, high_none, high_yes, high_all}

-- the first that passes of a range taken from its end
module _ {S F : Type 0} {steps : S → Option ℕ → S → Type 0} (p : Run steps) (q : Run nat_range_steps_back) (s : Range ℕ)
    (g : Mut F (Bor ℕ × Unit {0}) Bool) (c : F) (Yes No : ℕ → Type 0) where
  pub last_from_Range :
      q.from ≡ s → IsIdenticalRun p q → CallKeepsClosure g c → ((x : ℕ) → CalledAt g c x true c → Yes x) → ((x : ℕ) → CalledAt g c x false c → No x)
      → (r : Option ℕ) → MatchOption r ((p.whole ≡ true) × NoItemPasses p g c) (EndsAtFirstPassing p g c)
      → MatchOption r ((k : ℕ) → s.start ≤ k → k < s.end → No k) (λ i. (s.start ≤ i) × (i < s.end) × Yes i × ((k : ℕ) → i < k → k < s.end → No k))
  last_from_Range from same keeps passed failed = go
    where
      down : ItemsCountDown q s.start s.end
      down = subst (λ (r : Range ℕ). ItemsCountDown q r.start r.end) from (range_runs_back q q.seen)

      mapped : (k : ℕ) (o : Option ℕ) → option_map (λ y. y) o ≡ Some k → o ≡ Some k
      mapped k None x = x
      mapped k (Some y) x = x

      at : (k : ℕ) → s.start ≤ k → k < s.end → s.end - 1 - k < q.len → p.at (s.end - 1 - k) ≡ Some k
      at k l h e =
          let z : s.end - 1 - (s.end - 1 - k) ≡ k = omega arith in
          sym (same.0.2 (s.end - 1 - k)) ∙ mapped k (q.at (s.end - 1 - k)) (down.3 (s.end - 1 - k) e ∙ ap Some z)

      go : (r : Option ℕ) → MatchOption r ((p.whole ≡ true) × NoItemPasses p g c) (EndsAtFirstPassing p g c)
          → MatchOption r ((k : ℕ) → s.start ≤ k → k < s.end → No k) (λ i. (s.start ≤ i) × (i < s.end) × Yes i × ((k : ℕ) → i < k → k < s.end → No k))
      go None h = λ k l u.
          let n = down.1 (same.1 ∙ h.0) in
          failed k (subst (λ o. IfSome o (λ x. CalledAt g c x false c)) (at k l u (omega arith)) (h.1 keeps (s.end - 1 - k)))
      go (Some m) h =
          let i = h.0 in let len = h.1 in let w = h.3 keeps in
          let n = down.0 in let long = same.0.0 in
          let d = subst (λ o. IfSome o (λ x. (x + i + 1 ≡ s.end) × (s.start ≤ x))) (same.0.2 i ∙ h.2) (down.2 i) in
          (d.1, omega arith, passed m w.0, λ k l u. failed k (subst (λ o. IsSomeAnd o (λ x. CalledAt g c x false c)) (at k (omega arith) u (omega arith)) (w.1 (s.end - 1 - k) (omega arith))))

-- only lines of the table, above n, are earlier
module _ (n : ℕ) where
  pub earlier_below : (j : ℕ) → j < n - n % 32 → earlier unit j n ≡ false
  unfolding table
  earlier_below j l = and_left (eqb (j / 32) (n / 32)) (ltb j n) (ne_eqb (j / 32) (n / 32) (λ e. omega arith))

  pub earlier_above : (j : ℕ) → n ≤ j → earlier unit j n ≡ false
  earlier_above j l = and_right (eqb (table unit j) (table unit n)) (ltb j n) (le-ltb j n l)

  pub earlier_here : (j : ℕ) → j < n → j / 32 ≡ n / 32 → earlier unit j n ≡ true
  unfolding table
  earlier_here j l e = and_from (eqb (j / 32) (n / 32)) (ltb j n) (eq-eqb (j / 32) (n / 32) e) (lt-ltb j n l)

-- what a search of the earlier lines of n's table alone finds is what one of all lines finds that asks too whether they are earlier
module _ (h t : ℕ → Bool) (n : ℕ) (l : n < 128) where
  abbrev all : ℕ → Bool
  all j = h j && (earlier unit j n && t j)

  here : (j : ℕ) (b : Bool) → n - n % 32 ≤ j → j < n → (h j && t j) ≡ b → all j ≡ b
  here j b p q e = ap (λ (x : Bool). h j && (x && t j)) (earlier_here n j q (omega arith)) ∙ e

  out : (j : ℕ) → earlier unit j n ≡ false → all j ≡ false
  out j e = and_right (h j) (earlier unit j n && t j) (and_left (earlier unit j n) (t j) e)

  low : (j : ℕ) → (n - n % 32 ≤ j → j < n → (h j && t j) ≡ false) → j < n → all j ≡ false
  low j f q = elim (cases_lt j (n - n % 32)) [ inl p ↦ out j (earlier_below n j p) | inr p ↦ here j false p q (f p q) ]

  high : (j : ℕ) → (n - n % 32 ≤ j → j < n → (h j && t j) ≡ false) → all j ≡ false
  high j f = elim (cases_lt j n) [ inl q ↦ low j f q | inr q ↦ out j (earlier_above n j q) ]

  pub lowest_found :
      (r : Option ℕ)
      → MatchOption r ((k : ℕ) → n - n % 32 ≤ k → k < n → (h k && t k) ≡ false)
      (λ i. (n - n % 32 ≤ i) × (i < n) × ((h i && t i) ≡ true) × ((k : ℕ) → n - n % 32 ≤ k → k < i → (h k && t k) ≡ false))
      → r ≡ lowest all 128
  lowest_found None f = sym (none_below all 128 (λ j _. high j (f j)))
  lowest_found (Some i) f =
      let q = f.1 in
      sym (some_here all i 128 (none_below all i (λ j k. low j (λ p _. f.3 j p k) (omega arith))) (here i true f.0 f.1 f.2) (omega arith))

  pub highest_found :
      (r : Option ℕ)
      → MatchOption r ((k : ℕ) → n - n % 32 ≤ k → k < n → (h k && t k) ≡ false)
      (λ i. (n - n % 32 ≤ i) × (i < n) × ((h i && t i) ≡ true) × ((k : ℕ) → i < k → k < n → (h k && t k) ≡ false))
      → r ≡ highest all 128
  highest_found None f = sym (high_none all 128 (λ j _. high j (f j)))
  highest_found (Some i) f =
      let q = f.1 in
      sym (high_all all (i + 1) 128 (omega arith) (λ j k. high j (λ _ u. f.3 j (omega arith) u)) ∙ high_yes all i (here i true f.0 f.1 f.2))

-- a line's cell is a cell
pub cell_fits : (t : Tables) (n : ℕ) → cell_at unit (contents t) n ≤ 63
cell_fits t n = go (line_at unit (contents t) n) refl
  where
    go : (x : Option Line) → line_at unit (contents t) n ≡ x → of_line 0 (λ l. l.cell) x ≤ 63
    go None e = omega arith
    go (Some l) e = cells_good t n l e
