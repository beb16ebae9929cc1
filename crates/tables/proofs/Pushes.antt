-- What one line more keeps.
use Rattle.std.proofs.Common.{◌≡◌, ℕ, zero, suc, ◌+◌, ◌-◌, ◌<◌, ◌≤◌, true, false, List, [], ◌∷◌, ◌++◌, length, get_or, Some, None, sym, refl, ap, ◌∙◌, inl, inr, arith}
use Rattle.std.proofs.lemmas.List.{take-append-le, length_push, take_all}
use Rattle.std.proofs.lemmas.Bool.{cases_lt}
use Rattle.tables.specs.declared.line.Line.{Line}
use Rattle.tables.specs.Size.{last_cell}
use Rattle.tables.specs.View.{of_line}
use Rattle.tables.specs.Lines.{nth, line_reads, reading, names, CellsFit, CopiesFit, BarriersWithin, barrier_at, BarriersRise}

pub nth_inside : (ls : List Line) (k : ℕ) (l : Line) → nth ls k ≡ Some l → k < length ls
nth_inside [] k l e = absurd (cc)
nth_inside (a ∷ ls) zero l e = omega arith
nth_inside (a ∷ ls) (suc k) l e = let h = nth_inside ls k l e in omega arith

pub nth_before : (ls : List Line) (x : Line) (k : ℕ) → k < length ls → nth (ls ++ x ∷ []) k ≡ nth ls k
nth_before [] x k h = absurd (omega arith)
nth_before (a ∷ ls) x zero h = refl
nth_before (a ∷ ls) x (suc k) h = nth_before ls x k (omega arith)

pub nth_last : (ls : List Line) (x : Line) → nth (ls ++ x ∷ []) (length ls) ≡ Some x
nth_last [] x = refl
nth_last (a ∷ ls) x = nth_last ls x

module _ (ls : List Line) (x : Line) where
  pub cells_push : CellsFit ls → x.cell ≤ last_cell → CellsFit (ls ++ x ∷ [])
  cells_push f h k l e = elim (cases_lt k (length ls)) [
    | inl p ↦ f k l (sym (nth_before ls x k p) ∙ e)
    | inr p ↦ let i = nth_inside (ls ++ x ∷ []) k l e in let n = length_push ls x in let q : length ls ≡ k = omega arith in
        let s : Some x ≡ Some l = sym (nth_last ls x) ∙ ap (λ (m : ℕ). nth (ls ++ x ∷ []) m) q ∙ e in let t : x ≡ l = cc in
        let u : x.cell ≡ l.cell = ap (λ (a : Line). a.cell) t in omega arith
  ]

  pub copies_push : CopiesFit ls → names ls x.access ≡ true → CopiesFit (ls ++ x ∷ [])
  copies_push f h k l e = elim (cases_lt k (length ls)) [
    | inl p ↦ ap (λ t. names t l.access) (take-append-le k ls (x ∷ []) (omega arith)) ∙ f k l (sym (nth_before ls x k p) ∙ e)
    | inr p ↦ let i = nth_inside (ls ++ x ∷ []) k l e in let n = length_push ls x in let q : length ls ≡ k = omega arith in
        let s : Some x ≡ Some l = sym (nth_last ls x) ∙ ap (λ (m : ℕ). nth (ls ++ x ∷ []) m) q ∙ e in let t : x ≡ l = cc in
        ap (λ y. names y l.access) (take-append-le k ls (x ∷ []) (omega arith) ∙ take_all k ls (omega arith))
        ∙ ap (λ (a : Line). names ls a.access) (sym t) ∙ h
  ]

  pub within_push : {n : ℕ} → BarriersWithin ls n → x.barrier ≤ n → BarriersWithin (ls ++ x ∷ []) n
  within_push f h k l e = elim (cases_lt k (length ls)) [
    | inl p ↦ f k l (sym (nth_before ls x k p) ∙ e)
    | inr p ↦ let i = nth_inside (ls ++ x ∷ []) k l e in let n = length_push ls x in let q : length ls ≡ k = omega arith in
        let s : Some x ≡ Some l = sym (nth_last ls x) ∙ ap (λ (m : ℕ). nth (ls ++ x ∷ []) m) q ∙ e in let t : x ≡ l = cc in
        let u : x.barrier ≡ l.barrier = ap (λ (a : Line). a.barrier) t in omega arith
  ]

pub within_more : (ls : List Line) (n : ℕ) → BarriersWithin ls n → BarriersWithin ls (n + 1)
within_more ls n f k l e = let h = f k l e in omega arith

pub at_before : (ls : List Line) (x : Line) (k : ℕ) → k < length ls → barrier_at (ls ++ x ∷ []) k ≡ barrier_at ls k
at_before [] x k h = absurd (omega arith)
at_before (a ∷ ls) x zero h = refl
at_before (a ∷ ls) x (suc k) h = at_before ls x k (omega arith)

pub at_last : (ls : List Line) (x : Line) → barrier_at (ls ++ x ∷ []) (length ls) ≡ x.barrier
at_last [] x = refl
at_last (a ∷ ls) x = at_last ls x

pub at_within : (ls : List Line) (n : ℕ) → BarriersWithin ls n → (k : ℕ) → barrier_at ls k ≤ n
at_within [] n f k = omega arith
at_within (a ∷ ls) n f zero = f 0 a refl
at_within (a ∷ ls) n f (suc k) = at_within ls n (λ j l e. f (suc j) l e) k

pub rising_push : (ls : List Line) (x : Line) → BarriersRise ls → BarriersWithin ls x.barrier → BarriersRise (ls ++ x ∷ [])
rising_push ls x f w j k o h =
    let n = length_push ls x in
    let b = at_within ls x.barrier w j in
    elim (cases_lt k (length ls)) [
      | inl p ↦ let u = at_before ls x k p in let v = at_before ls x j (omega arith) in let g = f j k o p in omega arith
      | inr p ↦ let q : length ls ≡ k = omega arith in
          let u : barrier_at (ls ++ x ∷ []) k ≡ x.barrier = ap (λ (m : ℕ). barrier_at (ls ++ x ∷ []) m) (sym q) ∙ at_last ls x in
          elim (cases_lt j (length ls)) [
            | inl r ↦ let v = at_before ls x j r in omega arith
            | inr r ↦ let s : j ≡ k = omega arith in let v : barrier_at (ls ++ x ∷ []) j ≡ barrier_at (ls ++ x ∷ []) k = ap (λ (m : ℕ). barrier_at (ls ++ x ∷ []) m) s in omega arith
          ]
    ]

pub reading_past : (ls : List Line) (k : ℕ) → length ls < k → reading ls k ≡ false
reading_past ls zero h = refl
reading_past [] (suc k) h = refl
reading_past (l ∷ ls) (suc zero) h = absurd (omega arith)
reading_past (l ∷ ls) (suc (suc k)) h = reading_past ls (suc k) (omega arith)

reading_row : (ls : List Line) (j : ℕ) → reading ls (suc j) ≡ of_line false line_reads (nth ls j)
reading_row [] j = refl
reading_row (l ∷ ls) zero = refl
reading_row (l ∷ ls) (suc j) = reading_row ls j

-- whether the line of a number reads, by the line itself
pub reading_line : (ls : List Line) (k : ℕ) → 0 < k → reading ls k ≡ of_line false line_reads (nth ls (k - 1))
reading_line ls k p = let q : k ≡ suc (k - 1) = omega arith in ap (λ (m : ℕ). reading ls m) q ∙ reading_row ls (k - 1)

pub nth_past : {X : Type 0} (ls : List X) (k : ℕ) → length ls ≤ k → nth ls k ≡ None
nth_past [] k h = refl
nth_past (l ∷ ls) zero h = let y : ⊥ = omega arith in absurd y
nth_past (l ∷ ls) (suc k) h = nth_past ls k (omega arith)

pub nth_at : {X : Type 0} (ls : List X) (k : ℕ) (d : X) → k < length ls → nth ls k ≡ Some (get_or ls k d)
nth_at [] k d h = let y : ⊥ = omega arith in absurd y
nth_at (l ∷ ls) zero d h = refl
nth_at (l ∷ ls) (suc k) d h = nth_at ls k d (omega arith)
