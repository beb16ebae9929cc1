-- Tables cut one after the other.
use Rattle.std.proofs.Common.{◌≡◌, ℕ, ◌+◌, ◌<◌, ◌≤◌, List, length, get_or, set, sym, refl, ap, ◌∙◌, subst, inl, inr, arith, length-set}
use Rattle.std.proofs.lemmas.List.{get_or-set_same, get_or-set_other, ext_get_or}
use Rattle.std.proofs.lemmas.Bool.{cases_eq}
use Rattle.tables.specs.Rows.{Rows, empty}
use Rattle.model.specs.Machine.{shortened, cut}
use Rattle.model.proofs.CutTables.{cut_row, length_cut}

-- the first k tables are cut
pub record CutTo (f : ℕ → ℕ) (ts : List Rows) (k : ℕ) (us : List Rows) : Type 0 where
  pub size : length us ≡ length ts
  pub below : (q : ℕ) → q < k → get_or us q empty ≡ shortened (f q) (get_or ts q empty)
  pub above : (q : ℕ) → k ≤ q → get_or us q empty ≡ get_or ts q empty

module _ (f : ℕ → ℕ) (ts : List Rows) where
  pub cut_none : CutTo f ts 0 ts
  cut_none = record { size = refl; below = λ q l. let z : ⊥ = omega arith in absurd z; above = λ q l. refl }

  pub cut_more : (k : ℕ) (us vs : List Rows) → k < length us → CutTo f ts k us → vs ≡ set us k (shortened (f k) (get_or us k empty)) → CutTo f ts (k + 1) vs
  cut_more k us vs l c e =
      let v = shortened (f k) (get_or us k empty) in
      let other : (q : ℕ) → (q ≡ k → ⊥) → get_or vs q empty ≡ get_or us q empty = λ q n. ap (λ (x : List Rows). get_or x q empty) e ∙ get_or-set_other us k q v empty n in
      let here : get_or vs k empty ≡ shortened (f k) (get_or ts k empty) =
      ap (λ (x : List Rows). get_or x k empty) e ∙ get_or-set_same us k v empty l ∙ ap (shortened (f k)) (c.above k (omega arith)) in
      record {
        size = ap length e ∙ length-set us k v ∙ c.size;
        below = λ q h. elim (cases_eq q k) [
          | inl n ↦ subst (λ (x : ℕ). get_or vs x empty ≡ shortened (f x) (get_or ts x empty)) (sym n) here
          | inr n ↦ other q n ∙ c.below q (omega arith)
        ];
        above = λ q h. other q (λ n. omega arith) ∙ c.above q (omega arith);
      }

  pub cut_all : (k : ℕ) (us : List Rows) → length ts ≤ k → CutTo f ts k us → us ≡ cut f ts
  cut_all k us l c =
      ext_get_or empty us (cut f ts) (c.size ∙ sym (length_cut f ts))
      (λ i h. let s = c.size in c.below i (omega arith) ∙ sym (cut_row f ts i))
