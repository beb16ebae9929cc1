-- From what a search finds to the lowest by a test, and from there to the lowest of a relation.
use Rattle.std.proofs.Common.{◌≡◌, ℕ, ◌<◌, ◌≤◌, Bool, true, false, Decides, Some, None, Option, MatchOption, inl, inr, arith}
use Rattle.std.proofs.lemmas.Bool.{both_ways, cases_lt}
use Rattle.model.specs.Naming.{by_code, Least, LeastPair}
use Rattle.judging.specs.Searches.{Clear, ClearBelow, Lowest, LowestPair, FirstRow}

-- what `find` over a range gives, where nothing outside the range passes
pub lowest_from :
    (b : ℕ → Bool) (low high : ℕ) (Yes No : ℕ → Type 0) → ClearBelow b low → ((j : ℕ) → high ≤ j → b j ≡ false)
    → ((j : ℕ) → low ≤ j → j < high → Yes j → b j ≡ true) → ((j : ℕ) → low ≤ j → j < high → No j → b j ≡ false)
    → (r : Option ℕ)
    → MatchOption r ((j : ℕ) → low ≤ j → j < high → No j) (λ e. (low ≤ e) × (e < high) × Yes e × ((j : ℕ) → low ≤ j → j < e → No j))
    → Lowest b r
lowest_from b low high Yes No below past passes fails None h = λ j. elim (cases_lt j low) [
  | inl l ↦ below j l
  | inr l ↦ elim (cases_lt j high) [ inl u ↦ fails j l u (h j l u) | inr u ↦ past j u ]
]
lowest_from b low high Yes No below past passes fails (Some e) h = (
  passes e h.0 h.1 h.2,
  λ j u. elim (cases_lt j low) [ inl l ↦ below j l | inr l ↦ fails j l (let v = h.1 in omega arith) (h.3 j l u) ],
)

-- what a search by rows gives, where a row past the last is clear
pub lowest_pair_from :
    (b : ℕ → ℕ → Bool) {Row : ℕ → Option ℕ → Type 0} {n : ℕ} (r : Option (ℕ × ℕ)) → FirstRow Row n r
    → ((i : ℕ) → n ≤ i → Clear (b i)) → ((i : ℕ) (f : Option ℕ) → i < n → Row i f → Lowest (b i) f) → LowestPair b r
lowest_pair_from b {n = n} None h past row = λ i. elim (cases_lt i n) [ inl l ↦ row i None l (h.found i l) | inr l ↦ past i l ]
lowest_pair_from b (Some p) h past row =
    let a = row p.0 (Some p.1) h.found.0 h.found.1 in
    (a.0, a.1, λ i l. row i None (let u = h.found.0 in omega arith) (h.found.2 i l))

module _ (b : ℕ → Bool) (B : ℕ → Type 0) (is : (i : ℕ) → Decides (b i) (B i)) where
  pub least_from : (e : ℕ) → b e ≡ true → ClearBelow b e → Least by_code B e
  least_from e t c = record {
    is = (is e).0 t;
    least = λ i h. elim (cases_lt i e) [ inl l ↦ absurd (both_ways (b i) (c i l) ((is i).1 h)) | inr l ↦ l ];
  }

module _ (b : ℕ → ℕ → Bool) (B : ℕ → ℕ → Type 0) (is : (i j : ℕ) → Decides (b i j) (B i j)) where
  pub least_pair_from : (e f : ℕ) → b e f ≡ true → ClearBelow (b e) f → ((i : ℕ) → i < e → Clear (b i)) → LeastPair by_code B e f
  least_pair_from e f t c a = record {
    is = (is e f).0 t;
    first = λ i j h. elim (cases_lt i e) [ inl l ↦ absurd (both_ways (b i j) (a i l j) ((is i j).1 h)) | inr l ↦ l ];
    second = λ j h. elim (cases_lt j f) [ inl l ↦ absurd (both_ways (b e j) (c j l) ((is e j).1 h)) | inr l ↦ l ];
  }
