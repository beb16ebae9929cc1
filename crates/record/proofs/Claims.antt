-- Claims written to a sheet, place by place.
use Rattle.std.proofs.Common.{◌≡◌, ℕ, ◌+◌, ◌<◌, ◌≤◌, List, length, get_or, set, Some, None, Option, sym, refl, ap, ◌∙◌, inl, inr, arith, length-set}
use Rattle.std.proofs.lemmas.List.{get_or_past, get_or-set_same, get_or-set_other}
use Rattle.std.proofs.lemmas.Bool.{cases_eq, cases_lt}
use Rattle.record.specs.Record.{or_else}

-- the claims below place i stand where `before` was, and the rest is as it was
pub record PutBelow (before : List ℕ) (cs : List (Option ℕ)) (i : ℕ) (after : List ℕ) : Type 0 where
  pub size : length after ≡ length before
  pub put : (n : ℕ) → n < i → get_or after n 0 ≡ or_else (get_or cs n None) (get_or before n 0)
  pub rest : (n : ℕ) → i ≤ n → get_or after n 0 ≡ get_or before n 0

module _ (before : List ℕ) (cs : List (Option ℕ)) where
  pub put_none : PutBelow before cs 0 before
  put_none = record { size = refl; put = λ n h. absurd (omega arith); rest = λ n h. refl }

  module _ (i : ℕ) (after : List ℕ) (p : PutBelow before cs i after) where
    pub no_claim : get_or cs i None ≡ None → PutBelow before cs (i + 1) after
    no_claim e = record {
      size = p.size;
      put = λ n h. elim (cases_lt n i) [
        | inl l ↦ p.put n l
        | inr l ↦ let q : n ≡ i = omega arith in
            p.rest n (omega arith) ∙ sym (ap (λ (o : Option ℕ). or_else o (get_or before n 0)) (ap (λ (k : ℕ). get_or cs k None) q ∙ e))
      ];
      rest = λ n h. p.rest n (omega arith);
    }

    pub a_claim : (v : ℕ) → get_or cs i None ≡ Some v → i < length after → PutBelow before cs (i + 1) (set after i v)
    a_claim v e h = record {
      size = length-set after i v ∙ p.size;
      put = λ n l. elim (cases_eq n i) [
        | inl q ↦ ap (λ (k : ℕ). get_or (set after i v) k 0) q ∙ get_or-set_same after i v 0 h
            ∙ sym (ap (λ (o : Option ℕ). or_else o (get_or before n 0)) (ap (λ (k : ℕ). get_or cs k None) q ∙ e))
        | inr q ↦ get_or-set_other after i n v 0 q ∙ p.put n (let r : (n ≡ i) → ⊥ = q in omega (arith, r))
      ];
      rest = λ n l. get_or-set_other after i n v 0 (λ q. omega arith) ∙ p.rest n (omega arith);
    }

    pub all_put : length cs ≤ i → (n : ℕ) → get_or after n 0 ≡ or_else (get_or cs n None) (get_or before n 0)
    all_put h n =
        elim (cases_lt n i) [
          | inl l ↦ p.put n l
          | inr l ↦ p.rest n l ∙ sym (ap (λ (o : Option ℕ). or_else o (get_or before n 0)) (get_or_past cs n None (omega arith)))
        ]
