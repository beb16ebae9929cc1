-- Finishing, line by line.
use Rattle.std.proofs.Common.{◌≡◌, ℕ, suc, ◌+◌, true, false, cond, sym, refl, ap, ◌∙◌, inl, inr, arith}
use Rattle.std.proofs.lemmas.Bool.{cases_Bool, cond-true, cond-false}
use Rattle.model.specs.Machine.{State, after_drain, sweep}

pub sweep_none : (cell : ℕ → ℕ) (s : State) → sweep cell s 0 ≡ s
unfolding sweep
sweep_none cell s = refl

pub sweep_next : (cell : ℕ → ℕ) (s : State) (n : ℕ) → sweep cell s (n + 1) ≡ cond ((sweep cell s n).held n) (after_drain (sweep cell s n) n (cell n)) (sweep cell s n)
unfolding sweep
sweep_next cell s n = let q : n + 1 ≡ suc n = omega arith in ap (sweep cell s) q

-- from a state t that is swept up to n, to one that has line n drained if it was held
pub sweep_more :
    (cell : ℕ → ℕ) (s t u : State) (n : ℕ) → t ≡ sweep cell s n
    → (t.held n ≡ true → u ≡ after_drain t n (cell n)) → (t.held n ≡ false → u ≡ t) → u ≡ sweep cell s (n + 1)
sweep_more cell s t u n q f g =
    let v = sweep cell s n in
    let d : t.held n ≡ v.held n = ap (λ x. x.held n) q in
    elim (cases_Bool (t.held n)) [
      | inl h ↦ f h ∙ (ap (λ x. after_drain x n (cell n)) q
          ∙ sym (sweep_next cell s n ∙ cond-true (v.held n) (after_drain v n (cell n)) v (sym d ∙ h)))
      | inr h ↦ g h ∙ (q ∙ sym (sweep_next cell s n ∙ cond-false (v.held n) (after_drain v n (cell n)) v (sym d ∙ h)))
    ]
