-- Finishing issues nothing, and is a sweep after the half-done swap.
use Rattle.std.proofs.Common.{◌≡◌, ℕ, zero, suc, Some, None, Option, refl, ap, ◌∙◌, inl, inr}
use Rattle.std.proofs.lemmas.Bool.{cases_Bool, cond-true, cond-false}
use Rattle.tables.specs.Size.{unit, places}
use Rattle.model.specs.Machine.{State, sweep, after_drain, drain_half, finish}

module _ (cell : ℕ → ℕ) where
  -- draining issues nothing
  sweep_issued : (s : State) (n : ℕ) → (sweep cell s n).issued ≡ s.issued
  unfolding sweep
  sweep_issued s zero = refl
  sweep_issued s (suc n) =
      let v = sweep cell s n in
      let r = sweep_issued s n in
      elim (cases_Bool (v.held n)) [
        | inl h ↦ ap (λ (x : State). x.issued) (cond-true (v.held n) (after_drain v n (cell n)) v h) ∙ r
        | inr h ↦ ap (λ (x : State). x.issued) (cond-false (v.held n) (after_drain v n (cell n)) v h) ∙ r
      ]

  half_issued : (s : State) (h : Option ℕ) → (drain_half cell s h).issued ≡ s.issued
  half_issued s None = refl
  half_issued s (Some j) = refl

  pub finish_issued : (s : State) → (finish unit cell s).issued ≡ s.issued
  finish_issued s = sweep_issued (drain_half cell s s.half) (places unit) ∙ half_issued s s.half

  pub finish_is : (s t u : State) → t ≡ drain_half cell s s.half → u ≡ sweep cell t 128 → u ≡ finish unit cell s
  unfolding places
  finish_is s t u p q = q ∙ ap (λ (x : State). sweep cell x 128) p
