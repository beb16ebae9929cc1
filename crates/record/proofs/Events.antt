-- One event more.
use Rattle.std.proofs.Common.{◌≡◌, ℕ, ◌<◌, ◌≤◌, ◌⊎◌, List, [], ◌∷◌, ◌++◌, length, Some, None, sym, inl, inr, arith}
use Rattle.std.proofs.lemmas.Bool.Decides.{nat_tests}
use Rattle.faults.specs.declared.Fault.TheVariants.{EventBeyond}
use Rattle.tables.specs.Size.{places}
use Rattle.record.specs.Form.{tested, Run, more}
use Rattle.record.specs.Order.{event_test}

pub event_beyond : (n v : ℕ) → (256 ≤ v) ⊎ (256 ≤ n) → event_test n v ≡ Some EventBeyond
unfolding places
event_beyond n v (inl h) = grind (arith, nat_tests)
event_beyond n v (inr h) = grind (arith, nat_tests)

pub event_passes : (n v : ℕ) → v < 256 → n < 256 → event_test n v ≡ None
unfolding places
event_passes n v g h = grind (arith, nat_tests)

-- there are no more events than codes
pub event_few : (n v : ℕ) → event_test n v ≡ None → n < 256
unfolding places
event_few n v e = grind (arith, nat_tests)

module _ (part : List ℕ) (base : ℕ) where
  abbrev pub Events : List ℕ → ℕ → Type 0
  Events = Run (λ front. tested part base (event_test (length front))) (λ front p. p ≡ length part) 0

  event_at : (m n at v next : ℕ) → m ≡ n → (tested part base (event_test m)).is at v next → (tested part base (event_test n)).is at v next
  event_at m n at v next e h = rw (sym e) h

  pub one_more :
      (codes codes' : List ℕ) (count at v next : ℕ) → count ≡ length codes → at < length part
      → Events codes at → (tested part base (event_test count)).is at v next → codes' ≡ codes ++ v ∷ [] → Events codes' next
  one_more codes codes' count at v next l o r t e = more r (λ q. omega arith) (event_at count (length codes) at v next l t) e
