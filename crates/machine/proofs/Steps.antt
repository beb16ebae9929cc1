-- Calls one after the other.
use Rattle.std.proofs.Common.{◌≡◌, ℕ, List, [], ◌∷◌, ◌++◌, map, length, Some, Ok, Err, Result, sym, refl, ap, ◌∙◌, MatchResult}
use lib.ListN.{length-map}
use Rattle.faults.specs.declared.Fault.{Fault}
use Rattle.tables.specs.Size.{unit}
use Rattle.rules.specs.Waits.{Waits}
use Rattle.model.specs.declared.call.Call.{Call}
use Rattle.model.specs.declared.call.Call.TheVariants.{Issue, Drain}
use Rattle.model.specs.Program.{Program, Words, stored_at}
use Rattle.model.specs.Machine.{State, Run, issue_refusal, drain_refusal, unless, done, step, run}
use Rattle.machine.specs.declared.machine.Machine.{Machine}
use Rattle.machine.specs.Machines.{state_of, lines_of, program_of}
use Rattle.machine.specs.Calls.{run_of, Issued, Drained}

-- one call, whether it is refused or not
module _ {M W : Type 0} (f : W → M) (w : Waits) (K : Words M) (m m' : Machine) (xs xs' : List W) where
  abbrev P : Program
  P = program_of w m

  abbrev before : Run M
  before = run_of m (map f xs)

  abbrev stored : (ℕ → M) → ℕ → M
  stored = stored_at K unit (lines_of m)

  pub issue_step :
      {U : Type 0} (p : ℕ) (r : Result U Fault)
      → MatchResult r (λ _. Issued w K m (map f xs) (length xs) p m' (map f xs'))
      (λ e. (issue_refusal P (state_of m) (length xs) p ≡ Some e) × (m' ≡ m) × (xs' ≡ xs))
      → run_of m' (map f xs') ≡ step P stored K.start (Issue p) before
  issue_step p (Ok u) h =
      h.after
      ∙ sym (ap (λ o. unless o before (done P stored K.start (Issue p) before)) (ap (λ (k : ℕ). issue_refusal P (state_of m) k p) (length-map xs f) ∙ h.allowed))
  issue_step p (Err e) h =
      ap (λ (x : Machine). run_of x (map f xs')) h.1 ∙ ap (λ (x : List W). run_of m (map f x)) h.2
      ∙ sym (ap (λ o. unless o before (done P stored K.start (Issue p) before)) (ap (λ (k : ℕ). issue_refusal P (state_of m) k p) (length-map xs f) ∙ h.0))

  pub drain_step :
      {U : Type 0} (p l : ℕ) (r : Result U Fault)
      → MatchResult r (λ _. Drained w m p l m') (λ e. (drain_refusal P (state_of m) p l ≡ Some e) × (m' ≡ m))
      → run_of m' (map f xs) ≡ step P stored K.start (Drain p l) before
  drain_step p l (Ok u) h =
      ap (λ (s : State). record { state = s; sheet = map f xs }) h.after
      ∙ sym (ap (λ o. unless o before (done P stored K.start (Drain p l) before)) h.allowed)
  drain_step p l (Err e) h =
      ap (λ (x : Machine). run_of x (map f xs)) h.1
      ∙ sym (ap (λ o. unless o before (done P stored K.start (Drain p l) before)) h.0)

-- one call more
pub run_more :
    {M : Type 0} (P : Program) (stored : (ℕ → M) → ℕ → M) (start : ℕ → M) (cs : List Call) (c : Call) (r : Run M)
    → run P stored start (cs ++ c ∷ []) r ≡ step P stored start c (run P stored start cs r)
run_more P stored start [] c r = refl
run_more P stored start (d ∷ cs) c r = run_more P stored start cs c (step P stored start d r)
