-- Finishing after any calls gives an order of the lines issued that meets the axioms.
use Rattle.std.proofs.Common.{◌≡◌, ℕ, false, List, subst}
use Rattle.model.specs.Program.{Program}
use Rattle.model.specs.Orders.{Listed}
use Rattle.model.specs.Machine.{State, Run, words_on, finish}
use Rattle.model.proofs.FinishKeeps.{From, finished}
use Rattle.model.proofs.Lawful.{Lawful, Local}
use Rattle.model.proofs.OrderMeets.{meets, order_listed, issued_part}
use Rattle.model.proofs.PlacedAxioms.{Placed}
use Rattle.model.proofs.Runs.{Holds}

module _ {M : Type 0} (P : Program) (L : Lawful P) (stored : (ℕ → M) → ℕ → M) (start : ℕ → M) (N : Local P stored) (sheet₀ : List M)
    (r : Run M) (H : Holds P L stored start N sheet₀ r) where
  abbrev t : State
  t = finish P.size P.cell r.state

  ended : From P L stored start N (words_on start r.sheet) r.state t × ((m : ℕ) → t.held m ≡ false)
  ended = finished P L stored start N (words_on start r.sheet) r.state H.inv H.values

  pub finish_meets : Placed (issued_part P r.state.issued) stored start t.order (words_on start r.sheet)
  finish_meets =
      subst (λ (f : ℕ → ℕ). Placed (issued_part P f) stored start t.order (words_on start r.sheet)) ended.0.issued
      (meets P L stored start (words_on start r.sheet) t ended.0.inv ended.0.values ended.1)

  pub finish_listed : Listed (issued_part P r.state.issued) t.order
  finish_listed = subst (λ (f : ℕ → ℕ). Listed (issued_part P f) t.order) ended.0.issued (order_listed P t ended.0.inv)
