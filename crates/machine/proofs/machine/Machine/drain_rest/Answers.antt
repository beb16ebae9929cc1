use Rattle.std.proofs.Common.{List, sym, refl, ap, ◌∙◌}
use Rattle.std.proofs.lemmas.Bool.{both_ways}
use Rattle.tables.specs.Size.{unit}
use Rattle.tables.specs.Rows.{Rows}
use Rattle.tables.specs.View.{cell_at}
use Rattle.model.specs.Machine.{after_drain}
use Rattle.model.proofs.Sweeps.{sweep_none, sweep_more}
use Rattle.machine.specs.Machines.{state_of, lines_of}
use Rattle.machine.proofs.machine.Machine.drain_rest.Goals as goal
use Rattle.machine.proofs.machine.Machine.drain_rest.Goals.{then-holds, else-holds}

pub loop-n-init : goal.loop-n-init
loop-n-init c = let m = c.args.self.now in (sym (sweep_none (cell_at unit (lines_of m)) (state_of m)), refl)

pub loop-n-preserved : goal.loop-n-preserved
loop-n-preserved c =
    let m = c.args.self.now in let i = c.loop-n.self in let n = c.loop-n.n in
    let at = cell_at unit (lines_of m) in
    elim c.if-holds.branch [
      | then-holds w ↦ (
        sweep_more at (state_of m) (state_of i) (state_of c.if-holds.self) n c.loop-n.invariant.0
            (λ _. ap state_of w.self-is ∙ w.put_drain.ensures.state ∙ ap (λ (ts : List Rows). after_drain (state_of i) n (cell_at unit ts n)) c.loop-n.invariant.1)
            (λ h. absurd (both_ways ((state_of i).held n) h (sym w.if-holds.ensures))),
        ap lines_of w.self-is ∙ w.put_drain.ensures.tables ∙ c.loop-n.invariant.1,
      )
      | else-holds w ↦ (
        sweep_more at (state_of m) (state_of i) (state_of c.if-holds.self) n c.loop-n.invariant.0
            (λ h. absurd (both_ways ((state_of i).held n) (sym w.if-holds.ensures) h)) (λ _. ap state_of w.self-is),
        ap lines_of w.self-is ∙ c.loop-n.invariant.1,
      )
    ]
