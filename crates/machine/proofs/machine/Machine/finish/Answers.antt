use Rattle.std.proofs.Common.{◌≡◌, ℕ, List, ap, ◌∙◌}
use Rattle.tables.specs.Size.{unit}
use Rattle.tables.specs.Rows.{Rows}
use Rattle.tables.specs.View.{cell_at}
use Rattle.model.specs.Machine.{State, sweep, finish, cut}
use Rattle.machine.specs.Machines.{state_of, lines_of}
use Rattle.machine.proofs.Sweeps.{finish_is, finish_issued}
use Rattle.machine.proofs.machine.Machine.finish.Goals as goal

pub returns : goal.returns
returns c =
    let a = c.args.self in let b = c.drain_half.new.self in let d = c.drain_rest.new.self in
    let cell = cell_at unit (lines_of a) in
    let same = c.drain_half.ensures.tables in
    let e : state_of d ≡ finish unit cell (state_of a) =
    finish_is cell (state_of a) (state_of b) (state_of d) c.drain_half.ensures.state
    (c.drain_rest.ensures.state ∙ ap (λ (ts : List Rows). sweep (cell_at unit ts) (state_of b) 128) same) in
    record {
      order = ap (λ (s : State). s.order) e;
      lines = c.cut_tables-tables.ensures
          ∙ ap (λ (f : ℕ → ℕ). cut f (lines_of d)) (ap (λ (s : State). s.issued) e ∙ finish_issued cell (state_of a))
          ∙ ap (cut (state_of a).issued) (c.drain_rest.ensures.tables ∙ same);
    }
