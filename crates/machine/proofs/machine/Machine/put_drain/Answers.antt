use Rattle.std.proofs.Common.{◌≡◌, sym, ap, ◌∙◌, subst, arith}
use Rattle.model.specs.Machine.{after_drain}
use Rattle.machine.specs.declared.mark.Mark.TheVariants.{Done}
use Rattle.machine.specs.declared.inner.Inner.{Inner}
use Rattle.machine.specs.States.{inside, marked}
use Rattle.machine.specs.Machines.{state_of}
use Rattle.machine.specs.Sound.{Sound}
use Rattle.machine.proofs.Scans.{cell_fits}
use Rattle.machine.proofs.Writes.{Sized, drain_room, after_put_drain, drain_sound, drain_state}
use Rattle.machine.proofs.machine.Machine.put_drain.Goals as goal

pub append-requires : goal.append-requires
append-requires c =
    let m = c.args.self.now in let n = c.args.n in
    let z : Sized m.inner = record { marks = omega arith; issued = omega arith; last = omega arith } in
    drain_room m.inner z m.sound n (omega arith) c.requires.held

pub invariant_of-self : goal.invariant_of-self
invariant_of-self c =
    let m = c.args.self.now in let n = c.args.n in
    let z : Sized m.inner = record { marks = omega arith; issued = omega arith; last = omega arith } in
    let e : c.set_mark.new.self ≡ after_put_drain m.inner z m.sound n (omega arith) c.requires.held c.event_of-write.result c.into.result c.cell-cell.result c.event_of-write.ensures.spot (omega (arith, c.cell-cell.ensures, cell_fits m.inner.tables n)) = c.set_mark.ensures ∙ ap (λ (i : Inner). marked i n Done) c.append.ensures in
    record { sound = subst Sound (sym e) (drain_sound m.inner z m.sound n (omega arith) c.requires.held c.event_of-write.result c.into.result c.cell-cell.result c.event_of-write.ensures.spot (omega (arith, c.cell-cell.ensures, cell_fits m.inner.tables n))) }

pub returns-clause-state : goal.returns-clause-state
returns-clause-state c =
    let m = c.args.self.now in let n = c.args.n in
    let z : Sized m.inner = record { marks = omega arith; issued = omega arith; last = omega arith } in
    let e : c.set_mark.new.self ≡ after_put_drain m.inner z m.sound n (omega arith) c.requires.held c.event_of-write.result c.into.result c.cell-cell.result c.event_of-write.ensures.spot (omega (arith, c.cell-cell.ensures, cell_fits m.inner.tables n)) = c.set_mark.ensures ∙ ap (λ (i : Inner). marked i n Done) c.append.ensures in
    ap inside e ∙ drain_state m.inner z m.sound n (omega arith) c.requires.held c.event_of-write.result c.into.result c.cell-cell.result c.event_of-write.ensures.spot (omega (arith, c.cell-cell.ensures, cell_fits m.inner.tables n)) (c.into.ensures.value ∙ c.event_of-write.ensures.coded)
    ∙ ap (after_drain (state_of m) n) c.cell-cell.ensures

pub bounds-self-cell : goal.bounds-self-cell
bounds-self-cell c = omega (arith, c.cell-cell.ensures, cell_fits c.args.self.now.inner.tables c.args.n)
