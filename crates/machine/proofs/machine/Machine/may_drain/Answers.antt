use Rattle.std.proofs.Common.{◌≡◌, ℕ, ◌*◌, Some, None, sym, ap, ◌∙◌, rules, arith}
use Rattle.faults.specs.declared.Fault.TheVariants.{SwapHalfDone}
use Rattle.tables.specs.Size.{number, row}
use Rattle.tables.proofs.Goods.{good}
use Rattle.machine.specs.States.{place_of, line_of}
use Rattle.machine.specs.Machines.{state_of, lines_of, program_of}
use Rattle.model.proofs.FirstRefusals.{drain_not_held, drain_waits, drain_half_done, drain_goes}
use Rattle.machine.proofs.Checks.{there, here, drain_absent}
use Rattle.machine.proofs.machine.Machine.may_drain.Goals as goal

pub returns-in_err-n : goal.returns-in_err-n
returns-in_err-n g c =
    let m = c.args.self.now in
    let h = drain_absent g.R.WaitRule.waits (lines_of m) (state_of m) c.args.processor c.args.line in
    search (rules, h)

pub returns-then-not-holds : goal.returns-then-not-holds
returns-then-not-holds g c =
    let m = c.args.self.now in let p = c.args.processor in let l = c.args.line in
    let t = there (lines_of m) p l (good m.inner.tables).rows c.in_ok-n.ensures.refused in
    drain_not_held (program_of g.R.WaitRule.waits m) (state_of m) p l t.processor t.known t.counted (here (lines_of m) p l g.R.WaitRule.waits t) c.in_ok-n.n c.in_ok-n.ensures.place (sym c.if-not-holds.ensures)

pub returns-in-Some : goal.returns-in-Some
unfolding row
returns-in-Some g c =
    let m = c.args.self.now in let p = c.args.processor in let l = c.args.line in
    let t = there (lines_of m) p l (good m.inner.tables).rows c.in_ok-n.ensures.refused in
    drain_waits (program_of g.R.WaitRule.waits m) (state_of m) p l t.processor t.known t.counted (here (lines_of m) p l g.R.WaitRule.waits t) c.in_ok-n.n c.in_ok-n.ensures.place (sym c.if-not-holds.ensures) c.in-Some.m (sym c.in-Some.ensures)

pub returns-then-place-n : goal.returns-then-place-n
unfolding number
returns-then-place-n g c =
    let m = c.args.self.now in let p = c.args.processor in let l = c.args.line in
    let t = there (lines_of m) p l (good m.inner.tables).rows c.in_ok-n.ensures.refused in
    let j = c.in-Some-half.swap in
    let q : 2 * place_of j ≡ c.from.result = omega (arith, c.from.ensures.value, m.sound.reading j c.in-Some-half.is) in
    drain_half_done (program_of g.R.WaitRule.waits m) (state_of m) p l t.processor t.known t.counted (here (lines_of m) p l g.R.WaitRule.waits t) c.in_ok-n.n c.in_ok-n.ensures.place (sym c.if-not-holds.ensures) (sym c.in_default.ensures) (place_of j) (ap line_of c.in-Some-half.is) (λ e. omega arith)
    ∙ ap (λ (x : ℕ). Some (SwapHalfDone x)) q

pub returns-else-place-n : goal.returns-else-place-n
unfolding number
returns-else-place-n g c =
    let m = c.args.self.now in let p = c.args.processor in let l = c.args.line in
    let t = there (lines_of m) p l (good m.inner.tables).rows c.in_ok-n.ensures.refused in
    let h = ap line_of c.in-Some-half.is in
    let e : place_of c.in-Some-half.swap ≡ c.in_ok-n.n = omega arith in
    record {
      allowed = drain_goes (program_of g.R.WaitRule.waits m) (state_of m) p l t.processor t.known t.counted (here (lines_of m) p l g.R.WaitRule.waits t) c.in_ok-n.n c.in_ok-n.ensures.place (sym c.if-not-holds.ensures) (sym c.in_default.ensures) (λ j q. let a : Some (place_of c.in-Some-half.swap) ≡ Some j = sym h ∙ q in let b : place_of c.in-Some-half.swap ≡ j = cc in sym b ∙ e);
      is = c.in_ok-n.ensures.place;
      within = c.in_ok-n.ensures.below;
      held = sym c.if-not-holds.ensures;
    }

pub returns-in_default-half : goal.returns-in_default-half
returns-in_default-half g c =
    let m = c.args.self.now in let p = c.args.processor in let l = c.args.line in
    let t = there (lines_of m) p l (good m.inner.tables).rows c.in_ok-n.ensures.refused in
    let h = ap line_of c.in_default-half.is in
    record {
      allowed = drain_goes (program_of g.R.WaitRule.waits m) (state_of m) p l t.processor t.known t.counted (here (lines_of m) p l g.R.WaitRule.waits t) c.in_ok-n.n c.in_ok-n.ensures.place (sym c.if-not-holds.ensures) (sym c.in_default.ensures) (λ j q. let a : None ≡ Some j = sym h ∙ q in let z : ◌≡◌ {A = ℕ} 0 1 = cc in let y : ⊥ = omega arith in absurd y);
      is = c.in_ok-n.ensures.place;
      within = c.in_ok-n.ensures.below;
      held = sym c.if-not-holds.ensures;
    }
