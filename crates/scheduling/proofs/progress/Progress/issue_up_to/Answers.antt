use Rattle.std.proofs.Common.{◌≡◌, ℕ, suc, ◌+◌, ◌-◌, ◌≤◌, List, length, get_or, ap, ◌∙◌, arith, length-set, rules}
use Rattle.model.specs.Schedule.{fill}
use Rattle.scheduling.specs.Calls.{issued_by}
use Rattle.model.proofs.Schedules.{more_self}
use Rattle.scheduling.proofs.Making.{none_more, one_issued, put_nothing, put_issue, issues_end}
use Rattle.scheduling.proofs.progress.Progress.issue_up_to.Goals as goal

pub loop-self-init : goal.loop-self-init
unfolding fill
loop-self-init c =
    let p = c.args.self.now in (
      0,
      omega arith,
      search rules,
      put_nothing c.args.output.now p.count (omega (arith, c.requires.1.1)),
      none_more (issued_by p.issued) c.args.table,
    )

pub put-requires : goal.put-requires
put-requires c =
    let i = c.loop-self.invariant in
    let f : ℕ → ℕ = issued_by c.args.self.now.issued in
    let t = c.args.table in
    let e = issues_end i.0 t c.args.output.now c.loop-self.output c.args.self.now.count c.loop-self.self.count i.3 in
    let m : get_or c.loop-self.self.issued t 0 ≡ get_or c.args.self.now.issued t 0 + i.0 = i.4 t ∙ more_self f t i.0 in
    let r : c.args.self.now.count + (c.args.row + 1 - get_or c.args.self.now.issued t 0) ≤ length c.args.output.now = c.requires.1.1 in
    omega (arith, c.loop-self-test.true, c.loop-self.auto.output)

pub loop-self-preserved : goal.loop-self-preserved
loop-self-preserved c =
    let i = c.loop-self.invariant in
    let p = c.args.self.now in
    let f : ℕ → ℕ = issued_by p.issued in
    let t = c.args.table in
    let is = c.put.new.self.issued in
    let q = c.put.ensures.issued in
    let n = ap length q in
    let m : get_or c.loop-self.self.issued t 0 ≡ get_or p.issued t 0 + i.0 = i.4 t ∙ more_self f t i.0 in
    let l : i.0 + 1 ≤ c.args.row + 1 - get_or p.issued t 0 = omega (arith, c.loop-self-test.true) in (
      suc i.0,
      omega arith,
      simp length-set (n ∙ i.2),
      put_issue i.0 t c.args.output.now c.loop-self.output c.put.new.output p.count c.loop-self.self.count c.put.new.self.count
          i.3 c.put.ensures.written,
      one_issued f is t i.0 (omega (arith, i.2, n, c.requires.0)) (λ x. ap (λ (z : List ℕ). issued_by z x) q ∙ i.4 x),
    )
