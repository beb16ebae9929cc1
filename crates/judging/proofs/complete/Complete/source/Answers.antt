use Rattle.std.proofs.Common.{◌≡◌, ℕ, ◌+◌, ◌/◌, ◌<◌, Option, sym, subst, arith}
use Rattle.tables.specs.Contents.{contents}
use Rattle.tables.specs.Size.{unit, table}
use Rattle.tables.proofs.Goods.{good}
use Rattle.judging.specs.Sources.{Best}
use Rattle.judging.proofs.Beyond.{reads_low}
use Rattle.judging.proofs.Choosing.{best_should, best_within, best_skip, best_old, best_new}
use Rattle.judging.proofs.complete.Complete.source.Goals as goal
use Rattle.judging.proofs.complete.Complete.source.Goals.{then-writes_cell+then-is_later, else-writes_cell, else-writes_cell-via-then-writes_cell+else-is_later, else-writes_cell-via-else-writes_cell}

pub last_before-best-requires : goal.last_before-best-requires
last_before-best-requires c =
    let t = c.args.self.now.standing.tables.now in
    reads_low (contents t) (good t).tables c.args.n c.requires

pub loop-m-preserved : goal.loop-m-preserved
unfolding table
loop-m-preserved c =
    let t = c.args.self.now.standing.tables.now in
    let ts = contents t in
    let o = c.args.self.now.standing.order.now in
    let n = c.args.n in
    let k = c.loop-m.m in
    let line = reads_low ts (good t).tables n c.requires in
    let own : k / 32 ≡ n / 32 = omega arith in
    let low : k < 128 = omega arith in
    let B : Option ℕ → Type 0 = λ r. Best unit ts o n (k + 1) r in
    let b : B c.if-writes_cell.best = elim c.if-writes_cell.branch [
      | then-writes_cell+then-is_later w ↦
          subst B (sym w.best-is)
          (best_new ts o n k own low (sym w.if-writes_cell.ensures) c.loop-m.best w.if-is_later.ensures c.loop-m.invariant.1)
      | else-writes_cell w ↦ subst B (sym w.best-is) (elim w.else-writes_cell.branch [
        | else-writes_cell-via-then-writes_cell+else-is_later v ↦ best_old ts o n k own c.loop-m.best v.if-is_later.ensures c.loop-m.invariant.1
        | else-writes_cell-via-else-writes_cell v ↦
            best_skip ts o n k own (sym v.if-writes_cell.ensures) c.loop-m.best c.loop-m.invariant.1
      ])
    ] in
    (best_within ts o n (k + 1) c.if-writes_cell.best b, b)

pub is_later-requires : goal.is_later-requires
is_later-requires c =
    let t = c.args.self.now.standing.tables.now in
    let line = reads_low (contents t) (good t).tables c.args.n c.requires in
    (c.loop-m.invariant.0, omega arith)

pub returns-clause-should : goal.returns-clause-should
returns-clause-should c =
    let ts = contents c.args.self.now.standing.tables.now in
    let o = c.args.self.now.standing.order.now in
    let n = c.args.n in
    let q : c.loop-m.m ≡ n = omega arith in
    let b = subst (λ (k : ℕ). Best unit ts o n k c.loop-m.best) q c.loop-m.invariant.1 in
    λ w. best_should ts o c.args.self.now.settled w n c.requires c.loop-m.best b
