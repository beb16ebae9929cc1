use Rattle.std.proofs.Common.{◌∙◌, subst, inl, inr, arith, below_more}
use Rattle.std.proofs.lemmas.Bool.{both_ways, cases_lt}
use Rattle.tables.specs.Contents.{contents}
use Rattle.tables.specs.Size.{unit}
use Rattle.tables.specs.View.{reads_at}
use Rattle.tables.proofs.Goods.{good}
use Rattle.rules.specs.declared.sheet.Sheet.{Sheet}
use Rattle.rules.specs.Waits.{Waits}
use Rattle.judging.specs.Case.{Case, case}
use Rattle.judging.specs.Values.{Right, Wrong}
use Rattle.judging.proofs.Beyond.{past_reads}
use Rattle.judging.proofs.complete.Complete.first_wrong.Goals as goal

pub loop-n-preserved : goal.loop-n-preserved
loop-n-preserved g c =
    let C : Waits → Sheet g.row.K-Word.Denot → Case g.K.WordKind.Meaning = λ w x.
    case w g.K.WordKind (contents c.args.self.now.standing.tables.now) c.args.self.now.standing.order.now x.places.now in (
      c.check_read.ensures.same ∙ c.loop-n.invariant.0,
      λ w.
          below_more (λ j. Right (C w c.args.sheet.now) j) c.loop-n.n (c.loop-n.invariant.1 w)
          (subst (λ (x : Sheet g.row.K-Word.Denot). Right (C w x) c.loop-n.n) c.loop-n.invariant.0 (c.in_default.ensures.checked w)),
    )

pub returns-in-Some-clause-checked : goal.returns-in-Some-clause-checked
returns-in-Some-clause-checked g c =
    let C : Waits → Sheet g.row.K-Word.Denot → Case g.K.WordKind.Meaning = λ w x.
    case w g.K.WordKind (contents c.args.self.now.standing.tables.now) c.args.self.now.standing.order.now x.places.now in
    λ w. (
      subst (λ (x : Sheet g.row.K-Word.Denot). Wrong (C w x) c.loop-n.n c.in-Some.source) c.loop-n.invariant.0 (c.in-Some.ensures.checked w),
      c.loop-n.invariant.1 w,
    )

pub returns-clause-checked : goal.returns-clause-checked
returns-clause-checked g c =
    let t = c.args.self.now.standing.tables.now in
    λ w n. elim (cases_lt n 128) [
      | inl l ↦ c.loop-n.invariant.1 w n (omega arith)
      | inr l ↦ λ s r _. absurd (both_ways (reads_at unit (contents t) n) (past_reads (contents t) (good t).tables n l) r)
    ]
