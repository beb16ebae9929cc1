use Rattle.std.proofs.Common.{map, ◌∙◌}
use Rattle.tables.specs.Contents.{contents}
use Rattle.tables.proofs.Goods.{good}
use Rattle.model.specs.declared.call.Call.TheVariants.{Issue}
use Rattle.model.specs.Program.{Words}
use Rattle.machine.specs.Machines.{lines_of}
use Rattle.machine.specs.Calls.{run_of}
use Rattle.machine.proofs.WholeRuns.{one_more, played}
use Rattle.machine.proofs.play.play.Goals as goal

pub loop-call-preserved : goal.loop-call-preserved
loop-call-preserved g c =
    let W = g.K.WordKind in
    let K : Words W.Meaning = record { start = W.starts; written = W.writtens } in
    let m₀ = c.close-machine.result in let m = c.loop-call.machine in let m' = c.make.new.machine in (
      one_more g.R.WaitRule.waits K c.args.calls.now (lines_of m₀) (lines_of m) c.loop-call.call-index (Issue 0)
          (run_of m₀ (map W.meaning c.args.sheet.now.places.now))
          (run_of m (map W.meaning c.loop-call.sheet.places.now)) (run_of m' (map W.meaning c.make.new.sheet.places.now))
          c.loop-call-test.true c.loop-call.invariant.1 c.loop-call.invariant.0 c.make.ensures.after,
      c.make.ensures.tables ∙ c.loop-call.invariant.1,
      c.make.ensures.named ∙ c.loop-call.invariant.2,
    )

pub returns-clause-played : goal.returns-clause-played
returns-clause-played g c =
    let W = g.K.WordKind in
    let K : Words W.Meaning = record { start = W.starts; written = W.writtens } in
    played g.R.WaitRule.waits K c.args.calls.now g.met.R.WaitRule.ordered (contents c.args.draft.tables) (good c.args.draft.tables)
    (map W.meaning c.args.sheet.now.places.now) (map W.meaning c.loop-call.sheet.places.now)
    c.close-machine.result c.loop-call.machine c.finish.result c.close-machine.ensures.state c.close-machine.ensures.tables
    c.loop-call.call-index c.loop-call-test.false c.loop-call.invariant.0 c.loop-call.invariant.1 c.finish.ensures.order c.finish.ensures.lines
