use Rattle.std.proofs.Common.{◌≡◌, sym, ap, ◌∙◌, arith}
use Rattle.tables.specs.Contents.{contents}
use Rattle.tables.specs.Size.{places}
use Rattle.scheduling.proofs.Needing.{calls_below, below_none, below_more}
use Rattle.scheduling.proofs.needed.calls_needed.Goals as goal

pub loop-place-init : goal.loop-place-init
loop-place-init c = (sym (below_none (contents c.args.tables.now)), omega arith)

pub loop-place-preserved : goal.loop-place-preserved
loop-place-preserved c =
    let i = c.loop-place.invariant in
    let m = below_more (contents c.args.tables.now) c.loop-place.place in (
      omega (arith, i.0, m, c.calls_at-calls.ensures.value),
      omega (arith, i.1, c.calls_at-calls.ensures.few),
    )

pub returns : goal.returns
unfolding places
returns c w =
    let e : c.loop-place.place ≡ 128 = omega arith in
    c.loop-place.invariant.0 ∙ ap (calls_below (contents c.args.tables.now)) e
