use Rattle.std.proofs.Common.{refl, arith}
use Rattle.record.specs.Form.{none}
use Rattle.record.proofs.Events.{event_few, one_more}
use Rattle.record.proofs.order.read_order.Goals as goal

pub loop-at-init : goal.loop-at-init
loop-at-init c = (none c.requires refl, omega arith)

pub push-requires : goal.push-requires
push-requires c =
    let few = event_few c.len.result c.in_ok-code.code c.in_ok-code.ensures.1 in
    (omega arith, omega (arith, few, c.len.ensures.value))

pub loop-at-preserved : goal.loop-at-preserved
loop-at-preserved c =
    let t = c.in_ok-code.ensures in (
      one_more c.args.part.bytes.now c.args.part.start c.loop-at.codes.items _ c.len.result c.loop-at.at c.in_ok-code.code _
          c.len.ensures.value c.loop-at-test.true c.loop-at.invariant.0 t c.push.ensures.items,
      t.0.within,
    )
