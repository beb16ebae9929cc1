use Rattle.tables.specs.Contents.{contents}
use Rattle.tables.specs.Size.{unit}
use Rattle.tables.proofs.Goods.{good}
use Rattle.judging.proofs.Beyond.{order_low, missing_low, load_low, wait_low, swap_low}
use Rattle.judging.proofs.Deciding.{broken_order, broken_termination, broken_load, broken_wait, broken_swap, broken_value, all_kept}
use Rattle.judging.proofs.Testing.{settled_from}
use Rattle.judging.proofs.judge.weigh.Goals as goal

pub broken-requires : goal.broken-requires
broken-requires g c =
    let t = c.args.standing.tables.now in
    (order_low (contents t) (good t).tables c.args.standing.order.now c.in-Some.e c.in-Some.ensures.0, tt)

pub broken-requires-in-Some-first_missing : goal.broken-requires-in-Some-first_missing
broken-requires-in-Some-first_missing g c =
    let t = c.args.standing.tables.now in (
      missing_low (contents t) (good t).tables c.args.standing.order.now c.in-Some-first_missing.e
          c.in-Some-first_missing.ensures.0,
      tt,
    )

pub broken-requires-in-Some-first_load : goal.broken-requires-in-Some-first_load
broken-requires-in-Some-first_load g c =
    let t = c.args.standing.tables.now in
    load_low (contents t) (good t).tables c.args.standing.order.now c.in-Some-first_load.e c.in-Some-first_load.f
    c.in-Some-first_load.ensures.0

pub broken-requires-in-Some-first_wait : goal.broken-requires-in-Some-first_wait
broken-requires-in-Some-first_wait g c =
    let t = c.args.standing.tables.now in
    wait_low (contents t) (good t).tables c.args.standing.order.now g.R.WaitRule.waits c.in-Some-first_wait.e
    c.in-Some-first_wait.f c.in-Some-first_wait.ensures.0

pub broken-requires-in-Some-first_swap : goal.broken-requires-in-Some-first_swap
broken-requires-in-Some-first_swap g c =
    let t = c.args.standing.tables.now in
    swap_low (contents t) (good t).tables c.args.standing.order.now c.in-Some-first_swap.e c.in-Some-first_swap.f
    c.in-Some-first_swap.ensures.0

pub returns-in-Some-clause-judged : goal.returns-in-Some-clause-judged
returns-in-Some-clause-judged g c =
    broken_order g.R.WaitRule.waits g.K.WordKind (contents c.args.standing.tables.now)
    c.args.standing.order.now c.args.sheet.now.places.now
    c.in-Some.e c.in-Some.ensures.0 c.in-Some.ensures.1 c.broken.result c.broken.ensures

pub returns-in-Some-first_missing-clause-judged : goal.returns-in-Some-first_missing-clause-judged
returns-in-Some-first_missing-clause-judged g c =
    broken_termination g.R.WaitRule.waits g.K.WordKind (contents c.args.standing.tables.now)
    c.args.standing.order.now c.args.sheet.now.places.now
    c.in_default.ensures
    c.in-Some-first_missing.e c.in-Some-first_missing.ensures.0 c.in-Some-first_missing.ensures.1 c.broken-in-Some-first_missing.result c.broken-in-Some-first_missing.ensures

pub returns-in-Some-first_load-clause-judged : goal.returns-in-Some-first_load-clause-judged
returns-in-Some-first_load-clause-judged g c =
    broken_load g.R.WaitRule.waits g.K.WordKind (contents c.args.standing.tables.now)
    c.args.standing.order.now c.args.sheet.now.places.now
    c.in_default.ensures c.in_default-first_missing.ensures c.args.standing.listed
    c.in-Some-first_load.e c.in-Some-first_load.f c.in-Some-first_load.ensures.0 c.in-Some-first_load.ensures.1 c.in-Some-first_load.ensures.2 c.broken-in-Some-first_load.result c.broken-in-Some-first_load.ensures

pub returns-in-Some-first_wait-clause-judged : goal.returns-in-Some-first_wait-clause-judged
returns-in-Some-first_wait-clause-judged g c =
    broken_wait g.R.WaitRule.waits g.K.WordKind (contents c.args.standing.tables.now)
    c.args.standing.order.now c.args.sheet.now.places.now
    c.in_default.ensures c.in_default-first_missing.ensures c.args.standing.listed c.in_default-first_load.ensures
    c.in-Some-first_wait.e c.in-Some-first_wait.f c.in-Some-first_wait.ensures.0 c.in-Some-first_wait.ensures.1 c.in-Some-first_wait.ensures.2 c.broken-in-Some-first_wait.result c.broken-in-Some-first_wait.ensures

pub returns-in-Some-first_swap-clause-judged : goal.returns-in-Some-first_swap-clause-judged
returns-in-Some-first_swap-clause-judged g c =
    broken_swap g.R.WaitRule.waits g.K.WordKind (contents c.args.standing.tables.now)
    c.args.standing.order.now c.args.sheet.now.places.now
    c.in_default.ensures c.in_default-first_missing.ensures c.args.standing.listed c.in_default-first_load.ensures c.in_default-first_wait.ensures
    c.in-Some-first_swap.e c.in-Some-first_swap.f c.in-Some-first_swap.ensures.0 c.in-Some-first_swap.ensures.1 c.in-Some-first_swap.ensures.2 c.broken-in-Some-first_swap.result c.broken-in-Some-first_swap.ensures

pub invariant_of-complete : goal.invariant_of-complete
invariant_of-complete g c = record {
  settled =
      settled_from unit g.R.WaitRule.waits (contents c.args.standing.tables.now) c.args.standing.order.now c.args.standing.listed
      c.in_default.ensures c.in_default-first_missing.ensures;
}

pub returns-in-Some-first_wrong-clause-judged : goal.returns-in-Some-first_wrong-clause-judged
returns-in-Some-first_wrong-clause-judged g c =
    let k = c.in-Some-first_wrong.ensures.checked g.R.WaitRule.waits in
    broken_value g.R.WaitRule.waits g.K.WordKind (contents c.args.standing.tables.now)
    c.args.standing.order.now c.args.sheet.now.places.now c.in_default.ensures c.in_default-first_missing.ensures
    c.args.standing.listed c.in_default-first_load.ensures c.in_default-first_wait.ensures c.in_default-first_swap.ensures
    c.in-Some-first_wrong.n c.in-Some-first_wrong.source c.write_of.result c.write_of.ensures.value k.0 k.1
    c.broken-in-Some-first_wrong.result c.broken-in-Some-first_wrong.ensures

pub returns-clause-judged : goal.returns-clause-judged
returns-clause-judged g c =
    all_kept g.R.WaitRule.waits g.K.WordKind (contents c.args.standing.tables.now)
    c.args.standing.order.now c.args.sheet.now.places.now
    c.in_default.ensures c.in_default-first_missing.ensures c.args.standing.listed c.in_default-first_load.ensures c.in_default-first_wait.ensures c.in_default-first_swap.ensures
    (c.in_default-first_wrong.ensures.checked g.R.WaitRule.waits)
