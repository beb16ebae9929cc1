use Rattle.std.proofs.Common.{◌≡◌, ℕ, List, length, get_or, take, refl, ap, ◌∙◌, arith, length-set, rules}
use Rattle.std.proofs.lemmas.List.{take_all, length-take-le}
use Rattle.std.proofs.lemmas.Bool.Decides.{nat_tests}
use lib.ListN.{get_or-replicate}
use Rattle.tables.specs.Contents.{contents}
use Rattle.tables.proofs.Goods.{good}
use Rattle.model.proofs.Positions.{times}
use Rattle.judging.specs.Standings.{nowhere}
use Rattle.judging.specs.declared.standing.Stand.{Stand}
use Rattle.judging.proofs.Beyond.{event_low}
use Rattle.judging.proofs.Locating.{place_below, place_step, times_step, times_le, place_all}
use Rattle.judging.proofs.standing.Standing.of.Goals as goal

pub loop-i-init : goal.loop-i-init
loop-i-init c =
    let o = c.args.order.now in
    let none : Stand = record { place = length o; times = 0 } in
    record {
      long = refl;
      placed = λ e h. ap (λ (s : Stand). s.place) (get_or-replicate 256 e none nowhere h) ∙ grind (arith, nat_tests);
      timed = λ e h. ap (λ (s : Stand). s.times) (get_or-replicate 256 e none nowhere h);
    }

pub bounds-stands-code : goal.bounds-stands-code
bounds-stands-code c =
    let t = c.args.tables.now in
    event_low (contents t) (good t).tables (get_or c.args.order.now c.loop-i.i 0) (c.requires c.loop-i.i c.loop-i-test.true)

pub overflow_add-stand : goal.overflow_add-stand
overflow_add-stand c =
    let o = c.args.order.now in
    let t = c.args.tables.now in
    let code = get_or o c.loop-i.i 0 in
    let low = event_low (contents t) (good t).tables code (c.requires c.loop-i.i c.loop-i-test.true) in
    let a = c.loop-i.invariant.timed code low in
    let b = times_le (take c.loop-i.i o) code in
    let d = length-take-le c.loop-i.i o (omega arith) in
    search rules

pub loop-i-preserved : goal.loop-i-preserved
loop-i-preserved c =
    let o = c.args.order.now in
    let t = c.args.tables.now in
    let i = c.loop-i.i in
    let ss = c.loop-i.stands in
    let v = c.loop-i.invariant in
    let low = event_low (contents t) (good t).tables (get_or o i 0) (c.requires i c.loop-i-test.true) in
    record {
      long = simp length-set v.long;
      placed = place_step o ss i _ c.loop-i-test.true v.long low c.min-stand.ensures v.placed;
      timed = times_step o ss i _ c.loop-i-test.true v.long low refl v.timed;
    }

pub invariant_of-result : goal.invariant_of-result
invariant_of-result c =
    let o = c.args.order.now in
    let ss = c.loop-i.stands in
    let v = c.loop-i.invariant in
    let q : c.loop-i.i ≡ length o = omega arith in
    record {
      listed = c.requires;
      stood = λ e h. (
        v.placed e h ∙ ap (λ (k : ℕ). place_below o k e) q ∙ place_all o e,
        v.timed e h ∙ ap (λ (p : List ℕ). times p e) (take_all c.loop-i.i o (omega arith)),
      );
    }
