use Rattle.std.proofs.Common.{◌≡◌, sym, refl, ap, add-one, arith, rules}
use Rattle.tables.specs.Size.{unit}
use Rattle.tables.specs.LineIds.{line_id}
use Rattle.tables.proofs.Goods.{good}
use Rattle.rules.specs.declared.words.Origin.TheVariants.{Start, Line}
use Rattle.model.specs.Trace.{at_start, at_write, at_end, at_copy}
use Rattle.judging.specs.Outcomes.{order_of}
use Rattle.judging.specs.Traces.{reach}
use Rattle.judging.proofs.Passings.{goes_up, countable}
use Rattle.judging.proofs.trace.+trace_read_trace_write.Goals as goal

pub trace_read-trace_write-trace-requires : goal.trace_read-trace_write-trace-requires
trace_read-trace_write-trace-requires t c =
    let s = c.in-Some.ensures in
    let h = goes_up c.args.passing.now c.args.n c.in-Some.m c.requires s.should in
    (let q = c.decreases in omega arith, s.within)

pub trace_read-overflow_add-result : goal.trace_read-overflow_add-result
trace_read-overflow_add-result t c =
    let h = goes_up c.args.passing.now c.args.n c.in-Some.m c.requires c.in-Some.ensures.should in
    let l = countable c.args.passing.now c.args.n c.requires in
    let f = c.trace_write-trace.ensures.few in
    omega arith

pub trace_read-returns-in-None : goal.trace_read-returns-in-None
trace_read-returns-in-None t c = record {
  is = λ w. at_start (c.in-None.ensures.should w) (ap Start c.cell.ensures) refl;
  few = omega arith;
}

pub trace_read-returns-in-Some : goal.trace_read-returns-in-Some
trace_read-returns-in-Some t c =
    let s = c.in-Some.ensures in
    let x = c.trace_write-trace.ensures in
    record {
      is = λ w. at_write c.in-Some.m c.trace_write-trace.result.reads (s.should w) (x.is w) (add-one c.trace_write-trace.result.reads);
      few = let h = goes_up c.args.passing.now c.args.n c.in-Some.m c.requires s.should in let f = x.few in omega arith;
    }

pub trace_write-trace_read-requires : goal.trace_write-trace_read-requires
trace_write-trace_read-requires t c =
    let p = c.args.passing.now in
    let e = c.in-Some.ensures in
    let d = (good p.complete.standing.tables.now).copies c.args.m c.in-Some.k (sym e) in
    (let q = c.decreases in let a = ap (reach (order_of p)) e in omega arith, d.2)

pub trace_write-returns-in-None : goal.trace_write-returns-in-None
trace_write-returns-in-None t c =
    let e : c.unwrap.result ≡ line_id unit c.args.m = search rules in record {
      is = λ w. at_end (sym c.in-None.ensures) (ap Line e) refl;
      few = omega arith;
    }

pub trace_write-returns-in-Some : goal.trace_write-returns-in-Some
trace_write-returns-in-Some t c =
    let e = c.in-Some.ensures in
    record {
      is = λ w. at_copy c.in-Some.k (sym e) (c.trace_read.ensures.is w);
      few = let f = c.trace_read.ensures.few in let a = ap (reach (order_of c.args.passing.now)) e in omega arith;
    }
