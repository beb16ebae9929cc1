use Rattle.std.proofs.Common.{refl, inl, inr, arith}
use Rattle.std.proofs.lemmas.Result.{err_from_is_err_and}
use Rattle.record.proofs.Pieces.{said_so, no_rule, no_tables, no_order, left_over, all_said}
use Rattle.record.proofs.whole.read_bytes.Goals as goal

pub returns-in_err-rule : goal.returns-in_err-rule
returns-in_err-rule c =
    let p = err_from_is_err_and c.from_residual.result c.from_residual.ensures.1 in
    let m = c.if-not-is_marked.ensures.0 refl in
    rw (p.1, p.2) (no_rule c.args.bytes.now c.if-bytes-gt-LONGEST.false m c.in_err-rule.ensures)

pub returns-in_err-middle : goal.returns-in_err-middle
returns-in_err-middle c =
    let p = err_from_is_err_and c.from_residual-in_err-middle.result c.from_residual-in_err-middle.ensures.1 in
    let m = c.if-not-is_marked.ensures.0 refl in
    rw (p.1, p.2)
    (no_tables c.args.bytes.now c.if-bytes-gt-LONGEST.false m c.in_ok-rule.rule c.in_ok-rule.ensures c.in_err-middle.ensures)

pub returns-in_err-part : goal.returns-in_err-part
returns-in_err-part c =
    let p = err_from_is_err_and c.from_residual-in_err-part.result c.from_residual-in_err-part.ensures.1 in
    let m = c.if-not-is_marked.ensures.0 refl in
    let t = c.in_ok-middle.ensures in
    rw (p.1, p.2)
    (no_order c.args.bytes.now c.if-bytes-gt-LONGEST.false m c.in_ok-rule.rule c.in_ok-rule.ensures t.1 (inl c.in_err-part.ensures))

pub returns-in_err-read_order : goal.returns-in_err-read_order
returns-in_err-read_order c =
    let p = err_from_is_err_and c.from_residual-in_err-read_order.result c.from_residual-in_err-read_order.ensures.1 in
    let m = c.if-not-is_marked.ensures.0 refl in
    let t = c.in_ok-middle.ensures in
    let s = c.in_ok-part.part in
    rw (p.1, p.2)
    (no_order c.args.bytes.now c.if-bytes-gt-LONGEST.false m c.in_ok-rule.rule c.in_ok-rule.ensures t.1
    (inr ((s.bytes.now, s.start), c.in_ok-part.end, c.in_ok-part.ensures, c.in_err-read_order.ensures)))

pub returns-then-end-bytes : goal.returns-then-end-bytes
returns-then-end-bytes c =
    let m = c.if-not-is_marked.ensures.0 refl in
    let t = c.in_ok-middle.ensures in
    let s = c.in_ok-part.part in
    let o = c.in_ok-read_order.ensures in
    left_over c.args.bytes.now c.if-bytes-gt-LONGEST.false m c.in_ok-rule.rule c.in_ok-rule.ensures t.1
    ((s.bytes.now, s.start), c.in_ok-part.end, c.in_ok-part.ensures, (o, refl)) (omega arith)

pub returns : goal.returns
returns c =
    let m = c.if-not-is_marked.ensures.0 refl in
    let t = c.in_ok-middle.ensures in
    let s = c.in_ok-part.part in
    let a = c.in_ok-part.ensures in
    let o = c.in_ok-read_order.ensures in
    record {
      said = said_so c.in_ok-rule.rule t.0 c.read_order.new.codes.items;
      is = all_said c.args.bytes.now c.if-bytes-gt-LONGEST.false m c.in_ok-rule.rule c.in_ok-rule.ensures t.1
          ((s.bytes.now, s.start), c.in_ok-part.end, a, (o, refl)) (omega (arith, a.within));
      rule_is = refl;
      kept = t.2;
      order_is = refl;
    }
