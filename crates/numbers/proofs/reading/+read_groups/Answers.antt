use Rattle.std.proofs.Common.{◌≡◌, ◌<◌, get_or, arith}
use Rattle.numbers.proofs.Codes.{bound_more, bound_top}
use Rattle.numbers.proofs.Standing.{stands_last, stands_more}
use Rattle.numbers.proofs.reading.+read_groups.Goals as goal

pub returns-then-byte-lt128 : goal.returns-then-byte-lt128
returns-then-byte-lt128 t c =
    let k = c.in-Some.ensures.lookup.3.0 in
    let e = c.in-Some.ensures.lookup.3.1 0 in
    let q : c.from.result ≡ get_or c.args.bytes.now c.args.at 0 = omega arith in
    rw q
    (stands_last c.args.left c.args.bytes.now c.args.at (omega arith) (omega arith) (omega arith) (omega arith))

pub overflow_mul-result : goal.overflow_mul-result
overflow_mul-result t c =
    let s = c.in_ok-high.ensures in
    let g : 1 < c.args.left = omega arith in
    omega (arith, s.small, bound_more c.args.left g, bound_top c.args.left (omega arith))

pub overflow_add-result : goal.overflow_add-result
overflow_add-result t c =
    let e = c.in-Some.ensures.lookup.3.1 0 in
    let s = c.in_ok-high.ensures in
    let g : 1 < c.args.left = omega arith in
    let b : get_or c.args.bytes.now c.args.at 0 < 256 = omega (arith, c.type_inv.bytes c.args.at) in
    omega (arith, s.small, bound_more c.args.left g, bound_top c.args.left (omega arith))

pub returns : goal.returns
returns t c =
    let k = c.in-Some.ensures.lookup.3.0 in
    let e = c.in-Some.ensures.lookup.3.1 0 in
    let b : get_or c.args.bytes.now c.args.at 0 < 256 = omega (arith, c.type_inv.bytes c.args.at) in
    stands_more c.args.left c.args.bytes.now c.args.at c.in_ok-high.high _ c.in_ok-high.last (omega arith) (omega arith) (omega arith) b (omega arith) c.in_ok-high.ensures
