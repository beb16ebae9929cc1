use Rattle.std.proofs.Common.{sym, arith}
use Rattle.numbers.proofs.Codes.{room, size_last, size_more}
use Rattle.numbers.proofs.writing.+groups.Goals as goal

pub returns-then-value-lt128 : goal.returns-then-value-lt128
returns-then-value-lt128 t c = (sym (size_last c.args.left c.args.value (omega arith) (omega arith)), (omega arith, omega arith))

pub groups-requires : goal.groups-requires
groups-requires t c =
    let r = room c.args.left c.args.value (omega arith) (omega arith) c.requires.1 in
    (omega arith, (omega arith, r.1))

pub returns : goal.returns
returns t c =
    let r = room c.args.left c.args.value (omega arith) (omega arith) c.requires.1 in
    let s = size_more c.args.left c.args.value (omega arith) (omega arith) in
    (omega arith, (omega arith, omega arith))
