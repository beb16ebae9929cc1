use Rattle.std.proofs.Common.{arith}
use Rattle.std.proofs.lemmas.List.{length-set}
use Rattle.numbers.proofs.Codes.{room, size_last, size_more}
use Rattle.numbers.proofs.Puts.{put_last, put_more}
use Rattle.numbers.proofs.writing.+put_groups.Goals as goal

pub bounds-out-at : goal.bounds-out-at
bounds-out-at t c = omega (arith, size_last c.args.left c.args.value (omega arith) (omega arith))

pub returns-then-value-lt128 : goal.returns-then-value-lt128
returns-then-value-lt128 t c =
    put_last c.args.left c.args.out.now c.args.at c.args.value (omega arith) (omega (arith, size_last c.args.left c.args.value (omega arith) (omega arith))) (omega arith)

pub bounds-out-at-2 : goal.bounds-out-at-2
bounds-out-at-2 t c = omega (arith, size_more c.args.left c.args.value (omega arith) (omega arith))

pub put_groups-requires : goal.put_groups-requires
put_groups-requires t c =
    let r = room c.args.left c.args.value (omega arith) (omega arith) c.requires.1.1 in
    let s = size_more c.args.left c.args.value (omega arith) (omega arith) in
    (omega arith, (simp length-set (omega arith), (omega arith, r.1)))

pub returns : goal.returns
returns t c =
    let s = size_more c.args.left c.args.value (omega arith) (omega arith) in
    put_more c.args.left c.args.out.now c.args.at c.args.value _ _ (omega arith) (omega arith) (omega arith) c.put_groups.ensures
