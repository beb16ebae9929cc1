use Rattle.std.proofs.Common.{arith}
use Rattle.numbers.proofs.Puts.{put_stands}
use Rattle.numbers.proofs.writing.write_number.Goals as goal

pub returns-clause-stands : goal.returns-clause-stands
returns-clause-stands c = put_stands c.args.out.now c.args.at c.args.value _ _ (omega arith) c.put_number.ensures
