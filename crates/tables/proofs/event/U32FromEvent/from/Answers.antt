use Rattle.std.proofs.Common.{◌≡◌, ◌+◌, ◌*◌, ap, ◌∙◌, arith}
use Rattle.tables.specs.Size.{unit}
use Rattle.tables.specs.Events.{code_of, event_of}
use Rattle.tables.proofs.Codes.{code_back, bit_below}
use Rattle.tables.proofs.event.U32FromEvent.from.Goals as goal

value_is : (c : goal.After-bit) → c.place.result * 2 + c.bit.result ≡ code_of unit c.args.event
value_is c = omega (arith, c.place.ensures.value, c.bit.ensures)

pub overflow_add-result : goal.overflow_add-result
overflow_add-result c = let b = bit_below c.args.event.side in omega arith

pub returns : goal.returns
returns c = record {
  value = value_is c;
  back = λ u. ap (event_of unit) (value_is c) ∙ code_back unit c.args.event u;
}
