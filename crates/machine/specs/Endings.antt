-- The order that a finished machine leaves.
use Rattle.std.specs.Prelude.{ℕ, List}
use Rattle.machine.specs.declared.ended.Ended.{Ended}

abbrev pub order_of : Ended → List ℕ
order_of e = e.order.items
