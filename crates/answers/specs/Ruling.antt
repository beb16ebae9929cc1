-- What the rule of a record means.
use Rattle.rules.specs.declared.rule.Rule.{Rule}
use Rattle.rules.specs.declared.rule.Rule.TheVariants.{Strong, TotalStoreOrder}
use Rattle.rules.specs.Waits.{Waits}
use Rattle.rules.specs.contracts.wait.StrongWaitRule.TheImpl as strong
use Rattle.rules.specs.contracts.wait.TotalStoreOrderWaitRule.TheImpl as total_store_order

abbrev pub waits_of : Rule → Waits
waits_of Strong = (strong.ghosts).waits
waits_of TotalStoreOrder = (total_store_order.ghosts).waits
