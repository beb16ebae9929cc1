use Rattle.model.proofs.Promises.{reached_exactly_if_axioms_lem}
use Rattle.model.proofs.theorems.reached_exactly_if_axioms.Goals as goal

pub returns : goal.returns
returns g c =
    reached_exactly_if_axioms_lem g.R.WaitRule.waits g.met.R.WaitRule.ordered
    (record { start = g.K.WordKind.starts; written = g.K.WordKind.writtens })
