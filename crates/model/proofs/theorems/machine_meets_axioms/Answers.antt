use Rattle.model.proofs.Promises.{machine_meets_axioms_lem}
use Rattle.model.proofs.theorems.machine_meets_axioms.Goals as goal

pub returns : goal.returns
returns g c =
    machine_meets_axioms_lem g.R.WaitRule.waits g.met.R.WaitRule.ordered
    (record { start = g.K.WordKind.starts; written = g.K.WordKind.writtens })
