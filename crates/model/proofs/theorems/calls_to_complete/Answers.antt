use Rattle.model.proofs.Promises.{calls_to_complete_lem}
use Rattle.model.proofs.theorems.calls_to_complete.Goals as goal

pub returns : goal.returns
returns g c =
    calls_to_complete_lem g.R.WaitRule.waits g.met.R.WaitRule.ordered
    (record { start = g.K.WordKind.starts; written = g.K.WordKind.writtens })
