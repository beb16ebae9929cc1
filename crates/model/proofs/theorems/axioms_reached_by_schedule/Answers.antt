use Rattle.model.proofs.Promises.{axioms_reached_by_schedule_lem}
use Rattle.model.proofs.theorems.axioms_reached_by_schedule.Goals as goal

pub returns : goal.returns
returns g c =
    axioms_reached_by_schedule_lem g.R.WaitRule.waits g.met.R.WaitRule.ordered
    (record { start = g.K.WordKind.starts; written = g.K.WordKind.writtens })
