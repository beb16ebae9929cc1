use Rattle.model.proofs.Promises.{trace_finds_the_word_lem}
use Rattle.model.proofs.theorems.trace_finds_the_word.Goals as goal

pub returns : goal.returns
returns g c =
    trace_finds_the_word_lem g.R.WaitRule.waits g.met.R.WaitRule.ordered
    (record { start = g.K.WordKind.starts; written = g.K.WordKind.writtens })
