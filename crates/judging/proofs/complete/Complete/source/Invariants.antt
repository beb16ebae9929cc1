use Rattle.tables.specs.Contents.{contents}
use Rattle.tables.specs.Size.{unit}
use Rattle.judging.specs.Sources.{Best, Within}
use Rattle.judging.proofs.complete.Complete.source.Given as goal

abbrev pub invariant-loop-m : goal.invariant-loop-m
invariant-loop-m l = Within l.best × Best unit (contents l.self.standing.tables.now) l.self.standing.order.now l.n l.m l.best
