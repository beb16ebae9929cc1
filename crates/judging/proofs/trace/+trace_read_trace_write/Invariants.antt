use Rattle.std.proofs.Common.{suc, ◌*◌}
use Rattle.tables.specs.Size.{unit, rd}
use Rattle.tables.specs.View.{copy_at}
use Rattle.model.proofs.Positions.{place}
use Rattle.judging.specs.Outcomes.{rows_of, order_of}
use Rattle.judging.specs.Traces.{reach}
use Rattle.judging.proofs.trace.+trace_read_trace_write.Given as goal

-- a read's position falls from read to read, and the write between the two lies between
abbrev pub decreases-trace_read : goal.decreases-trace_read
decreases-trace_read l = suc (2 * place (order_of l.passing.now) (rd l.n))

abbrev pub decreases-trace_write : goal.decreases-trace_write
decreases-trace_write l = 2 * reach (order_of l.passing.now) (copy_at unit (rows_of l.passing.now) l.m)
