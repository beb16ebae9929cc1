use Rattle.std.proofs.Common.{ℕ, ◌<◌, None}
use Rattle.judging.proofs.rows.lowest_pair.Given as goal

abbrev pub invariant-loop-e : goal.invariant-loop-e
invariant-loop-e g l = (i : ℕ) → i < l.e → goal.F-post g l.row i None
