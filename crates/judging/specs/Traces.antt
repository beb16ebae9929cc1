-- That reads lead in a passing order, and how far up the order a trace goes.
use Rattle.std.specs.Prelude.{ℕ, suc, List, Some, None, Option}
use Rattle.tables.specs.Size.{Size, rd}
use Rattle.tables.specs.Rows.{Rows}
use Rattle.rules.specs.Waits.{Waits}
use Rattle.model.specs.Program.{program}
use Rattle.model.specs.Axioms.{Follows}
use Rattle.model.proofs.Positions.{place, Before}

-- each read stands before every later event of its table, whatever the waiting rule
abbrev pub ReadsLead : Size → List Rows → List ℕ → Type 0
ReadsLead z ts o = (w : Waits) (e f : ℕ) → Follows (program z w ts) e f → Before o e f

-- the position just behind the read that a write copied, or the order's start where it copied none
abbrev pub reach : List ℕ → Option ℕ → ℕ
reach o None = 0
reach o (Some k) = suc (place o (rd k))
