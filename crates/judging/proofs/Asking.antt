-- When a question about a line is refused.
use Rattle.std.proofs.Common.{◌≡◌, ℕ, ◌-◌, ◌<◌, ◌≤◌, cond, List, get_or, Some, None, Option, ap, ◌∙◌, arith}
use Rattle.std.proofs.lemmas.Bool.{le-ltb}
use Rattle.faults.specs.declared.Fault.{Fault}
use Rattle.faults.specs.declared.Fault.TheVariants.{LineUnknown, NothingRead}
use Rattle.tables.specs.declared.line.Line.{Line}
use Rattle.tables.specs.Size.{unit}
use Rattle.tables.specs.Lines.{nth}
use Rattle.tables.specs.Rows.{Rows, empty}
use Rattle.tables.specs.Places.{no_line}
use Rattle.tables.specs.View.{Good, reads_at}
use Rattle.tables.proofs.Pushes.{nth_past}
use Rattle.judging.specs.Asks.{asked_line, or_next, ask_refused}

module _ (ts : List Rows) (p l : ℕ) (low : 1 ≤ p) (high : p ≤ 4) where
  -- that a line which is there reads is tested last
  abbrev unread : Option Fault
  unread = cond (reads_at unit ts (asked_line p l)) None (Some (NothingRead l))

  -- where the processor is there and the line is not 0, the line decides
  pub by_line : 1 ≤ l → ask_refused ts p l ≡ or_next (no_line l (nth (get_or ts (p - 1) empty).lines (l - 1))) unread
  by_line h = rw (le-ltb p 1 low, le-ltb 4 p high, le-ltb l 1 h)

  pub line_past : Good unit ts → 32 < l → ask_refused ts p l ≡ Some (LineUnknown l)
  line_past g h =
      let n = nth_past (get_or ts (p - 1) empty).lines (l - 1) (let r = g.rows (p - 1) in omega arith) in
      by_line (omega arith) ∙ ap (λ (o : Option Line). or_next (no_line l o) unread) n
