-- What is told of an order that is judged first.
use Rattle.std.specs.Prelude.{◌≡◌, ℕ, ◌≤◌, List, Option, Result, IfOk}
use Rattle.faults.specs.declared.Fault.{Fault}
use Rattle.tables.specs.declared.event.Event.{Event}
use Rattle.tables.specs.Size.{unit}
use Rattle.tables.specs.Rows.{Rows}
use Rattle.tables.specs.Contents.{contents}
use Rattle.tables.specs.View.{copy_at}
use Rattle.rules.specs.Waits.{Waits}
use Rattle.rules.specs.declared.words.Origin.{Origin}
use Rattle.rules.specs.declared.words.WordKind as word_kind
use Rattle.model.specs.Program.{Program, program, written_at, words_of}
use Rattle.model.specs.Axioms.{Should}
use Rattle.model.specs.Verdicts.{code_if, write_of, OfUnitIf}
use Rattle.model.specs.Trace.{ReadTrace, found, reads_in}
use Rattle.model.specs.declared.verdict.Breach.{Breach}
use Rattle.judging.specs.declared.passing.Passing.{Passing}
use Rattle.judging.specs.declared.passing.Trace.{Trace}
use Rattle.judging.specs.Words.{words_on}

-- what holds of a result where the order passed
abbrev pub IfPassed : {T : Type 0} → Result (Result T Breach) Fault → (T → Type 0) → Type 0
IfPassed r Q = IfOk r (λ v. IfOk v Q)

-- the contents of the tables, and the order
abbrev pub rows_of : Passing → List Rows
rows_of p = contents p.complete.standing.tables.now

abbrev pub order_of : Passing → List ℕ
order_of p = p.complete.standing.order.now

-- the read of line n should have this write, or the start word
pub record ReadsFrom (P : Program) (o : List ℕ) (n : ℕ) (s : Option Event) : Type 0 where
  pub line : Option ℕ
  pub should : Should P o n line
  pub is : code_if P s ≡ write_of line
  pub of_unit : OfUnitIf P s

-- the trace of line n ends there after so many reads, and nowhere else; these are at most the reads in the tables, and the
-- word at the end is the one read
pub record TracedTo {M : Type 0} (P : Program) (copy : ℕ → Option ℕ) (written start : ℕ → M) (o : List ℕ) (words : ℕ → M) (n : ℕ) (t : Trace) : Type 0 where
  pub is : ReadTrace P copy o n t.end t.reads
  pub only : (e : Origin) (r : ℕ) → ReadTrace P copy o n e r → (e ≡ t.end) × (r ≡ t.reads)
  pub few : t.reads ≤ reads_in P
  pub finds : found P written start t.end ≡ words n

-- the same, of the read of line n in the tables, an order and a sheet
abbrev pub TracedOn : {K W : Type 0} → Waits → (k : word_kind.Ghosts K W) → List Rows → List ℕ → List W → ℕ → Trace → Type 0
TracedOn w k ts o xs n t =
    TracedTo (program unit w ts) (copy_at unit ts) (written_at (words_of k) unit ts) k.starts o (words_on k xs) n t
