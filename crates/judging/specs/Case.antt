-- What is put to the judge, and what it answers.
use Rattle.std.specs.Prelude.{◌≡◌, ℕ, ◌<◌, ◌≤◌, List, Result, MatchResult, IsOk, IsOkAnd}
use Rattle.faults.specs.declared.Fault.{Fault}
use Rattle.faults.specs.declared.Fault.TheVariants.{SheetShort, EventLacking}
use Rattle.tables.specs.Size.{unit, places}
use Rattle.tables.specs.Rows.{Rows}
use Rattle.tables.specs.Contents.{contents}
use Rattle.rules.specs.Waits.{Waits}
use Rattle.rules.specs.declared.words.WordKind as word_kind
use Rattle.model.specs.Program.{Program, program, stored_at, words_of}
use Rattle.model.specs.Orders.{At, Event, Listed}
use Rattle.model.specs.Axioms.{Meets}
use Rattle.model.specs.Verdicts.{Judged}
use Rattle.model.specs.declared.verdict.Breach.{Breach}
use Rattle.judging.specs.declared.proposal.Proposal.{Proposal}
use Rattle.judging.specs.Words.{words_on}

-- lines under a rule, an order of their events, and the words that they read, by meaning
pub record Case (M : Type 0) : Type 0 where
  pub program : Program
  pub stored : (ℕ → M) → ℕ → M
  pub start : ℕ → M
  pub order : List ℕ
  pub words : ℕ → M

-- the case of a rule, a kind of word, the contents of tables, an order of codes and a sheet
abbrev pub case : {K W : Type 0} → Waits → (k : word_kind.Ghosts K W) → List Rows → List ℕ → List W → Case k.Meaning
case w k ts o xs = record {
  program = program unit w ts;
  stored = stored_at (words_of k) unit ts;
  start = k.starts;
  order = o;
  words = words_on k xs;
}

-- the case of what is proposed, with a sheet
abbrev pub proposed : {R K W : Type 0} → Waits → (k : word_kind.Ghosts K W) → Proposal R K → List W → Case k.Meaning
proposed w k p xs = case w k (contents p.tables.now) p.order.now xs

-- the event at position i is the first that the tables lack
pub record Lacks (P : Program) (o : List ℕ) (i : ℕ) : Type 0 where
  pub code : ℕ
  pub at : At o i code
  pub lacking : Event P code → ⊥
  pub before : (j e : ℕ) → j < i → At o j e → Event P e

-- why a case is refused: the sheet, of that many places, is too short, and else an event is lacking
pub data Refused (P : Program) (o : List ℕ) (size : ℕ) (e : Fault) : Type 0 where
  short : size < places unit → e ≡ SheetShort size → Refused P o size e
  lacking : (i : ℕ) → places unit ≤ size → Lacks P o i → e ≡ EventLacking i → Refused P o size e

module _ {M : Type 0} (c : Case M) where
  -- the case meets the six axioms
  abbrev pub MeetsSix : Type 0
  MeetsSix = Meets c.program c.stored c.start c.order c.words

  -- a verdict says what holds of the case
  abbrev pub VerdictOn : {T : Type 0} → Result T Breach → Type 0
  VerdictOn v = Judged c.program c.stored c.start c.order c.words v

  -- nothing of the case is refused
  pub record Heard (size : ℕ) : Type 0 where
    pub room : places unit ≤ size
    pub listed : Listed c.program c.order

  -- what the judge answers to the case, with a sheet of that many places
  abbrev pub Answered : {T : Type 0} → ℕ → Result (Result T Breach) Fault → Type 0
  Answered size r = MatchResult r (λ v. Heard size × VerdictOn v) (λ e. Refused c.program c.order size e)

  -- a case that is not refused, and meets the axioms, passes
  abbrev pub PassesAll : {T : Type 0} → ℕ → Result (Result T Breach) Fault → Type 0
  PassesAll size r = Heard size → MeetsSix → IsOkAnd r (λ v. IsOk v)
