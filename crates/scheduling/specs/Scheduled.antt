-- What is answered where the schedule of an order is asked for.
use Rattle.std.specs.Prelude.{◌≡◌, ℕ, ◌<◌, ◌≤◌, cond, List, ◌++◌, length, drop, Ok, Err, Result, MatchResult, nat_lt}
use Rattle.faults.specs.declared.Fault.{Fault}
use Rattle.faults.specs.declared.Fault.TheVariants.{OutputShort}
use Rattle.tables.specs.Size.{unit, places}
use Rattle.tables.specs.Rows.{Rows}
use Rattle.rules.specs.Waits.{Waits}
use Rattle.model.specs.Program.{Program, Words}
use Rattle.model.specs.Theorems.{AllAccepted, Completes}
use Rattle.model.specs.declared.verdict.Breach.{Breach}
use Rattle.judging.specs.Case.{Case, Refused, Heard, MeetsSix, VerdictOn}
use Rattle.scheduling.specs.Calls.{calls_of, codes_of, needed}

-- an output has the codes of the order's calls, n of them, and beyond them what it held
pub record HoldsCalls (P : Program) (o : List ℕ) (out out' : List ℕ) (n : ℕ) : Type 0 where
  pub count : n ≡ length (calls_of o)
  pub all : n ≡ needed P
  pub room : n ≤ length out
  pub codes : out' ≡ codes_of (calls_of o) ++ drop n out

-- why no schedule is written: the case is refused, and else, where the order passes, an output of that length is too short
pub data Unscheduled {M : Type 0} (c : Case M) (size room : ℕ) (e : Fault) : Type 0 where
  refused : Refused c.program c.order size e → Unscheduled c size room e
  short : Heard c size → MeetsSix c → room < needed c.program → e ≡ OutputShort (needed c.program) → Unscheduled c size room e

module _ {M : Type 0} (c : Case M) where
  -- what holds of the verdict on a case that is not refused: a broken one leaves the output as it was
  abbrev pub OutcomeOn : List ℕ → List ℕ → Result ℕ Breach → Type 0
  OutcomeOn out out' v = VerdictOn c v × MatchResult v (λ n. HoldsCalls c.program c.order out out' n) (λ _. out' ≡ out)

  -- what is answered to the case, with a sheet of that many places and an output that had one content and has the other
  abbrev pub Scheduled : ℕ → List ℕ → List ℕ → Result (Result ℕ Breach) Fault → Type 0
  Scheduled size out out' r =
      MatchResult r (λ x. Heard c size × OutcomeOn out out' x) (λ e. Unscheduled c size (length out) e × (out' ≡ out))

  -- a case that is not refused, and meets the axioms, has its schedule written, unless the output is too short
  abbrev pub SchedulesAll : ℕ → ℕ → Result (Result ℕ Breach) Fault → Type 0
  SchedulesAll size room r =
      Heard c size → MeetsSix c
      → r ≡ cond (nat_lt room (needed c.program)) (Err (OutputShort (needed c.program))) (Ok (Ok (needed c.program)))

-- whatever a sheet holds, if it has its places: a new machine accepts all calls of the order's schedule, and is completed by
-- them with the order and its words
abbrev pub ReachedBySchedule : {M : Type 0} → Waits → Words M → List Rows → List ℕ → (ℕ → M) → Type 0
ReachedBySchedule {M} w K ts o words =
    (sheet : List M) → places unit ≤ length sheet
    → AllAccepted w K unit ts (calls_of o) sheet × Completes w K unit ts (calls_of o) sheet o words
