-- The answer for each way that the asking for a schedule can go.
use Rattle.std.proofs.Common.{◌≡◌, ℕ, ◌≤◌, List, length, Ok, Err, ap, ◌∙◌, arith}
use Rattle.std.proofs.lemmas.List.{length-map}
use Rattle.std.proofs.lemmas.Bool.{cond_above}
use Rattle.faults.specs.declared.Fault.TheVariants.{OutputShort}
use Rattle.tables.specs.Size.{unit}
use Rattle.model.specs.Program.{Program}
use Rattle.model.specs.Schedule.{call_code}
use Rattle.numbers.specs.Put.{Put}
use Rattle.judging.specs.Case.{Case}
use Rattle.scheduling.specs.Calls.{calls_of, codes_of, needed}
use Rattle.scheduling.specs.Scheduled.{HoldsCalls, SchedulesAll}

-- what was written is what an output should hold
pub holds_calls :
    (P : Program) (o out out' : List ℕ) (n : ℕ) → length (calls_of o) ≡ needed P → Put (codes_of (calls_of o)) out 0 n out'
    → HoldsCalls P o out out' n
holds_calls P o out out' n l p =
    let m = length-map (calls_of o) (call_code unit) in
    let c : n ≡ length (calls_of o) = omega (arith, p.ends) in
    record { count = c; all = c ∙ l; room = p.within; codes = p.after }

-- a case whose calls are written, all of them, has its schedule
pub written_exactly : {M : Type 0} (C : Case M) (size room n : ℕ) → n ≡ needed C.program → n ≤ room → SchedulesAll C size room (Ok (Ok n))
written_exactly C size room n e l h k =
    cond_above room (needed C.program) (Err (OutputShort (needed C.program))) (Ok (Ok (needed C.program))) (Ok (Ok n)) (omega arith)
    (ap (λ (m : ℕ). Ok (Ok m)) e)
