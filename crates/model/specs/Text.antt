-- How axioms and verdicts are printed.
use Rattle.std.specs.Prelude.{ℕ, List, ◌++◌, Some, None, Ok, Err, codes, Option, Result}
use Rattle.tables.specs.declared.event.Event.{Event}
use Rattle.tables.specs.Events.{event_text}
use Rattle.model.specs.declared.verdict.Axiom.{Axiom}
use Rattle.model.specs.declared.verdict.Axiom.TheVariants.{Order, Termination, LoadOp, Wait, Atomicity, Value}
use Rattle.model.specs.declared.verdict.Breach.{Breach}

abbrev pub axiom_text : Axiom → List ℕ
axiom_text Order = codes "Order"
axiom_text Termination = codes "Termination"
axiom_text LoadOp = codes "LoadOp"
axiom_text Wait = codes "Wait"
axiom_text Atomicity = codes "Atomicity"
axiom_text Value = codes "Value"

-- a dash for an absent event
abbrev pub event_if_text : Option Event → List ℕ
event_if_text None = codes "-"
event_if_text (Some e) = event_text e

-- as: broken Wait 1.1w 1.2r
abbrev pub breach_text : Breach → List ℕ
breach_text b =
    codes "broken " ++ (axiom_text b.axiom ++ (codes " " ++ (event_text b.first ++ (codes " " ++ event_if_text b.second))))

abbrev pub verdict_text : {T : Type 0} → Result T Breach → List ℕ
verdict_text (Ok t) = codes "passes"
verdict_text (Err b) = breach_text b
