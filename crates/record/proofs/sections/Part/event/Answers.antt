use Rattle.std.proofs.Common.{inl, inr, arith}
use Rattle.faults.specs.declared.Fault.TheVariants.{EventBeyond}
use Rattle.record.specs.Order.{event_test}
use Rattle.record.proofs.Events.{event_beyond, event_passes}
use Rattle.record.proofs.Tested.{fails_test}
use Rattle.record.proofs.sections.Part.event.Goals as goal

pub returns-then-code-ge-EVENTS : goal.returns-then-code-ge-EVENTS
returns-then-code-ge-EVENTS c =
    fails_test c.args.self.bytes.now c.args.self.start (event_test c.args.count) _ c.in_ok-code.code _ _ EventBeyond
    c.in_ok-code.ensures (event_beyond c.args.count c.in_ok-code.code (elim c.then-code-ge-EVENTS.either [ inl h ↦ inl h | inr h ↦ inr h.1 ]))
    c.place-place.ensures

pub returns : goal.returns
returns c = (c.in_ok-code.ensures, event_passes c.args.count c.in_ok-code.code (omega arith) (omega arith))
