use Rattle.std.proofs.Common.{ℕ, ◌++◌, get_or, ◌∙◌}
use Rattle.scheduling.specs.Calls.{issued_by, event_calls}
use Rattle.scheduling.proofs.Making.{put_parts, scheduled_on}
use Rattle.scheduling.proofs.progress.write_calls.Goals as goal

pub loop-event-preserved : goal.loop-event-preserved
loop-event-preserved c =
    let v = c.loop-event.invariant in
    let o = c.args.order.now in
    let i = c.loop-event.event-index in
    let f : ℕ → ℕ = issued_by c.loop-event.progress.issued in
    let calls = event_calls f (get_or o i 0) in (
      v.0 ++ calls,
      scheduled_on f o i c.loop-event-test.true (issued_by c.make_calls.new.self.issued) v.0 c.make_calls.ensures.issued ∙ v.1,
      put_parts v.0 calls c.args.output.now c.loop-event.output c.make_calls.new.output
          0 c.loop-event.progress.count c.make_calls.new.self.count v.2 c.make_calls.ensures.written,
    )
