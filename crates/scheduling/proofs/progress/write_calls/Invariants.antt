use Rattle.std.proofs.Common.{◌≡◌, List, ◌++◌, drop}
use Rattle.numbers.specs.Put.{Put}
use Rattle.tables.specs.Size.{unit}
use Rattle.model.specs.declared.call.Call.{Call}
use Rattle.model.specs.Schedule.{schedule}
use Rattle.scheduling.specs.Calls.{issued_by, calls_of, codes_of}
use Rattle.scheduling.proofs.progress.write_calls.Given as goal

abbrev pub invariant-loop-event : goal.invariant-loop-event
invariant-loop-event l =
    (done : List Call)
    × (done ++ schedule unit (issued_by l.progress.issued) (drop l.event-index l.order) ≡ calls_of l.order)
    × Put (codes_of done) l.initial.output 0 l.progress.count l.output
