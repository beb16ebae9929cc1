use Rattle.std.proofs.Common.{◌∙◌}
use Rattle.tables.specs.Size.{unit}
use Rattle.model.specs.Program.{program}
use Rattle.judging.specs.Outcomes.{rows_of}
use Rattle.judging.proofs.Deciding.{code_if_lem}
use Rattle.judging.proofs.passing.Passing.source_of.Goals as goal

pub returns : goal.returns
returns c = λ w.
    let h = code_if_lem (program unit w (rows_of c.args.self.now)) c.write_of.result c.event_if.result c.event_if.ensures in
    record {
      line = c.source.result;
      should = c.source.ensures.should w;
      is = h.0 ∙ c.write_of.ensures.value;
      of_unit = h.1;
    }
