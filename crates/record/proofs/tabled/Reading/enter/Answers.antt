use Rattle.std.proofs.Common.{length, get_or, ap, ◌∙◌}
use Rattle.tables.specs.declared.tables.Tables.{Tables}
use Rattle.tables.specs.Rows.{empty}
use Rattle.tables.specs.Contents.{contents}
use Rattle.record.proofs.Keeping.{note_line}
use Rattle.record.proofs.tabled.Reading.enter.Goals as goal

pub returns-in-Operation : goal.returns-in-Operation
returns-in-Operation c =
    let w = c.in_ok-add.ensures in
    let same = ap (λ (t : Tables). length (get_or (contents t) c.args.table empty).lines) c.tables.ensures.same in (
      w.0,
      w.1,
      note_line c.args.table (get_or (contents c.args.self.now.draft.tables) c.args.table empty) c.args.item c.args.self.now.claims c.line_count.result _ _
          c.in-Operation.is (c.line_count.ensures ∙ same),
    )
