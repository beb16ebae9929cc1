use Rattle.std.proofs.Common.{refl, ap}
use Rattle.tables.specs.Contents.{contents}
use Rattle.answers.proofs.Reading.{not_read, was_read}
use Rattle.answers.proofs.telling.answer.Goals as goal

pub returns-in-Err : goal.returns-in-Err
returns-in-Err c = not_read c.over-sheet.ensures.value refl c.in-Err.ensures.read

pub returns-in-Ok : goal.returns-in-Ok
returns-in-Ok c =
    was_read c.over-sheet.ensures.value refl c.in-Ok.ensures.read (ap contents c.tables.ensures.same) c.answered.ensures
