use Rattle.tables.specs.Contents.{contents}
use Rattle.record.proofs.Keeping.{kept_none}
use Rattle.record.proofs.tabled.Reading.new.Goals as goal

pub returns : goal.returns
returns c = kept_none (contents c.emptied.result.tables) c.emptied.ensures
