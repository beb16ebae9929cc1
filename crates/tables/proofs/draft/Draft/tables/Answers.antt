use Rattle.tables.proofs.Goods.{good}
use Rattle.tables.proofs.draft.Draft.tables.Goals as goal

pub returns-clause-good : goal.returns-clause-good
returns-clause-good c = good c.args.self.now.tables
