use Rattle.tables.specs.Contents.{contents}
use Rattle.judging.specs.Case.{Case, case}
use Rattle.judging.proofs.Deciding.{same_verdict}
use Rattle.judging.proofs.proposal.Proposal.source.Goals as goal

pub returns-clause-judged : goal.returns-clause-judged
returns-clause-judged g c n =
    let a = c.in_ok-pass.ensures.answer in
    let C : Case g.K.WordKind.Meaning =
    case g.R.WaitRule.waits g.K.WordKind (contents c.args.self.now.tables.now)
    c.args.self.now.order.now c.args.sheet.now.places.now in
    (a.0, same_verdict C _ c.in_ok-pass.field-0 c.map.result c.map.ensures.cases a.1)
