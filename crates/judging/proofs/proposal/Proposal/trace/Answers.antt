use Rattle.std.proofs.Common.{◌≡◌, ℕ, true, IfOk, subst, rules}
use Rattle.tables.specs.Size.{unit}
use Rattle.tables.specs.Contents.{contents}
use Rattle.tables.specs.View.{reads_at, copy_at}
use Rattle.tables.proofs.Goods.{good}
use Rattle.model.specs.Program.{program, words_of}
use Rattle.model.specs.Trace.{ReadTrace}
use Rattle.judging.specs.declared.passing.Trace.{Trace}
use Rattle.judging.specs.Asks.{asked_line}
use Rattle.judging.specs.Case.{Case, case}
use Rattle.judging.specs.Words.{words_on}
use Rattle.judging.proofs.Deciding.{same_verdict, where_passed}
use Rattle.judging.proofs.Passings.{traced_to}
use Rattle.judging.proofs.proposal.Proposal.trace.Goals as goal

pub returns-clause-judged : goal.returns-clause-judged
returns-clause-judged g c n =
    let a = c.in_ok-pass.ensures.answer in
    let C : Case g.K.WordKind.Meaning =
    case g.R.WaitRule.waits g.K.WordKind (contents c.args.self.now.tables.now)
    c.args.self.now.order.now c.args.sheet.now.places.now in
    (a.0, same_verdict C _ c.in_ok-pass.field-0 c.map.result c.map.ensures.cases a.1)

pub returns-clause-passed : goal.returns-clause-passed
returns-clause-passed g c =
    let ts = contents c.args.self.now.tables.now in
    let o = c.args.self.now.order.now in
    let xs = c.args.sheet.now.places.now in
    let w = g.R.WaitRule.waits in
    let K = words_of g.K.WordKind in
    let C : Case g.K.WordKind.Meaning = case w g.K.WordKind ts o xs in
    let n = asked_line c.args.processor c.args.line in
    let a = c.in_ok-place.ensures in
    let h : IfOk c.map.result (λ (t : Trace). ReadTrace (program unit w ts) (copy_at unit ts) o n t.end t.reads) = search rules in
    where_passed C c.map.result _ _ (same_verdict C _ c.in_ok-pass.field-0 c.map.result c.map.ensures.cases c.in_ok-pass.ensures.answer.1) h
    (λ S t. traced_to ts w o K (words_on g.K.WordKind xs) S g.met.R.WaitRule.ordered
    (good c.args.self.now.tables.now) n (subst (λ (k : ℕ). reads_at unit ts k ≡ true) a.1 a.2) t)
