use Rattle.std.proofs.Common.{◌≡◌, length, get_or, Result, refl, subst, arith}
use Rattle.std.proofs.lemmas.Result.{err_from_is_err_and}
use Rattle.tables.specs.Contents.{contents}
use Rattle.tables.specs.Size.{unit}
use Rattle.tables.proofs.Goods.{good}
use Rattle.model.specs.declared.verdict.Breach.{Breach}
use Rattle.model.specs.Program.{program, words_of}
use Rattle.model.proofs.Promises.{axioms_reached_by_schedule_lem, schedule_length}
use Rattle.judging.specs.Case.{Case, case, MeetsSix, VerdictOn}
use Rattle.judging.specs.Words.{words_on}
use Rattle.judging.proofs.Beyond.{event_low}
use Rattle.judging.proofs.Passings.{events_listed}
use Rattle.scheduling.specs.Calls.{needed}
use Rattle.scheduling.specs.Scheduled.{refused}
use Rattle.scheduling.proofs.Answering.{holds_calls, written_exactly}
use Rattle.scheduling.proofs.schedule.schedule.Goals as goal

pub returns-in_err-breach-clause-answer : goal.returns-in_err-breach-clause-answer
returns-in_err-breach-clause-answer g c =
    let p = err_from_is_err_and c.from_residual.result c.from_residual.ensures.1 in
    rw (p.1, p.2) (refused c.in_err-breach.ensures.answer, refl)

pub write_calls-requires : goal.write_calls-requires
write_calls-requires g c =
    let t = c.args.proposal.now.tables.now in
    let ts = contents t in
    let w = g.R.WaitRule.waits in
    let K = words_of g.K.WordKind in
    let o = c.args.proposal.now.order.now in
    let xs = c.args.sheet.now.places.now in
    let words = words_on g.K.WordKind xs in
    let C : Case g.K.WordKind.Meaning = case w g.K.WordKind ts o xs in
    let a = c.in_ok-breach.ensures.answer in
    let S : MeetsSix C = subst (λ (v : Result Unit Breach). VerdictOn C v) c.in_default.is a.1 in
    let l = schedule_length w g.met.R.WaitRule.ordered K unit ts (good t) o words (a.0.listed, S) in
    let e : c.calls_needed-needed.result ≡ needed (program unit w ts) = c.calls_needed-needed.ensures w in (
      λ i h. event_low ts (good t).tables (get_or o i 0) (events_listed ts w o a.0.listed i h),
      omega (arith, l, e, c.if-output-needed.false),
    )

pub returns : goal.returns
returns g c =
    let t = c.args.proposal.now.tables.now in
    let ts = contents t in
    let w = g.R.WaitRule.waits in
    let K = words_of g.K.WordKind in
    let o = c.args.proposal.now.order.now in
    let xs = c.args.sheet.now.places.now in
    let words = words_on g.K.WordKind xs in
    let C : Case g.K.WordKind.Meaning = case w g.K.WordKind ts o xs in
    let a = c.in_ok-breach.ensures.answer in
    let S : MeetsSix C = subst (λ (v : Result Unit Breach). VerdictOn C v) c.in_default.is a.1 in
    let l = schedule_length w g.met.R.WaitRule.ordered K unit ts (good t) o words (a.0.listed, S) in
    let H = holds_calls (program unit w ts) o c.args.output.now c.write_calls.new.output c.write_calls.result l c.write_calls.ensures in
    record {
      answer = (a.0, (S, H));
      exactly = written_exactly C (length xs) (length c.args.output.now) c.write_calls.result H.all H.room;
      reached = λ sheet wide. axioms_reached_by_schedule_lem w g.met.R.WaitRule.ordered K unit ts (good t) sheet wide o words (a.0.listed, S);
      same = c.judge.ensures.same;
    }
