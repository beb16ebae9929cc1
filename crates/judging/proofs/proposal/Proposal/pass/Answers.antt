use Rattle.std.proofs.Common.{◌^◌, ◌<◌, length, Result, ap, subst, rules}
use Rattle.tables.specs.Size.{unit}
use Rattle.tables.specs.Contents.{contents}
use Rattle.model.specs.Program.{program, stored_at, words_of}
use Rattle.model.specs.Axioms.{Meets}
use Rattle.model.specs.Verdicts.{Judged}
use Rattle.model.specs.declared.verdict.Breach.{Breach}
use Rattle.judging.specs.Sources.{Settled}
use Rattle.judging.specs.Traces.{ReadsLead}
use Rattle.judging.specs.Words.{words_on}
use Rattle.judging.proofs.Passings.{events_listed, settles, leads, moved}
use Rattle.judging.proofs.proposal.Proposal.pass.Goals as goal

pub of-requires : goal.of-requires
of-requires g c =
    let ts = contents c.args.self.now.tables.now in
    let o = c.args.self.now.order.now in
    let a = c.in_ok-judge.ensures.answer in
    events_listed ts g.R.WaitRule.waits o a.0.listed

pub invariant_of-result : goal.invariant_of-result
invariant_of-result g c =
    let ts = contents c.args.self.now.tables.now in
    let o = c.args.self.now.order.now in
    let w = g.R.WaitRule.waits in
    let K = words_of g.K.WordKind in
    let words = words_on g.K.WordKind c.args.sheet.now.places.now in
    let a = c.in_ok-judge.ensures.answer in
    let S : Meets (program unit w ts) (stored_at K unit ts) K.start o words =
    subst (λ (v : Result Unit Breach). Judged (program unit w ts) (stored_at K unit ts) K.start o words v) c.in-Ok.is a.1 in
    let e = c.of.ensures in
    record { settled = moved (Settled unit) (ap contents e.of_tables) e.of_order (settles ts w o K words S a.0.listed) }

pub invariant_of-result-in-Ok : goal.invariant_of-result-in-Ok
invariant_of-result-in-Ok g c =
    let ts = contents c.args.self.now.tables.now in
    let o = c.args.self.now.order.now in
    let w = g.R.WaitRule.waits in
    let K = words_of g.K.WordKind in
    let words = words_on g.K.WordKind c.args.sheet.now.places.now in
    let a = c.in_ok-judge.ensures.answer in
    let S : Meets (program unit w ts) (stored_at K unit ts) K.start o words =
    subst (λ (v : Result Unit Breach). Judged (program unit w ts) (stored_at K unit ts) K.start o words v) c.in-Ok.is a.1 in
    let e = c.of.ensures in
    let l : length o < 2 ^ 64 = search rules in
    record {
      short = moved (λ _ p. length p < 2 ^ 64) (ap contents e.of_tables) e.of_order l;
      leads = moved (ReadsLead unit) (ap contents e.of_tables) e.of_order (leads ts w o K words S);
    }
