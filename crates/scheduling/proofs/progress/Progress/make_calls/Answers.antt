use Rattle.std.proofs.Common.{ℕ, ◌+◌, ◌-◌, ◌/◌, ◌%◌, ◌<◌, ◌≤◌, List, length, ap, ◌∙◌, arith}
use Rattle.numbers.proofs.Puts.{put_length}
use Rattle.tables.specs.Size.{table, row}
use Rattle.model.specs.Schedule.{fill}
use Rattle.scheduling.specs.Calls.{issued_by, event_calls, codes_of}
use Rattle.scheduling.proofs.Making.{issues_end, issues_fit, drain_fits, put_write, put_read}
use Rattle.scheduling.proofs.progress.Progress.make_calls.Goals as goal

pub issue_up_to-requires : goal.issue_up_to-requires
unfolding table row
issue_up_to-requires c =
    let is = c.args.self.now.issued in
    let e = c.args.event in
    let l : e / 2 % 32 + 1 - issued_by is (e / 2 / 32) ≤ length (event_calls (issued_by is) e) = issues_fit (issued_by is) e in
    (omega (arith, c.requires.0), (omega arith, omega (arith, c.requires.1, l)))

pub put-requires : goal.put-requires
unfolding table row
put-requires c =
    let p = c.args.self.now in
    let e = c.args.event in
    let f : ℕ → ℕ = issued_by p.issued in
    let k = e / 2 % 32 + 1 - issued_by p.issued (e / 2 / 32) in
    let out = c.args.output.now in
    let out₁ = c.issue_up_to.new.output in
    let w = c.issue_up_to.ensures.written in
    let l : k < length (event_calls f e) = drain_fits f e c.if-event-eq1.true in
    let n = issues_end k (e / 2 / 32) out out₁ p.count c.issue_up_to.new.self.count w in
    let s = put_length (codes_of (fill k (e / 2 / 32))) out p.count c.issue_up_to.new.self.count out₁ w in
    omega (arith, c.requires.1, l, n, s)

pub returns-then-event-eq1 : goal.returns-then-event-eq1
unfolding table row
returns-then-event-eq1 c =
    let p = c.args.self.now in
    let f : ℕ → ℕ = issued_by p.issued in
    record {
      written = put_write f c.args.event c.args.output.now c.issue_up_to.new.output c.put.new.output
          p.count c.issue_up_to.new.self.count c.put.new.self.count c.if-event-eq1.true
          c.issue_up_to.ensures.written c.put.ensures.written;
      issued = λ q. ap (λ (is : List ℕ). issued_by is q) c.put.ensures.issued ∙ c.issue_up_to.ensures.issued q;
    }

pub returns-else-event-eq1 : goal.returns-else-event-eq1
unfolding table row
returns-else-event-eq1 c =
    let p = c.args.self.now in
    let f : ℕ → ℕ = issued_by p.issued in
    record {
      written = put_read f c.args.event c.args.output.now c.issue_up_to.new.output
          p.count c.issue_up_to.new.self.count c.if-event-eq1.false c.issue_up_to.ensures.written;
      issued = c.issue_up_to.ensures.issued;
    }
