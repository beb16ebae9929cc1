use Rattle.std.proofs.Common.{◌≡◌, rules}
use Rattle.tables.specs.Size.{unit}
use Rattle.tables.specs.LineIds.{line_id}
use Rattle.answers.proofs.telling.told_of.Goals as goal

pub returns : goal.returns
returns c =
    let s = c.in_ok-source.ensures in
    let t = c.in_ok-trace.ensures in
    let e : c.unwrap.result ≡ line_id unit c.args.place = search rules in
    (s.0, λ w. record { at = e; source = s.1 w; reads = c.in_ok-trace.trace.reads; trace = t.1 w })
