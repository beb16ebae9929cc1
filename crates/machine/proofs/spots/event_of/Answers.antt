use Rattle.std.proofs.Common.{◌≡◌, ap, ◌∙◌, arith, rules}
use Rattle.tables.specs.Size.{unit}
use Rattle.tables.specs.LineIds.{line_id, place_of as line_place}
use Rattle.tables.proofs.Codes.{place_id}
use Rattle.machine.proofs.spots.event_of.Goals as goal

placed : (c : goal.After-unwrap) → line_place unit c.unwrap.result ≡ c.args.place
placed c = let e : c.unwrap.result ≡ line_id unit c.args.place = search rules in ap (line_place unit) e ∙ place_id unit c.args.place

pub returns-clause-spot : goal.returns-clause-spot
returns-clause-spot c = placed c

pub returns-clause-coded : goal.returns-clause-coded
returns-clause-coded c = let p = placed c in omega arith
