use Rattle.std.proofs.Common.{◌≡◌, true, false, cond, Some, None, Option, sym, ap, ◌∙◌}
use Rattle.std.proofs.lemmas.Bool.{cond-true, cond-false}
use Rattle.faults.specs.declared.Fault.{Fault}
use Rattle.faults.specs.declared.Fault.TheVariants.{NothingRead}
use Rattle.tables.specs.Contents.{contents}
use Rattle.tables.specs.Size.{unit}
use Rattle.tables.specs.View.{reads_at}
use Rattle.judging.specs.Asks.{asked_line, or_next}
use Rattle.judging.proofs.trace.asked_place.Goals as goal

pub returns-then-not-reads : goal.returns-then-not-reads
returns-then-not-reads c =
    let ts = contents c.args.tables.now in let l = c.args.line in
    let b = reads_at unit ts (asked_line c.args.processor l) in
    let r : b ≡ false = sym (ap (reads_at unit ts) c.in_ok-place.ensures.place) ∙ sym c.if-not-reads.ensures in
    let w : Option Fault = Some (NothingRead l) in
    ap (λ (x : Option Fault). or_next x (cond b None w)) c.in_ok-place.ensures.refused ∙ cond-false b None w r

pub returns : goal.returns
returns c =
    let ts = contents c.args.tables.now in let l = c.args.line in
    let b = reads_at unit ts (asked_line c.args.processor l) in
    let q : reads_at unit ts c.in_ok-place.place ≡ true = sym c.if-not-reads.ensures in
    let r : b ≡ true = sym (ap (reads_at unit ts) c.in_ok-place.ensures.place) ∙ q in
    let w : Option Fault = Some (NothingRead l) in (
      ap (λ (x : Option Fault). or_next x (cond b None w)) c.in_ok-place.ensures.refused ∙ cond-true b None w r,
      c.in_ok-place.ensures.place,
      q,
    )
