use Rattle.std.proofs.Common.{ℕ, List, length, Ok, Err, refl, ap, subst, arith}
use Rattle.faults.specs.declared.Fault.TheVariants.{SheetShort, EventLacking}
use Rattle.tables.specs.Contents.{contents}
use Rattle.tables.specs.Rows.{Rows}
use Rattle.tables.specs.Size.{unit, places}
use Rattle.judging.specs.Case.{Case, case, VerdictOn, Answered, short, lacking}
use Rattle.judging.proofs.Deciding.{passes_all}
use Rattle.judging.proofs.Listing.{listed_from, lacks_from}
use Rattle.judging.proofs.proposal.Proposal.judge.Goals as goal

pub returns-then-size-lt-PLACES : goal.returns-then-size-lt-PLACES
unfolding places
returns-then-size-lt-PLACES g c =
    let t = contents c.args.self.now.tables.now in
    let xs = c.args.sheet.now.places.now in
    let C : Case g.K.WordKind.Meaning =
    case g.R.WaitRule.waits g.K.WordKind t c.args.self.now.order.now xs in
    let s = c.size-size.ensures in
    let a : Answered C {T = Unit {0}} (length xs) (Err (SheetShort c.size-size.result)) =
    short (let q = c.if-size-lt-PLACES.true in omega arith) (ap (λ (n : ℕ). SheetShort n) s) in
    record { answer = a; exactly = passes_all C (length xs) {T = Unit {0}} (Err (SheetShort c.size-size.result)) a; same = refl }

pub returns-in-Some : goal.returns-in-Some
unfolding places
returns-in-Some g c =
    let t = contents c.args.self.now.tables.now in
    let xs = c.args.sheet.now.places.now in
    let C : Case g.K.WordKind.Meaning =
    case g.R.WaitRule.waits g.K.WordKind t c.args.self.now.order.now xs in
    let s = c.size-size.ensures in
    let h = c.in-Some.ensures in
    let a : Answered C {T = Unit {0}} (length xs) (Err (EventLacking c.in-Some.i)) =
    lacking c.in-Some.i (let q = c.if-size-lt-PLACES.false in omega arith)
    (lacks_from unit t g.R.WaitRule.waits c.args.self.now.order.now c.in-Some.i h.0 h.1 h.2) refl in
    record { answer = a; exactly = passes_all C (length xs) {T = Unit {0}} (Err (EventLacking c.in-Some.i)) a; same = refl }

pub returns : goal.returns
unfolding places
returns g c =
    let t = contents c.args.self.now.tables.now in
    let xs = c.args.sheet.now.places.now in
    let C : List Rows → List ℕ → Case g.K.WordKind.Meaning = λ ts o.
    case g.R.WaitRule.waits g.K.WordKind ts o xs in
    let o = c.args.self.now.order.now in
    let s = c.size-size.ensures in
    let e = c.of-standing.ensures in
    let j = subst (λ (p : List ℕ). VerdictOn (C (contents c.of-standing.result.tables.now) p) c.weigh.result) e.of_order c.weigh.ensures.judged in
    let a : Answered (C t o) (length xs) (Ok c.weigh.result) = (
      record {
        room = let q = c.if-size-lt-PLACES.false in omega arith;
        listed = listed_from unit t g.R.WaitRule.waits o c.in_default.ensures;
      },
      subst (λ (ts : List Rows). VerdictOn (C ts o) c.weigh.result) (ap contents e.of_tables) j,
    ) in
    record {
      answer = a;
      exactly = passes_all (C t o) (length xs) (Ok c.weigh.result) a;
      same = c.weigh.ensures.same;
    }
