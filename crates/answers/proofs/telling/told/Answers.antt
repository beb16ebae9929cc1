use Rattle.std.proofs.Common.{sym, refl, subst, arith}
use Rattle.answers.specs.Accounts.{none, read, other}
use Rattle.answers.proofs.telling.told.Invariants.{Told}
use Rattle.answers.proofs.telling.told.Goals as goal
use Rattle.answers.proofs.telling.told.Goals.{in-Some, in_default}

pub loop-place-init : goal.loop-place-init
loop-place-init c = (omega arith, omega arith, λ w. none refl c.clear.ensures.items)

pub loop-place-preserved : goal.loop-place-preserved
loop-place-preserved c =
    let n = c.loop-place.place in
    let i = c.loop-place.invariant in
    elim c.match-told_of.branch [
      | in-Some s ↦
          let t = s.in-Some.ensures in
          subst (Told c.args.passing.now _) (sym s.accounts-is)
          (omega arith, omega arith, λ w. read n _ s.in-Some.account (i.2 w) t.0 (t.1 w) refl s.push_reserved.ensures.items)
      | in_default s ↦ subst (Told c.args.passing.now _) (sym s.accounts-is) (i.0, omega arith, λ w. other n (i.2 w) s.in_default.ensures refl)
    ]
