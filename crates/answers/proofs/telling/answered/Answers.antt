use Rattle.std.proofs.Common.{subst}
use Rattle.judging.specs.Case.{VerdictOn}
use Rattle.answers.specs.Ruling.{waits_of}
use Rattle.answers.proofs.Reading.{all_accounts}
use Rattle.answers.proofs.telling.answered.Goals as goal

pub returns-in-Ok-Err : goal.returns-in-Ok-Err
returns-in-Ok-Err c =
    let a = c.in-Ok-Err.ensures.answer in
    (a.0, subst (VerdictOn _) c.in-Ok-Err.field-0-is a.1)

pub returns-in-Ok-Ok : goal.returns-in-Ok-Ok
returns-in-Ok-Ok c =
    let a = c.in-Ok-Ok.ensures in
    let accounts = all_accounts (waits_of c.args.rule) _ _ c.in-Ok-Ok.field-0-is a.passed (c.told.ensures (waits_of c.args.rule)) in
    ((a.answer.0, subst (VerdictOn _) c.in-Ok-Ok.field-0-is a.answer.1), accounts)
