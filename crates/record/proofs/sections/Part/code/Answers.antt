use Rattle.std.proofs.Common.{sym}
use Rattle.faults.specs.declared.Fault.TheVariants.{EntryUnknown, TableFull}
use Rattle.record.proofs.EntryTests.{code_unknown, code_full}
use Rattle.record.proofs.Tested.{fails_test}
use Rattle.record.proofs.sections.Part.code.Goals as goal

pub returns-in_default : goal.returns-in_default
returns-in_default c =
    fails_test c.args.self.bytes.now c.args.self.start _ _ c.in_ok-number.number _ _ EntryUnknown
    c.in_ok-number.ensures (code_unknown _ c.in_ok-number.number c.in_default.ensures) c.place-place.ensures

pub returns-then-is_full : goal.returns-then-is_full
returns-then-is_full c =
    fails_test c.args.self.bytes.now c.args.self.start _ _ c.in_ok-number.number _ _ TableFull
    c.in_ok-number.ensures (code_full _ c.in-Ok.code c.in_ok-number.number c.in-Ok.ensures (sym c.if-is_full.ensures)) c.place-place.ensures
