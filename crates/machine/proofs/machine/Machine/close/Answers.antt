use Rattle.machine.proofs.Blanks.{blank_sound, blank_state}
use Rattle.machine.proofs.machine.Machine.close.Goals as goal

pub invariant_of-result : goal.invariant_of-result
invariant_of-result c = record { sound = blank_sound c.into_tables.result c.new.result c.new.ensures }

pub returns-clause-state : goal.returns-clause-state
returns-clause-state c = blank_state c.into_tables.result c.new.result c.new.ensures
