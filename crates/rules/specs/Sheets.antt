-- What a call leaves of a sheet.
use Rattle.std.specs.Prelude.{◌≡◌}
use Rattle.rules.specs.declared.sheet.Sheet.{Sheet}

-- it stands over the very places that it stood over, whatever words they hold now
abbrev pub IsSameLoan : {W : Type 0} → Sheet W → Sheet W → Type 0
IsSameLoan before after = after.places.ghost_name ≡ before.places.ghost_name
