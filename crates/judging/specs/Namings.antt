-- Events and breaches by codes.
use Rattle.std.specs.Prelude.{◌≡◌, ℕ, ◌<◌, Some, None, Option}
use Rattle.tables.specs.Size.{Size}
use Rattle.tables.specs.declared.event.Event.{Event}
use Rattle.tables.specs.Events.{code_of, OfUnit}
use Rattle.model.specs.declared.verdict.Axiom.{Axiom}
use Rattle.model.specs.declared.verdict.Breach.{Breach}

-- a code, if there is one, is that of an event of the unit
abbrev pub WithinCodes : Option ℕ → Type 0
WithinCodes None = Unit {0}
WithinCodes (Some e) = e < 256

-- an event of the unit with this code, and none where there is no code
abbrev pub NamedIf : Size → Option ℕ → Option Event → Type 0
NamedIf z None None = Unit {0}
NamedIf z None (Some e) = ⊥
NamedIf z (Some c) None = ⊥
NamedIf z (Some c) (Some e) = OfUnit z e × (code_of z e ≡ c)

-- the breach is of this axiom, by events with these codes
abbrev pub Tells : Size → Axiom → ℕ → Option ℕ → Breach → Type 0
Tells z a c d b = (b.axiom ≡ a) × (OfUnit z b.first × (code_of z b.first ≡ c)) × NamedIf z d b.second
