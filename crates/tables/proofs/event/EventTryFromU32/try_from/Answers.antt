use Rattle.std.proofs.Common.{◌≡◌, ℕ, ◌/◌, ◌<◌, Some, sym, subst, rules}
use Rattle.tables.specs.declared.event.Side.{Side}
use Rattle.tables.specs.declared.event.Event.{Event}
use Rattle.tables.specs.declared.line_id.LineId.{LineId}
use Rattle.tables.specs.Size.{unit, places}
use Rattle.tables.specs.LineIds.{line_id}
use Rattle.tables.specs.Events.{codes, side_of, Named}
use Rattle.tables.proofs.Codes.{made, made_same, code_named, code_of_named}
use Rattle.tables.proofs.event.EventTryFromU32.try_from.Goals as goal

pub returns-in_err-at : goal.returns-in_err-at
unfolding places
returns-in_err-at c = record { value = search rules; back = search rules }

named : (c : ℕ) (l : LineId) (s : Side) → c < codes unit → l ≡ line_id unit (c / 2) → s ≡ side_of c → Named unit c (Some (made l s))
named c l s h p q = subst (λ (e : Event). Named unit c (Some e)) (sym (made_same l _ s _ p q)) (code_named unit c h, code_of_named unit c)

pub returns : goal.returns
unfolding places
returns c = record {
  value = search rules;
  back = named c.args.code c.in_ok-at.at c.of_code.result (search rules) (search rules) c.of_code.ensures;
}
