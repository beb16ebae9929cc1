-- The format of the order's section: event codes up to its end.
use Rattle.std.specs.Prelude.{◌≡◌, ℕ, cond, ◌||◌, List, length, Some, None, nat_le}
use Rattle.faults.specs.declared.Fault.TheVariants.{EventBeyond}
use Rattle.tables.specs.Size.{unit}
use Rattle.tables.specs.Events.{codes}
use Rattle.record.specs.Form.{Form, Test, tested, repeated}

-- the code of an event after so many others: it is below the number of codes, and there are no more events than that
abbrev pub event_test : ℕ → Test
event_test count v = cond (nat_le (codes unit) v || nat_le (codes unit) count) (Some EventBeyond) None

abbrev pub order_form : List ℕ → ℕ → Form (List ℕ)
order_form part base = repeated (λ front. tested part base (event_test (length front))) (λ front p. p ≡ length part)
