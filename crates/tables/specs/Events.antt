-- Events and their codes, over the size of the unit.
use Rattle.std.specs.Prelude.{◌≡◌, ℕ, ◌+◌, ◌*◌, ◌/◌, ◌%◌, ◌≤◌, cond, List, ◌++◌, Some, None, codes as text, Option, MatchOption, Result, ◌==◌, nat_lt}
use Rattle.std.specs.Result.{result_ok}
use Rattle.tables.specs.declared.event.Side.{Side}
use Rattle.tables.specs.declared.event.Side.TheVariants.{Read, Write}
use Rattle.tables.specs.declared.event.Event.{Event}
use Rattle.tables.specs.declared.event.NoEvent.{NoEvent}
use Rattle.tables.specs.Size.{Size, places}
use Rattle.tables.specs.LineIds.{line_id, place_of, line_id_text}

-- how many codes there are: two for each line that there may be
abbrev pub codes : Size → ℕ
codes z = 2 * places z

abbrev pub bit_of : Side → ℕ
bit_of Read = 0
bit_of Write = 1

-- even codes are reads
abbrev pub side_of : ℕ → Side
side_of c = cond (c % 2 == 0) Read Write

-- twice the line's number, and one more for a write
abbrev pub code_of : Size → Event → ℕ
code_of z e = place_of z e.at * 2 + bit_of e.side

-- the event of a code, if it is one
abbrev pub event_of : Size → ℕ → Option Event
event_of z c =
    cond (nat_lt c (codes z))
    (Some (record { at = line_id z (c / 2); side = side_of c }))
    None

-- the event's processor and line are among those of the unit
pub record OfUnit (z : Size) (e : Event) : Type 0 where
  pub processor_low : 1 ≤ e.at.processor
  pub processor_high : e.at.processor ≤ z.tables
  pub line_low : 1 ≤ e.at.line
  pub line_high : e.at.line ≤ z.lines

-- what a code names: an event of the unit with this code, or nothing where the code is too high
abbrev pub Named : Size → ℕ → Option Event → Type 0
Named z c r = MatchOption r (codes z ≤ c) (λ e. OfUnit z e × (code_of z e ≡ c))

-- the code of an event; that of an event of the unit names it
pub record Coded (z : Size) (e : Event) (c : ℕ) : Type 0 where
  pub value : c ≡ code_of z e
  pub back : OfUnit z e → event_of z c ≡ Some e

-- the event that a code names, or that it names none
pub record Decoded (z : Size) (c : ℕ) (r : Result Event NoEvent) : Type 0 where
  pub value : result_ok r ≡ event_of z c
  pub back : Named z c (result_ok r)

abbrev pub side_text : Side → List ℕ
side_text Read = text "r"
side_text Write = text "w"

-- how an event is printed: the read of processor 2, line 1 is 2.1r
abbrev pub event_text : Event → List ℕ
event_text e = line_id_text e.at ++ side_text e.side
