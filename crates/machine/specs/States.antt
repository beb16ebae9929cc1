-- What a machine keeps, as the state of the model; and what its two smallest writers do.
use Rattle.std.specs.Prelude.{ℕ, Bool, true, false, [], ◌∷◌, ◌++◌, Some, None, Option, slice_index, slice_index_or, slice_set}
use Rattle.tables.specs.declared.event.Event.{Event}
use Rattle.tables.specs.Size.{unit}
use Rattle.tables.specs.LineIds.{place_of as line_place}
use Rattle.model.specs.Machine.{State}
use Rattle.machine.specs.declared.mark.Mark.{Mark}
use Rattle.machine.specs.declared.mark.Mark.TheVariants.{Waiting, Held, Done}
use Rattle.machine.specs.declared.inner.Inner.{Inner}

abbrev pub is_held : Mark → Bool
is_held Waiting = false
is_held Held = true
is_held Done = false

-- the number of an event's line
abbrev pub place_of : Event → ℕ
place_of e = line_place unit e.at

abbrev pub line_of : Option Event → Option ℕ
line_of None = None
line_of (Some e) = Some (place_of e)

abbrev pub inside : Inner → State
inside m = record {
  issued = λ q. slice_index m.issued q;
  held = λ n. is_held (slice_index_or m.marks n Waiting);
  last = λ c. line_of (slice_index_or m.last c None);
  order = m.order.items;
  half = line_of m.half;
}

-- with another mark for one line
abbrev pub marked : Inner → ℕ → Mark → Inner
marked m n v = record {
  tables = m.tables;
  marks = slice_set m.marks n v;
  issued = m.issued;
  last = m.last;
  half = m.half;
  order = m.order;
}

-- with one event more in the order
abbrev pub appended : Inner → ℕ → Inner
appended m e = record {
  tables = m.tables;
  marks = m.marks;
  issued = m.issued;
  last = m.last;
  half = m.half;
  order = record { items = m.order.items ++ e ∷ [] };
}
