-- What always holds of what a machine keeps.
use Rattle.std.specs.Prelude.{◌≡◌, ℕ, ◌+◌, ◌*◌, ◌/◌, ◌%◌, ◌<◌, ◌≤◌, true, Some, None, sum, count_by, slice_index, slice_index_or}
use Rattle.tables.specs.declared.event.Event.{Event}
use Rattle.tables.specs.Events.{bit_of}
use Rattle.arrayvec.specs.ArrayVec.{array_vec_len}
use Rattle.machine.specs.declared.mark.Mark.TheVariants.{Waiting}
use Rattle.machine.specs.declared.inner.Inner.{Inner}
use Rattle.machine.specs.States.{is_held, place_of}

-- no table has more than its lines issued
abbrev pub Few : Inner → Type 0
Few m = (q : ℕ) → slice_index m.issued q ≤ 32

-- each line issued brings at most two events, now or when its write is drained; so the order never overflows
abbrev pub Room : Inner → Type 0
Room m = array_vec_len m.order + count_by is_held m.marks ≤ 2 * sum m.issued

-- the order has no more codes than there are events
abbrev pub Fits : Inner → Type 0
Fits m = array_vec_len m.order ≤ 256

-- only lines issued are held
abbrev pub HeldIssued : Inner → Type 0
HeldIssued m = (n : ℕ) → is_held (slice_index_or m.marks n Waiting) ≡ true → n % 32 < slice_index m.issued (n / 32)

-- the half-done swap is a line, its write is held, and it is known by its read
abbrev pub HalfInside : Inner → Type 0
HalfInside m = (e : Event) → m.half ≡ Some e → place_of e < 128

abbrev pub HalfHeld : Inner → Type 0
HalfHeld m = (e : Event) → m.half ≡ Some e → is_held (slice_index_or m.marks (place_of e) Waiting) ≡ true

abbrev pub HalfRead : Inner → Type 0
HalfRead m = (e : Event) → m.half ≡ Some e → bit_of e.side ≡ 0

-- a cell's last write is that of a line
abbrev pub LastInside : Inner → Type 0
LastInside m = (c : ℕ) (e : Event) → slice_index_or m.last c None ≡ Some e → place_of e < 128

pub record Sound (m : Inner) : Type 0 where
  pub few : Few m
  pub room : Room m
  pub fits : Fits m
  pub issued : HeldIssued m
  pub half : HalfInside m
  pub halfway : HalfHeld m
  pub reading : HalfRead m
  pub drained : LastInside m
