-- What a refusal tells: its number, its layer and its place.
use Rattle.std.specs.Prelude.{ℕ}
use Rattle.faults.specs.declared.Layer.{Layer}
use Rattle.faults.specs.declared.Layer.TheVariants.{Record, Number, Table, Order, Call, Machine}
use Rattle.faults.specs.declared.Fault.{Fault}
use Rattle.faults.specs.declared.Fault.TheVariants.{RecordTooLong, MarkMissing, NumberEnds, NumberMalformed, RuleUnknown, LengthBeyond, EntryUnknown, CellBeyond, CopyAmiss, EventBeyond, BytesLeft, ProcessorUnknown, LineUnknown, SheetShort, NothingRead, OutputShort, EventLacking, TableFull, NoLineLeft, IssueWaits, SwapHalfDone, NotHeld, DrainWaits}

-- the number by which a fault is known: 1 to 17 come from the input, 21 to 26 from the state
abbrev pub number_of : Fault → ℕ
number_of (RecordTooLong at) = 1
number_of MarkMissing = 2
number_of (NumberEnds at) = 3
number_of (NumberMalformed at) = 4
number_of (RuleUnknown at) = 5
number_of (LengthBeyond at) = 6
number_of (EntryUnknown at) = 7
number_of (CellBeyond at) = 8
number_of (CopyAmiss at) = 9
number_of (EventBeyond at) = 10
number_of (BytesLeft at) = 11
number_of ProcessorUnknown = 12
number_of (LineUnknown at) = 13
number_of (SheetShort at) = 14
number_of (NothingRead at) = 15
number_of (OutputShort at) = 16
number_of (EventLacking at) = 17
number_of (TableFull at) = 21
number_of (NoLineLeft at) = 22
number_of (IssueWaits at) = 23
number_of (SwapHalfDone at) = 24
number_of (NotHeld at) = 25
number_of (DrainWaits at) = 26

-- the layer in which it arises
abbrev pub layer_of : Fault → Layer
layer_of (RecordTooLong at) = Record
layer_of MarkMissing = Record
layer_of (NumberEnds at) = Number
layer_of (NumberMalformed at) = Number
layer_of (RuleUnknown at) = Record
layer_of (LengthBeyond at) = Record
layer_of (EntryUnknown at) = Table
layer_of (CellBeyond at) = Table
layer_of (CopyAmiss at) = Table
layer_of (EventBeyond at) = Order
layer_of (BytesLeft at) = Record
layer_of ProcessorUnknown = Call
layer_of (LineUnknown at) = Call
layer_of (SheetShort at) = Call
layer_of (NothingRead at) = Call
layer_of (OutputShort at) = Call
layer_of (EventLacking at) = Order
layer_of (TableFull at) = Table
layer_of (NoLineLeft at) = Machine
layer_of (IssueWaits at) = Machine
layer_of (SwapHalfDone at) = Machine
layer_of (NotHeld at) = Machine
layer_of (DrainWaits at) = Machine

-- where it arises; what is counted there is said where the fault is raised
abbrev pub place_of : Fault → ℕ
place_of (RecordTooLong at) = at
place_of MarkMissing = 0
place_of (NumberEnds at) = at
place_of (NumberMalformed at) = at
place_of (RuleUnknown at) = at
place_of (LengthBeyond at) = at
place_of (EntryUnknown at) = at
place_of (CellBeyond at) = at
place_of (CopyAmiss at) = at
place_of (EventBeyond at) = at
place_of (BytesLeft at) = at
place_of ProcessorUnknown = 0
place_of (LineUnknown at) = at
place_of (SheetShort at) = at
place_of (NothingRead at) = at
place_of (OutputShort at) = at
place_of (EventLacking at) = at
place_of (TableFull at) = at
place_of (NoLineLeft at) = at
place_of (IssueWaits at) = at
place_of (SwapHalfDone at) = at
place_of (NotHeld at) = at
place_of (DrainWaits at) = at
