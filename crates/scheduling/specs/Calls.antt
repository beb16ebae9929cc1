-- The calls of a schedule: for one event, for an order, their codes, and how many complete a machine.
use Rattle.std.specs.Prelude.{ℕ, ◌+◌, ◌/◌, ◌%◌, Bool, cond, List, ◌++◌, map, slice_index}
use Rattle.tables.specs.Size.{unit, table}
use Rattle.model.specs.declared.call.Call.{Call}
use Rattle.model.specs.Program.{Program}
use Rattle.model.specs.Schedule.{schedule, fill, lacking, drains, call_code, lines_in, writes_in}

-- how many lines of table p are issued, where a list has them by table
abbrev pub issued_by : List ℕ → ℕ → ℕ
issued_by is p = slice_index is p

-- the calls for one event, where f p lines of each table p are issued already
abbrev pub event_calls : (ℕ → ℕ) → ℕ → List Call
event_calls f e = fill (lacking unit f (e / 2)) (table unit (e / 2)) ++ drains unit (e / 2) (e % 2)

-- the calls for an order, from a new machine on
abbrev pub calls_of : List ℕ → List Call
calls_of o = schedule unit (λ _. 0) o

abbrev pub codes_of : List Call → List ℕ
codes_of calls = map (call_code unit) calls

-- the calls that a line takes: none if there is no such line, its issue, and its drain if it writes
abbrev pub calls_at : Bool → Bool → ℕ
calls_at reads writes = cond writes 2 (cond reads 1 0)

-- how many calls complete a machine
abbrev pub needed : Program → ℕ
needed P = lines_in P + writes_in P
