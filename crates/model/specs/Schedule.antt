-- The schedule of an order: the calls that complete a new machine with it.
use Rattle.std.specs.Prelude.{ℕ, zero, suc, ◌+◌, ◌-◌, ◌/◌, ◌%◌, cond, ◌||◌, List, [], ◌∷◌, ◌++◌, ◌==◌}
use Rattle.tables.specs.Size.{Size, number, table, row, places}
use Rattle.model.specs.declared.call.Call.{Call}
use Rattle.model.specs.declared.call.Call.TheVariants.{Issue, Drain}
use Rattle.model.specs.Program.{Program}
use Rattle.model.specs.Trace.{tally}

-- the code of a call: issues first, by processor, then drains, by line
abbrev pub call_code : Size → Call → ℕ
call_code z (Issue p) = p - 1
call_code z (Drain p l) = z.tables + number z (p - 1) (l - 1)

-- how many lines the tables have: so many issues complete a machine
abbrev pub lines_in : Program → ℕ
lines_in P = tally (λ n. P.reads n || P.writes n) (places P.size)

-- and how many of them write: so many drains do
abbrev pub writes_in : Program → ℕ
writes_in P = tally P.writes (places P.size)

-- so many issues for table p
unfoldable pub fill : ℕ → ℕ → List Call
fill zero p = []
fill (suc k) p = fill k p ++ (Issue (p + 1) ∷ [])

-- how many issues are wanted until line n is issued, where f p lines of table p are
abbrev pub lacking : Size → (ℕ → ℕ) → ℕ → ℕ
lacking z f n = (row z n + 1) - f (table z n)

-- k lines more of table p are issued
abbrev pub more : (ℕ → ℕ) → ℕ → ℕ → ℕ → ℕ
more f p k q = cond (q == p) (f q + k) (f q)

-- the lines up to n are issued
abbrev pub up_to : Size → (ℕ → ℕ) → ℕ → ℕ → ℕ
up_to z f n = more f (table z n) (lacking z f n)

-- the drain of line n
abbrev pub drain_of : Size → ℕ → Call
drain_of z n = Drain (table z n + 1) (row z n + 1)

-- which is made if the event, by its code's last bit, is the line's write
abbrev pub drains : Size → ℕ → ℕ → List Call
drains z n k = cond (k == 1) (drain_of z n ∷ []) []

-- event by event: every unissued line before the event's line, the line itself if unissued, and its drain if the event is a
-- write; here where f p lines of each table p are issued already
abbrev pub schedule : Size → (ℕ → ℕ) → List ℕ → List Call
schedule z f [] = []
schedule z f (e ∷ o) =
    fill (lacking z f (e / 2)) (table z (e / 2)) ++ (drains z (e / 2) (e % 2) ++ schedule z (up_to z f (e / 2)) o)
