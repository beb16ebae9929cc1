-- The machine: its state, which calls it refuses and why, what the others do, and finishing.
use Rattle.std.specs.Prelude.{◌≡◌, ℕ, zero, suc, ◌+◌, ◌-◌, Bool, true, false, cond, not, ◌&&◌, ◌||◌, List, [], ◌∷◌, length, take, Some, None, Option, ◌==◌, nat_le, nat_lt, slice_index_or, slice_set}
use Rattle.faults.specs.declared.Fault.{Fault}
use Rattle.faults.specs.declared.Fault.TheVariants.{ProcessorUnknown, LineUnknown, SheetShort, NoLineLeft, IssueWaits, SwapHalfDone, NotHeld, DrainWaits}
use Rattle.tables.specs.Size.{Size, number, table, row, places, rd, wr}
use Rattle.tables.specs.Rows.{Rows}
use Rattle.model.specs.declared.call.Call.{Call}
use Rattle.model.specs.declared.call.Call.TheVariants.{Issue, Drain}
use Rattle.model.specs.Program.{Program}
use Rattle.model.specs.Orders.{snoc}
use Rattle.model.specs.Axioms.{worth}

-- how many lines of each table are issued, which lines' writes are held in their processor's store buffer, each cell's last
-- drained write, the memory order written, and the half-done swap; lines go by their numbers, tables count from 0
pub record State : Type 0 where
  pub issued : ℕ → ℕ
  pub held : ℕ → Bool
  pub last : ℕ → Option ℕ
  pub order : List ℕ
  pub half : Option ℕ

-- closing a draft gives a machine with all of this empty
abbrev pub fresh : State
fresh = record { issued = λ _. 0; held = λ _. false; last = λ _. None; order = []; half = None }

-- the first of two, if there is one
abbrev pub or_else : Option ℕ → Option ℕ → Option ℕ
or_else None b = b
or_else (Some m) b = Some m

-- the least, and the greatest, number below a bound that passes a test
unfoldable pub lowest : (ℕ → Bool) → ℕ → Option ℕ
lowest f zero = None
lowest f (suc n) = or_else (lowest f n) (cond (f n) (Some n) None)

unfoldable pub highest : (ℕ → Bool) → ℕ → Option ℕ
highest f zero = None
highest f (suc n) = cond (f n) (Some n) (highest f n)

-- line m stands in n's table, above n
abbrev pub earlier : Size → ℕ → ℕ → Bool
earlier z m n = table z m == table z n && nat_lt m n

-- a line as its user counts it
abbrev pub told : Size → ℕ → ℕ
told z m = row z m + 1

-- Refusals: a call is refused by the first of its tests that fails

-- refused with this fault unless the test passes
abbrev pub ask : Fault → Bool → Option Fault
ask f true = None
ask f false = Some f

-- refused, with a fault told from it, if a line stands in the way of a call for which that counts
abbrev pub bar : (ℕ → Fault) → Bool → Option ℕ → Option Fault
bar f false m = None
bar f true None = None
bar f true (Some m) = Some (f m)

-- the first refusal of a list, in its sequence
abbrev pub first : List (Option Fault) → Option Fault
first [] = None
first (None ∷ fs) = first fs
first (Some f ∷ fs) = Some f

-- processors count from 1
abbrev pub is_processor : Size → ℕ → Bool
is_processor z p = nat_lt 0 p && nat_le p z.tables

-- there is a line in row k of table q
abbrev pub has_line : Program → ℕ → ℕ → Bool
has_line P q k = nat_lt k P.size.lines && (P.reads (number P.size q k) || P.writes (number P.size q k))

-- the next line of table q in program order
abbrev pub next : Program → State → ℕ → ℕ
next P s q = number P.size q (s.issued q)

-- and whether there is one
abbrev pub has_next : Program → State → ℕ → Bool
has_next P s q = has_line P q (s.issued q)

-- the write of line m is held, and line n must wait for it
abbrev pub stops : Program → State → ℕ → ℕ → Bool
stops P s n m = s.held m && (earlier P.size m n && P.wait m n)

-- the lowest line for which line n must wait
abbrev pub blocker : Program → State → ℕ → Option ℕ
blocker P s n = lowest (stops P s n) (places P.size)

-- the half-done swap is another line than n
abbrev pub other_half : Option ℕ → ℕ → Bool
other_half None n = false
other_half (Some j) n = not (j == n)

-- the tests of an issue, on a sheet with this many places, for processor p, whose table is q: the processor, the sheet, that a
-- line is left; then, if the line reads, that it need not wait, and, if it is a swap, that none is half done
abbrev pub issue_tests : Program → State → ℕ → ℕ → ℕ → List (Option Fault)
issue_tests P s room p q =
    ask ProcessorUnknown (is_processor P.size p)
    ∷ ask (SheetShort room) (nat_le (places P.size) room)
    ∷ ask (NoLineLeft p) (has_next P s q)
    ∷ bar (λ m. IssueWaits (told P.size m)) (P.reads (next P s q)) (blocker P s (next P s q))
    ∷ bar (λ j. SwapHalfDone (rd j)) (P.reads (next P s q) && P.writes (next P s q)) s.half
    ∷ []

-- the tests of a drain of line l of processor p, which is in row k of table q: the processor, the line, that it is held, that it
-- need not wait, and that no other swap is half done
abbrev pub drain_tests : Program → State → ℕ → ℕ → ℕ → ℕ → List (Option Fault)
drain_tests P s p l q k =
    ask ProcessorUnknown (is_processor P.size p)
    ∷ ask (LineUnknown l) (nat_lt 0 l && has_line P q k)
    ∷ ask (NotHeld l) (s.held (number P.size q k))
    ∷ bar (λ m. DrainWaits (told P.size m)) true (blocker P s (number P.size q k))
    ∷ bar (λ j. SwapHalfDone (rd j)) (other_half s.half (number P.size q k)) s.half
    ∷ []

-- why an issue, and a drain, is refused, if it is; users count from 1, tables and rows from 0
abbrev pub issue_refusal : Program → State → ℕ → ℕ → Option Fault
issue_refusal P s room p = first (issue_tests P s room p (p - 1))

abbrev pub drain_refusal : Program → State → ℕ → ℕ → Option Fault
drain_refusal P s p l = first (drain_tests P s p l (p - 1) (l - 1))

-- What a call does that is not refused

-- the write of line m is held, goes to the cell of line n, and comes first in program order
abbrev pub feeds : Size → (ℕ → ℕ) → State → ℕ → ℕ → Bool
feeds z cell s n m = s.held m && (earlier z m n && cell m == cell n)

-- what a read takes: the newest held write of its own table to its cell, since a processor sees its store buffer before memory;
-- else the cell's last drained write; else the start word
abbrev pub source : Size → (ℕ → ℕ) → State → ℕ → Option ℕ
source z cell s n = or_else (highest (feeds z cell s n) (places z)) (s.last (cell n))

-- the issue of line n, which reads, writes, or does both: its read joins the order, its write becomes held, and a swap is then
-- half done
abbrev pub after_issue : Size → State → ℕ → Bool → Bool → State
after_issue z s n reads writes = record {
  issued = λ q. cond (q == table z n) (s.issued q + 1) (s.issued q);
  held = λ m. cond (m == n) writes (s.held m);
  last = s.last;
  order = cond reads (snoc s.order (rd n)) s.order;
  half = cond (reads && writes) (Some n) s.half;
}

-- the drain of line n, which writes this cell: the write joins the order and is its cell's last. No other swap was half done, so
-- that none is then
abbrev pub after_drain : State → ℕ → ℕ → State
after_drain s n cell = record {
  issued = s.issued;
  held = λ m. cond (m == n) false (s.held m);
  last = λ c. cond (c == cell) (Some n) (s.last c);
  order = snoc s.order (wr n);
  half = None;
}

-- Finishing: the half-done swap's write is drained, then table by table the other held writes, in program order

-- the write of the half-done swap, if there is one
abbrev pub drain_half : (ℕ → ℕ) → State → Option ℕ → State
drain_half cell s None = s
drain_half cell s (Some j) = after_drain s j (cell j)

-- the held writes of the lines below a number, lowest first; lines are numbered table by table
unfoldable pub sweep : (ℕ → ℕ) → State → ℕ → State
sweep cell s zero = s
sweep cell s (suc n) = cond ((sweep cell s n).held n) (after_drain (sweep cell s n) n (cell n)) (sweep cell s n)

-- all that is held is drained
abbrev pub finish : Size → (ℕ → ℕ) → State → State
finish z cell s = sweep cell (drain_half cell s s.half) (places z)

-- the first k lines of a table; it keeps its barriers, since those that stand behind its last line weigh nothing in the axioms
abbrev pub shortened : ℕ → Rows → Rows
shortened k t = record { lines = take k t.lines; barriers = t.barriers }

-- the issued lines as tables: the first f p lines of each table p
abbrev pub cut : (ℕ → ℕ) → List Rows → List Rows
cut f [] = []
cut f (t ∷ ts) = shortened (f 0) t ∷ cut (λ p. f (suc p)) ts

-- Machine and sheet together. A sheet has the meanings of the words at its places; `stored` has the word that a line writes, given
-- those on the sheet, and `start` that of a cell

pub record Run (M : Type 0) : Type 0 where
  pub state : State
  pub sheet : List M

module _ {M : Type 0} where
  -- a new machine, whatever the sheet holds
  abbrev pub new : List M → Run M
  new sheet = record { state = fresh; sheet = sheet }

  -- the word at each place, and some word beyond the end
  abbrev pub words_on : (ℕ → M) → List M → ℕ → M
  words_on start sheet n = slice_index_or sheet n (start 0)

  -- the word that the read of line n gets
  abbrev pub read_word : Size → (ℕ → ℕ) → ((ℕ → M) → ℕ → M) → (ℕ → M) → State → List M → ℕ → M
  read_word z cell stored start s sheet n = worth stored start (words_on start sheet) (cell n) (source z cell s n)

  -- a refused call leaves machine and sheet unaltered
  abbrev pub unless : Option Fault → Run M → Run M → Run M
  unless None r r' = r'
  unless (Some f) r r' = r

  module _ (P : Program) (stored : (ℕ → M) → ℕ → M) (start : ℕ → M) where
    -- a line that reads puts its word on the sheet
    abbrev pub issue_sheet : State → List M → ℕ → List M
    issue_sheet s sheet n = cond (P.reads n) (slice_set sheet n (read_word P.size P.cell stored start s sheet n)) sheet

    -- line n issued, and its write drained
    abbrev pub issued_line : Run M → ℕ → Run M
    issued_line r n = record {
      state = after_issue P.size r.state n (P.reads n) (P.writes n);
      sheet = issue_sheet r.state r.sheet n;
    }

    abbrev pub drained_line : Run M → ℕ → Run M
    drained_line r n = record { state = after_drain r.state n (P.cell n); sheet = r.sheet }

    -- why a call is refused, if it is
    abbrev pub refusal : Call → Run M → Option Fault
    refusal (Issue p) r = issue_refusal P r.state (length r.sheet) p
    refusal (Drain p l) r = drain_refusal P r.state p l

    -- what an accepted call does: an issue takes the processor's next line, a drain the line that it names
    abbrev pub done : Call → Run M → Run M
    done (Issue p) r = issued_line r (next P r.state (p - 1))
    done (Drain p l) r = drained_line r (number P.size (p - 1) (l - 1))

    -- a call, refused or not
    abbrev pub step : Call → Run M → Run M
    step c r = unless (refusal c r) r (done c r)

    -- calls one after the other
    abbrev pub run : List Call → Run M → Run M
    run [] r = r
    run (c ∷ cs) r = run cs (step c r)

    -- none of the calls is refused
    abbrev pub Accepted : List Call → Run M → Type 0
    Accepted [] r = Unit {0}
    Accepted (c ∷ cs) r = (refusal c r ≡ None) × Accepted cs (step c r)

    -- no line is left, none is held, that order is written, and the word at the place of each line that reads is the order's
    pub record Completed (o : List ℕ) (words : ℕ → M) (r : Run M) : Type 0 where
      pub none_left : (q : ℕ) → has_next P r.state q ≡ false
      pub none_held : (n : ℕ) → r.state.held n ≡ false
      pub written : r.state.order ≡ o
      pub same : (n : ℕ) → P.reads n ≡ true → words_on start r.sheet n ≡ words n
