-- The axioms as tests on codes of events, their places in the order and how often they stand, as the searches make them.
use Rattle.std.specs.Prelude.{ℕ, suc, ◌/◌, Bool, not, ◌&&◌, ◌||◌, List, ◌==◌, nat_le, nat_lt}
use Rattle.tables.specs.Size.{Size, table, rd, wr}
use Rattle.tables.specs.Rows.{Rows}
use Rattle.tables.specs.View.{line_at, writes_at, cell_at, is_read, is_write, is_event}
use Rattle.rules.specs.Waits.{Waits, waits_at}
use Rattle.model.proofs.Positions.{place, times}

module _ (z : Size) (ts : List Rows) where
  -- the event at which a line waits: its write, or its read if it only loads
  abbrev pub waits_here : ℕ → Bool
  waits_here f = is_write z ts f || (is_read z ts f && not (writes_at z ts (f / 2)))

  -- the read of a swap
  abbrev pub swaps_here : ℕ → Bool
  swaps_here e = is_read z ts e && writes_at z ts (e / 2)

  -- line m writes the cell of line n
  abbrev pub writes_cell : ℕ → ℕ → Bool
  writes_cell n m = writes_at z ts m && cell_at z ts m == cell_at z ts n

  module _ (o : List ℕ) where
    -- e breaks Order
    unfoldable pub order_bad : ℕ → Bool
    order_bad e = (is_read z ts e && not (times o e == 1)) || (is_write z ts e && nat_lt 1 (times o e))

    -- e breaks Termination
    unfoldable pub missing : ℕ → Bool
    missing e = is_write z ts e && times o e == 0

    -- the read e should stand before f, and does not
    unfoldable pub load_bad : ℕ → ℕ → Bool
    load_bad e f =
        is_read z ts e
        && (table z (e / 2) == table z (f / 2) && (nat_lt e f && (is_event z ts f && nat_le (place o f) (place o e))))

    -- f should wait for the write e, and does not
    unfoldable pub wait_bad : Waits → ℕ → ℕ → Bool
    wait_bad w e f =
        is_write z ts e
        && (table z (e / 2) == table z (f / 2)
        && (nat_lt (e / 2) (f / 2)
        && (waits_here f && (nat_le (place o f) (place o e) && waits_at w (line_at z ts (e / 2)) (line_at z ts (f / 2))))))

    -- the write f stands between e and the code after it
    abbrev pub writes_between : ℕ → ℕ → Bool
    writes_between e f = is_write z ts f && (nat_lt (place o e) (place o f) && nat_lt (place o f) (place o (suc e)))

    -- the write f stands between the events of the swap whose read is e
    unfoldable pub swap_bad : ℕ → ℕ → Bool
    swap_bad e f = swaps_here e && writes_between e f

    -- line m writes the cell that line n reads, and its write stands before that read or it is a line above k of n's table
    unfoldable pub concerns_to : ℕ → ℕ → ℕ → Bool
    concerns_to n k m =
        writes_cell n m && (nat_lt (place o (wr m)) (place o (rd n)) || (table z m == table z n && nat_lt m k))
