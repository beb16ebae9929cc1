-- Orders in which every event stands, and the latest write so far in the search for the write that a read should have.
use Rattle.std.specs.Prelude.{◌≡◌, ℕ, ◌<◌, ◌≤◌, Bool, true, false, List, length, Some, None, Option, IfSome, nat_lt}
use Rattle.tables.specs.Size.{Size, rd, wr}
use Rattle.tables.specs.Rows.{Rows}
use Rattle.tables.specs.View.{reads_at, writes_at, is_event}
use Rattle.model.proofs.Positions.{place, times, Inside}
use Rattle.judging.specs.Searches.{AllBelow}
use Rattle.judging.specs.Tests.{concerns_to}

module _ (z : Size) (ts : List Rows) (o : List ℕ) where
  abbrev pub ReadsOnce : Type 0
  ReadsOnce = (n : ℕ) → reads_at z ts n ≡ true → times o (rd n) ≡ 1

  abbrev pub WritesOnce : Type 0
  WritesOnce = (n : ℕ) → writes_at z ts n ≡ true → times o (wr n) ≤ 1

  abbrev pub WritesStand : Type 0
  WritesStand = (n : ℕ) → writes_at z ts n ≡ true → Inside o (wr n)

  -- what Order and Termination come to, for an order that lists events of the tables: each event stands, and once
  pub record Settled : Type 0 where
    pub listed : AllBelow (is_event z ts) o (length o)
    pub reads_once : ReadsOnce
    pub writes_once : WritesOnce
    pub writes_stand : WritesStand

  -- of the writes that stand before the read of n, or belong to a line above k of its table, the latest
  abbrev pub Best : ℕ → ℕ → Option ℕ → Type 0
  Best n k None = (j : ℕ) → concerns_to z ts o n k j ≡ false
  Best n k (Some b) =
      (b < 128) × (concerns_to z ts o n k b ≡ true) × ((j : ℕ) → concerns_to z ts o n k j ≡ true → place o (wr j) ≤ place o (wr b))

-- a line, if there is one, has a place on a sheet
abbrev pub Within : Option ℕ → Type 0
Within s = IfSome s (λ m. m < 128)

-- whether m's write stands later than that of the best so far
abbrev pub Later : List ℕ → Option ℕ → ℕ → Bool → Type 0
Later o None m r = r ≡ true
Later o (Some b) m r = r ≡ nat_lt (place o (wr b)) (place o (wr m))
