-- No line has a place past the last, and no event a code past the last.
use Rattle.std.proofs.Common.{◌≡◌, ℕ, ◌/◌, ◌%◌, ◌<◌, ◌≤◌, true, false, eqb, ltb, List, length, None, ap, inl, inr, arith}
use Rattle.std.proofs.lemmas.Bool.{both_ways, cases_lt, and_left, and_right, and_parts, or_from, or_cases, or_left, or_right}
use Rattle.std.proofs.lemmas.List.{get_or_past}
use Rattle.tables.specs.Size.{unit, table, row}
use Rattle.tables.specs.Lines.{nth, line_reads, line_writes}
use Rattle.tables.specs.Rows.{Rows, empty}
use Rattle.tables.specs.View.{line_at, of_line, reads_at, writes_at, is_read, is_write, is_event}
use Rattle.rules.specs.Waits.{Waits}
use Rattle.judging.specs.Tests.{waits_here, swaps_here, order_bad, missing, load_bad, wait_bad, swap_bad}

module _ (ts : List Rows) (four : length ts ≡ 4) where
  past_line : (n : ℕ) → 128 ≤ n → line_at unit ts n ≡ None
  unfolding table
  past_line n h = ap (λ (s : Rows). nth s.lines (row unit n)) (get_or_past ts (n / 32) empty (omega arith))

  pub past_reads : (n : ℕ) → 128 ≤ n → reads_at unit ts n ≡ false
  past_reads n h = ap (of_line false line_reads) (past_line n h)

  pub past_writes : (n : ℕ) → 128 ≤ n → writes_at unit ts n ≡ false
  past_writes n h = ap (of_line false line_writes) (past_line n h)

  pub past_read : (e : ℕ) → 256 ≤ e → is_read unit ts e ≡ false
  past_read e h = and_right (eqb (e % 2) 0) _ (past_reads (e / 2) (omega arith))

  pub past_write : (e : ℕ) → 256 ≤ e → is_write unit ts e ≡ false
  past_write e h = and_right (eqb (e % 2) 1) _ (past_writes (e / 2) (omega arith))

  pub past_order : (o : List ℕ) (e : ℕ) → 256 ≤ e → order_bad unit ts o e ≡ false
  unfolding order_bad
  past_order o e h = or_from _ _ (and_left (is_read unit ts e) _ (past_read e h)) (and_left (is_write unit ts e) _ (past_write e h))

  pub past_missing : (o : List ℕ) (e : ℕ) → 256 ≤ e → missing unit ts o e ≡ false
  unfolding missing
  past_missing o e h = and_left (is_write unit ts e) _ (past_write e h)

  pub past_swap : (e : ℕ) → 256 ≤ e → swaps_here unit ts e ≡ false
  past_swap e h = and_left (is_read unit ts e) _ (past_read e h)

  pub reads_low : (n : ℕ) → reads_at unit ts n ≡ true → n < 128
  reads_low n h = elim (cases_lt n 128) [ inl l ↦ l | inr l ↦ absurd (both_ways (reads_at unit ts n) (past_reads n l) h) ]

  pub event_low : (e : ℕ) → is_event unit ts e ≡ true → e < 256
  event_low e h = elim (cases_lt e 256) [
    | inl l ↦ l
    | inr l ↦ absurd (both_ways (is_event unit ts e) (or_from _ _ (past_read e l) (past_write e l)) h)
  ]

  pub read_low : (e : ℕ) → is_read unit ts e ≡ true → e < 256
  read_low e h = event_low e (or_left (is_read unit ts e) _ h)

  pub write_low : (e : ℕ) → is_write unit ts e ≡ true → e < 256
  write_low e h = event_low e (or_right (is_read unit ts e) _ h)

  -- what a search names has a code
  module _ (o : List ℕ) where
    pub order_low : (e : ℕ) → order_bad unit ts o e ≡ true → e < 256
    order_low e h = elim (cases_lt e 256) [ inl l ↦ l | inr l ↦ absurd (both_ways (order_bad unit ts o e) (past_order o e l) h) ]

    pub missing_low : (e : ℕ) → missing unit ts o e ≡ true → e < 256
    missing_low e h = elim (cases_lt e 256) [ inl l ↦ l | inr l ↦ absurd (both_ways (missing unit ts o e) (past_missing o e l) h) ]

    pub load_low : (e f : ℕ) → load_bad unit ts o e f ≡ true → (e < 256) × (f < 256)
    unfolding load_bad
    load_low e f h =
        let a = and_parts (is_read unit ts e) _ h in
        let b = and_parts (eqb (table unit (e / 2)) (table unit (f / 2))) _ a.1 in
        let d = and_parts (ltb e f) _ b.1 in
        (read_low e a.0, event_low f (and_parts (is_event unit ts f) _ d.1).0)

    pub wait_low : (w : Waits) (e f : ℕ) → wait_bad unit ts o w e f ≡ true → (e < 256) × (f < 256)
    unfolding wait_bad
    wait_low w e f h =
        let a = and_parts (is_write unit ts e) _ h in
        let b = and_parts (eqb (table unit (e / 2)) (table unit (f / 2))) _ a.1 in
        let d = and_parts (ltb (e / 2) (f / 2)) _ b.1 in
        let v = and_parts (waits_here unit ts f) _ d.1 in (
          write_low e a.0,
          elim (or_cases (is_write unit ts f) _ v.0) [
            | inl x ↦ write_low f x
            | inr x ↦ read_low f (and_parts (is_read unit ts f) _ x).0
          ],
        )

    pub swap_low : (e f : ℕ) → swap_bad unit ts o e f ≡ true → (e < 256) × (f < 256)
    unfolding swap_bad
    swap_low e f h =
        let a = and_parts (swaps_here unit ts e) _ h in
        (read_low e (and_parts (is_read unit ts e) _ a.0).0, write_low f (and_parts (is_write unit ts f) _ a.1).0)
