-- The latest of the writes to consider, found by a scan back from the read and then down its own table.
use Rattle.std.proofs.Common.{◌≡◌, ℕ, suc, ◌+◌, ◌*◌, ◌/◌, ◌%◌, ◌<◌, ◌≤◌, true, false, eqb, ltb, ◌⊎◌, List, length, get_or, take, Some, None, Option, MatchOption, option_map, sym, refl, ap, subst, inl, inr, arith}
use Rattle.std.proofs.lemmas.Bool.{both_ways, true≢false, cases_Bool, cases_lt, and_parts, and_from, or_cases, or_left, or_right, ltb-true, ltb-false, eqb-true, eq-eqb, lt-ltb}
use Rattle.std.proofs.lemmas.List.{length-take-le, get_or-take}
use Rattle.tables.specs.Size.{unit, table, rd, wr}
use Rattle.tables.specs.Rows.{Rows}
use Rattle.tables.specs.View.{reads_at, writes_at, cell_at, is_read}
use Rattle.rules.specs.Waits.{Waits}
use Rattle.model.specs.Program.{program}
use Rattle.model.specs.Axioms.{Should}
use Rattle.model.proofs.Positions.{place, times, place_le, place_same}
use Rattle.model.proofs.PlacedAxioms.{Concerns, considered_concerns, newest_latest, latest_newest}
use Rattle.judging.specs.Tests.{writes_cell, concerns_to}
use Rattle.judging.specs.Sources.{Settled, Best, Later, Within}
use Rattle.judging.proofs.Locating.{at_place, at_one}

module _ (ts : List Rows) (o : List ℕ) (n k : ℕ) where
  -- what a line is to the read, with the lines above k of its table
  pub to_near :
      (m : ℕ) → concerns_to unit ts o n k m ≡ true
      → (writes_cell unit ts n m ≡ true) × ((place o (wr m) < place o (rd n)) ⊎ ((table unit m ≡ table unit n) × (m < k)))
  unfolding concerns_to
  to_near m h =
      let a = and_parts (writes_cell unit ts n m) _ h in (
        a.0,
        elim (or_cases (ltb (place o (wr m)) (place o (rd n))) _ a.1) [
          | inl x ↦ inl (ltb-true (place o (wr m)) (place o (rd n)) x)
          | inr x ↦
              let y = and_parts (eqb (table unit m) (table unit n)) _ x in
              inr (eqb-true (table unit m) (table unit n) y.0, ltb-true m k y.1)
        ],
      )

  pub from_near :
      (m : ℕ) → writes_cell unit ts n m ≡ true → (place o (wr m) < place o (rd n)) ⊎ ((table unit m ≡ table unit n) × (m < k))
      → concerns_to unit ts o n k m ≡ true
  unfolding concerns_to
  from_near m h v = and_from (writes_cell unit ts n m) _ h (elim v [
    | inl x ↦ or_left (ltb (place o (wr m)) (place o (rd n))) _ (lt-ltb (place o (wr m)) (place o (rd n)) x)
    | inr x ↦
        or_right (ltb (place o (wr m)) (place o (rd n))) _
        (and_from (eqb (table unit m) (table unit n)) _ (eq-eqb (table unit m) (table unit n) x.0) (lt-ltb m k x.1))
  ])

  pub not_near : (m : ℕ) → (concerns_to unit ts o n k m ≡ true → ⊥) → concerns_to unit ts o n k m ≡ false
  not_near m h = elim (cases_Bool (concerns_to unit ts o n k m)) [ inl x ↦ absurd (h x) | inr x ↦ x ]

  pub best_within : (r : Option ℕ) → Best unit ts o n k r → Within r
  best_within None b = tt
  best_within (Some m) b = b.0

-- one more line of the table
module _ (ts : List Rows) (o : List ℕ) (n k : ℕ) (own : table unit k ≡ table unit n) where
  one_more :
      (j : ℕ) → concerns_to unit ts o n (k + 1) j ≡ true
      → (concerns_to unit ts o n k j ≡ true) ⊎ ((j ≡ k) × (writes_cell unit ts n k ≡ true))
  one_more j h = let a = to_near ts o n (k + 1) j h in elim a.1 [
    | inl x ↦ inl (from_near ts o n k j a.0 (inl x))
    | inr x ↦ elim (cases_lt j k) [
      | inl l ↦ inl (from_near ts o n k j a.0 (inr (x.0, l)))
      | inr l ↦ let y = x.1 in let q : j ≡ k = omega arith in inr (q, subst (λ (v : ℕ). writes_cell unit ts n v ≡ true) q a.0)
    ]
  ]

  still : (j : ℕ) → concerns_to unit ts o n k j ≡ true → concerns_to unit ts o n (k + 1) j ≡ true
  still j h =
      let a = to_near ts o n k j h in
      from_near ts o n (k + 1) j a.0 (elim a.1 [ inl x ↦ inl x | inr x ↦ inr (x.0, let y = x.1 in omega arith) ])

  pub best_skip : writes_cell unit ts n k ≡ false → (r : Option ℕ) → Best unit ts o n k r → Best unit ts o n (k + 1) r
  best_skip w None b = λ j. not_near ts o n (k + 1) j (λ h. elim (one_more j h) [
    | inl x ↦ both_ways (concerns_to unit ts o n k j) (b j) x
    | inr x ↦ both_ways (writes_cell unit ts n k) w x.1
  ])
  best_skip w (Some m) b = (
    b.0,
    still m b.1,
    λ j h. elim (one_more j h) [
      | inl x ↦ b.2 j x
      | inr x ↦ absurd (both_ways (writes_cell unit ts n k) w x.1)
    ],
  )

  pub best_old : (r : Option ℕ) → Later o r k false → Best unit ts o n k r → Best unit ts o n (k + 1) r
  best_old None l b = absurd (true≢false (sym l))
  best_old (Some m) l b = (
    b.0,
    still m b.1,
    λ j h. elim (one_more j h) [
      | inl x ↦ b.2 j x
      | inr x ↦
          let y = ltb-false (place o (wr m)) (place o (wr k)) (sym l) in let z = ap (λ (v : ℕ). place o (wr v)) x.0 in omega arith
    ],
  )

  pub best_new :
      k < 128 → writes_cell unit ts n k ≡ true → (r : Option ℕ) → Later o r k true → Best unit ts o n k r → Best unit ts o n (k + 1) (Some k)
  best_new h w None l b = (
    h,
    from_near ts o n (k + 1) k w (inr (own, omega arith)),
    λ j v. elim (one_more j v) [
      | inl x ↦ absurd (both_ways (concerns_to unit ts o n k j) (b j) x)
      | inr x ↦ let z = ap (λ (v : ℕ). place o (wr v)) x.0 in omega arith
    ],
  )
  best_new h w (Some m) l b = (
    h,
    from_near ts o n (k + 1) k w (inr (own, omega arith)),
    λ j v. elim (one_more j v) [
      | inl x ↦ let y = ltb-true (place o (wr m)) (place o (wr k)) (sym l) in let z = b.2 j x in omega arith
      | inr x ↦ let z = ap (λ (v : ℕ). place o (wr v)) x.0 in omega arith
    ],
  )

-- the scan back from the read has seen no write to its cell at positions from i on
module _ (ts : List Rows) (o : List ℕ) (n i : ℕ)
    (seen : (j : ℕ) → i ≤ j → j < place o (rd n) → get_or o j 0 % 2 ≡ 1 → writes_cell unit ts n (get_or o j 0 / 2) ≡ true → ⊥) where
  before_seen : (m : ℕ) → concerns_to unit ts o n (n / 32 * 32) m ≡ true → place o (wr m) < i
  unfolding table
  before_seen m h = let a = to_near ts o n (n / 32 * 32) m h in elim a.1 [
    | inr x ↦ let y = x.0 in let z = x.1 in absurd (omega arith)
    | inl x ↦ elim (cases_lt (place o (wr m)) i) [
      | inl l ↦ l
      | inr l ↦
          let b = place_le o (rd n) in
          let q = at_place o (wr m) 0 (omega arith) in
          let r : m ≡ get_or o (place o (wr m)) 0 / 2 = omega arith in
          absurd (seen (place o (wr m)) l x (omega arith) (subst (λ (v : ℕ). writes_cell unit ts n v ≡ true) r a.0))
    ]
  ]

  pub scan_none : i ≡ 0 → (j : ℕ) → concerns_to unit ts o n (n / 32 * 32) j ≡ false
  scan_none q j = not_near ts o n (n / 32 * 32) j (λ h. let z = before_seen j h in omega arith)

  pub scan_found :
      (h : ℕ) → i ≡ suc h → h < place o (rd n) → times o (get_or o h 0) ≤ 1 → get_or o h 0 % 2 ≡ 1
      → writes_cell unit ts n (get_or o h 0 / 2) ≡ true → get_or o h 0 / 2 < 128 → Best unit ts o n (n / 32 * 32) (Some (get_or o h 0 / 2))
  scan_found h q l t odd w low =
      let b = place_le o (rd n) in
      let p = at_one o h 0 (omega arith) t in
      let e : 2 * (get_or o h 0 / 2) + 1 ≡ get_or o h 0 = omega arith in
      let r = ap (place o) e in
      (low, from_near ts o n (n / 32 * 32) (get_or o h 0 / 2) w (inl (omega arith)), λ j v. let z = before_seen j v in omega arith)

-- an event is a write to the cell of line n, or none
abbrev pub IsWrite : List Rows → ℕ → ℕ → Type 0
IsWrite ts n e = (e % 2 ≡ 1) × (writes_cell unit ts n (e / 2) ≡ true)

abbrev pub IsNoWrite : List Rows → ℕ → ℕ → Type 0
IsNoWrite ts n e = e % 2 ≡ 1 → writes_cell unit ts n (e / 2) ≡ true → ⊥

module _ (ts : List Rows) (o : List ℕ) (S : Settled unit ts o) where
  -- a write event that stands, stands once
  pub odd_once : (h : ℕ) → h < length o → get_or o h 0 % 2 ≡ 1 → times o (get_or o h 0) ≤ 1
  odd_once h l odd =
      let e = get_or o h 0 in
      let w : writes_at unit ts (e / 2) ≡ true = elim (or_cases (is_read unit ts e) _ (S.listed h l)) [
        | inl r ↦ let x = eqb-true (e % 2) 0 (and_parts (eqb (e % 2) 0) _ r).0 in absurd (omega arith)
        | inr v ↦ (and_parts (eqb (e % 2) 1) _ v).1
      ] in
      let q : 2 * (e / 2) + 1 ≡ e = omega arith in
      let t = S.writes_once (e / 2) w in
      let r = ap (times o) q in
      omega arith

  -- the latest of the writes before the read's place, from the last position in front of it where one stands
  pub best_before :
      (n : ℕ) → ((i : ℕ) → i < length o → get_or o i 0 < 256) → (p : ℕ) → p ≡ place o (rd n) → (r : Option ℕ)
      → MatchOption r ((k : ℕ) → k < length (take p o) → IsNoWrite ts n (get_or (take p o) k 0))
      (λ i. (i < length (take p o)) × IsWrite ts n (get_or (take p o) i 0)
      × ((k : ℕ) → i < k → k < length (take p o) → IsNoWrite ts n (get_or (take p o) k 0)))
      → Best unit ts o n (n / 32 * 32) (option_map (λ i. get_or o i 0 / 2) r)
  best_before n low p q None h =
      let b = place_le o (rd n) in
      let len = length-take-le p o (omega arith) in
      scan_none ts o n 0 (λ j _ l. subst (IsNoWrite ts n) (get_or-take p o j 0 (omega arith)) (h j (omega arith))) refl
  best_before n low p q (Some i) h =
      let b = place_le o (rd n) in
      let len = length-take-le p o (omega arith) in
      let l : i < p = let x = h.0 in omega arith in
      let w = subst (IsWrite ts n) (get_or-take p o i 0 l) h.1 in
      let y = low i (omega arith) in
      scan_found ts o n (suc i)
      (λ j m u. subst (IsNoWrite ts n) (get_or-take p o j 0 (omega arith)) (h.2 j (omega arith) (omega arith))) i refl (omega arith)
      (odd_once i (omega arith) w.0) w.0 w.1 (omega arith)

  module _ (w : Waits) (n : ℕ) (reads : reads_at unit ts n ≡ true) where
    to_concerns : (m : ℕ) → concerns_to unit ts o n n m ≡ true → Concerns (program unit w ts) o n m
    to_concerns m h =
        let a = to_near ts o n n m h in
        let b = and_parts (writes_at unit ts m) _ a.0 in
        record { writes = b.0; cell = eqb-true (cell_at unit ts m) (cell_at unit ts n) b.1; near = a.1 }

    from_concerns : (m : ℕ) → Concerns (program unit w ts) o n m → concerns_to unit ts o n n m ≡ true
    from_concerns m c =
        from_near ts o n n m
        (and_from (writes_at unit ts m) _ c.writes (eq-eqb (cell_at unit ts m) (cell_at unit ts n) c.cell)) c.near

    pub best_should : (r : Option ℕ) → Best unit ts o n n r → Should (program unit w ts) o n r
    best_should None b = λ m c.
        both_ways (concerns_to unit ts o n n m) (b m)
        (from_concerns m (considered_concerns (program unit w ts) o S.reads_once S.writes_once S.writes_stand n m reads c))
    best_should (Some m) b =
        latest_newest (program unit w ts) o S.reads_once S.writes_once S.writes_stand n m reads
        (record { concerns = to_concerns m b.1; last = λ j c. b.2 j (from_concerns j c) })

    -- one write at most is the one that the read should have
    pub should_same : (s t : Option ℕ) → Should (program unit w ts) o n s → Should (program unit w ts) o n t → s ≡ t
    should_same None None a b = refl
    should_same None (Some m) a b = absurd (a m b.considered)
    should_same (Some m) None a b = absurd (b m a.considered)
    should_same (Some m) (Some k) a b =
        let c = newest_latest (program unit w ts) o S.reads_once S.writes_once S.writes_stand n m reads a in
        let d = newest_latest (program unit w ts) o S.reads_once S.writes_once S.writes_stand n k reads b in
        let x = c.last k d.concerns in
        let y = d.last m c.concerns in
        let e = place_same o (wr m) (wr k) (S.writes_stand m c.concerns.writes) (omega arith) in
        let q : m ≡ k = omega arith in
        ap (λ (v : ℕ). Some v) q
