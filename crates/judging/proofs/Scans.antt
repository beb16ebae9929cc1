-- What a row's scan finds is a breach, and what it leaves out is none.
use Rattle.std.proofs.Common.{◌≡◌, ℕ, suc, ◌+◌, ◌*◌, ◌/◌, ◌%◌, ◌<◌, ◌≤◌, true, false, eqb, ltb, leb, ◌⊎◌, List, get_or, ap, ◌∙◌, inl, inr, arith}
use Rattle.std.proofs.lemmas.Bool.{cases_lt, cases_Bool, and_left, and_right, and_from, and_parts, le-ltb, lt-ltb, le-leb, lt-leb, eq-eqb, eqb-true, ne_eqb}
use Rattle.tables.specs.Size.{unit, table}
use Rattle.tables.specs.Rows.{Rows}
use Rattle.tables.specs.View.{line_at, is_read, is_write, is_event}
use Rattle.rules.specs.Waits.{Waits, waits_at}
use Rattle.model.proofs.Positions.{place, place_le}
use Rattle.judging.specs.Searches.{ClearBelow}
use Rattle.judging.specs.Standings.{AheadUpTo}
use Rattle.judging.specs.Tests.{waits_here, swaps_here, writes_between, load_bad, wait_bad, swap_bad}
use Rattle.judging.proofs.Locating.{at_place}

module _ (ts : List Rows) (o : List ℕ) (e : ℕ) where
  pub load_none : is_read unit ts e ≡ false → (f : ℕ) → load_bad unit ts o e f ≡ false
  unfolding load_bad
  load_none h f = and_left (is_read unit ts e) _ h

  pub load_early : (f : ℕ) → f ≤ e → load_bad unit ts o e f ≡ false
  unfolding load_bad
  load_early f h =
      and_right (is_read unit ts e) _ (and_right (eqb (table unit (e / 2)) (table unit (f / 2))) _ (and_left (ltb e f) _ (le-ltb e f h)))

  pub load_late : (f : ℕ) → (e / 64 + 1) * 64 ≤ f → load_bad unit ts o e f ≡ false
  unfolding load_bad table
  load_late f h = and_right (is_read unit ts e) _ (and_left (eqb (e / 2 / 32) (f / 2 / 32)) _ (ne_eqb (e / 2 / 32) (f / 2 / 32) (λ q. omega arith)))

  pub load_here :
      (f : ℕ) → is_read unit ts e ≡ true → e < f → f < (e / 64 + 1) * 64 → is_event unit ts f ≡ true → place o f ≤ place o e
      → load_bad unit ts o e f ≡ true
  unfolding load_bad table
  load_here f r l u v p =
      and_from (is_read unit ts e) _ r
      (and_from (eqb (e / 2 / 32) (f / 2 / 32)) _ (eq-eqb (e / 2 / 32) (f / 2 / 32) (omega arith))
      (and_from (ltb e f) _ (lt-ltb e f l)
      (and_from (is_event unit ts f) _ v (le-leb (place o f) (place o e) p))))

  pub load_not : (f : ℕ) → (is_event unit ts f ≡ false) ⊎ (place o e < place o f) → load_bad unit ts o e f ≡ false
  unfolding load_bad
  load_not f h =
      and_right (is_read unit ts e) _ (and_right (eqb (table unit (e / 2)) (table unit (f / 2))) _ (and_right (ltb e f) _ (elim h [
        | inl v ↦ and_left (is_event unit ts f) _ v
        | inr p ↦ and_right (is_event unit ts f) _ (lt-leb (place o f) (place o e) p)
      ])))

  pub load_until : (n : ℕ) → AheadUpTo o e n → ClearBelow (load_bad unit ts o e) n
  load_until n h f u = elim (cases_lt e f) [ inl l ↦ load_not f (inr (h f l u)) | inr l ↦ load_early f l ]

  pub swap_none : swaps_here unit ts e ≡ false → (f : ℕ) → swap_bad unit ts o e f ≡ false
  unfolding swap_bad
  swap_none h f = and_left (swaps_here unit ts e) _ h

  pub swap_even : swaps_here unit ts e ≡ true → e % 2 ≡ 0
  swap_even h = eqb-true (e % 2) 0 (and_parts (eqb (e % 2) 0) _ (and_parts (is_read unit ts e) _ h).0).0

  pub swap_here : (f : ℕ) → swaps_here unit ts e ≡ true → writes_between unit ts o e f ≡ true → swap_bad unit ts o e f ≡ true
  unfolding swap_bad
  swap_here f a b = and_from (swaps_here unit ts e) _ a b

  pub swap_not : (f : ℕ) → writes_between unit ts o e f ≡ false → swap_bad unit ts o e f ≡ false
  unfolding swap_bad
  swap_not f b = and_right (swaps_here unit ts e) _ b

  pub past_between : (f : ℕ) → is_write unit ts f ≡ false → writes_between unit ts o e f ≡ false
  past_between f h = and_left (is_write unit ts f) _ h

  -- where only reads stand between e and the code after it, no write does
  pub swap_close :
      ((j : ℕ) → place o e < j → j < place o (suc e) → get_or o j 0 % 2 ≡ 1 → ⊥) → (f : ℕ) → swap_bad unit ts o e f ≡ false
  swap_close h f = swap_not f (elim (cases_Bool (is_write unit ts f)) [
    | inr v ↦ past_between f v
    | inl v ↦ and_right (is_write unit ts f) _ (elim (cases_lt (place o e) (place o f)) [
      | inr l ↦ and_left (ltb (place o e) (place o f)) _ (le-ltb (place o e) (place o f) l)
      | inl l ↦ and_right (ltb (place o e) (place o f)) _ (elim (cases_lt (place o f) (place o (suc e))) [
        | inr u ↦ le-ltb (place o f) (place o (suc e)) u
        | inl u ↦
            let b = place_le o (suc e) in
            let a = at_place o f 0 (omega arith) in
            let odd = eqb-true (f % 2) 1 (and_parts (eqb (f % 2) 1) _ v).0 in
            let k = ap (λ (x : ℕ). x % 2) a in
            absurd (h (place o f) l u (k ∙ odd))
      ])
    ])
  ])

  module _ (w : Waits) where
    pub wait_none : is_write unit ts e ≡ false → (f : ℕ) → wait_bad unit ts o w e f ≡ false
    unfolding wait_bad
    wait_none h f = and_left (is_write unit ts e) _ h

    pub wait_early : (f : ℕ) → f ≤ e → wait_bad unit ts o w e f ≡ false
    unfolding wait_bad
    wait_early f h =
        and_right (is_write unit ts e) _
        (and_right (eqb (table unit (e / 2)) (table unit (f / 2))) _ (and_left (ltb (e / 2) (f / 2)) _ (le-ltb (e / 2) (f / 2) (omega arith))))

    pub wait_late : (f : ℕ) → (e / 64 + 1) * 64 ≤ f → wait_bad unit ts o w e f ≡ false
    unfolding wait_bad table
    wait_late f h =
        and_right (is_write unit ts e) _ (and_left (eqb (e / 2 / 32) (f / 2 / 32)) _ (ne_eqb (e / 2 / 32) (f / 2 / 32) (λ q. omega arith)))

    pub wait_here :
        (f : ℕ) → is_write unit ts e ≡ true → e < f → f < (e / 64 + 1) * 64 → waits_here unit ts f ≡ true → place o f ≤ place o e
        → waits_at w (line_at unit ts (e / 2)) (line_at unit ts (f / 2)) ≡ true → wait_bad unit ts o w e f ≡ true
    unfolding wait_bad table
    wait_here f r l u v p x =
        let odd = eqb-true (e % 2) 1 (and_parts (eqb (e % 2) 1) _ r).0 in
        and_from (is_write unit ts e) _ r
        (and_from (eqb (e / 2 / 32) (f / 2 / 32)) _ (eq-eqb (e / 2 / 32) (f / 2 / 32) (omega arith))
        (and_from (ltb (e / 2) (f / 2)) _ (lt-ltb (e / 2) (f / 2) (omega arith))
        (and_from (waits_here unit ts f) _ v
        (and_from (leb (place o f) (place o e)) _ (le-leb (place o f) (place o e) p) x))))

    pub wait_not :
        (f : ℕ)
        → (waits_here unit ts f ≡ false) ⊎ ((place o e < place o f) ⊎ (waits_at w (line_at unit ts (e / 2)) (line_at unit ts (f / 2)) ≡ false))
        → wait_bad unit ts o w e f ≡ false
    unfolding wait_bad
    wait_not f h =
        and_right (is_write unit ts e) _
        (and_right (eqb (table unit (e / 2)) (table unit (f / 2))) _ (and_right (ltb (e / 2) (f / 2)) _ (elim h [
          | inl v ↦ and_left (waits_here unit ts f) _ v
          | inr k ↦ and_right (waits_here unit ts f) _ (elim k [
            | inl p ↦ and_left (leb (place o f) (place o e)) _ (lt-leb (place o f) (place o e) p)
            | inr x ↦ and_right (leb (place o f) (place o e)) _ x
          ])
        ])))

    pub wait_until : (n : ℕ) → AheadUpTo o e n → ClearBelow (wait_bad unit ts o w e) n
    wait_until n h f u = elim (cases_lt e f) [ inl l ↦ wait_not f (inr (inl (h f l u))) | inr l ↦ wait_early f l ]
