-- Each test decides its relation: Order and Termination always, the others where each event stands once.
use Rattle.std.proofs.Common.{◌≡◌, ℕ, suc, ◌/◌, ◌%◌, ◌<◌, ◌≤◌, true, false, not, ◌&&◌, eqb, ltb, leb, ◌⊎◌, List, length, Decides, sym, refl, ap, ◌∙◌, subst, inl, inr, arith}
use Rattle.std.proofs.lemmas.Bool.{both_ways, cases_lt, cases_eq, leb-true, le-leb, or_left, or_right, and_from, and_parts, ne_eqb, eq-eqb, lt-ltb, not-true, not_from_false}
use Rattle.std.proofs.lemmas.Bool.Decides.{Decides-and, Decides-or, Decides-eqb, Decides-ltb, Decides-like, Decides-not}
use Rattle.tables.specs.Size.{Size, table, rd, wr}
use Rattle.tables.specs.Rows.{Rows}
use Rattle.tables.specs.View.{line_at, reads_at, writes_at, is_read, is_write, is_event}
use Rattle.rules.specs.Waits.{Waits, waits_at}
use Rattle.model.specs.Program.{program}
use Rattle.model.specs.Orders.{Once, Stands, Precedes, AtMostOnce}
use Rattle.model.specs.Axioms.{OrderKept, OrderBroken, read_not_once, write_repeated, TerminationKept, TerminationBroken, Follows, later_read, later_write, Awaits, by_write, by_load, LoadOpKept, LoadOpBroken, WaitKept, WaitBroken, AtomicityKept, AtomicityBroken}
use Rattle.model.proofs.Positions.{place, times, Inside, place_le, times_none, times_some, stands_from}
use Rattle.model.proofs.PlacedAxioms.{at_place, at_after, at_one, once_is, one_time, precedes_before, before_precedes, once_kept, inside_kept}
use Rattle.judging.specs.Searches.{Clear, AllBelow}
use Rattle.judging.specs.Sources.{ReadsOnce, WritesOnce, WritesStand, Settled}
use Rattle.judging.specs.Tests.{waits_here, swaps_here, order_bad, missing, load_bad, wait_bad, swap_bad}
use Rattle.judging.proofs.Listing.{decides_self, reads_is, writes_is}

once_times : (o : List ℕ) (e : ℕ) → Once o e → times o e ≡ 1
once_times o e u =
    let a = one_time o e (λ i j x y. u.only i x ∙ sym (u.only j y)) in
    let b = times_some o e (at_after o u.i e u.is).1 in
    omega arith

at_most : (o : List ℕ) (e : ℕ) → times o e ≤ 1 → AtMostOnce o e
at_most o e t i j a b = at_one o i e t a ∙ sym (at_one o j e t b)

stands_times : (o : List ℕ) (e : ℕ) → Stands o e → 1 ≤ times o e
stands_times o e s = times_some o e (at_after o s.0 e s.1).1

module _ (z : Size) (w : Waits) (ts : List Rows) (o : List ℕ) where
  order_from : (e : ℕ) → OrderBroken (program z w ts) o e
      → ((is_read z ts e ≡ true) × (times o e ≡ 1 → ⊥)) ⊎ ((is_write z ts e ≡ true) × (1 < times o e))
  order_from e (read_not_once n r q h) = inl ((reads_is z ts e).1 (n, r, q), λ t. h (once_is o e t))
  order_from e (write_repeated n v q h) = inr (
    (writes_is z ts e).1 (n, v, q),
    elim (cases_lt 1 (times o e)) [
      | inl l ↦ l
      | inr l ↦ absurd (h (at_most o e l))
    ],
  )

  pub order_is : (e : ℕ) → Decides (order_bad z ts o e) (OrderBroken (program z w ts) o e)
  unfolding order_bad
  order_is e =
      Decides-like (order_bad z ts o e)
      (λ h. elim h [
        | inl x ↦ let r = (reads_is z ts e).0 x.0 in read_not_once r.0 r.1 r.2 (λ u. x.1 (once_times o e u))
        | inr x ↦
            let v = (writes_is z ts e).0 x.0 in
            write_repeated v.0 v.1 v.2 (λ u. let t = one_time o e u in let l = x.1 in omega arith)
      ]) (order_from e)
      (Decides-or (is_read z ts e && not (eqb (times o e) 1)) (is_write z ts e && ltb 1 (times o e))
      (Decides-and (is_read z ts e) (not (eqb (times o e) 1)) (decides_self (is_read z ts e))
      (Decides-not (eqb (times o e) 1) (Decides-eqb (times o e) 1)))
      (Decides-and (is_write z ts e) (ltb 1 (times o e)) (decides_self (is_write z ts e)) (Decides-ltb 1 (times o e))))

  pub missing_is : (e : ℕ) → Decides (missing z ts o e) (TerminationBroken (program z w ts) o e)
  unfolding missing
  missing_is e =
      Decides-like (missing z ts o e)
      (λ h.
      let v = (writes_is z ts e).0 h.0 in
      record { line = v.0; writes = v.1; is = v.2; missing = λ s. let t = stands_times o e s in let x = h.1 in omega arith })
      (λ b. (
        (writes_is z ts e).1 (b.line, b.writes, b.is),
        elim (cases_lt (place o e) (length o)) [
          | inl l ↦ absurd (b.missing (place o e, at_place o e l))
          | inr l ↦ let p = place_le o e in times_none o e (omega arith)
        ],
      ))
      (Decides-and (is_write z ts e) (eqb (times o e) 0) (decides_self (is_write z ts e)) (Decides-eqb (times o e) 0))

  -- where the searches find no breach of Order and Termination, each event stands once
  reads_once_from : Clear (order_bad z ts o) → ReadsOnce z ts o
  unfolding order_bad
  reads_once_from c n r = elim (cases_eq (times o (rd n)) 1) [
    | inl q ↦ q
    | inr q ↦ absurd (both_ways (order_bad z ts o (rd n)) (c (rd n))
        (or_left (is_read z ts (rd n) && not (eqb (times o (rd n)) 1)) _
        (and_from (is_read z ts (rd n)) _ ((reads_is z ts (rd n)).1 (n, r, refl)) (not_from_false (eqb (times o (rd n)) 1) (ne_eqb (times o (rd n)) 1 q)))))
  ]

  writes_once_from : Clear (order_bad z ts o) → WritesOnce z ts o
  unfolding order_bad
  writes_once_from c n v = elim (cases_lt 1 (times o (wr n))) [
    | inr l ↦ l
    | inl l ↦ absurd (both_ways (order_bad z ts o (wr n)) (c (wr n))
        (or_right (is_read z ts (wr n) && not (eqb (times o (wr n)) 1)) _
        (and_from (is_write z ts (wr n)) _ ((writes_is z ts (wr n)).1 (n, v, refl)) (lt-ltb 1 (times o (wr n)) l))))
  ]

  writes_stand_from : Clear (missing z ts o) → WritesStand z ts o
  unfolding missing
  writes_stand_from c n v = elim (cases_eq (times o (wr n)) 0) [
    | inr q ↦ stands_from o (wr n) (omega arith)
    | inl q ↦ absurd (both_ways (missing z ts o (wr n)) (c (wr n))
        (and_from (is_write z ts (wr n)) _ ((writes_is z ts (wr n)).1 (n, v, refl)) (eq-eqb (times o (wr n)) 0 q)))
  ]

  pub order_kept : Clear (order_bad z ts o) → OrderKept (program z w ts) o
  order_kept c = once_kept (program z w ts) o (reads_once_from c) (writes_once_from c)

  pub termination_kept : Clear (missing z ts o) → TerminationKept (program z w ts) o
  termination_kept c = inside_kept (program z w ts) o (writes_stand_from c)

  pub settled_from : AllBelow (is_event z ts) o (length o) → Clear (order_bad z ts o) → Clear (missing z ts o) → Settled z ts o
  settled_from h a b = record {
    listed = h;
    reads_once = reads_once_from a;
    writes_once = writes_once_from a;
    writes_stand = writes_stand_from b;
  }

  module _ (S : Settled z ts o) where
    -- each event stands, and once
    read_stands : (f : ℕ) → is_read z ts f ≡ true → (times o f ≤ 1) × Inside o f
    read_stands f h =
        let x = (reads_is z ts f).0 h in
        let t = S.reads_once x.0 x.1 in
        let q = ap (times o) x.2 in
        (omega arith, stands_from o f (omega arith))

    write_stands : (f : ℕ) → is_write z ts f ≡ true → (times o f ≤ 1) × Inside o f
    write_stands f h =
        let x = (writes_is z ts f).0 h in
        let t = S.writes_once x.0 x.1 in
        let s = S.writes_stand x.0 x.1 in
        let q = ap (times o) x.2 in
        let p = ap (place o) x.2 in
        (omega arith, omega arith)

    -- for an event that stands once, the places tell whether another precedes it
    not_before : (e f : ℕ) → (times o f ≤ 1) × Inside o f → Decides (leb (place o f) (place o e)) (Precedes o e f → ⊥)
    not_before e f s = (
      λ t p. let l = leb-true (place o f) (place o e) t in let b = precedes_before o e f s.0 p in omega arith,
      λ n. elim (cases_lt (place o e) (place o f)) [
        | inl l ↦ absurd (n (before_precedes o e f s.1 l))
        | inr l ↦ le-leb (place o f) (place o e) l
      ],
    )

    event_stands : (f : ℕ) → (is_read z ts f ≡ true) ⊎ (is_write z ts f ≡ true) → (times o f ≤ 1) × Inside o f
    event_stands f h = elim h [ inl r ↦ read_stands f r | inr v ↦ write_stands f v ]

    -- what LoadOp wants, by codes
    abbrev FollowsCodes : ℕ → ℕ → Type 0
    FollowsCodes e f =
        (is_read z ts e ≡ true) × (table z (e / 2) ≡ table z (f / 2)) × (e < f) × ((is_read z ts f ≡ true) ⊎ (is_write z ts f ≡ true))

    to_follows : (e f : ℕ) → FollowsCodes e f → Follows (program z w ts) e f
    to_follows e f h =
        let r = (reads_is z ts e).0 h.0 in
        let p = r.2 in
        let t = h.1 in
        let l = h.2 in
        let a : e / 2 ≡ r.0 = omega arith in
        elim h.3 [
          | inl x ↦
              let s = (reads_is z ts f).0 x in
              let q = s.2 in
              let b : f / 2 ≡ s.0 = omega arith in
              later_read r.0 s.0 r.1 s.1 (sym (ap (table z) a) ∙ t ∙ ap (table z) b, omega arith) p q
          | inr x ↦
              let s = (writes_is z ts f).0 x in
              let q = s.2 in
              let b : f / 2 ≡ s.0 = omega arith in
              later_write r.0 s.0 r.1 s.1 (elim (cases_lt r.0 s.0) [
                | inl k ↦ inl (sym (ap (table z) a) ∙ t ∙ ap (table z) b, k)
                | inr k ↦ inr (omega arith)
              ]) p q
        ]

    from_follows : (e f : ℕ) → Follows (program z w ts) e f → FollowsCodes e f
    from_follows e f (later_read m n r s h p q) =
        let a : e / 2 ≡ m = omega arith in
        let b : f / 2 ≡ n = omega arith in
        let k = h.1 in
        ((reads_is z ts e).1 (m, r, p), ap (table z) a ∙ h.0 ∙ sym (ap (table z) b), omega arith, inl ((reads_is z ts f).1 (n, s, q)))
    from_follows e f (later_write m n r v h p q) =
        let a : e / 2 ≡ m = omega arith in
        let b : f / 2 ≡ n = omega arith in
        let t : table z m ≡ table z n = elim h [ inl k ↦ k.0 | inr k ↦ ap (table z) k ] in
        let l : m ≤ n = elim h [ inl k ↦ (let x = k.1 in omega arith) | inr k ↦ omega arith ] in
        ((reads_is z ts e).1 (m, r, p), ap (table z) a ∙ t ∙ sym (ap (table z) b), omega arith, inr ((writes_is z ts f).1 (n, v, q)))

    pub load_is : (e f : ℕ) → Decides (load_bad z ts o e f) (LoadOpBroken (program z w ts) o e f)
    unfolding load_bad
    load_is e f =
        Decides-like (load_bad z ts o e f)
        (λ h. record {
          wanted = to_follows e f (h.0, h.1.0, h.1.1.0, h.1.1.1.0);
          not_so = (not_before e f (event_stands f h.1.1.1.0)).0 h.1.1.1.1;
        })
        (λ h.
        let k = from_follows e f h.wanted in
        (k.0, (k.1, (k.2, (k.3, (not_before e f (event_stands f k.3)).1 h.not_so)))))
        (Decides-and (is_read z ts e) _ (decides_self (is_read z ts e))
        (Decides-and (eqb (table z (e / 2)) (table z (f / 2))) _ (Decides-eqb (table z (e / 2)) (table z (f / 2)))
        (Decides-and (ltb e f) _ (Decides-ltb e f)
        (Decides-and (is_event z ts f) (leb (place o f) (place o e))
        (Decides-or (is_read z ts f) (is_write z ts f) (decides_self (is_read z ts f)) (decides_self (is_write z ts f)))
        (decides_self (leb (place o f) (place o e)))))))

    pub load_kept : ((i : ℕ) → Clear (load_bad z ts o i)) → LoadOpKept (program z w ts) o
    load_kept c e f h =
        let k = from_follows e f h in
        let s = event_stands f k.3 in
        elim (cases_lt (place o e) (place o f)) [
          | inl l ↦ before_precedes o e f s.1 l
          | inr l ↦ absurd (both_ways (load_bad z ts o e f) (c e f)
              ((load_is e f).1 (record { wanted = h; not_so = λ p. let b = precedes_before o e f s.0 p in omega arith })))
        ]

    -- what Wait wants, by codes
    abbrev AwaitsCodes : ℕ → ℕ → Type 0
    AwaitsCodes e f =
        (is_write z ts e ≡ true)
        × (table z (e / 2) ≡ table z (f / 2))
        × (e / 2 < f / 2)
        × ((is_write z ts f ≡ true) ⊎ ((is_read z ts f ≡ true) × (writes_at z ts (f / 2) ≡ false)))
        × (waits_at w (line_at z ts (e / 2)) (line_at z ts (f / 2)) ≡ true)

    waiter_stands :
        (f : ℕ) → (is_write z ts f ≡ true) ⊎ ((is_read z ts f ≡ true) × (writes_at z ts (f / 2) ≡ false)) → (times o f ≤ 1) × Inside o f
    waiter_stands f h = elim h [ inl v ↦ write_stands f v | inr r ↦ read_stands f r.0 ]

    even : (e : ℕ) → is_read z ts e ≡ true → e ≡ rd (e / 2)
    even e h = let x = (reads_is z ts e).0 h in let q = x.2 in omega arith

    odd : (e : ℕ) → is_write z ts e ≡ true → e ≡ wr (e / 2)
    odd e h = let x = (writes_is z ts e).0 h in let q = x.2 in omega arith

    reads_half : (e : ℕ) → is_read z ts e ≡ true → reads_at z ts (e / 2) ≡ true
    reads_half e h = (and_parts (eqb (e % 2) 0) _ h).1

    writes_half : (e : ℕ) → is_write z ts e ≡ true → writes_at z ts (e / 2) ≡ true
    writes_half e h = (and_parts (eqb (e % 2) 1) _ h).1

    to_awaits : (e f : ℕ) → AwaitsCodes e f → Awaits (program z w ts) e f
    to_awaits e f h = elim h.3 [
      | inl x ↦ by_write (e / 2) (f / 2) (writes_half e h.0) (writes_half f x) (h.1, h.2) h.4 (odd e h.0) (odd f x)
      | inr x ↦ by_load (e / 2) (f / 2) (writes_half e h.0) (reads_half f x.0) x.1 (h.1, h.2) h.4 (odd e h.0) (even f x.0)
    ]

    waits_moved :
        (m n m' n' : ℕ) → m ≡ m' → n ≡ n' → waits_at w (line_at z ts m) (line_at z ts n) ≡ true
        → waits_at w (line_at z ts m') (line_at z ts n') ≡ true
    waits_moved m n m' n' a b h = cc

    from_awaits : (e f : ℕ) → Awaits (program z w ts) e f → AwaitsCodes e f
    from_awaits e f (by_write m n v v' h x p q) =
        let a : m ≡ e / 2 = omega arith in
        let b : n ≡ f / 2 = omega arith in
        let k = h.1 in (
          (writes_is z ts e).1 (m, v, p),
          sym (ap (table z) a) ∙ h.0 ∙ ap (table z) b,
          omega arith,
          inl ((writes_is z ts f).1 (n, v', q)),
          waits_moved m n (e / 2) (f / 2) a b x,
        )
    from_awaits e f (by_load m n v r v' h x p q) =
        let a : m ≡ e / 2 = omega arith in
        let b : n ≡ f / 2 = omega arith in
        let k = h.1 in (
          (writes_is z ts e).1 (m, v, p),
          sym (ap (table z) a) ∙ h.0 ∙ ap (table z) b,
          omega arith,
          inr ((reads_is z ts f).1 (n, r, q), subst (λ (y : ℕ). writes_at z ts y ≡ false) b v'),
          waits_moved m n (e / 2) (f / 2) a b x,
        )

    pub wait_is : (e f : ℕ) → Decides (wait_bad z ts o w e f) (WaitBroken (program z w ts) o e f)
    unfolding wait_bad
    wait_is e f =
        Decides-like (wait_bad z ts o w e f)
        (λ h. record {
          wanted = to_awaits e f (h.0, h.1.0, h.1.1.0, h.1.1.1.0, h.1.1.1.1.1);
          not_so = (not_before e f (waiter_stands f h.1.1.1.0)).0 h.1.1.1.1.0;
        })
        (λ h.
        let k = from_awaits e f h.wanted in
        (k.0, (k.1, (k.2, (k.3, ((not_before e f (waiter_stands f k.3)).1 h.not_so, k.4))))))
        (Decides-and (is_write z ts e) _ (decides_self (is_write z ts e))
        (Decides-and (eqb (table z (e / 2)) (table z (f / 2))) _ (Decides-eqb (table z (e / 2)) (table z (f / 2)))
        (Decides-and (ltb (e / 2) (f / 2)) _ (Decides-ltb (e / 2) (f / 2))
        (Decides-and (waits_here z ts f) _
        (Decides-or (is_write z ts f) (is_read z ts f && not (writes_at z ts (f / 2))) (decides_self (is_write z ts f))
        (Decides-and (is_read z ts f) (not (writes_at z ts (f / 2))) (decides_self (is_read z ts f))
        (not-true (writes_at z ts (f / 2)), not_from_false (writes_at z ts (f / 2)))))
        (Decides-and (leb (place o f) (place o e)) (waits_at w (line_at z ts (e / 2)) (line_at z ts (f / 2)))
        (decides_self (leb (place o f) (place o e))) (decides_self (waits_at w (line_at z ts (e / 2)) (line_at z ts (f / 2)))))))))

    pub wait_kept : ((i : ℕ) → Clear (wait_bad z ts o w i)) → WaitKept (program z w ts) o
    wait_kept c e f h =
        let k = from_awaits e f h in
        let s = waiter_stands f k.3 in
        elim (cases_lt (place o e) (place o f)) [
          | inl l ↦ before_precedes o e f s.1 l
          | inr l ↦ absurd (both_ways (wait_bad z ts o w e f) (c e f)
              ((wait_is e f).1 (record { wanted = h; not_so = λ p. let b = precedes_before o e f s.0 p in omega arith })))
        ]

    to_between :
        (e f : ℕ) → is_read z ts e ≡ true → writes_at z ts (e / 2) ≡ true → is_write z ts f ≡ true → place o e < place o f
        → place o f < place o (suc e) → AtomicityBroken (program z w ts) o e f
    to_between e f r v x l u =
        let p = even e r in
        let q = odd f x in
        let n : suc e ≡ wr (e / 2) = omega arith in
        let a = ap (place o) p in
        let b = ap (place o) q in
        let d = ap (place o) n in
        let i = S.writes_stand (e / 2) v in
        let j = (write_stands f x).1 in
        record {
          swap = e / 2;
          other = f / 2;
          reads = reads_half e r;
          writes = v;
          other_writes = writes_half f x;
          different = λ s. let y = ap (λ (k : ℕ). place o (wr k)) s in omega arith;
          first = p;
          second = q;
          after = before_precedes o (rd (e / 2)) (wr (f / 2)) (omega arith) (omega arith);
          before = before_precedes o (wr (f / 2)) (wr (e / 2)) i (omega arith);
        }

    from_between :
        (e f : ℕ) → AtomicityBroken (program z w ts) o e f
        → ((is_read z ts e ≡ true) × (writes_at z ts (e / 2) ≡ true)) × ((is_write z ts f ≡ true) × ((place o e < place o f) × (place o f < place o (suc e))))
    from_between e f b =
        let p = b.first in
        let q = b.second in
        let a : b.swap ≡ e / 2 = omega arith in
        let n : wr b.swap ≡ suc e = omega arith in
        let x = ap (place o) p in
        let y = ap (place o) q in
        let d = ap (place o) n in
        let l = precedes_before o (rd b.swap) (wr b.other) (S.writes_once b.other b.other_writes) b.after in
        let u = precedes_before o (wr b.other) (wr b.swap) (S.writes_once b.swap b.writes) b.before in (
          ((reads_is z ts e).1 (b.swap, b.reads, p), subst (λ (k : ℕ). writes_at z ts k ≡ true) a b.writes),
          ((writes_is z ts f).1 (b.other, b.other_writes, q), (omega arith, omega arith)),
        )

    pub swap_is : (e f : ℕ) → Decides (swap_bad z ts o e f) (AtomicityBroken (program z w ts) o e f)
    unfolding swap_bad
    swap_is e f =
        Decides-like (swap_bad z ts o e f) (λ h. to_between e f h.0.0 h.0.1 h.1.0 h.1.1.0 h.1.1.1) (from_between e f)
        (Decides-and (swaps_here z ts e) _
        (Decides-and (is_read z ts e) (writes_at z ts (e / 2)) (decides_self (is_read z ts e)) (decides_self (writes_at z ts (e / 2))))
        (Decides-and (is_write z ts f) _ (decides_self (is_write z ts f))
        (Decides-and (ltb (place o e) (place o f)) (ltb (place o f) (place o (suc e))) (Decides-ltb (place o e) (place o f)) (Decides-ltb (place o f) (place o (suc e))))))

    pub swap_kept : ((i : ℕ) → Clear (swap_bad z ts o i)) → AtomicityKept (program z w ts) o
    swap_kept c e f b = both_ways (swap_bad z ts o e f) (c e f) ((swap_is e f).1 b)
