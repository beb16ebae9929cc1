-- The axioms by places in the order, which say the same as those by relations.
use Rattle.std.proofs.Common.{◌≡◌, ℕ, zero, suc, ◌≤◌, true, false, eqb, ◌⊎◌, List, [], ◌∷◌, Some, None, Option, sym, refl, ◌∙◌, subst, inl, inr, arith}
use Rattle.std.proofs.lemmas.Bool.{cases_eq, eq-eqb, ne_eqb, cond-true, cond-false, cases_lt}
use Rattle.std.proofs.lemmas.Bool.Decides.{nat_tests}
use Rattle.tables.specs.Size.{Earlier, rd, wr}
use Rattle.model.specs.Program.{Program}
use Rattle.model.specs.Orders.{At, Precedes, Once, AtMostOnce}
use Rattle.model.specs.Axioms.{OrderKept, TerminationKept, Follows, later_read, later_write, Awaits, by_write, by_load, Considered, Newest, Should, worth, Meets}
use Rattle.model.proofs.Positions.{times_some, Inside, times, Before, stands_from, place, place_le, place_same}

-- m writes the cell that n reads, and stands before the read or belongs to an earlier line of its table
pub record Concerns (P : Program) (o : List ℕ) (n m : ℕ) : Type 0 where
  pub writes : P.writes m ≡ true
  pub cell : P.cell m ≡ P.cell n
  pub near : Before o (wr m) (rd n) ⊎ Earlier P.size m n

pub record Latest (P : Program) (o : List ℕ) (n m : ℕ) : Type 0 where
  pub concerns : Concerns P o n m
  pub last : (j : ℕ) → Concerns P o n j → place o (wr j) ≤ place o (wr m)

pub record Placed {M : Type 0} (P : Program) (stored : (ℕ → M) → ℕ → M) (start : ℕ → M) (o : List ℕ) (sheet : ℕ → M) : Type 0 where
  pub order_read : (n : ℕ) → P.reads n ≡ true → times o (rd n) ≡ 1
  pub order_write : (n : ℕ) → P.writes n ≡ true → times o (wr n) ≤ 1
  pub termination : (n : ℕ) → P.writes n ≡ true → Inside o (wr n)
  pub load_read : (m n : ℕ) → P.reads m ≡ true → P.reads n ≡ true → Earlier P.size m n → Before o (rd m) (rd n)
  pub load_write : (m n : ℕ) → P.reads m ≡ true → P.writes n ≡ true → Earlier P.size m n ⊎ (m ≡ n) → Before o (rd m) (wr n)
  pub wait_write :
      (m n : ℕ) → P.writes m ≡ true → P.writes n ≡ true → Earlier P.size m n → P.wait m n ≡ true → Before o (wr m) (wr n)
  pub wait_load :
      (m n : ℕ) → P.writes m ≡ true → P.reads n ≡ true → P.writes n ≡ false → Earlier P.size m n → P.wait m n ≡ true
      → Before o (wr m) (rd n)
  pub atomicity :
      (n m : ℕ) → P.reads n ≡ true → P.writes n ≡ true → P.writes m ≡ true → Before o (rd n) (wr m) → Before o (wr m) (wr n) → ⊥
  pub value : (n m : ℕ) → P.reads n ≡ true → Latest P o n m → sheet n ≡ stored sheet m
  pub value_start : (n : ℕ) → P.reads n ≡ true → ((m : ℕ) → Concerns P o n m → ⊥) → sheet n ≡ start (P.cell n)

pub at_place : (o : List ℕ) (e : ℕ) → Inside o e → At o (place o e) e
at_place [] e h = let z : ⊥ = omega arith in absurd z
at_place (x ∷ o) e h = elim (cases_eq x e) [
  | inl q ↦ subst (λ (n : ℕ). At (x ∷ o) n e) (sym (cond-true (eqb x e) 0 (suc (place o e)) (eq-eqb x e q))) q
  | inr q ↦ let c = cond-false (eqb x e) 0 (suc (place o e)) (ne_eqb x e q) in
      subst (λ (n : ℕ). At (x ∷ o) n e) (sym c) (at_place o e (omega arith))
]

pub at_after : (o : List ℕ) (i e : ℕ) → At o i e → (place o e ≤ i) × Inside o e
at_after [] i e h = absurd h
at_after (x ∷ o) zero e h = grind (arith, nat_tests)
at_after (x ∷ o) (suc i) e h = let r = at_after o i e h in grind (arith, nat_tests)

pub at_one : (o : List ℕ) (i e : ℕ) → times o e ≤ 1 → At o i e → i ≡ place o e
at_one [] i e t h = absurd h
at_one (x ∷ o) zero e t h = grind (arith, nat_tests)
at_one (x ∷ o) (suc i) e t h =
    let s = at_after o i e h in let u = times_some o e s.1 in
    elim (cases_eq x e) [
      | inl q ↦ let z : ⊥ = grind (arith, nat_tests) in absurd z
      | inr q ↦ let v : times o e ≤ 1 = grind (arith, nat_tests) in let r = at_one o i e v h in grind (arith, nat_tests)
    ]

pub precedes_before : (o : List ℕ) (e f : ℕ) → times o f ≤ 1 → Precedes o e f → Before o e f
precedes_before o e f t p =
    let a = at_after o p.i e p.first in let b = at_one o p.j f t p.second in let l = p.less in omega arith

pub before_precedes : (o : List ℕ) (e f : ℕ) → Inside o f → Before o e f → Precedes o e f
before_precedes o e f s b = record {
  i = place o e;
  j = place o f;
  first = at_place o e (let l = place_le o f in omega arith);
  second = at_place o f s;
  less = b;
}

pub once_is : (o : List ℕ) (e : ℕ) → times o e ≡ 1 → Once o e
once_is o e t = record { i = place o e; is = at_place o e (stands_from o e (omega arith)); only = λ j h. at_one o j e (omega arith) h }

pub one_time : (o : List ℕ) (e : ℕ) → AtMostOnce o e → times o e ≤ 1
one_time [] e h = omega arith
one_time (x ∷ o) e h = elim (cases_eq x e) [
  | inl q ↦ elim (cases_lt (times o e) 1) [
    | inl l ↦ grind (arith, nat_tests)
    | inr l ↦ let z = h 0 (suc (place o e)) q (at_place o e (stands_from o e l)) in omega arith
  ]
  | inr q ↦ let r = one_time o e (λ i j a b. let z = h (suc i) (suc j) a b in omega arith) in grind (arith, nat_tests)
]

-- where each read and each write stands once, what concerns a read is the same by places and by relations
module _ (P : Program) (o : List ℕ) (reads_once : (n : ℕ) → P.reads n ≡ true → times o (rd n) ≡ 1)
    (writes_once : (n : ℕ) → P.writes n ≡ true → times o (wr n) ≤ 1) (writes_stand : (n : ℕ) → P.writes n ≡ true → Inside o (wr n)) where
  pub considered_concerns : (n m : ℕ) → P.reads n ≡ true → Considered P o n m → Concerns P o n m
  considered_concerns n m r c = record {
    writes = c.writes;
    cell = c.cell;
    near = elim c.near [ inl b ↦ inl (precedes_before o (wr m) (rd n) (let t = reads_once n r in omega arith) b) | inr e ↦ inr e ];
  }

  pub concerns_considered : (n m : ℕ) → P.reads n ≡ true → Concerns P o n m → Considered P o n m
  concerns_considered n m r c = record {
    writes = c.writes;
    cell = c.cell;
    near = elim c.near [
      | inl b ↦ inl (before_precedes o (wr m) (rd n) (stands_from o (rd n) (let t = reads_once n r in omega arith)) b)
      | inr e ↦ inr e
    ];
  }

  pub newest_latest : (n m : ℕ) → P.reads n ≡ true → Newest P o n m → Latest P o n m
  newest_latest n m r l = record {
    concerns = considered_concerns n m r l.considered;
    last = λ j c. elim (l.last j (concerns_considered n j r c)) [
      | inl e ↦ let t : place o (wr j) ≡ place o (wr m) = cc in omega arith
      | inr b ↦ let t = precedes_before o (wr j) (wr m) (writes_once m l.considered.writes) b in omega arith
    ];
  }

  pub latest_newest : (n m : ℕ) → P.reads n ≡ true → Latest P o n m → Newest P o n m
  latest_newest n m r l = record {
    considered = concerns_considered n m r l.concerns;
    last = λ j c. let d = considered_concerns n j r c in let k = l.last j d in elim (cases_eq j m) [
      | inl e ↦ inl e
      | inr e ↦ inr (before_precedes o (wr j) (wr m) (writes_stand m l.concerns.writes) (elim (cases_lt (place o (wr j)) (place o (wr m))) [
        | inl b ↦ b
        | inr b ↦ let q = place_same o (wr j) (wr m) (writes_stand j d.writes) (omega arith) in let z : ⊥ = omega arith in absurd z
      ]))
    ];
  }

-- what the axioms Order and Termination say of times and places
module _ (P : Program) (o : List ℕ) where
  pub kept_once : OrderKept P o → (n : ℕ) → P.reads n ≡ true → times o (rd n) ≡ 1
  kept_once k n r =
      let u = k.reads_once n r in
      let a = one_time o (rd n) (λ i j x y. u.only i x ∙ sym (u.only j y)) in
      let b = times_some o (rd n) (at_after o u.i (rd n) u.is).1 in omega arith

  pub kept_write_once : OrderKept P o → (n : ℕ) → P.writes n ≡ true → times o (wr n) ≤ 1
  kept_write_once k n w = one_time o (wr n) (k.writes_once n w)

  pub kept_inside : TerminationKept P o → (n : ℕ) → P.writes n ≡ true → Inside o (wr n)
  kept_inside k n w = let u = k n w in (at_after o u.0 (wr n) u.1).1

  pub once_kept :
      ((n : ℕ) → P.reads n ≡ true → times o (rd n) ≡ 1) → ((n : ℕ) → P.writes n ≡ true → times o (wr n) ≤ 1) → OrderKept P o
  once_kept r w = record {
    reads_once = λ n h. once_is o (rd n) (r n h);
    writes_once = λ n h i j a b. at_one o i (wr n) (w n h) a ∙ sym (at_one o j (wr n) (w n h) b);
  }

  pub inside_kept : ((n : ℕ) → P.writes n ≡ true → Inside o (wr n)) → TerminationKept P o
  inside_kept h n w = (place o (wr n), at_place o (wr n) (h n w))

module _ {M : Type 0} (P : Program) (stored : (ℕ → M) → ℕ → M) (start : ℕ → M) (o : List ℕ) (sheet : ℕ → M) where
  pub to_places : Meets P stored start o sheet → Placed P stored start o sheet
  to_places S = record {
    order_read = once;
    order_write = write_once;
    termination = inside;
    load_read = λ m n r s e.
        precedes_before o (rd m) (rd n) (let t = once n s in omega arith) (S.load_op (rd m) (rd n) (later_read m n r s e refl refl));
    load_write = λ m n r w e. precedes_before o (rd m) (wr n) (write_once n w) (S.load_op (rd m) (wr n) (later_write m n r w e refl refl));
    wait_write = λ m n v w e x. precedes_before o (wr m) (wr n) (write_once n w) (S.wait (wr m) (wr n) (by_write m n v w e x refl refl));
    wait_load = λ m n v r w e x.
        precedes_before o (wr m) (rd n) (let t = once n r in omega arith) (S.wait (wr m) (rd n) (by_load m n v r w e x refl refl));
    atomicity = λ n m r w v a b. S.atomicity (rd n) (wr m) (record {
      swap = n;
      other = m;
      reads = r;
      writes = w;
      other_writes = v;
      different = λ q. let z : place o (wr m) ≡ place o (wr n) = cc in omega arith;
      first = refl;
      second = refl;
      after = before_precedes o (rd n) (wr m) (inside m v) a;
      before = before_precedes o (wr m) (wr n) (inside n w) b;
    });
    value = λ n m r l. S.value n (Some m) r (latest_newest P o once write_once inside n m r l);
    value_start = λ n r h. S.value n None r (λ m c. h m (considered_concerns P o once write_once inside n m r c));
  }
    where
      once : (n : ℕ) → P.reads n ≡ true → times o (rd n) ≡ 1
      once = kept_once P o S.order

      write_once : (n : ℕ) → P.writes n ≡ true → times o (wr n) ≤ 1
      write_once = kept_write_once P o S.order

      inside : (n : ℕ) → P.writes n ≡ true → Inside o (wr n)
      inside = kept_inside P o S.termination

  pub to_relations : Placed P stored start o sheet → Meets P stored start o sheet
  to_relations A = record {
    order = once_kept P o A.order_read A.order_write;
    termination = inside_kept P o A.termination;
    load_op = follows;
    wait = awaits;
    atomicity = λ e f b.
        A.atomicity b.swap b.other b.reads b.writes b.other_writes
        (precedes_before o (rd b.swap) (wr b.other) (A.order_write b.other b.other_writes) b.after)
        (precedes_before o (wr b.other) (wr b.swap) (A.order_write b.swap b.writes) b.before);
    value = values;
  }
    where
      read_stands : (n : ℕ) → P.reads n ≡ true → Inside o (rd n)
      read_stands n r = let t = A.order_read n r in stands_from o (rd n) (omega arith)

      swapped : {e e' f f' : ℕ} → e ≡ e' → f ≡ f' → Precedes o e' f' → Precedes o e f
      swapped {e} {e'} {f} {f'} p q h = subst (λ (x : ℕ). Precedes o x f) (sym p) (subst (λ (x : ℕ). Precedes o e' x) (sym q) h)

      follows : (e f : ℕ) → Follows P e f → Precedes o e f
      follows e f (later_read m n r s h p q) = swapped p q (before_precedes o (rd m) (rd n) (read_stands n s) (A.load_read m n r s h))
      follows e f (later_write m n r w h p q) = swapped p q (before_precedes o (rd m) (wr n) (A.termination n w) (A.load_write m n r w h))

      awaits : (e f : ℕ) → Awaits P e f → Precedes o e f
      awaits e f (by_write m n v w h x p q) = swapped p q (before_precedes o (wr m) (wr n) (A.termination n w) (A.wait_write m n v w h x))
      awaits e f (by_load m n v r w h x p q) = swapped p q (before_precedes o (wr m) (rd n) (read_stands n r) (A.wait_load m n v r w h x))

      values : (n : ℕ) (s : Option ℕ) → P.reads n ≡ true → Should P o n s → sheet n ≡ worth stored start sheet (P.cell n) s
      values n None r h =
          A.value_start n r (λ m c. h m (concerns_considered P o A.order_read A.order_write A.termination n m r c))
      values n (Some m) r h = A.value n m r (newest_latest P o A.order_read A.order_write A.termination n m r h)
