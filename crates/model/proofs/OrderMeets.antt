-- The order of a machine that holds nothing meets the axioms, for the lines issued.
use Rattle.std.proofs.Common.{◌≡◌, ℕ, ◌/◌, ◌%◌, Bool, true, false, ◌&&◌, ltb, ◌⊎◌, List, Some, None, Option, sym, refl, ap, ◌∙◌, subst, inl, inr, arith}
use Rattle.std.proofs.lemmas.Bool.{cases_eq, and_parts, and_from, ltb-true, cases_lt, lt-ltb}
use Rattle.tables.specs.Size.{Earlier, rd, row, wr, table}
use Rattle.model.specs.Program.{Program}
use Rattle.model.specs.Orders.{Listed, read, write}
use Rattle.model.specs.Axioms.{worth}
use Rattle.model.specs.Machine.{State}
use Rattle.model.proofs.Invariant.{old, Issued, own_or_old, own, Source, nil, Own, issued_earlier, Old, Values, Inv}
use Rattle.model.proofs.Lawful.{Lawful}
use Rattle.model.proofs.PlacedAxioms.{Latest, Concerns, Placed, at_after}
use Rattle.model.proofs.Positions.{times_some, Inside, place_le, place_same}

-- the first f p lines of each table p
abbrev pub is_issued : Program → (ℕ → ℕ) → ℕ → Bool
is_issued P f n = ltb (row P.size n) (f (table P.size n))

abbrev pub issued_part : Program → (ℕ → ℕ) → Program
issued_part P f = record {
  size = P.size;
  reads = λ n. P.reads n && is_issued P f n;
  writes = λ n. P.writes n && is_issued P f n;
  cell = P.cell;
  wait = P.wait;
}

module _ (P : Program) (s : State) where
  pub part_issued : (b : Bool) (n : ℕ) → (b && is_issued P s.issued n) ≡ true → (b ≡ true) × Issued P s n
  part_issued b n e =
      let a = and_parts b (is_issued P s.issued n) e in (a.0, ltb-true (row P.size n) (s.issued (table P.size n)) a.1)

  pub issued_in_part : (b : Bool) (n : ℕ) → b ≡ true → Issued P s n → (b && is_issued P s.issued n) ≡ true
  issued_in_part b n e i = and_from b (is_issued P s.issued n) e (lt-ltb (row P.size n) (s.issued (table P.size n)) i)

  pub order_listed : Inv P s → Listed (issued_part P s.issued) s.order
  order_listed I i e a = elim (cases_lt (e % 2) 1) [
    | inl l ↦ let q : e ≡ rd (e / 2) = omega arith in
        let h = I.rd_of (e / 2) (subst (Inside s.order) q st) in read (e / 2) (issued_in_part (P.reads (e / 2)) (e / 2) h.0 h.1) q
    | inr l ↦ let q : e ≡ wr (e / 2) = omega arith in
        let h = I.wr_of (e / 2) (subst (Inside s.order) q st) in write (e / 2) (issued_in_part (P.writes (e / 2)) (e / 2) h.0 h.1) q
  ]
    where
      st : Inside s.order e
      st = (at_after s.order i e a).1

module _ {M : Type 0} (P : Program) (L : Lawful P) (stored : (ℕ → M) → ℕ → M) (start : ℕ → M) (sheet : ℕ → M) (t : State)
    (I : Inv P t) (V : Values P stored start t.order sheet) (D : (m : ℕ) → t.held m ≡ false) where
  abbrev o : List ℕ
  o = t.order

  abbrev Q : Program
  Q = issued_part P t.issued

  read_stands : (n : ℕ) → Q.reads n ≡ true → Inside o (rd n)
  read_stands n r = let a = part_issued P t (P.reads n) n r in I.rd_in n a.0 a.1

  write_stands : (n : ℕ) → Q.writes n ≡ true → Inside o (wr n)
  write_stands n w = let a = part_issued P t (P.writes n) n w in I.wr_in n a.0 a.1 (D n)

  own_concerns : (n m : ℕ) → Issued P t n → Own P o n m → Concerns Q o n m
  own_concerns n m i c =
      record { writes = issued_in_part P t (P.writes m) m c.writes (issued_earlier P t m n c.earlier i); cell = c.cell; near = inr c.earlier }

  old_concerns : (n m : ℕ) → Old P o n m → Concerns Q o n m
  old_concerns n m c =
      let b = c.before in let p = place_le o (rd n) in
      record { writes = issued_in_part P t (P.writes m) m c.writes (I.wr_of m (omega arith)).1; cell = c.cell; near = inl c.before }

  split : (n m : ℕ) → Concerns Q o n m → Own P o n m ⊎ Old P o n m
  split n m c = own_or_old P o n m (record { writes = (part_issued P t (P.writes m) m c.writes).0; cell = c.cell; near = c.near })

  pick : {w : Option ℕ} (n m : ℕ) → Issued P t n → Source P o n w → Latest Q o n m → w ≡ Some m
  pick n m i (own {m = k} c h) l =
      let a = l.last k (own_concerns n k i c) in
      elim (split n m l.concerns) [
        | inr d ↦ let b = d.before in let e = c.late in let z : ⊥ = omega arith in absurd z
        | inl d ↦ let b = h m d in elim (cases_eq m k) [
          | inl e ↦ ap Some (sym e)
          | inr e ↦
              let x = d.earlier in let y = c.earlier in
              let f : Earlier P.size m k = omega arith in
              let q = I.wait_write m k d.writes f (L.wait_law m k f d.writes c.writes (d.cell ∙ sym c.cell))
              (write_stands k (own_concerns n k i c).writes) in
              let z : ⊥ = omega arith in absurd z
        ]
      ]
  pick n m i (old {m = k} u c h) l =
      let a = l.last k (old_concerns n k c) in
      elim (split n m l.concerns) [
        | inl d ↦ absurd (u m d)
        | inr d ↦
            let b = h m d in
            let e : wr m ≡ wr k = place_same o (wr m) (wr k) (write_stands m l.concerns.writes) (omega arith) in
            let f : k ≡ m = omega arith in ap Some f
      ]
  pick n m i (nil u h) l = elim (split n m l.concerns) [ inl d ↦ absurd (u m d) | inr d ↦ absurd (h m d) ]

  pick_none : {w : Option ℕ} (n : ℕ) → Issued P t n → Source P o n w → ((m : ℕ) → Concerns Q o n m → ⊥) → w ≡ None
  pick_none n i (own {m = k} c h) l = absurd (l k (own_concerns n k i c))
  pick_none n i (old {m = k} u c h) l = absurd (l k (old_concerns n k c))
  pick_none n i (nil u h) l = refl

  pub meets : Placed Q stored start o sheet
  meets = record {
    order_read = λ n r. let a = times_some o (rd n) (read_stands n r) in let b = I.once (rd n) in omega arith;
    order_write = λ n w. I.once (wr n);
    termination = write_stands;
    load_read = λ m n r s e. I.load_read m n (part_issued P t (P.reads m) m r).0 e (read_stands n s);
    load_write = λ m n r w e. I.load_write m n (part_issued P t (P.reads m) m r).0 e (write_stands n w);
    wait_write = λ m n v w e x. I.wait_write m n (part_issued P t (P.writes m) m v).0 e x (write_stands n w);
    wait_load = λ m n v r _ e x. I.wait_read m n (part_issued P t (P.writes m) m v).0 e x (read_stands n r);
    atomicity = λ n m r w v. I.atom n m (part_issued P t (P.writes n) n w).0 (read_stands n r) (write_stands m v);
    value = λ n m r l. let v = V n (read_stands n r) in
        v.2 ∙ ap (worth stored start sheet (P.cell n)) (pick n m (part_issued P t (P.reads n) n r).1 v.1 l);
    value_start = λ n r h. let v = V n (read_stands n r) in
        v.2 ∙ ap (worth stored start sheet (P.cell n)) (pick_none n (part_issued P t (P.reads n) n r).1 v.1 h);
  }
