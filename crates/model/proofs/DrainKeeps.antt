-- A drain keeps what holds of the machine.
use Rattle.std.proofs.Common.{◌≡◌, ℕ, true, false, cond, ◌⊎◌, length, Some, None, sym, refl, ◌∙◌, subst, inl, inr, arith}
use Rattle.std.proofs.lemmas.Option.{none-some}
use Rattle.std.proofs.lemmas.Bool.{cases_Bool, cases_eq, both_ways, eq-eqb, ne_eqb, cases_lt}
use Rattle.std.proofs.lemmas.Bool.Decides.{nat_tests}
use Rattle.tables.specs.Size.{Earlier, rd, wr}
use Rattle.model.specs.Program.{Program}
use Rattle.model.specs.Machine.{State, after_drain}
use Rattle.model.proofs.Invariant.{Issued, CanDrain, issued_earlier, Inv, LastIs}
use Rattle.model.proofs.IssueKeeps.{last_grow, once_snoc}
use Rattle.model.proofs.Positions.{grow_snoc, Inside, Before, grow_place, before_grow, place, Grow, place_le}

module _ (P : Program) (s : State) (n : ℕ) (I : Inv P s) (C : CanDrain P s n) where
  abbrev s' : State
  s' = after_drain s n (P.cell n)

  is : (P.writes n ≡ true) × Issued P s n
  is = I.held_of n C.is_held

  no_write : place s.order (wr n) ≡ length s.order
  no_write = elim (cases_lt (place s.order (wr n)) (length s.order)) [
    | inl l ↦ let z : ⊥ = both_ways (s.held n) (I.wr_of n l).2 C.is_held in absurd z
    | inr l ↦ let p = place_le s.order (wr n) in omega arith
  ]

  pub drain_grows : Grow (λ e. e ≡ wr n) s.order s'.order
  drain_grows = grow_snoc s.order (wr n) no_write

  held_old : (m : ℕ) → (m ≡ n → ⊥) → s'.held m ≡ s.held m
  held_old m e = grind (arith, nat_tests)

  held_self : s'.held n ≡ false
  held_self = grind (arith, nat_tests)

  held_still : (m : ℕ) → s'.held m ≡ true → (s.held m ≡ true) × (m ≡ n → ⊥)
  held_still m h = elim (cases_eq m n) [
    | inl e ↦ let z : ⊥ = both_ways (s'.held n) held_self (subst (λ x. s'.held x ≡ true) e h) in absurd z
    | inr e ↦ (sym (held_old m e) ∙ h, e)
  ]

  rd_in : (m : ℕ) → P.reads m ≡ true → Issued P s m → Inside s'.order (rd m)
  rd_in m r i = (drain_grows.old (rd m) (I.rd_in m r i)).0

  rd_of : (m : ℕ) → Inside s'.order (rd m) → (P.reads m ≡ true) × Issued P s m
  rd_of m st = elim (drain_grows.new (rd m) st) [ inl k ↦ I.rd_of m k | inr a ↦ let z : ⊥ = omega arith in absurd z ]

  wr_in : (m : ℕ) → P.writes m ≡ true → Issued P s m → s'.held m ≡ false → Inside s'.order (wr m)
  wr_in m w i h = elim (cases_eq m n) [
    | inl e ↦ (drain_grows.added (wr m) (cc)).0
    | inr e ↦ (drain_grows.old (wr m) (I.wr_in m w i (sym (held_old m e) ∙ h))).0
  ]

  wr_of : (m : ℕ) → Inside s'.order (wr m) → (P.writes m ≡ true) × Issued P s m × (s'.held m ≡ false)
  wr_of m st = elim (cases_eq m n) [
    | inl e ↦ (subst (λ x. P.writes x ≡ true) (sym e) is.0, subst (Issued P s) (sym e) is.1, subst (λ x. s'.held x ≡ false) (sym e) held_self)
    | inr e ↦ elim (drain_grows.new (wr m) st) [
      | inl k ↦ let h = I.wr_of m k in (h.0, h.1, held_old m e ∙ h.2)
      | inr a ↦ let z : ⊥ = omega arith in absurd z
    ]
  ]

  load_read : (m k : ℕ) → P.reads m ≡ true → Earlier P.size m k → Inside s'.order (rd k) → Before s'.order (rd m) (rd k)
  load_read m k r e = before_grow drain_grows (rd m) (rd k) (I.load_read m k r e) (λ a. omega arith)

  load_write : (m k : ℕ) → P.reads m ≡ true → Earlier P.size m k ⊎ (m ≡ k) → Inside s'.order (wr k) → Before s'.order (rd m) (wr k)
  load_write m k r e = before_grow drain_grows (rd m) (wr k) (I.load_write m k r e) new
    where
      new : wr k ≡ wr n → Inside s.order (rd m)
      new a = elim e [
        | inl x ↦ let q : k ≡ n = omega arith in I.rd_in m r (issued_earlier P s m n (subst (Earlier P.size m) q x) is.1)
        | inr x ↦ let q : n ≡ m = omega arith in I.rd_in m r (subst (Issued P s) q is.1)
      ]

  wait_write : (m k : ℕ) → P.writes m ≡ true → Earlier P.size m k → P.wait m k ≡ true → Inside s'.order (wr k) → Before s'.order (wr m) (wr k)
  wait_write m k r e w = before_grow drain_grows (wr m) (wr k) (I.wait_write m k r e w) new
    where
      new : wr k ≡ wr n → Inside s.order (wr m)
      new a =
          let q : k ≡ n = omega arith in
          let i = subst (Earlier P.size m) q e in
          elim (cases_Bool (s.held m)) [
            | inl h ↦ absurd (C.free m h i (subst (λ x. P.wait m x ≡ true) q w))
            | inr h ↦ I.wr_in m r (issued_earlier P s m n i is.1) h
          ]

  wait_read : (m k : ℕ) → P.writes m ≡ true → Earlier P.size m k → P.wait m k ≡ true → Inside s'.order (rd k) → Before s'.order (wr m) (rd k)
  wait_read m k r e w = before_grow drain_grows (wr m) (rd k) (I.wait_read m k r e w) (λ a. omega arith)

  atom :
      (k m : ℕ) → P.writes k ≡ true → Inside s'.order (rd k) → Inside s'.order (wr m)
      → Before s'.order (rd k) (wr m) → Before s'.order (wr m) (wr k) → ⊥
  atom k m w sk sm b c = elim (drain_grows.new (rd k) sk) [
    | inr a ↦ omega arith
    | inl y ↦ let q = drain_grows.old (rd k) y in let r = grow_place drain_grows (wr k) in elim (drain_grows.new (wr m) sm) [
      | inl x ↦ let p = drain_grows.old (wr m) x in I.atom k m w y x (omega arith) (omega arith)
      | inr a ↦ let p = drain_grows.added (wr m) a in elim (cases_Bool (s.held k)) [
        | inl h ↦ let z = C.whole k (I.half_in k (I.rd_of k y).0 h) in let u : m ≡ k = omega arith in let t : place s'.order (wr m) ≡ place s'.order (wr k) = cc in omega arith
        | inr h ↦ let v = I.wr_in k w (I.rd_of k y).1 h in let t = drain_grows.old (wr k) v in omega arith
      ]
    ]
  ]

  half_in : (m : ℕ) → P.reads m ≡ true → s'.held m ≡ true → None ≡ Some m
  half_in m r h = let k = held_still m h in absurd (k.1 (C.whole m (I.half_in m r k.0)))

  last_is : (c : ℕ) → LastIs P s'.order c (s'.last c)
  last_is c = elim (cases_eq c (P.cell n)) [
    | inl e ↦ subst (λ b. LastIs P s'.order c (cond b (Some n) (s.last c))) (sym (eq-eqb c (P.cell n) e)) (
      record { writes = is.0; cell = sym e; stands = (drain_grows.added (wr n) refl).0 },
      λ j d. let a = drain_grows.added (wr n) refl in elim (drain_grows.new (wr j) d.stands) [
        | inl k ↦ let t = drain_grows.old (wr j) k in omega arith
        | inr k ↦ let t = drain_grows.added (wr j) k in omega arith
      ],
    )
    | inr e ↦ subst (λ b. LastIs P s'.order c (cond b (Some n) (s.last c))) (sym (ne_eqb c (P.cell n) e))
        (last_grow drain_grows P c (s.last c) (λ j q a. let u : j ≡ n = omega arith in let t : c ≡ P.cell n = cc in e t) (I.last_is c))
  ]

  pub drain_inv : Inv P s'
  drain_inv = record {
    few = I.few;
    once = once_snoc s.order (wr n) no_write I.once;
    rd_in = rd_in;
    rd_of = rd_of;
    wr_in = wr_in;
    wr_of = wr_of;
    held_of = λ m h. I.held_of m (held_still m h).0;
    load_read = load_read;
    load_write = load_write;
    wait_write = wait_write;
    wait_read = wait_read;
    atom = atom;
    half_in = half_in;
    half_of = λ m h. absurd (none-some m h);
    last_is = last_is;
  }
