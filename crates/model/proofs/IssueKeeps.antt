-- An issue keeps what holds of the machine.
use Rattle.std.proofs.Common.{◌≡◌, ℕ, suc, ◌<◌, ◌≤◌, Bool, true, false, cond, ◌&&◌, ◌⊎◌, List, length, Some, None, Option, sym, refl, ap, ◌∙◌, subst, inl, inr, arith}
use Rattle.std.proofs.lemmas.Bool.{cases_Bool, cases_eq, both_ways, cases_lt}
use Rattle.std.proofs.lemmas.Bool.Decides.{nat_tests}
use Rattle.tables.specs.Size.{Earlier, rd, row, wr, table}
use Rattle.tables.proofs.Numbering.{earlier_row, row_below, same_row}
use Rattle.model.specs.Program.{Program}
use Rattle.model.specs.Orders.{snoc}
use Rattle.model.specs.Machine.{after_issue, State}
use Rattle.model.proofs.Invariant.{Issued, Drained, CanIssue, Inv, LastIs}
use Rattle.model.proofs.Positions.{grow_snoc, Inside, times, times_snoc, Before, grow_place, times_none, before_grow, place, Grow, place_le}

pub once_snoc : (o : List ℕ) (x : ℕ) → place o x ≡ length o → ((e : ℕ) → times o e ≤ 1) → (e : ℕ) → times (snoc o x) e ≤ 1
once_snoc o x h k e = let a = times_snoc o x e in let b = times_none o x h in let c = k e in grind (arith, nat_tests)

maybe_grow : (b : Bool) (o : List ℕ) (x : ℕ) → (b ≡ true → place o x ≡ length o) → Grow (λ e. (b ≡ true) × (e ≡ x)) o (cond b (snoc o x) o)
maybe_grow true o x h = let G = grow_snoc o x (h refl) in
    record { old = G.old; new = new; added = λ e a. G.added e a.1; late = G.late }
  where
    new : (e : ℕ) → Inside (snoc o x) e → Inside o e ⊎ ((true ≡ true) × (e ≡ x))
    new e st = elim ((grow_snoc o x (h refl)).new e st) [ inl a ↦ inl a | inr a ↦ inr (refl, a) ]
maybe_grow false o x h = record {
  old = λ e st. (st, refl);
  new = λ e st. inl st;
  added = λ e a. absurd (both_ways false refl a.0);
  late = λ e q. omega arith;
}

maybe_once : (b : Bool) (o : List ℕ) (x : ℕ) → (b ≡ true → place o x ≡ length o) → ((e : ℕ) → times o e ≤ 1) → (e : ℕ) → times (cond b (snoc o x) o) e ≤ 1
maybe_once true o x h k e = once_snoc o x (h refl) k e
maybe_once false o x h k e = k e

-- the last drained write of a cell stays, if no write is added
pub last_grow :
    {A : ℕ → Type 0} {o o' : List ℕ} (G : Grow A o o') (P : Program) (c : ℕ) (w : Option ℕ)
    → ((j : ℕ) → P.cell j ≡ c → A (wr j) → ⊥) → LastIs P o c w → LastIs P o' c w
last_grow {o} {o'} G P c w no-new h = go w h
  where
    back : (j : ℕ) → Drained P o' c j → Drained P o c j
    back j d = elim (G.new (wr j) d.stands) [
      | inl s ↦ record { writes = d.writes; cell = d.cell; stands = s }
      | inr a ↦ absurd (no-new j d.cell a)
    ]

    go : (v : Option ℕ) → LastIs P o c v → LastIs P o' c v
    go None k = λ j d. k j (back j d)
    go (Some m) k = (
      record { writes = k.0.writes; cell = k.0.cell; stands = (G.old (wr m) k.0.stands).0 },
      λ j d. let e = back j d in let r = k.1 j e in let a = G.old (wr j) e.stands in let b = G.old (wr m) k.0.stands in omega arith,
    )

half_pick : (r w : Bool) (h : Option ℕ) (n m : ℕ) → (r ≡ true → w ≡ true → h ≡ None) → h ≡ Some m → cond (r && w) (Some n) h ≡ Some m
half_pick true true h n m c k = let q = c refl refl in cc
half_pick true false h n m c k = k
half_pick false w h n m c k = k

half_from : (r w : Bool) (h : Option ℕ) (n m : ℕ) → cond (r && w) (Some n) h ≡ Some m → ((r ≡ true) × (w ≡ true) × (m ≡ n)) ⊎ (h ≡ Some m)
half_from true true h n m e = inl (refl, refl, cc)
half_from true false h n m e = inr e
half_from false w h n m e = inr e

module _ (P : Program) (s : State) (n : ℕ) (I : Inv P s) (C : CanIssue P s n) where
  abbrev s' : State
  s' = after_issue P.size s n (P.reads n) (P.writes n)

  not_issued : Issued P s n → ⊥
  not_issued i = let c = C.next in omega arith

  pub issued_old : (m : ℕ) → Issued P s m → Issued P s' m
  issued_old m i = grind (arith, nat_tests)

  pub issued_self : Issued P s' n
  issued_self = let c = C.next in grind (arith, nat_tests)

  pub issued_new : (m : ℕ) → Issued P s' m → Issued P s m ⊎ (m ≡ n)
  issued_new m i = elim (cases_eq (table P.size m) (table P.size n)) [
    | inl e ↦ let q : s.issued (table P.size m) ≡ row P.size n = cc C.next in
        let k : row P.size m < suc (s.issued (table P.size m)) = grind (arith, nat_tests) in
        elim (cases_lt (row P.size m) (row P.size n)) [ inl l ↦ inl (omega arith) | inr l ↦ inr (same_row P.size m n e (omega arith)) ]
    | inr e ↦ inl (grind (arith, nat_tests))
  ]

  pub above_issued : (m : ℕ) → Earlier P.size m n → Issued P s m
  above_issued m e =
      let q : s.issued (table P.size m) ≡ row P.size n = cc C.next in let r = earlier_row P.size m n e in omega arith

  pub no_read : P.reads n ≡ true → place s.order (rd n) ≡ length s.order
  no_read r = elim (cases_lt (place s.order (rd n)) (length s.order)) [
    | inl l ↦ absurd (not_issued (I.rd_of n l).1)
    | inr l ↦ let p = place_le s.order (rd n) in omega arith
  ]

  pub issue_grows : Grow (λ e. (P.reads n ≡ true) × (e ≡ rd n)) s.order s'.order
  issue_grows = maybe_grow (P.reads n) s.order (rd n) no_read

  held_old : (m : ℕ) → (m ≡ n → ⊥) → s'.held m ≡ s.held m
  held_old m e = grind (arith, nat_tests)

  held_self : s'.held n ≡ P.writes n
  held_self = grind (arith, nat_tests)

  pub issued_other : (m : ℕ) → Issued P s m → m ≡ n → ⊥
  issued_other m i e = not_issued (subst (Issued P s) e i)

  rd_in : (m : ℕ) → P.reads m ≡ true → Issued P s' m → Inside s'.order (rd m)
  rd_in m r i = elim (issued_new m i) [
    | inl k ↦ (issue_grows.old (rd m) (I.rd_in m r k)).0
    | inr e ↦ (issue_grows.added (rd m) (cc, cc)).0
  ]

  rd_of : (m : ℕ) → Inside s'.order (rd m) → (P.reads m ≡ true) × Issued P s' m
  rd_of m st = elim (issue_grows.new (rd m) st) [
    | inl k ↦ let h = I.rd_of m k in (h.0, issued_old m h.1)
    | inr a ↦ let e : n ≡ m = omega arith in (cc, subst (Issued P s') e issued_self)
  ]

  wr_in : (m : ℕ) → P.writes m ≡ true → Issued P s' m → s'.held m ≡ false → Inside s'.order (wr m)
  wr_in m w i h = elim (issued_new m i) [
    | inl k ↦ (issue_grows.old (wr m) (I.wr_in m w k (sym (held_old m (issued_other m k)) ∙ h))).0
    | inr e ↦ absurd (both_ways (s'.held m) h (subst (λ x. s'.held x ≡ true) (sym e) (held_self ∙ subst (λ x. P.writes x ≡ true) e w)))
  ]

  wr_of : (m : ℕ) → Inside s'.order (wr m) → (P.writes m ≡ true) × Issued P s' m × (s'.held m ≡ false)
  wr_of m st = elim (issue_grows.new (wr m) st) [
    | inl k ↦ let h = I.wr_of m k in (h.0, issued_old m h.1, held_old m (issued_other m h.1) ∙ h.2)
    | inr a ↦ let z : ⊥ = omega arith in absurd z
  ]

  held_of : (m : ℕ) → s'.held m ≡ true → (P.writes m ≡ true) × Issued P s' m
  held_of m h = elim (cases_eq m n) [
    | inl e ↦ (subst (λ x. P.writes x ≡ true) (sym e) (sym held_self ∙ subst (λ x. s'.held x ≡ true) e h), subst (Issued P s') (sym e) issued_self)
    | inr e ↦ let k = I.held_of m (sym (held_old m e) ∙ h) in (k.0, issued_old m k.1)
  ]

  load_read : (m k : ℕ) → P.reads m ≡ true → Earlier P.size m k → Inside s'.order (rd k) → Before s'.order (rd m) (rd k)
  load_read m k r e = before_grow issue_grows (rd m) (rd k) (I.load_read m k r e) (λ a. let q : k ≡ n = omega arith in I.rd_in m r (above_issued m (subst (Earlier P.size m) q e)))

  load_write : (m k : ℕ) → P.reads m ≡ true → Earlier P.size m k ⊎ (m ≡ k) → Inside s'.order (wr k) → Before s'.order (rd m) (wr k)
  load_write m k r e = before_grow issue_grows (rd m) (wr k) (I.load_write m k r e) (λ a. omega arith)

  wait_write : (m k : ℕ) → P.writes m ≡ true → Earlier P.size m k → P.wait m k ≡ true → Inside s'.order (wr k) → Before s'.order (wr m) (wr k)
  wait_write m k r e w = before_grow issue_grows (wr m) (wr k) (I.wait_write m k r e w) (λ a. omega arith)

  wait_read : (m k : ℕ) → P.writes m ≡ true → Earlier P.size m k → P.wait m k ≡ true → Inside s'.order (rd k) → Before s'.order (wr m) (rd k)
  wait_read m k r e w = before_grow issue_grows (wr m) (rd k) (I.wait_read m k r e w) new
    where
      new : (P.reads n ≡ true) × (rd k ≡ rd n) → Inside s.order (wr m)
      new a =
          let q : k ≡ n = omega arith in
          let i = subst (Earlier P.size m) q e in
          elim (cases_Bool (s.held m)) [
            | inl h ↦ absurd (C.free a.0 m h i (subst (λ x. P.wait m x ≡ true) q w))
            | inr h ↦ I.wr_in m r (above_issued m i) h
          ]

  atom :
      (k m : ℕ) → P.writes k ≡ true → Inside s'.order (rd k) → Inside s'.order (wr m)
      → Before s'.order (rd k) (wr m) → Before s'.order (wr m) (wr k) → ⊥
  atom k m w sk sm b c = elim (issue_grows.new (wr m) sm) [
    | inr a ↦ omega arith
    | inl x ↦ let p = issue_grows.old (wr m) x in elim (issue_grows.new (rd k) sk) [
      | inr a ↦ let q = issue_grows.added (rd k) a in omega arith
      | inl y ↦ let q = issue_grows.old (rd k) y in let r = grow_place issue_grows (wr k) in I.atom k m w y x (omega arith) (omega arith)
    ]
  ]

  half_in : (m : ℕ) → P.reads m ≡ true → s'.held m ≡ true → s'.half ≡ Some m
  half_in m r h = elim (cases_eq m n) [
    | inl e ↦ let a : P.reads n ≡ true = cc in let b : P.writes n ≡ true = sym held_self ∙ subst (λ x. s'.held x ≡ true) e h in rw (a, b) (ap Some (sym e))
    | inr e ↦ let k = I.half_in m r (sym (held_old m e) ∙ h) in half_pick (P.reads n) (P.writes n) s.half n m C.whole k
  ]

  half_of : (m : ℕ) → s'.half ≡ Some m → (P.reads m ≡ true) × (s'.held m ≡ true)
  half_of m h = elim (half_from (P.reads n) (P.writes n) s.half n m h) [
    | inl a ↦ let e : n ≡ m = sym a.2 in (cc, subst (λ x. s'.held x ≡ true) e (held_self ∙ a.1))
    | inr a ↦ let k = I.half_of m a in (k.0, held_old m (issued_other m (I.held_of m k.1).1) ∙ k.1)
  ]

  few : (p : ℕ) → s'.issued p ≤ P.size.lines
  few p = elim (cases_eq p (table P.size n)) [
    | inl e ↦ let q : s.issued p ≡ row P.size n = cc C.next in let r = row_below P.size n in grind (arith, nat_tests)
    | inr e ↦ let a = I.few p in grind (arith, nat_tests)
  ]

  pub issue_inv : Inv P s'
  issue_inv = record {
    few = few;
    once = maybe_once (P.reads n) s.order (rd n) no_read I.once;
    rd_in = rd_in;
    rd_of = rd_of;
    wr_in = wr_in;
    wr_of = wr_of;
    held_of = held_of;
    load_read = load_read;
    load_write = load_write;
    wait_write = wait_write;
    wait_read = wait_read;
    atom = atom;
    half_in = half_in;
    half_of = half_of;
    last_is = λ c. last_grow issue_grows P c (s.last c) (λ j _ a. omega arith) (I.last_is c);
  }
