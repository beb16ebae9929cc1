-- What holds of the machine between two calls.
use Rattle.std.proofs.Common.{◌≡◌, ℕ, ◌<◌, ◌≤◌, true, false, ◌⊎◌, List, Some, None, Option, sym, ap, subst, inl, inr, arith}
use Rattle.std.proofs.lemmas.Bool.{cases_lt}
use Rattle.tables.specs.Size.{Earlier, rd, row, wr, table}
use Rattle.tables.proofs.Numbering.{earlier_row}
use Rattle.model.specs.Program.{Program}
use Rattle.model.specs.Axioms.{worth}
use Rattle.model.specs.Machine.{State}
use Rattle.model.proofs.PlacedAxioms.{Concerns}
use Rattle.model.proofs.Positions.{Inside, times, Before, place, Keeps}

abbrev pub Issued : Program → State → ℕ → Type 0
Issued P s n = row P.size n < s.issued (table P.size n)

pub issued_earlier : (P : Program) (s : State) (m n : ℕ) → Earlier P.size m n → Issued P s n → Issued P s m
issued_earlier P s m n e i =
    let q : s.issued (table P.size m) ≡ s.issued (table P.size n) = ap s.issued e.0 in
    let r = earlier_row P.size m n e in omega arith

pub issued_up_to : (P : Program) (s : State) (m n : ℕ) → Earlier P.size m n ⊎ (m ≡ n) → Issued P s n → Issued P s m
issued_up_to P s m n (inl e) i = issued_earlier P s m n e i
issued_up_to P s m n (inr e) i = subst (Issued P s) (sym e) i

-- a write to n's cell, of an earlier line of its table, that does not stand before n's read
pub record Own (P : Program) (o : List ℕ) (n m : ℕ) : Type 0 where
  pub writes : P.writes m ≡ true
  pub cell : P.cell m ≡ P.cell n
  pub earlier : Earlier P.size m n
  pub late : place o (rd n) ≤ place o (wr m)

-- a write to n's cell that stands before n's read
pub record Old (P : Program) (o : List ℕ) (n m : ℕ) : Type 0 where
  pub writes : P.writes m ≡ true
  pub cell : P.cell m ≡ P.cell n
  pub before : Before o (wr m) (rd n)

pub own_or_old : (P : Program) (o : List ℕ) (n m : ℕ) → Concerns P o n m → Own P o n m ⊎ Old P o n m
own_or_old P o n m c = elim (cases_lt (place o (wr m)) (place o (rd n))) [
  | inl l ↦ inr (record { writes = c.writes; cell = c.cell; before = l })
  | inr l ↦ elim c.near [
    | inl b ↦ let z : ⊥ = omega arith in absurd z
    | inr e ↦ inl (record { writes = c.writes; cell = c.cell; earlier = e; late = l })
  ]
]

-- the write that the read of n takes its word from
pub data Source (P : Program) (o : List ℕ) (n : ℕ) : Option ℕ → Type 0 where
  own : {m : ℕ} → Own P o n m → ((j : ℕ) → Own P o n j → j ≤ m) → Source P o n (Some m)
  old : {m : ℕ} → ((j : ℕ) → Own P o n j → ⊥) → Old P o n m → ((j : ℕ) → Old P o n j → place o (wr j) ≤ place o (wr m)) → Source P o n (Some m)
  nil : ((j : ℕ) → Own P o n j → ⊥) → ((j : ℕ) → Old P o n j → ⊥) → Source P o n None

-- a write to cell c that stands
pub record Drained (P : Program) (o : List ℕ) (c m : ℕ) : Type 0 where
  pub writes : P.writes m ≡ true
  pub cell : P.cell m ≡ c
  pub stands : Inside o (wr m)

abbrev pub LastIs : Program → List ℕ → ℕ → Option ℕ → Type 0
LastIs P o c None = (j : ℕ) → Drained P o c j → ⊥
LastIs P o c (Some m) = Drained P o c m × ((j : ℕ) → Drained P o c j → place o (wr j) ≤ place o (wr m))

pub record Inv (P : Program) (s : State) : Type 0 where
  -- no table has more lines issued than it may have, and no event stands twice
  pub few : (p : ℕ) → s.issued p ≤ P.size.lines
  pub once : (e : ℕ) → times s.order e ≤ 1
  -- the reads of issued lines stand, and so do their writes that are not held; no others do
  pub rd_in : (n : ℕ) → P.reads n ≡ true → Issued P s n → Inside s.order (rd n)
  pub rd_of : (n : ℕ) → Inside s.order (rd n) → (P.reads n ≡ true) × Issued P s n
  pub wr_in : (n : ℕ) → P.writes n ≡ true → Issued P s n → s.held n ≡ false → Inside s.order (wr n)
  pub wr_of : (n : ℕ) → Inside s.order (wr n) → (P.writes n ≡ true) × Issued P s n × (s.held n ≡ false)
  pub held_of : (n : ℕ) → s.held n ≡ true → (P.writes n ≡ true) × Issued P s n
  -- what stands keeps the axioms on pairs
  pub load_read : (m n : ℕ) → P.reads m ≡ true → Earlier P.size m n → Inside s.order (rd n) → Before s.order (rd m) (rd n)
  pub load_write : (m n : ℕ) → P.reads m ≡ true → Earlier P.size m n ⊎ (m ≡ n) → Inside s.order (wr n) → Before s.order (rd m) (wr n)
  pub wait_write : (m n : ℕ) → P.writes m ≡ true → Earlier P.size m n → P.wait m n ≡ true → Inside s.order (wr n) → Before s.order (wr m) (wr n)
  pub wait_read : (m n : ℕ) → P.writes m ≡ true → Earlier P.size m n → P.wait m n ≡ true → Inside s.order (rd n) → Before s.order (wr m) (rd n)
  pub atom :
      (n m : ℕ) → P.writes n ≡ true → Inside s.order (rd n) → Inside s.order (wr m)
      → Before s.order (rd n) (wr m) → Before s.order (wr m) (wr n) → ⊥
  -- the half-done swap is the held line that reads, and last has each cell's last write
  pub half_in : (n : ℕ) → P.reads n ≡ true → s.held n ≡ true → s.half ≡ Some n
  pub half_of : (n : ℕ) → s.half ≡ Some n → (P.reads n ≡ true) × (s.held n ≡ true)
  pub last_is : (c : ℕ) → LastIs P s.order c (s.last c)

-- each word read came from its source
abbrev pub Values : {M : Type 0} → Program → ((ℕ → M) → ℕ → M) → (ℕ → M) → List ℕ → (ℕ → M) → Type 0
Values P stored start o sheet =
    (n : ℕ) → Inside o (rd n) → (w : Option ℕ) × Source P o n w × (sheet n ≡ worth stored start sheet (P.cell n) w)

-- what must hold for line n to be issued, and for its write to be drained
pub record CanIssue (P : Program) (s : State) (n : ℕ) : Type 0 where
  pub next : row P.size n ≡ s.issued (table P.size n)
  pub free : P.reads n ≡ true → (m : ℕ) → s.held m ≡ true → Earlier P.size m n → P.wait m n ≡ true → ⊥
  pub whole : P.reads n ≡ true → P.writes n ≡ true → s.half ≡ None

pub record CanDrain (P : Program) (s : State) (n : ℕ) : Type 0 where
  pub is_held : s.held n ≡ true
  pub free : (m : ℕ) → s.held m ≡ true → Earlier P.size m n → P.wait m n ≡ true → ⊥
  pub whole : (j : ℕ) → s.half ≡ Some j → j ≡ n

-- a source stays a source as the order grows
module _ {o o' : List ℕ} (K : Keeps o o') (P : Program) (n : ℕ) (st : Inside o (rd n)) where
  own_grow : (m : ℕ) → Own P o n m → Own P o' n m
  own_grow m c = record {
    writes = c.writes;
    cell = c.cell;
    earlier = c.earlier;
    late = let a = K (rd n) in let b = K (wr m) in omega arith;
  }

  own_back : (m : ℕ) → Own P o' n m → Own P o n m
  own_back m c = record {
    writes = c.writes;
    cell = c.cell;
    earlier = c.earlier;
    late = let a = K (rd n) in let b = K (wr m) in omega arith;
  }

  old_grow : (m : ℕ) → Old P o n m → Old P o' n m
  old_grow m c = record {
    writes = c.writes;
    cell = c.cell;
    before = let a = K (rd n) in let b = K (wr m) in omega arith;
  }

  old_back : (m : ℕ) → Old P o' n m → Old P o n m
  old_back m c = record {
    writes = c.writes;
    cell = c.cell;
    before = let a = K (rd n) in let b = K (wr m) in omega arith;
  }

  pub source_grow : {w : Option ℕ} → Source P o n w → Source P o' n w
  source_grow (own c h) = own (own_grow _ c) (λ j d. h j (own_back j d))
  source_grow (old {m = m} k c h) =
      old (λ j d. k j (own_back j d)) (old_grow m c)
      (λ j d. let e = old_back j d in let r = h j e in let f = c.before in let g = e.before in
      let a = K (wr m) in let b = K (wr j) in omega arith)
  source_grow (nil k h) = nil (λ j d. k j (own_back j d)) (λ j d. h j (old_back j d))
