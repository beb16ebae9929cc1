-- The six axioms of total store order and its kin, each as a relation, and by which events each is broken.
use Rattle.std.specs.Prelude.{◌≡◌, ℕ, true, false, ◌⊎◌, List, Some, None, Option}
use Rattle.tables.specs.Size.{Earlier, rd, wr}
use Rattle.model.specs.Program.{Program}
use Rattle.model.specs.Orders.{Stands, Precedes, Once, AtMostOnce}

module _ (P : Program) (o : List ℕ) where
  -- Order: each read event stands exactly once, each write event at most once
  pub record OrderKept : Type 0 where
    pub reads_once : (n : ℕ) → P.reads n ≡ true → Once o (rd n)
    pub writes_once : (n : ℕ) → P.writes n ≡ true → AtMostOnce o (wr n)

  pub data OrderBroken (e : ℕ) : Type 0 where
    read_not_once : (n : ℕ) → P.reads n ≡ true → e ≡ rd n → (Once o e → ⊥) → OrderBroken e
    write_repeated : (n : ℕ) → P.writes n ≡ true → e ≡ wr n → (AtMostOnce o e → ⊥) → OrderBroken e

  -- Termination: each write event stands
  abbrev pub TerminationKept : Type 0
  TerminationKept = (n : ℕ) → P.writes n ≡ true → Stands o (wr n)

  pub record TerminationBroken (e : ℕ) : Type 0 where
    pub line : ℕ
    pub writes : P.writes line ≡ true
    pub is : e ≡ wr line
    pub missing : Stands o e → ⊥

-- LoadOp: a read stands before every later event of its table, its own swap's write too
pub data Follows (P : Program) (e f : ℕ) : Type 0 where
  later_read :
      (m n : ℕ) → P.reads m ≡ true → P.reads n ≡ true → Earlier P.size m n → e ≡ rd m → f ≡ rd n → Follows P e f
  later_write :
      (m n : ℕ) → P.reads m ≡ true → P.writes n ≡ true → Earlier P.size m n ⊎ (m ≡ n) → e ≡ rd m → f ≡ wr n
      → Follows P e f

-- Wait: where the rule makes a later line wait, the earlier line's write stands before the later line's write, or before its
-- read if it only loads. A swap's read is not asked for: it need not wait
pub data Awaits (P : Program) (e f : ℕ) : Type 0 where
  by_write :
      (m n : ℕ) → P.writes m ≡ true → P.writes n ≡ true → Earlier P.size m n → P.wait m n ≡ true
      → e ≡ wr m → f ≡ wr n → Awaits P e f
  by_load :
      (m n : ℕ) → P.writes m ≡ true → P.reads n ≡ true → P.writes n ≡ false → Earlier P.size m n → P.wait m n ≡ true
      → e ≡ wr m → f ≡ rd n → Awaits P e f

-- a pair that an axiom wants in this sequence, and that does not stand so
pub record Misplaced (Wanted : ℕ → ℕ → Type 0) (o : List ℕ) (e f : ℕ) : Type 0 where
  pub wanted : Wanted e f
  pub not_so : Precedes o e f → ⊥

module _ (P : Program) (o : List ℕ) where
  abbrev pub LoadOpKept : Type 0
  LoadOpKept = (e f : ℕ) → Follows P e f → Precedes o e f

  abbrev pub LoadOpBroken : ℕ → ℕ → Type 0
  LoadOpBroken = Misplaced (Follows P) o

  abbrev pub WaitKept : Type 0
  WaitKept = (e f : ℕ) → Awaits P e f → Precedes o e f

  abbrev pub WaitBroken : ℕ → ℕ → Type 0
  WaitBroken = Misplaced (Awaits P) o

  -- Atomicity: between a swap's two events no other write stands; loads may. Here the write f stands between those of the
  -- swap whose read is e
  pub record AtomicityBroken (e f : ℕ) : Type 0 where
    pub swap : ℕ
    pub other : ℕ
    pub reads : P.reads swap ≡ true
    pub writes : P.writes swap ≡ true
    pub other_writes : P.writes other ≡ true
    pub different : other ≡ swap → ⊥
    pub first : e ≡ rd swap
    pub second : f ≡ wr other
    pub after : Precedes o (rd swap) (wr other)
    pub before : Precedes o (wr other) (wr swap)

  abbrev pub AtomicityKept : Type 0
  AtomicityKept = (e f : ℕ) → AtomicityBroken e f → ⊥

  -- Value considers the writes to a read's cell that stand before it or belong to an earlier line of its table
  pub record Considered (n m : ℕ) : Type 0 where
    pub writes : P.writes m ≡ true
    pub cell : P.cell m ≡ P.cell n
    pub near : Precedes o (wr m) (rd n) ⊎ Earlier P.size m n

  -- the latest of them, by the order and not by the tables
  pub record Newest (n m : ℕ) : Type 0 where
    pub considered : Considered n m
    pub last : (j : ℕ) → Considered n j → (j ≡ m) ⊎ Precedes o (wr j) (wr m)

  -- what the read of line n should have: the write of a line, or the start word
  abbrev pub Should : ℕ → Option ℕ → Type 0
  Should n None = (m : ℕ) → Considered n m → ⊥
  Should n (Some m) = Newest n m

-- the word of a source, for a read of cell c
abbrev pub worth : {M : Type 0} → ((ℕ → M) → ℕ → M) → (ℕ → M) → (ℕ → M) → ℕ → Option ℕ → M
worth stored start words c None = start c
worth stored start words c (Some m) = stored words m

-- `stored` has the word that a line writes, given those read, and `start` that of a cell; all by meaning
module _ {M : Type 0} (P : Program) (stored : (ℕ → M) → ℕ → M) (start : ℕ → M) (o : List ℕ) (words : ℕ → M) where
  -- Value: the read's word is the same as the word of the latest of the writes considered, or as the start word if there are none
  abbrev pub ValueKept : Type 0
  ValueKept = (n : ℕ) (s : Option ℕ) → P.reads n ≡ true → Should P o n s → words n ≡ worth stored start words (P.cell n) s

  -- line n reads, should have s, and does not
  pub record ValueBroken (n : ℕ) (s : Option ℕ) : Type 0 where
    pub reads : P.reads n ≡ true
    pub should : Should P o n s
    pub wrong : words n ≡ worth stored start words (P.cell n) s → ⊥

  -- an order and its words meet the six axioms
  pub record Meets : Type 0 where
    pub order : OrderKept P o
    pub termination : TerminationKept P o
    pub load_op : LoadOpKept P o
    pub wait : WaitKept P o
    pub atomicity : AtomicityKept P o
    pub value : ValueKept
