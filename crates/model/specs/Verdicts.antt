-- What a verdict says of an order and its words.
use Rattle.std.specs.Prelude.{◌≡◌, ℕ, ◌<◌, ◌≤◌, List, Some, None, Ok, Err, Option, Result}
use Rattle.tables.specs.Size.{rd, wr}
use Rattle.tables.specs.declared.event.Event.{Event}
use Rattle.tables.specs.Events.{code_of, OfUnit}
use Rattle.model.specs.Program.{Program}
use Rattle.model.specs.Axioms.{OrderKept, OrderBroken, TerminationKept, TerminationBroken, LoadOpKept, LoadOpBroken, WaitKept, WaitBroken, AtomicityKept, AtomicityBroken, ValueKept, ValueBroken, Meets}
use Rattle.model.specs.Naming.{by_code, Least, LeastPair}
use Rattle.model.specs.declared.verdict.Axiom.{Axiom}
use Rattle.model.specs.declared.verdict.Axiom.TheVariants.{Order, Termination, LoadOp, Wait, Atomicity, Value}
use Rattle.model.specs.declared.verdict.Breach.{Breach}

-- the lowest broken axiom is named
abbrev pub number_of : Axiom → ℕ
number_of Order = 1
number_of Termination = 2
number_of LoadOp = 3
number_of Wait = 4
number_of Atomicity = 5
number_of Value = 6

-- an absent event has no code
abbrev pub code_if : Program → Option Event → Option ℕ
code_if P None = None
code_if P (Some e) = Some (code_of P.size e)

abbrev pub write_of : Option ℕ → Option ℕ
write_of None = None
write_of (Some m) = Some (wr m)

-- the named event is one of the unit, and so is the second if there is one
abbrev pub OfUnitIf : Program → Option Event → Type 0
OfUnitIf P None = Unit {0}
OfUnitIf P (Some e) = OfUnit P.size e

module _ {M : Type 0} (P : Program) (stored : (ℕ → M) → ℕ → M) (start : ℕ → M) (o : List ℕ) (words : ℕ → M) where
  abbrev pub Kept : Axiom → Type 0
  Kept Order = OrderKept P o
  Kept Termination = TerminationKept P o
  Kept LoadOp = LoadOpKept P o
  Kept Wait = WaitKept P o
  Kept Atomicity = AtomicityKept P o
  Kept Value = ValueKept P stored start o words

  -- the lowest read with a wrong word, and the write that it should have
  pub record WrongRead (n : ℕ) (s : Option ℕ) : Type 0 where
    pub is : ValueBroken P stored start o words n s
    pub least : (j : ℕ) (t : Option ℕ) → ValueBroken P stored start o words j t → by_code (rd n) ≤ by_code (rd j)

  -- the events, by code, that are named for a broken axiom: one alone, the lowest pair, or the lowest read with its write
  abbrev pub Names : Axiom → ℕ → Option ℕ → Type 0
  Names Order e f = Least by_code (OrderBroken P o) e × (f ≡ None)
  Names Termination e f = Least by_code (TerminationBroken P o) e × (f ≡ None)
  Names LoadOp e f = (x : ℕ) × (f ≡ Some x) × LeastPair by_code (LoadOpBroken P o) e x
  Names Wait e f = (x : ℕ) × (f ≡ Some x) × LeastPair by_code (WaitBroken P o) e x
  Names Atomicity e f = (x : ℕ) × (f ≡ Some x) × LeastPair by_code (AtomicityBroken P o) e x
  Names Value e f = (n : ℕ) × (s : Option ℕ) × (e ≡ rd n) × (f ≡ write_of s) × WrongRead n s

  -- a passing verdict says that all six hold; a broken one that every lower axiom holds, and names this one's events
  abbrev pub Judged : {T : Type 0} → Result T Breach → Type 0
  Judged (Ok t) = Meets P stored start o words
  Judged (Err b) =
      ((a : Axiom) → number_of a < number_of b.axiom → Kept a)
      × Names b.axiom (code_of P.size b.first) (code_if P b.second) × OfUnit P.size b.first × OfUnitIf P b.second
