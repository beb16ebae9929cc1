-- Forms: what may stand at a place, and what is amiss where it does not.
use Rattle.std.specs.Prelude.{◌≡◌, ℕ, ◌+◌, Bool, true, false, ◌⊎◌, List, [], ◌∷◌, ◌++◌, length, Some, None, Option, Result, MatchResult}
use Rattle.numbers.specs.Number.{Number}
use Rattle.numbers.specs.Amiss.{capped, NoNumber}
use Rattle.faults.specs.declared.Fault.{Fault}

infixr 20 ◌then◌
-- `is at x next`: x stands at `at`, and what follows begins at `next`; `amiss at e`: nothing stands at `at`, and e says why
pub record Form (X : Type 0) : Type 1 where
  pub is : ℕ → X → ℕ → Type 0
  pub amiss : ℕ → Fault → Type 0

-- r is what stands at `at`, with the place after it, or why nothing does
abbrev pub Reads : {X : Type 0} → Form X → ℕ → Result (X × ℕ) Fault → Type 0
Reads F at r = MatchResult r (λ p. F.is at p.0 p.1) (λ e. F.amiss at e)

-- r is what stands at `at`, with `next` the place after it, or why nothing does
abbrev pub Takes : {X : Type 0} → Form X → ℕ → ℕ → Result X Fault → Type 0
Takes F at next r = MatchResult r (λ x. F.is at x next) (λ e. F.amiss at e)

-- x, which takes no bytes
abbrev pub say : {X : Type 0} → X → Form X
say x = record { is = λ at y next. (y ≡ x) × (next ≡ at); amiss = λ at e. ⊥ }

-- a demand that takes no bytes: b holds, else e is amiss
abbrev pub demand : Bool → Fault → Form (Unit {0})
demand b e = record { is = λ at _ next. (b ≡ true) × (next ≡ at); amiss = λ at f. (b ≡ false) × (f ≡ e) }

-- F and then what follows from it: what is amiss is amiss with F, or F stands and what is amiss comes after it
abbrev pub ◌then◌ : {X Y : Type 0} → Form X → (X → Form Y) → Form Y
◌then◌ {X = X} F G = record {
  is = λ at y next. (x : X) × (mid : ℕ) × F.is at x mid × (G x).is mid y next;
  amiss = λ at e. F.amiss at e ⊎ ((x : X) × (mid : ℕ) × F.is at x mid × (G x).amiss mid e);
}

-- a test of a number: nothing is amiss with it, or a fault that still lacks its place
abbrev pub Test : Type 0
Test = ℕ → Option (ℕ → Fault)

-- a number stands, and the test refuses it with e
pub record Refused (bytes : List ℕ) (base : ℕ) (t : Test) (at : ℕ) (e : Fault) : Type 0 where
  pub value : ℕ
  pub next : ℕ
  pub stands : Number bytes at value next
  pub cause : ℕ → Fault
  pub fails : t value ≡ Some cause
  pub fault : e ≡ cause (capped (base + at))

-- a number that passes the test, in bytes that begin at `base`; the place of what is amiss is the number's first byte
abbrev pub tested : List ℕ → ℕ → Test → Form ℕ
tested bytes base t = record {
  is = λ at v next. Number bytes at v next × (t v ≡ None);
  amiss = λ at e. NoNumber bytes base at e ⊎ Refused bytes base t at e;
}

-- things that stand one after the other from `start` on, up to p, none of them where all is done; Item says what may follow others
pub data Run {X : Type 0} (Item : List X → Form X) (Done : List X → ℕ → Type 0) (start : ℕ) : List X → ℕ → Type 0 where
  none : {front : List X} {p : ℕ} → front ≡ [] → p ≡ start → Run Item Done start front p
  more :
      {front before : List X} {p q : ℕ} {x : X}
      → Run Item Done start before q → (Done before q → ⊥) → (Item before).is q x p → front ≡ before ++ x ∷ []
      → Run Item Done start front p

-- some things stand, not all is done, and e is amiss with the next
pub record Stops {X : Type 0} (Item : List X → Form X) (Done : List X → ℕ → Type 0) (start : ℕ) (e : Fault) : Type 0 where
  pub front : List X
  pub at : ℕ
  pub stand : Run Item Done start front at
  pub going : Done front at → ⊥
  pub stuck : (Item front).amiss at e

-- things one after the other until all is done
abbrev pub repeated : {X : Type 0} → (List X → Form X) → (List X → ℕ → Type 0) → Form (List X)
repeated Item Done = record {
  is = λ at xs next. Run Item Done at xs next × Done xs next;
  amiss = λ at e. Stops Item Done at e;
}

-- a part's bytes, all of them, as the form F says
abbrev pub inside : {X : Type 0} → List ℕ → Form X → Form X
inside part F = record {
  is = λ at x next. F.is 0 x (length part) × (next ≡ at);
  amiss = λ at e. F.amiss 0 e;
}
