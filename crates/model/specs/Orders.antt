-- Where events stand in an order.
use Rattle.std.specs.Prelude.{◌≡◌, ℕ, zero, suc, ◌<◌, true, List, [], ◌∷◌, ◌++◌}
use Rattle.tables.specs.Size.{rd, wr}
use Rattle.model.specs.Program.{Program}

-- event e stands at position i
abbrev pub At : List ℕ → ℕ → ℕ → Type 0
At [] i e = ⊥
At (x ∷ o) zero e = x ≡ e
At (x ∷ o) (suc i) e = At o i e

-- one event more at the end
abbrev pub snoc : List ℕ → ℕ → List ℕ
snoc o e = o ++ (e ∷ [])

abbrev pub Stands : List ℕ → ℕ → Type 0
Stands o e = (i : ℕ) × At o i e

-- e stands somewhere before f
pub record Precedes (o : List ℕ) (e f : ℕ) : Type 0 where
  pub i : ℕ
  pub j : ℕ
  pub first : At o i e
  pub second : At o j f
  pub less : i < j

pub record Once (o : List ℕ) (e : ℕ) : Type 0 where
  pub i : ℕ
  pub is : At o i e
  pub only : (j : ℕ) → At o j e → j ≡ i

abbrev pub AtMostOnce : List ℕ → ℕ → Type 0
AtMostOnce o e = (i j : ℕ) → At o i e → At o j e → i ≡ j

-- e is the read of a line that reads, or the write of one that writes
pub data Event (P : Program) (e : ℕ) : Type 0 where
  read : (n : ℕ) → P.reads n ≡ true → e ≡ rd n → Event P e
  write : (n : ℕ) → P.writes n ≡ true → e ≡ wr n → Event P e

-- the order lists events of the tables
abbrev pub Listed : Program → List ℕ → Type 0
Listed P o = (i e : ℕ) → At o i e → Event P e
