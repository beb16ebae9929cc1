-- Which of several events, or pairs of events, is named. By which key they go is said apart from what breaks an axiom.
use Rattle.std.specs.Prelude.{ℕ, ◌≤◌}

-- table order: events go by their codes
abbrev pub by_code : ℕ → ℕ
by_code e = e

pub record Least (key : ℕ → ℕ) (B : ℕ → Type 0) (e : ℕ) : Type 0 where
  pub is : B e
  pub least : (i : ℕ) → B i → key e ≤ key i

-- the first event first, and among those with this first event the second
pub record LeastPair (key : ℕ → ℕ) (B : ℕ → ℕ → Type 0) (e f : ℕ) : Type 0 where
  pub is : B e f
  pub first : (i j : ℕ) → B i j → key e ≤ key i
  pub second : (j : ℕ) → B e j → key f ≤ key j
