-- What a search for the first, or the lowest pair, finds.
use Rattle.std.specs.Prelude.{◌≡◌, ℕ, ◌<◌, Bool, true, false, List, length, Some, None, Option, MatchOption, slice_index}

-- no number passes the test; none below n does
abbrev pub Clear : (ℕ → Bool) → Type 0
Clear b = (j : ℕ) → b j ≡ false

abbrev pub ClearBelow : (ℕ → Bool) → ℕ → Type 0
ClearBelow b n = (j : ℕ) → j < n → b j ≡ false

-- the lowest number that passes, if one does
abbrev pub Lowest : (ℕ → Bool) → Option ℕ → Type 0
Lowest b r = MatchOption r (Clear b) (λ e. (b e ≡ true) × ClearBelow b e)

-- the lowest pair that passes, first number first
abbrev pub LowestPair : (ℕ → ℕ → Bool) → Option (ℕ × ℕ) → Type 0
LowestPair b r =
    MatchOption r ((i : ℕ) → Clear (b i)) (λ p. (b p.0 p.1 ≡ true) × ClearBelow (b p.0) p.1 × ((i : ℕ) → i < p.0 → Clear (b i)))

-- of the numbers below n, the first whose row gives something, with what it gives
pub record FirstRow (Row : ℕ → Option ℕ → Type 0) (n : ℕ) (r : Option (ℕ × ℕ)) : Type 0 where
  pub found :
      MatchOption r ((i : ℕ) → i < n → Row i None) (λ p. (p.0 < n) × Row p.0 (Some p.1) × ((i : ℕ) → i < p.0 → Row i None))

-- the first n numbers of a list pass
abbrev pub AllBelow : (ℕ → Bool) → List ℕ → ℕ → Type 0
AllBelow b o n = (i : ℕ) → i < n → b (slice_index o i) ≡ true

-- the first position of a list whose number does not pass, if there is one
abbrev pub FirstNot : (ℕ → Bool) → List ℕ → Option ℕ → Type 0
FirstNot b o r = MatchOption r (AllBelow b o (length o)) (λ i. (i < length o) × (b (slice_index o i) ≡ false) × AllBelow b o i)
