-- What the proofs ask of a program and of what its lines write; good tables under a rule with its law have it.
use Rattle.std.proofs.Common.{◌≡◌, ℕ, ◌<◌, true, ◌⊎◌}
use Rattle.tables.specs.Size.{Earlier, places}
use Rattle.model.specs.Program.{Program}

-- there is a line n
abbrev pub LineIn : Program → ℕ → Type 0
LineIn P n = (P.reads n ≡ true) ⊎ (P.writes n ≡ true)

-- no table has a gap, no line is beyond the size, and a writing line waits for each earlier one that writes its cell
pub record Lawful (P : Program) : Type 0 where
  pub dense : (m n : ℕ) → Earlier P.size m n → LineIn P n → LineIn P m
  pub reads_in : (n : ℕ) → P.reads n ≡ true → n < places P.size
  pub writes_in : (n : ℕ) → P.writes n ≡ true → n < places P.size
  pub wait_law :
      (m n : ℕ) → Earlier P.size m n → P.writes m ≡ true → P.writes n ≡ true → P.cell m ≡ P.cell n → P.wait m n ≡ true

-- what a line writes depends on what its table has read up to it, itself included
abbrev pub Local : {M : Type 0} → Program → ((ℕ → M) → ℕ → M) → Type 0
Local {M} P stored =
    (sheet sheet' : ℕ → M) (m : ℕ)
    → ((k : ℕ) → P.reads k ≡ true → Earlier P.size k m ⊎ (k ≡ m) → sheet k ≡ sheet' k) → stored sheet m ≡ stored sheet' m
