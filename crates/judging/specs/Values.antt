-- Reads with the right word and with a wrong one, as the search for the lowest finds them.
use Rattle.std.specs.Prelude.{◌≡◌, ℕ, ◌<◌, true, Option, MatchOption}
use Rattle.model.specs.Axioms.{Should, worth, ValueBroken}
use Rattle.judging.specs.Case.{Case}

module _ {M : Type 0} (c : Case M) where
  -- line n, if it reads, has the word that it should have
  abbrev pub Right : ℕ → Type 0
  Right n =
      (s : Option ℕ) → c.program.reads n ≡ true → Should c.program c.order n s
      → c.words n ≡ worth c.stored c.start c.words (c.program.cell n) s

  -- line n reads, should have s, and does not
  abbrev pub Wrong : ℕ → Option ℕ → Type 0
  Wrong n s = ValueBroken c.program c.stored c.start c.order c.words n s

  -- what the check of one read finds, and of all
  abbrev pub Checked : ℕ → Option (Option ℕ) → Type 0
  Checked n r = MatchOption r (Right n) (λ s. Wrong n s)

  abbrev pub AllChecked : Option (ℕ × Option ℕ) → Type 0
  AllChecked r = MatchOption r ((n : ℕ) → Right n) (λ p. Wrong p.0 p.1 × ((j : ℕ) → j < p.0 → Right j))
