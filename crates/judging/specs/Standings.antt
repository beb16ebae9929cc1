-- What the table of an order's events holds.
use Rattle.std.specs.Prelude.{◌≡◌, ℕ, ◌<◌, List, length, slice_index, slice_index_or}
use Rattle.model.proofs.Positions.{place, times}
use Rattle.judging.specs.declared.standing.Stand.{Stand}

-- every code of the order is below the number of codes
abbrev pub Codes : List ℕ → Type 0
Codes o = (i : ℕ) → i < length o → slice_index o i < 256

-- what reading past the end of a table of stands would give
abbrev pub nowhere : Stand
nowhere = record { place = 0; times = 0 }

-- where each event stands first, or the order's length where it does not, and how often it stands
abbrev pub StandsOf : List ℕ → List Stand → Type 0
StandsOf o ss =
    (e : ℕ) → e < 256
    → ((slice_index_or ss e nowhere).place ≡ place o e) × ((slice_index_or ss e nowhere).times ≡ times o e)

-- e stands before every code from the one after it up to n, but for those that do not stand
abbrev pub AheadUpTo : List ℕ → ℕ → ℕ → Type 0
AheadUpTo o e n = (f : ℕ) → e < f → f < n → place o e < place o f
