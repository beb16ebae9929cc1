-- Where no number stands, and the fault that says so.
use Rattle.std.specs.Prelude.{◌≡◌, ℕ, ◌+◌, ◌-◌, ◌^◌, ◌<◌, min, ◌⊎◌, List, length, Result, MatchResult, slice_index, slice_index_or}
use Rattle.faults.specs.declared.Fault.{Fault}
use Rattle.faults.specs.declared.Fault.TheVariants.{NumberEnds, NumberMalformed}
use Rattle.numbers.specs.Number.{Goes, Reaches, Number}

-- a sum as a fault tells it: the largest place where it is beyond that
abbrev pub capped : ℕ → ℕ
capped n = min n (2 ^ 64 - 1)

-- the bytes end before a number of at most f groups that is due at `at` does
pub record Cut (f : ℕ) (bytes : List ℕ) (at : ℕ) : Type 0 where
  pub short : length bytes < at + f
  pub goes : Goes bytes at (length bytes)

-- the last of f groups has more than four bits, or says that another follows: a fifth byte above 0F
pub record Wide (f : ℕ) (bytes : List ℕ) (at : ℕ) : Type 0 where
  pub p : ℕ
  pub reaches : Reaches f bytes at p
  pub full : p + 1 ≡ at + f
  pub above : 15 < slice_index bytes p

-- the last of several groups is of no use: a byte 00 after another
pub record Padded (f : ℕ) (bytes : List ℕ) (at : ℕ) : Type 0 where
  pub p : ℕ
  pub reaches : Reaches f bytes at p
  pub several : at < p
  pub idle : slice_index_or bytes p 0 ≡ 0

-- the bytes at `at` make no number, however many follow
abbrev pub Spoilt : List ℕ → ℕ → Type 0
Spoilt bytes at = Wide 5 bytes at ⊎ Padded 5 bytes at

-- no number stands at `at` of a part that begins at `base`, and e says why
abbrev pub NoNumber : List ℕ → ℕ → ℕ → Fault → Type 0
NoNumber bytes base at e =
    ((e ≡ NumberEnds (capped (base + at))) × Cut 5 bytes at) ⊎ ((e ≡ NumberMalformed (capped (base + at))) × Spoilt bytes at)

-- r is what stands at `at` of a part that begins at `base`: a number and where it ends, or why there is none
abbrev pub Reads : List ℕ → ℕ → ℕ → Result (ℕ × ℕ) Fault → Type 0
Reads bytes base at r = MatchResult r (λ p. Number bytes at p.0 p.1) (λ e. NoNumber bytes base at e)
