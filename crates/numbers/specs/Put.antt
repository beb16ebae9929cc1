-- Bytes written into a list of bytes.
use Rattle.std.specs.Prelude.{◌≡◌, ℕ, ◌+◌, ◌<◌, ◌≤◌, List, ◌++◌, length, take, drop, Result, MatchResult}
use Rattle.faults.specs.declared.Fault.{Fault}
use Rattle.faults.specs.declared.Fault.TheVariants.{OutputShort}
use Rattle.numbers.specs.Amiss.{capped}

-- ys is xs with the bytes bs written at `at`, up to `next`
pub record Put (bs xs : List ℕ) (at next : ℕ) (ys : List ℕ) : Type 0 where
  pub after : ys ≡ take at xs ++ (bs ++ drop next xs)
  pub ends : next ≡ at + length bs
  pub within : next ≤ length xs

-- ys is xs without room for the bytes bs at `at`, left as it was, and e tells the length needed
pub record NoRoom (bs xs : List ℕ) (at : ℕ) (e : Fault) (ys : List ℕ) : Type 0 where
  pub same : ys ≡ xs
  pub short : length xs < at + length bs
  pub fault : e ≡ OutputShort (capped (at + length bs))

-- writing the bytes bs at `at` of xs leaves ys and gives the place after them, or there is no room and nothing is written
abbrev pub Writes : List ℕ → List ℕ → ℕ → Result ℕ Fault → List ℕ → Type 0
Writes bs xs at r ys = MatchResult r (λ next. Put bs xs at next ys) (λ e. NoRoom bs xs at e ys)
