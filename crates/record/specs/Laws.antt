-- What is proved of reading, in its own words.
use Rattle.std.specs.Prelude.{◌≡◌, ℕ, List, length, Result, MatchResult}
use Rattle.faults.specs.declared.Fault.{Fault}
use Rattle.record.specs.Record.{Said, read_form}

-- what bytes say to a reader with a sheet of so many places and an output of such a length: contents, or the first fault
abbrev pub Says : List ℕ → ℕ → ℕ → Result Said Fault → Type 0
Says bytes sheet output r = MatchResult r (λ s. (read_form bytes sheet output).is 0 s (length bytes)) (λ e. (read_form bytes sheet output).amiss 0 e)

-- the bytes say one thing
abbrev pub SaysOne : List ℕ → ℕ → ℕ → Type 0
SaysOne bytes sheet output = (r s : Result Said Fault) → Says bytes sheet output r → Says bytes sheet output s → r ≡ s
