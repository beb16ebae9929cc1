-- The words of a sheet, by their meanings.
use Rattle.std.specs.Prelude.{ℕ, List, map}
use Rattle.model.specs.Machine.{words_on as meanings_on}
use Rattle.rules.specs.declared.words.WordKind as word_kind

-- what the words of a sheet mean; past its end, where no line has its place, cell 0's start word
abbrev pub words_on : {K W : Type 0} → (k : word_kind.Ghosts K W) → List W → ℕ → k.Meaning
words_on k xs = meanings_on k.starts (map k.meaning xs)
