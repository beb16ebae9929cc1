-- The lines of some tables under a waiting rule, as the axioms and the machine ask for them; and kinds of word by meaning.
use Rattle.std.specs.Prelude.{ℕ, suc, Bool, List, Some, None, Option}
use Rattle.tables.specs.Size.{Size, table, row}
use Rattle.tables.specs.Rows.{Rows}
use Rattle.tables.specs.View.{line_at, reads_at, writes_at, cell_at, copy_at, number_at}
use Rattle.rules.specs.Waits.{Waits, waits_at}
use Rattle.rules.specs.declared.words.WordKind as word_kind

-- lines by number: whether they read and write, their cell, and who must wait for whom
pub record Program : Type 0 where
  pub size : Size
  pub reads : ℕ → Bool
  pub writes : ℕ → Bool
  pub cell : ℕ → ℕ
  pub wait : ℕ → ℕ → Bool

abbrev pub program : Size → Waits → List Rows → Program
program z w ts = record {
  size = z;
  reads = reads_at z ts;
  writes = writes_at z ts;
  cell = cell_at z ts;
  wait = λ m n. waits_at w (line_at z ts m) (line_at z ts n);
}

-- a kind of word by the meanings of its words: a cell's start word, and the word for a number written at a processor and
-- line; words are the same exactly when their meanings are equal, so nothing else of a word counts
pub record Words (M : Type 0) : Type 0 where
  pub start : ℕ → M
  pub written : ℕ → ℕ → ℕ → M

-- the meanings of the words of a kind that code has
abbrev pub words_of : {K W : Type 0} → (k : word_kind.Ghosts K W) → Words k.Meaning
words_of k = record { start = k.starts; written = k.writtens }

module _ {M : Type 0} where
  -- the word that a line writes if it copies none
  abbrev pub written_at : Words M → Size → List Rows → ℕ → M
  written_at K z ts m = K.written (number_at z ts m) (suc (table z m)) (suc (row z m))

  abbrev pub written_or_copied : (ℕ → M) → (ℕ → M) → ℕ → Option ℕ → M
  written_or_copied written words m None = written m
  written_or_copied written words m (Some k) = words k

  -- the word that line m writes, where `words` are those read: its written word, or the one read by the line that it copies
  abbrev pub stored_at : Words M → Size → List Rows → (ℕ → M) → ℕ → M
  stored_at K z ts words m = written_or_copied (written_at K z ts) words m (copy_at z ts m)
