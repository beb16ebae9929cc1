-- The trace of a read to the written or start word that it comes from.
use Rattle.std.specs.Prelude.{◌≡◌, ℕ, zero, suc, ◌≤◌, Bool, cond, List, Some, None, Option}
use Rattle.tables.specs.Size.{places}
use Rattle.tables.specs.LineIds.{line_id, place_of}
use Rattle.rules.specs.declared.words.Origin.{Origin}
use Rattle.rules.specs.declared.words.Origin.TheVariants.{Start, Line}
use Rattle.model.specs.Program.{Program}
use Rattle.model.specs.Axioms.{Should}

-- the end at a line's written word, which is told by processor and line
abbrev pub end_at : Program → ℕ → Origin
end_at P m = Line (line_id P.size m)

-- a read passes the question to the write that it should have, and a copying write passes it back to the read it copied; here
-- from the read of a line, and from the write of a line, to an end, with so many reads met. `copy` has the line that a line copies
mutual
  pub data ReadTrace (P : Program) (copy : ℕ → Option ℕ) (o : List ℕ) : ℕ → Origin → ℕ → Type 0 where
    at_start : {n r : ℕ} {e : Origin} → Should P o n None → e ≡ Start (P.cell n) → r ≡ 1 → ReadTrace P copy o n e r
    at_write :
        {n r : ℕ} {e : Origin} (m s : ℕ) → Should P o n (Some m) → WriteTrace P copy o m e s → r ≡ suc s → ReadTrace P copy o n e r

  pub data WriteTrace (P : Program) (copy : ℕ → Option ℕ) (o : List ℕ) : ℕ → Origin → ℕ → Type 0 where
    at_end : {m s : ℕ} {e : Origin} → copy m ≡ None → e ≡ end_at P m → s ≡ 0 → WriteTrace P copy o m e s
    at_copy : {m s : ℕ} {e : Origin} (k : ℕ) → copy m ≡ Some k → ReadTrace P copy o k e s → WriteTrace P copy o m e s

-- the word at an end: that written there, or the cell's start
abbrev pub found : {M : Type 0} → Program → (ℕ → M) → (ℕ → M) → Origin → M
found P written start (Line l) = written (place_of P.size l)
found P written start (Start c) = start c

-- how many numbers below a bound pass a test
unfoldable pub tally : (ℕ → Bool) → ℕ → ℕ
tally f zero = 0
tally f (suc n) = cond (f n) (suc (tally f n)) (tally f n)

-- how many reads the tables have
abbrev pub reads_in : Program → ℕ
reads_in P = tally P.reads (places P.size)

-- the trace of n ends, at one end with one count, which is at most the reads in the tables, and finds the word read
pub record Traced {M : Type 0} (P : Program) (copy : ℕ → Option ℕ) (written start : ℕ → M) (o : List ℕ) (words : ℕ → M) (n : ℕ) : Type 0 where
  pub ends : (e : Origin) × ((r : ℕ) × ReadTrace P copy o n e r)
  pub one : (e e' : Origin) (r r' : ℕ) → ReadTrace P copy o n e r → ReadTrace P copy o n e' r' → (e ≡ e') × (r ≡ r')
  pub few : (e : Origin) (r : ℕ) → ReadTrace P copy o n e r → r ≤ reads_in P
  pub finds : (e : Origin) (r : ℕ) → ReadTrace P copy o n e r → found P written start e ≡ words n
