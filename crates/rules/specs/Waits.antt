-- What a waiting rule may see of two lines, what it answers, and the law that every rule keeps.
use Rattle.std.specs.Prelude.{◌≡◌, ℕ, Bool, true, false, Some, None, Option}
use Rattle.tables.specs.declared.line.Kind.{Kind}
use Rattle.tables.specs.declared.line.Line.{Line}
use Rattle.tables.specs.Lines.{kind_of, writes}

-- all that a rule may see of a line; its operand is not there
pub record Mark : Type 0 where
  pub kind : Kind
  pub cell : ℕ
  pub barrier : ℕ

abbrev pub mark_of : Line → Mark
mark_of l = record { kind = kind_of l.access; cell = l.cell; barrier = l.barrier }

-- a rule's meaning: whether the second line must wait for the first one's store
abbrev pub Waits : Type 0
Waits = Mark → Mark → Bool

-- the law: a writing line waits for each earlier line that writes its cell
abbrev pub KeepsWrites : Waits → Type 0
KeepsWrites w = (p q : Mark) → writes p.kind ≡ true → writes q.kind ≡ true → p.cell ≡ q.cell → w p q ≡ true

-- a rule's answer on lines that may be absent: nothing waits for them, and they wait for nothing
abbrev pub waits_at : Waits → Option Line → Option Line → Bool
waits_at w None l = false
waits_at w (Some e) None = false
waits_at w (Some e) (Some l) = w (mark_of e) (mark_of l)
