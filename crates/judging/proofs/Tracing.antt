-- The question that a read passes on comes to a read that stands before it.
use Rattle.std.proofs.Common.{◌≡◌, ℕ, ◌<◌, ◌≤◌, true, List, Some, None, Option, refl, ◌∙◌, inl, inr, arith}
use Rattle.tables.specs.Size.{Size, rd, wr}
use Rattle.tables.specs.Rows.{Rows}
use Rattle.tables.specs.View.{reads_at, copy_at, Good}
use Rattle.rules.specs.Waits.{Waits}
use Rattle.model.specs.Program.{program}
use Rattle.model.specs.Axioms.{later_read, later_write, Newest}
use Rattle.model.proofs.Positions.{place}
use Rattle.model.proofs.PlacedAxioms.{precedes_before}
use Rattle.judging.specs.Sources.{ReadsOnce}
use Rattle.judging.specs.Traces.{ReadsLead, reach}

module _ (z : Size) (ts : List Rows) (o : List ℕ) (reads : ReadsOnce z ts o) (g : Good z ts) (leads : ReadsLead z ts o) (w : Waits) where
  -- a copied read stands before the read that asks
  falls : (n m k : ℕ) → reads_at z ts n ≡ true → Newest (program z w ts) o n m → copy_at z ts m ≡ Some k → place o (rd k) < place o (rd n)
  falls n m k r x c =
      let d = g.copies m k c in
      let a = leads w (rd k) (wr m) (later_write k m d.2 x.considered.writes (inl (d.0, d.1)) refl refl) in
      elim x.considered.near [
        | inl p ↦ let b = precedes_before o (wr m) (rd n) (let t = reads n r in omega arith) p in omega arith
        | inr e ↦ leads w (rd k) (rd n) (later_read k n d.2 r (d.0 ∙ e.0, omega (arith, d.1, e.1)) refl refl)
      ]

  reach_of : (n m : ℕ) (x : Option ℕ) → reads_at z ts n ≡ true → Newest (program z w ts) o n m → copy_at z ts m ≡ x → reach o x ≤ place o (rd n)
  reach_of n m None r h c = omega arith
  reach_of n m (Some k) r h c = let f = falls n m k r h c in omega arith

  -- so the trace goes up the order
  pub reach_before : (n m : ℕ) → reads_at z ts n ≡ true → Newest (program z w ts) o n m → reach o (copy_at z ts m) ≤ place o (rd n)
  reach_before n m r h = reach_of n m (copy_at z ts m) r h refl
