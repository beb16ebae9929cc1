-- By the axioms a read has the word of its source.
use Rattle.std.proofs.Common.{◌≡◌, ℕ, true, List, Option, sym, ◌∙◌, inl, inr, arith}
use Rattle.std.proofs.lemmas.Bool.{cases_eq}
use Rattle.tables.specs.Size.{Earlier, wr}
use Rattle.model.specs.Program.{Program}
use Rattle.model.specs.Axioms.{worth}
use Rattle.model.proofs.Invariant.{old, own_or_old, own, Source, nil}
use Rattle.model.proofs.Lawful.{Lawful}
use Rattle.model.proofs.PlacedAxioms.{Placed}
use Rattle.model.proofs.Positions.{place}

module _ {M : Type 0} (P : Program) (L : Lawful P) (stored : (ℕ → M) → ℕ → M) (start : ℕ → M) (o : List ℕ) (words : ℕ → M) (A : Placed P stored start o words) where
  pub source_word : (n : ℕ) → P.reads n ≡ true → {w : Option ℕ} → Source P o n w → words n ≡ worth stored start words (P.cell n) w
  source_word n r (own {m = k} c h) = A.value n k r (record {
    concerns = record { writes = c.writes; cell = c.cell; near = inr c.earlier };
    last = λ j d. elim (own_or_old P o n j d) [
      | inr x ↦ let b = x.before in let e = c.late in omega arith
      | inl x ↦ let b = h j x in elim (cases_eq j k) [
        | inl e ↦ let t : place o (wr j) ≡ place o (wr k) = cc in omega arith
        | inr e ↦ let u = x.earlier in let v = c.earlier in let f : Earlier P.size j k = omega arith in
            let q = A.wait_write j k x.writes c.writes f (L.wait_law j k f x.writes c.writes (x.cell ∙ sym c.cell)) in omega arith
      ]
    ];
  })
  source_word n r (old {m = k} u c h) = A.value n k r (record {
    concerns = record { writes = c.writes; cell = c.cell; near = inl c.before };
    last = λ j d. elim (own_or_old P o n j d) [ inl x ↦ absurd (u j x) | inr x ↦ h j x ];
  })
  source_word n r (nil u h) = A.value_start n r (λ j d. elim (own_or_old P o n j d) [ inl x ↦ u j x | inr x ↦ h j x ])
