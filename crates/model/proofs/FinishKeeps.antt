-- Finishing keeps what holds, and leaves nothing held.
use Rattle.std.proofs.Common.{◌≡◌, ℕ, zero, suc, ◌<◌, Bool, true, false, cond, Some, None, Option, sym, refl, ◌∙◌, subst, inl, inr, arith}
use Rattle.std.proofs.lemmas.Bool.{cases_Bool, cases_eq, both_ways}
use Rattle.std.proofs.lemmas.Bool.Decides.{nat_tests}
use Rattle.tables.specs.Size.{rd, places}
use Rattle.model.specs.Program.{Program}
use Rattle.model.specs.Machine.{sweep, State, after_drain, drain_half, finish}
use Rattle.model.proofs.DrainKeeps.{drain_inv}
use Rattle.model.proofs.Extremes.{some≢none}
use Rattle.model.proofs.Invariant.{CanDrain, Values, Inv}
use Rattle.model.proofs.Lawful.{Lawful, Local}
use Rattle.model.proofs.Positions.{place_le}
use Rattle.model.proofs.WordsRead.{drain_values}

module _ {M : Type 0} (P : Program) (L : Lawful P) (stored : (ℕ → M) → ℕ → M) (start : ℕ → M) (N : Local P stored) (sheet : ℕ → M) where
  -- what holds of a state reached from s by drains
  pub record From (s t : State) : Type 0 where
    pub inv : Inv P t
    pub values : Values P stored start t.order sheet
    pub issued : t.issued ≡ s.issued
    pub whole : t.half ≡ None

  half_can : (s : State) (I : Inv P s) (j : ℕ) → s.half ≡ Some j → CanDrain P s j
  half_can s I j e =
      let a = I.half_of j e in
      let b = I.held_of j a.1 in
      record {
        is_held = a.1;
        free = λ m h x w.
            let c = I.wait_read m j (I.held_of m h).0 x w (I.rd_in j a.0 b.1) in
            let d = place_le s.order (rd j) in
            both_ways (s.held m) (I.wr_of m (omega arith)).2 h;
        whole = λ i q. let y : i ≡ j = cc in y;
      }

  half_done : (s : State) → Inv P s → Values P stored start s.order sheet → From s (drain_half P.cell s s.half)
  half_done s I V = go s.half refl
    where
      go : (h : Option ℕ) → s.half ≡ h → From s (drain_half P.cell s h)
      go None e = record { inv = I; values = V; issued = refl; whole = e }
      go (Some j) e = let C = half_can s I j e in record {
        inv = drain_inv P s j I C;
        values = drain_values P L stored start N s sheet I V j C;
        issued = refl;
        whole = refl;
      }

  record Swept (s : State) (n : ℕ) (t : State) : Type 0 where
    from : From s t
    done : (m : ℕ) → m < n → t.held m ≡ false

  swept : (s t : State) → From s t → (n : ℕ) → Swept s n (sweep P.cell t n)
  unfolding sweep
  swept s t F zero = record { from = F; done = λ m l. let z : ⊥ = omega arith in absurd z }
  swept s t F (suc n) = go (sweep P.cell t n) (swept s t F n) ((sweep P.cell t n).held n) refl
    where
      go : (u : State) → Swept s n u → (b : Bool) → u.held n ≡ b → Swept s (suc n) (cond b (after_drain u n (P.cell n)) u)
      go u W true e =
          let I = W.from.inv in
          let C : CanDrain P u n = record {
            is_held = e;
            free = λ m h x w. both_ways (u.held m) (W.done m x.1) h;
            whole = λ j q. absurd (some≢none j (sym q ∙ W.from.whole));
          } in
          record {
            from = record {
              inv = drain_inv P u n I C;
              values = drain_values P L stored start N u sheet I W.from.values n C;
              issued = W.from.issued;
              whole = refl;
            };
            done = λ m l. elim (cases_eq m n) [ inl q ↦ grind (arith, nat_tests) | inr q ↦ let d = W.done m (omega arith) in grind (arith, nat_tests) ];
          }
      go u W false e = record {
        from = W.from;
        done = λ m l. elim (cases_eq m n) [ inl q ↦ subst (λ x. u.held x ≡ false) (sym q) e | inr q ↦ W.done m (omega arith) ];
      }

  pub finished : (s : State) → Inv P s → Values P stored start s.order sheet → From s (finish P.size P.cell s) × ((m : ℕ) → (finish P.size P.cell s).held m ≡ false)
  finished s I V = (W.from, none_held)
    where
      W : Swept s (places P.size) (finish P.size P.cell s)
      W = swept s (drain_half P.cell s s.half) (half_done s I V) (places P.size)

      none_held : (m : ℕ) → (finish P.size P.cell s).held m ≡ false
      none_held m = elim (cases_Bool ((finish P.size P.cell s).held m)) [
        | inl h ↦ W.done m (L.writes_in m (W.from.inv.held_of m h).0)
        | inr h ↦ h
      ]
