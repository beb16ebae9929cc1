-- What holds of machine and sheet holds at the start and after every list of calls.
use Rattle.std.proofs.Common.{◌≡◌, ℕ, ◌-◌, ◌<◌, true, false, List, [], ◌∷◌, ◌++◌, length, Some, None, Option, sym, refl, ◌∙◌, subst, arith}
use Rattle.std.proofs.lemmas.Option.{none-some}
use Rattle.std.proofs.lemmas.Bool.{both_ways}
use Rattle.faults.specs.declared.Fault.{Fault}
use Rattle.tables.specs.Lines.{nth}
use Rattle.tables.specs.Size.{number}
use Rattle.model.specs.declared.call.Call.{Call}
use Rattle.model.specs.declared.call.Call.TheVariants.{Issue, Drain}
use Rattle.model.specs.Program.{Program}
use Rattle.model.specs.Machine.{State, fresh, next, after_issue, Run, new, words_on, issued_line, drained_line, refusal, done, unless, step, run, Accepted}
use Rattle.model.proofs.DrainKeeps.{drain_inv}
use Rattle.model.proofs.Invariant.{Issued, CanDrain, Values, CanIssue, Inv}
use Rattle.model.proofs.IssueKeeps.{issued_old, issue_inv, issued_self}
use Rattle.model.proofs.Lawful.{Lawful, Local}
use Rattle.model.proofs.Refusals.{can_drain, can_issue}
use Rattle.model.proofs.Sheets.{nth_issue, length_issue, words_issue}
use Rattle.model.proofs.WordsRead.{drain_values, issue_values}

-- calls made one after the other
module _ {M : Type 0} (P : Program) (stored : (ℕ → M) → ℕ → M) (start : ℕ → M) where
  pub run_append : (xs ys : List Call) (r : Run M) → run P stored start (xs ++ ys) r ≡ run P stored start ys (run P stored start xs r)
  run_append [] ys r = refl
  run_append (c ∷ xs) ys r = run_append xs ys (step P stored start c r)

  pub accepted_append :
      (xs ys : List Call) (r : Run M) → Accepted P stored start xs r → Accepted P stored start ys (run P stored start xs r) → Accepted P stored start (xs ++ ys) r
  accepted_append [] ys r a b = b
  accepted_append (c ∷ xs) ys r a b = (a.0, accepted_append xs ys (step P stored start c r) a.1 b)

pub fresh_inv : (P : Program) → Inv P fresh
fresh_inv P = record {
  few = λ p. omega arith;
  once = λ e. omega arith;
  rd_in = λ n r i. absurd (nothing i);
  rd_of = λ n i. absurd (nothing i);
  wr_in = λ n r i h. absurd (nothing i);
  wr_of = λ n i. absurd (nothing i);
  held_of = λ n h. absurd (both_ways false refl h);
  load_read = λ m n r e i. absurd (nothing i);
  load_write = λ m n r e i. absurd (nothing i);
  wait_write = λ m n r e w i. absurd (nothing i);
  wait_read = λ m n r e w i. absurd (nothing i);
  atom = λ n m w i. absurd (nothing i);
  half_in = λ n r h. absurd (both_ways false refl h);
  half_of = λ n h. absurd (none-some n h);
  last_is = λ c j d. nothing d.stands;
}
  where
    nothing : {n : ℕ} → n < 0 → ⊥
    nothing l = omega arith

module _ {M : Type 0} (P : Program) (L : Lawful P) (stored : (ℕ → M) → ℕ → M) (start : ℕ → M) (N : Local P stored) (sheet₀ : List M) where
  -- of a machine that was new with the sheet sheet₀
  pub record Holds (r : Run M) : Type 0 where
    pub inv : Inv P r.state
    pub values : Values P stored start r.state.order (words_on start r.sheet)
    pub size : length r.sheet ≡ length sheet₀
    pub others : (i : ℕ) → (P.reads i ≡ true → Issued P r.state i → ⊥) → nth r.sheet i ≡ nth sheet₀ i

  pub new_holds : Holds (new sheet₀)
  new_holds = record { inv = fresh_inv P; values = λ n st. let z : ⊥ = omega arith in absurd z; size = refl; others = λ i h. refl }

  pub issue_holds :
      (r : Run M) (n : ℕ) → Holds r → CanIssue P r.state n → (P.reads n ≡ true → n < length r.sheet) → Holds (issued_line P stored start r n)
  issue_holds r n H C l = record {
    inv = issue_inv P s n H.inv C;
    values = subst (Values P stored start s'.order) (sym (words_issue P stored start s r.sheet n l))
        (issue_values P L stored start N s (words_on start r.sheet) H.inv H.values n C);
    size = length_issue P stored start s r.sheet n ∙ H.size;
    others = λ i h.
        nth_issue P stored start s r.sheet n i
        (λ y e. h (subst (λ (x : ℕ). P.reads x ≡ true) (sym e) y) (subst (Issued P s') (sym e) (issued_self P s n H.inv C)))
        ∙ H.others i (λ y j. h y (issued_old P s n H.inv C i j));
  }
    where
      s : State
      s = r.state

      s' : State
      s' = after_issue P.size s n (P.reads n) (P.writes n)

  pub drain_holds : (r : Run M) (n : ℕ) → Holds r → CanDrain P r.state n → Holds (drained_line P stored start r n)
  drain_holds r n H C = record {
    inv = drain_inv P r.state n H.inv C;
    values = drain_values P L stored start N r.state (words_on start r.sheet) H.inv H.values n C;
    size = H.size;
    others = H.others;
  }

  pub step_holds : (c : Call) (r : Run M) → Holds r → Holds (step P stored start c r)
  step_holds c r H = go c (refusal P stored start c r) refl
    where
      go : (c : Call) (f : Option Fault) → refusal P stored start c r ≡ f → Holds (unless f r (done P stored start c r))
      go c (Some f) e = H
      go (Issue p) None e =
          let C = can_issue P L r.state H.inv (length r.sheet) p (p - 1) e in issue_holds r (next P r.state (p - 1)) H C.0 (λ _. C.1)
      go (Drain p l) None e = drain_holds r (number P.size (p - 1) (l - 1)) H (can_drain P L r.state H.inv p l (p - 1) (l - 1) e)

  pub run_holds : (cs : List Call) (r : Run M) → Holds r → Holds (run P stored start cs r)
  run_holds [] r H = H
  run_holds (c ∷ cs) r H = run_holds cs (step P stored start c r) (step_holds c r H)
