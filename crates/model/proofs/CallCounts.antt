-- Accepted calls that complete a machine are as many as the tables have lines and writes.
use Rattle.std.proofs.Common.{◌≡◌, ℕ, suc, ◌+◌, ◌-◌, ◌<◌, Bool, true, false, not, ◌&&◌, ◌||◌, List, [], ◌∷◌, length, None, Option, sym, refl, ap, ◌∙◌, subst, inl, inr, arith}
use Rattle.std.proofs.lemmas.Bool.{cases_eq, and_parts, or_cases, and_from, and_left, and_right, or_left, or_right, lt-ltb, le-ltb, ltb-true}
use Rattle.std.proofs.lemmas.Bool.Decides.{nat_tests}
use Rattle.faults.specs.declared.Fault.{Fault}
use Rattle.faults.specs.declared.Fault.TheVariants.{NoLineLeft}
use Rattle.tables.specs.Size.{number, table, row, places}
use Rattle.model.specs.declared.call.Call.{Call}
use Rattle.model.specs.declared.call.Call.TheVariants.{Issue, Drain}
use Rattle.model.specs.Program.{Program}
use Rattle.model.specs.Machine.{State, has_next, next, issue_tests, after_issue, after_drain, Run, new, refusal, done, unless, step, run, Accepted, Completed}
use Rattle.model.specs.Schedule.{lines_in, writes_in}
use Rattle.model.specs.Trace.{tally}
use Rattle.model.proofs.CompletedMeets.{all_issued}
use Rattle.model.proofs.Counts.{tally_same, tally_more, tally_none}
use Rattle.model.proofs.Invariant.{CanIssue, CanDrain, Inv}
use Rattle.model.proofs.IssueKeeps.{issued_old, issued_new, issued_self}
use Rattle.model.proofs.Lawful.{Lawful, LineIn, Local}
use Rattle.model.proofs.OrderMeets.{is_issued}
use Rattle.model.proofs.Refusals.{first_none, ask_none, line_in, can_issue, can_drain}
use Rattle.model.proofs.Runs.{Holds, step_holds, new_holds}

-- two tests of which each passes if the other does
same_test : (a b : Bool) → (a ≡ true → b ≡ true) → (b ≡ true → a ≡ true) → a ≡ b
same_test true b f g = sym (f refl)
same_test false true f g = g refl
same_test false false f g = refl

-- whether there is a line n and it is issued, and whether its write has been drained
abbrev counts_issued : Program → State → ℕ → Bool
counts_issued P s n = (P.reads n || P.writes n) && is_issued P s.issued n

abbrev counts_drained : Program → State → ℕ → Bool
counts_drained P s n = (P.writes n && is_issued P s.issued n) && not (s.held n)

-- how many calls have led there
abbrev made : Program → State → ℕ
made P s = tally (counts_issued P s) (places P.size) + tally (counts_drained P s) (places P.size)

fresh_drained : (w i h : Bool) → (w && i) ≡ false → ((w && i) && not h) ≡ false
fresh_drained w i h e = and_left (w && i) (not h) e

own_write : (w i : Bool) → ((w && i) && not w) ≡ false
own_write true true = refl
own_write true false = refl
own_write false i = refl

line_test : (P : Program) (n : ℕ) → LineIn P n → (P.reads n || P.writes n) ≡ true
line_test P n (inl r) = or_left (P.reads n) (P.writes n) r
line_test P n (inr w) = or_right (P.reads n) (P.writes n) w

module _ (P : Program) (L : Lawful P) (s : State) (n : ℕ) (I : Inv P s) where
  module _ (C : CanIssue P s n) (x : LineIn P n) where
    abbrev s₁ : State
    s₁ = after_issue P.size s n (P.reads n) (P.writes n)

    not_yet : is_issued P s.issued n ≡ false
    not_yet = le-ltb (row P.size n) (s.issued (table P.size n)) (let c = C.next in omega arith)

    now_issued : is_issued P s₁.issued n ≡ true
    now_issued = lt-ltb (row P.size n) (s₁.issued (table P.size n)) (issued_self P s n I C)

    other_issued : (m : ℕ) → (m ≡ n → ⊥) → is_issued P s.issued m ≡ is_issued P s₁.issued m
    other_issued m d = same_test (is_issued P s.issued m) (is_issued P s₁.issued m)
        (λ e. lt-ltb (row P.size m) (s₁.issued (table P.size m)) (issued_old P s n I C m (ltb-true (row P.size m) (s.issued (table P.size m)) e)))
        (λ e. elim (issued_new P s n I C m (ltb-true (row P.size m) (s₁.issued (table P.size m)) e)) [
          | inl i ↦ lt-ltb (row P.size m) (s.issued (table P.size m)) i
          | inr q ↦ absurd (d q)
        ])

    other_held : (m : ℕ) → (m ≡ n → ⊥) → s₁.held m ≡ s.held m
    other_held m d = grind (arith, nat_tests)

    held_now : s₁.held n ≡ P.writes n
    held_now = grind (arith, nat_tests)

    inside : n < places P.size
    inside = elim x [ inl r ↦ L.reads_in n r | inr w ↦ L.writes_in n w ]

    same_drained : (m : ℕ) → counts_drained P s m ≡ counts_drained P s₁ m
    same_drained m = elim (cases_eq m n) [
      | inl e ↦ subst (λ (k : ℕ). counts_drained P s k ≡ counts_drained P s₁ k) (sym e)
          (fresh_drained (P.writes n) (is_issued P s.issued n) (s.held n) (and_right (P.writes n) (is_issued P s.issued n) not_yet)
          ∙ sym (ap (λ (b : Bool). (P.writes n && is_issued P s₁.issued n) && not b) held_now ∙ own_write (P.writes n) (is_issued P s₁.issued n)))
      | inr d ↦ ap (λ (b : Bool). (P.writes m && b) && not (s.held m)) (other_issued m d)
          ∙ ap (λ (b : Bool). (P.writes m && is_issued P s₁.issued m) && not b) (sym (other_held m d))
    ]

    pub issue_made : made P s₁ ≡ suc (made P s)
    issue_made =
        let a = tally_more (counts_issued P s) (counts_issued P s₁) (places P.size) n inside
        (and_right (P.reads n || P.writes n) (is_issued P s.issued n) not_yet)
        (and_from (P.reads n || P.writes n) (is_issued P s₁.issued n) (line_test P n x) now_issued)
        (λ m d. ap (λ (b : Bool). (P.reads m || P.writes m) && b) (other_issued m d)) in
        let b = tally_same (counts_drained P s) (counts_drained P s₁) (places P.size) same_drained in
        omega arith

  module _ (C : CanDrain P s n) where
    abbrev s₂ : State
    s₂ = after_drain s n (P.cell n)

    other_kept : (m : ℕ) → (m ≡ n → ⊥) → s.held m ≡ s₂.held m
    other_kept m d = grind (arith, nat_tests)

    gone : s₂.held n ≡ false
    gone = grind (arith, nat_tests)

    pub drain_made : made P s₂ ≡ suc (made P s)
    drain_made =
        let h = I.held_of n C.is_held in
        let w = and_from (P.writes n) (is_issued P s.issued n) h.0 (lt-ltb (row P.size n) (s.issued (table P.size n)) h.1) in
        let a = tally_more (counts_drained P s) (counts_drained P s₂) (places P.size) n (L.writes_in n h.0)
        (and_right (P.writes n && is_issued P s.issued n) (not (s.held n)) (ap not C.is_held))
        (and_from (P.writes n && is_issued P s.issued n) (not (s₂.held n)) w (ap not gone))
        (λ m d. ap (λ (b : Bool). (P.writes m && is_issued P s.issued m) && not b) (other_kept m d)) in
        omega arith

module _ {M : Type 0} (P : Program) (L : Lawful P) (stored : (ℕ → M) → ℕ → M) (start : ℕ → M) (N : Local P stored) (sheet₀ : List M) where
  step_made : (c : Call) (r : Run M) → Holds P L stored start N sheet₀ r → refusal P stored start c r ≡ None → made P (step P stored start c r).state ≡ suc (made P r.state)
  step_made c r H e = ap (λ (f : Option Fault). made P (unless f r (done P stored start c r)).state) e ∙ go c e
    where
      go : (c : Call) → refusal P stored start c r ≡ None → made P (done P stored start c r).state ≡ suc (made P r.state)
      go (Issue p) e =
          let C = can_issue P L r.state H.inv (length r.sheet) p (p - 1) e in
          let a = first_none (issue_tests P r.state (length r.sheet) p (p - 1)) e in
          let h = line_in P (p - 1) (r.state.issued (p - 1)) (ask_none (NoLineLeft p) (has_next P r.state (p - 1)) a.1.1.0) in
          issue_made P L r.state (next P r.state (p - 1)) H.inv C.0 h.1
      go (Drain p l) e =
          drain_made P L r.state (number P.size (p - 1) (l - 1)) H.inv (can_drain P L r.state H.inv p l (p - 1) (l - 1) e)

  calls_made :
      (cs : List Call) (r : Run M) → Holds P L stored start N sheet₀ r → Accepted P stored start cs r
      → made P (run P stored start cs r).state ≡ length cs + made P r.state
  calls_made [] r H a = omega arith
  calls_made (c ∷ cs) r H a =
      let i = calls_made cs (step P stored start c r) (step_holds P L stored start N sheet₀ c r H) a.1 in
      let k = step_made c r H a.0 in
      omega arith

  none_made : made P (new sheet₀).state ≡ 0
  none_made =
      let a = tally_none (counts_issued P (new sheet₀).state) (places P.size) (λ m. and_right (P.reads m || P.writes m) (is_issued P (λ _. 0) m) (nothing m)) in
      let b = tally_none (counts_drained P (new sheet₀).state) (places P.size)
      (λ m. fresh_drained (P.writes m) (is_issued P (λ _. 0) m) false (and_right (P.writes m) (is_issued P (λ _. 0) m) (nothing m))) in
      omega arith
    where
      nothing : (m : ℕ) → is_issued P (λ _. 0) m ≡ false
      nothing m = le-ltb (row P.size m) 0 (omega arith)

  pub completed_calls :
      (cs : List Call) (o : List ℕ) (words : ℕ → M) → Accepted P stored start cs (new sheet₀)
      → Completed P stored start o words (run P stored start cs (new sheet₀)) → length cs ≡ lines_in P + writes_in P
  completed_calls cs o words a c =
      let x = calls_made cs (new sheet₀) (new_holds P L stored start N sheet₀) a in
      let y = none_made in
      let u = tally_same (counts_issued P t) (λ n. P.reads n || P.writes n) (places P.size) lines in
      let v = tally_same (counts_drained P t) P.writes (places P.size) written in
      omega arith
    where
      t : State
      t = (run P stored start cs (new sheet₀)).state

      issued : (n : ℕ) → LineIn P n → is_issued P t.issued n ≡ true
      issued n x = lt-ltb (row P.size n) (t.issued (table P.size n)) (all_issued P L t c.none_left n x)

      lines : (n : ℕ) → counts_issued P t n ≡ (P.reads n || P.writes n)
      lines n = same_test (counts_issued P t n) (P.reads n || P.writes n)
          (λ e. (and_parts (P.reads n || P.writes n) (is_issued P t.issued n) e).0)
          (λ e. and_from (P.reads n || P.writes n) (is_issued P t.issued n) e (issued n (or_cases (P.reads n) (P.writes n) e)))

      written : (n : ℕ) → counts_drained P t n ≡ P.writes n
      written n = same_test (counts_drained P t n) (P.writes n)
          (λ e. (and_parts (P.writes n) (is_issued P t.issued n) (and_parts (P.writes n && is_issued P t.issued n) (not (t.held n)) e).0).0)
          (λ e. and_from (P.writes n && is_issued P t.issued n) (not (t.held n))
          (and_from (P.writes n) (is_issued P t.issued n) e (issued n (inr e))) (ap not (c.none_held n)))
