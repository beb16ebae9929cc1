-- From what the searches find to the verdict.
use Rattle.std.proofs.Common.{◌≡◌, ℕ, ◌*◌, ◌<◌, ◌≤◌, true, List, length, Some, None, Ok, Err, IfOk, IsOk, IsOkAnd, Option, Result, MatchResult, sym, refl, ap, subst, inl, inr, arith}
use Rattle.std.proofs.lemmas.Bool.{cases_lt}
use Rattle.faults.specs.declared.Fault.{Fault}
use Rattle.tables.specs.declared.event.Event.{Event}
use Rattle.tables.specs.Events.{code_of}
use Rattle.tables.specs.Size.{unit}
use Rattle.tables.specs.Rows.{Rows}
use Rattle.tables.specs.View.{is_event}
use Rattle.rules.specs.Waits.{Waits}
use Rattle.rules.specs.declared.words.WordKind as word_kind
use Rattle.model.specs.Program.{Program, program}
use Rattle.model.specs.Orders.{Once, AtMostOnce, Stands}
use Rattle.model.specs.Axioms.{OrderKept, OrderBroken, read_not_once, write_repeated, TerminationKept, TerminationBroken, LoadOpKept, LoadOpBroken, WaitKept, WaitBroken, AtomicityKept, AtomicityBroken, Meets}
use Rattle.model.specs.declared.verdict.Axiom.{Axiom}
use Rattle.model.specs.declared.verdict.Axiom.TheVariants.{Order, Termination, LoadOp, Wait, Atomicity, Value}
use Rattle.model.specs.declared.verdict.Breach.{Breach}
use Rattle.model.specs.Verdicts.{number_of, code_if, write_of, OfUnitIf, Kept, Names, Judged}
use Rattle.judging.specs.Case.{Case, case, MeetsSix, Heard, VerdictOn, Answered, PassesAll, Refused, short, lacking}
use Rattle.judging.specs.Namings.{NamedIf, Tells}
use Rattle.judging.specs.Searches.{Clear, ClearBelow, AllBelow}
use Rattle.judging.specs.Sources.{Settled}
use Rattle.judging.specs.Tests.{order_bad, missing, load_bad, wait_bad, swap_bad}
use Rattle.judging.specs.Values.{Right, Wrong}
use Rattle.judging.proofs.Lowest.{least_from, least_pair_from}
use Rattle.judging.proofs.Testing.{order_is, missing_is, order_kept, termination_kept, settled_from, load_is, load_kept, wait_is, wait_kept, swap_is, swap_kept}

-- an event that has a code, if there is one
pub code_if_lem : (P : Program) (d : Option ℕ) (f : Option Event) → NamedIf P.size d f → (code_if P f ≡ d) × OfUnitIf P f
code_if_lem P None None n = (refl, tt)
code_if_lem P None (Some e) n = absurd n
code_if_lem P (Some c) None n = absurd n
code_if_lem P (Some c) (Some e) n = (ap (λ (x : ℕ). Some x) n.1, n.0)

module _ {M : Type 0} (P : Program) (stored : (ℕ → M) → ℕ → M) (start : ℕ → M) (o : List ℕ) (words : ℕ → M) where
  -- a breach made from codes says what holds of them
  told :
      (a : Axiom) (c : ℕ) (d : Option ℕ) (b : Breach) → Tells P.size a c d b
      → ((x : Axiom) → number_of x < number_of a → Kept P stored start o words x) → Names P stored start o words a c d
      → Judged P stored start o words {T = Unit {0}} (Err b)
  told a c d b t k n =
      let N = Names P stored start o words in
      let q = code_if_lem P d b.second t.2 in (
        subst (λ (x : Axiom). (y : Axiom) → number_of y < number_of x → Kept P stored start o words y) (sym t.0) k,
        subst (λ (x : Axiom). N x (code_of P.size b.first) (code_if P b.second)) (sym t.0)
            (subst (λ (x : ℕ). N a x (code_if P b.second)) (sym t.1.1) (subst (λ (x : Option ℕ). N a c x) (sym q.0) n)),
        t.1.0,
        q.1,
      )

  below : (n : ℕ) → (1 < n → OrderKept P o) → (2 < n → TerminationKept P o) → (3 < n → LoadOpKept P o) → (4 < n → WaitKept P o)
      → (5 < n → AtomicityKept P o) → (b : Axiom) → number_of b < n → n ≤ 6 → Kept P stored start o words b
  below n k1 k2 k3 k4 k5 Order h m = k1 h
  below n k1 k2 k3 k4 k5 Termination h m = k2 h
  below n k1 k2 k3 k4 k5 LoadOp h m = k3 h
  below n k1 k2 k3 k4 k5 Wait h m = k4 h
  below n k1 k2 k3 k4 k5 Atomicity h m = k5 h
  below n k1 k2 k3 k4 k5 Value h m = absurd (omega arith)

  -- an order that meets the axioms is never said to break one
  order_not : (e : ℕ) → OrderKept P o → OrderBroken P o e → ⊥
  order_not e k (read_not_once n r q h) = h (subst (λ (x : ℕ). Once o x) (sym q) (k.reads_once n r))
  order_not e k (write_repeated n v q h) = h (subst (λ (x : ℕ). AtMostOnce o x) (sym q) (k.writes_once n v))

  breaks_kept : (a : Axiom) (e : ℕ) (f : Option ℕ) → Names P stored start o words a e f → Meets P stored start o words → ⊥
  breaks_kept Order e f n k = order_not e k.order n.0.is
  breaks_kept Termination e f n k =
      let b = n.0.is in
      b.missing (subst (λ (x : ℕ). Stands o x) (sym b.is) (k.termination b.line b.writes))
  breaks_kept LoadOp e f n k = n.2.is.not_so (k.load_op e n.0 n.2.is.wanted)
  breaks_kept Wait e f n k = n.2.is.not_so (k.wait e n.0 n.2.is.wanted)
  breaks_kept Atomicity e f n k = k.atomicity e n.0 n.2.is
  breaks_kept Value e f n k = n.4.is.wrong (k.value n.0 n.1 n.4.is.reads n.4.is.should)

  pub meets_passes : {T : Type 0} (v : Result T Breach) → Judged P stored start o words v → Meets P stored start o words → IsOk v
  meets_passes (Ok t) j k = refl
  meets_passes (Err b) j k = absurd (breaks_kept b.axiom _ _ j.1 k)

module _ {K W : Type 0} (w : Waits) (k : word_kind.Ghosts K W) (ts : List Rows) (o : List ℕ) (xs : List W) where
  abbrev C : Case k.Meaning
  C = case w k ts o xs

  judged_as :
      (a : Axiom) (c : ℕ) (d : Option ℕ) (v : Breach) → (1 < number_of a → OrderKept (program unit w ts) o)
      → (2 < number_of a → TerminationKept (program unit w ts) o) → (3 < number_of a → LoadOpKept (program unit w ts) o)
      → (4 < number_of a → WaitKept (program unit w ts) o) → (5 < number_of a → AtomicityKept (program unit w ts) o) → number_of a ≤ 6
      → Names (program unit w ts) C.stored C.start o C.words a c d → Tells unit a c d v → VerdictOn C {T = Unit {0}} (Err v)
  judged_as a c d v k1 k2 k3 k4 k5 m n t =
      told (program unit w ts) C.stored C.start o C.words a c d v t
      (λ b h. below (program unit w ts) C.stored C.start o C.words (number_of a) k1 k2 k3 k4 k5 b h m) n

  pub broken_order :
      (e : ℕ) → order_bad unit ts o e ≡ true → ClearBelow (order_bad unit ts o) e
      → (v : Breach) → Tells unit Order e None v → VerdictOn C {T = Unit {0}} (Err v)
  broken_order e t c v s =
      judged_as Order e None v (λ h. absurd (omega arith)) (λ h. absurd (omega arith)) (λ h. absurd (omega arith)) (λ h. absurd (omega arith))
      (λ h. absurd (omega arith)) (omega arith)
      (least_from (order_bad unit ts o) (OrderBroken (program unit w ts) o) (order_is unit w ts o) e t c, refl) s

  module _ (c1 : Clear (order_bad unit ts o)) where
    pub broken_termination :
        (e : ℕ) → missing unit ts o e ≡ true → ClearBelow (missing unit ts o) e
        → (v : Breach) → Tells unit Termination e None v → VerdictOn C {T = Unit {0}} (Err v)
    broken_termination e t c v s =
        judged_as Termination e None v (λ h. order_kept unit w ts o c1) (λ h. absurd (omega arith)) (λ h. absurd (omega arith))
        (λ h. absurd (omega arith)) (λ h. absurd (omega arith)) (omega arith)
        (least_from (missing unit ts o) (TerminationBroken (program unit w ts) o) (missing_is unit w ts o) e t c, refl) s

    module _ (c2 : Clear (missing unit ts o)) (listed : AllBelow (is_event unit ts) o (length o)) where
      settled : Settled unit ts o
      settled = settled_from unit w ts o listed c1 c2

      pub broken_load :
          (e f : ℕ) → load_bad unit ts o e f ≡ true → ClearBelow (load_bad unit ts o e) f → ((i : ℕ) → i < e → Clear (load_bad unit ts o i))
          → (v : Breach) → Tells unit LoadOp e (Some f) v → VerdictOn C {T = Unit {0}} (Err v)
      broken_load e f t c a v s =
          judged_as LoadOp e (Some f) v (λ h. order_kept unit w ts o c1) (λ h. termination_kept unit w ts o c2) (λ h. absurd (omega arith))
          (λ h. absurd (omega arith)) (λ h. absurd (omega arith)) (omega arith)
          (f, refl, least_pair_from (load_bad unit ts o) (LoadOpBroken (program unit w ts) o) (load_is unit w ts o settled) e f t c a) s

      module _ (c3 : (i : ℕ) → Clear (load_bad unit ts o i)) where
        pub broken_wait :
            (e f : ℕ) → wait_bad unit ts o w e f ≡ true → ClearBelow (wait_bad unit ts o w e) f → ((i : ℕ) → i < e → Clear (wait_bad unit ts o w i))
            → (v : Breach) → Tells unit Wait e (Some f) v → VerdictOn C {T = Unit {0}} (Err v)
        broken_wait e f t c a v s =
            judged_as Wait e (Some f) v (λ h. order_kept unit w ts o c1) (λ h. termination_kept unit w ts o c2)
            (λ h. load_kept unit w ts o settled c3) (λ h. absurd (omega arith)) (λ h. absurd (omega arith)) (omega arith)
            (f, refl, least_pair_from (wait_bad unit ts o w) (WaitBroken (program unit w ts) o) (wait_is unit w ts o settled) e f t c a) s

        module _ (c4 : (i : ℕ) → Clear (wait_bad unit ts o w i)) where
          pub broken_swap :
              (e f : ℕ) → swap_bad unit ts o e f ≡ true → ClearBelow (swap_bad unit ts o e) f → ((i : ℕ) → i < e → Clear (swap_bad unit ts o i))
              → (v : Breach) → Tells unit Atomicity e (Some f) v → VerdictOn C {T = Unit {0}} (Err v)
          broken_swap e f t c a v s =
              judged_as Atomicity e (Some f) v (λ h. order_kept unit w ts o c1) (λ h. termination_kept unit w ts o c2)
              (λ h. load_kept unit w ts o settled c3) (λ h. wait_kept unit w ts o settled c4) (λ h. absurd (omega arith)) (omega arith)
              (f, refl, least_pair_from (swap_bad unit ts o) (AtomicityBroken (program unit w ts) o) (swap_is unit w ts o settled) e f t c a) s

          module _ (c5 : (i : ℕ) → Clear (swap_bad unit ts o i)) where
            pub broken_value :
                (n : ℕ) (s : Option ℕ) (d : Option ℕ) → d ≡ write_of s → Wrong C n s
                → ((j : ℕ) → j < n → Right C j)
                → (v : Breach) → Tells unit Value (2 * n) d v → VerdictOn C {T = Unit {0}} (Err v)
            broken_value n s d q b c v t =
                judged_as Value (2 * n) d v (λ h. order_kept unit w ts o c1) (λ h. termination_kept unit w ts o c2)
                (λ h. load_kept unit w ts o settled c3) (λ h. wait_kept unit w ts o settled c4) (λ h. swap_kept unit w ts o settled c5) (omega arith) (
                  n,
                  s,
                  refl,
                  q,
                  record {
                    is = b;
                    least = λ j x y. elim (cases_lt j n) [ inl l ↦ absurd (y.wrong (c j l x y.reads y.should)) | inr l ↦ omega arith ];
                  },
                ) t

            pub all_kept : ((n : ℕ) → Right C n) → MeetsSix C
            all_kept k6 = record {
              order = order_kept unit w ts o c1;
              termination = termination_kept unit w ts o c2;
              load_op = load_kept unit w ts o settled c3;
              wait = wait_kept unit w ts o settled c4;
              atomicity = swap_kept unit w ts o settled c5;
              value = k6;
            }

module _ {M : Type 0} (C : Case M) (size : ℕ) where
  not_refused : (e : Fault) → Refused C.program C.order size e → Heard C size → ⊥
  not_refused e (short l q) h = let r = h.room in omega arith
  not_refused e (lacking i r k q) h = k.lacking (h.listed i k.code k.at)

  pub passes_all : {T : Type 0} (r : Result (Result T Breach) Fault) → Answered C size r → PassesAll C size r
  passes_all (Ok v) a h k = meets_passes C.program C.stored C.start C.order C.words v a.1 k
  passes_all (Err e) a h k = absurd (not_refused e a h)

-- a verdict that was made of another says the same of a case
pub same_verdict :
    {M T U : Type 0} (C : Case M) (Q : T → U → Type 0) (v : Result T Breach) (u : Result U Breach)
    → MatchResult v (λ x. IsOkAnd u (Q x)) (λ e. u ≡ Err e) → VerdictOn C v → VerdictOn C u
same_verdict C Q (Ok x) (Ok y) m h = h
same_verdict C Q (Ok x) (Err e) m h = absurd m
same_verdict {U} C Q (Err e) u m h = subst (λ (x : Result U Breach). VerdictOn C x) (sym m) h

-- what holds of what was asked, where it follows from the axioms
pub where_passed :
    {M T : Type 0} (C : Case M) (v : Result T Breach) (Q R : T → Type 0) → VerdictOn C v → IfOk v Q → (MeetsSix C → (x : T) → Q x → R x) → IfOk v R
where_passed C (Ok x) Q R m q h = h m x q
where_passed C (Err e) Q R m q h = tt
