-- The trace ends, meets few reads, and finds the word read.
use Rattle.std.proofs.Common.{◌≡◌, ℕ, zero, suc, ◌<◌, ◌≤◌, Bool, true, false, ◌&&◌, leb, ◌⊎◌, List, Some, None, Option, sym, refl, ap, ◌∙◌, subst, inl, inr, arith}
use native.Mathlib.Decide.{ℕ_discrete, dec_lt}
use Rattle.std.proofs.lemmas.Bool.{and_parts, and_from, le-leb, lt-leb, leb-true, false≢true, and_right}
use Rattle.tables.specs.Size.{Earlier, rd, wr, table, places}
use Rattle.tables.proofs.Codes.{place_id}
use Rattle.rules.specs.declared.words.Origin.{Origin}
use Rattle.rules.specs.declared.words.Origin.TheVariants.{Start}
use Rattle.model.specs.Program.{Program}
use Rattle.model.specs.Axioms.{Considered, Newest, Should}
use Rattle.model.specs.Trace.{end_at, ReadTrace, at_start, at_write, WriteTrace, at_end, at_copy, found, tally, reads_in, Traced}
use Rattle.model.proofs.Counts.{best, tally_lt, tally_le}
use Rattle.model.proofs.Extremes.{some≢none}
use Rattle.model.proofs.Lawful.{Lawful}
use Rattle.model.proofs.PlacedAxioms.{latest_newest, Latest, Concerns, Placed, considered_concerns, concerns_considered, newest_latest}
use Rattle.model.proofs.Positions.{Before, place, place_same}

dec_true : (b : Bool) → Dec (b ≡ true)
dec_true true = yes refl
dec_true false = no false≢true

dec_and : {A B : Type 0} → Dec A → Dec B → Dec (A × B)
dec_and (yes a) (yes b) = yes (a, b)
dec_and (yes a) (no b) = no (λ p. b p.1)
dec_and (no a) _ = no (λ p. a p.0)

dec_or : {A B : Type 0} → Dec A → Dec B → Dec (A ⊎ B)
dec_or (yes a) _ = yes (inl a)
dec_or (no a) (yes b) = yes (inr b)
dec_or (no a) (no b) = no (λ s. elim s [ inl x ↦ a x | inr y ↦ b y ])

pub dec_concerns : (P : Program) (o : List ℕ) (n m : ℕ) → Dec (Concerns P o n m)
dec_concerns P o n m = go (dec_and (dec_true (P.writes m)) (dec_and (ℕ_discrete (P.cell m) (P.cell n)) (dec_or (dec_lt (place o (wr m)) (place o (rd n))) (dec_and (ℕ_discrete (table P.size m) (table P.size n)) (dec_lt m n)))))
  where
    go : Dec ((P.writes m ≡ true) × ((P.cell m ≡ P.cell n) × (Before o (wr m) (rd n) ⊎ Earlier P.size m n))) → Dec (Concerns P o n m)
    go (yes p) = yes (record { writes = p.0; cell = p.1.0; near = p.1.1 })
    go (no f) = no (λ c. f (c.writes, (c.cell, c.near)))

-- a line writes the word read by the line that it copies, which is one up to it in its table, or else its written word
pub record Copies {M : Type 0} (P : Program) (stored : (ℕ → M) → ℕ → M) (words : ℕ → M) (copy : ℕ → Option ℕ) (written : ℕ → M) : Type 0 where
  pub reads : (m k : ℕ) → copy m ≡ Some k → P.reads k ≡ true
  pub up_to : (m k : ℕ) → copy m ≡ Some k → Earlier P.size k m ⊎ (k ≡ m)
  pub handed : (m k : ℕ) → copy m ≡ Some k → stored words m ≡ words k
  pub kept : (m : ℕ) → copy m ≡ None → stored words m ≡ written m

-- the word at a line's end is its written word
found_at : {M : Type 0} (P : Program) (written start : ℕ → M) (m : ℕ) → found P written start (end_at P m) ≡ written m
found_at P written start m = ap written (place_id P.size m)

module _ {M : Type 0} (P : Program) (stored : (ℕ → M) → ℕ → M) (start : ℕ → M) (o : List ℕ) (words : ℕ → M) (L : Lawful P) (A : Placed P stored start o words)
    (copy : ℕ → Option ℕ) (written : ℕ → M) (H : Copies P stored words copy written) where
  latest_of : (n m : ℕ) → P.reads n ≡ true → Newest P o n m → Latest P o n m
  latest_of = newest_latest P o A.order_read A.order_write A.termination

  considered_of : (n m : ℕ) → P.reads n ≡ true → Concerns P o n m → Considered P o n m
  considered_of = concerns_considered P o A.order_read A.order_write A.termination

  above : (k m n : ℕ) → Earlier P.size k m ⊎ (k ≡ m) → Earlier P.size m n → Earlier P.size k n
  above k m n (inl d) e = (d.0 ∙ e.0, omega arith)
  above k m n (inr d) e = subst (λ (x : ℕ). Earlier P.size x n) (sym d) e

  -- a copied read stands before the read that asks
  pub falls : (n m k : ℕ) → P.reads n ≡ true → Newest P o n m → copy m ≡ Some k → place o (rd k) < place o (rd n)
  falls n m k r x c =
      let l = latest_of n m r x in
      let rk = H.reads m k c in
      let ek = H.up_to m k c in
      let lw = A.load_write k m rk l.concerns.writes ek in
      elim l.concerns.near [ inl b ↦ omega arith | inr e ↦ A.load_read k n rk r (above k m n ek e) ]

  -- the reads that stand up to that of n
  upto : ℕ → ℕ → Bool
  upto n m = P.reads m && leb (place o (rd m)) (place o (rd n))

  fewer : (n k : ℕ) → P.reads n ≡ true → place o (rd k) < place o (rd n) → tally (upto k) (places P.size) < tally (upto n) (places P.size)
  unfolding upto
  fewer n k r h =
      tally_lt (upto k) (upto n) (places P.size) n
      (λ m e. let p = and_parts (P.reads m) (leb (place o (rd m)) (place o (rd k))) e in
      let q = leb-true (place o (rd m)) (place o (rd k)) p.1 in
      and_from (P.reads m) (leb (place o (rd m)) (place o (rd n))) p.0 (le-leb (place o (rd m)) (place o (rd n)) (omega arith)))
      (L.reads_in n r)
      (and_right (P.reads n) (leb (place o (rd n)) (place o (rd k))) (lt-leb (place o (rd n)) (place o (rd k)) h))
      (and_from (P.reads n) (leb (place o (rd n)) (place o (rd n))) r (le-leb (place o (rd n)) (place o (rd n)) (omega arith)))

  one_at_least : (n : ℕ) → P.reads n ≡ true → 1 ≤ tally (upto n) (places P.size)
  unfolding upto
  one_at_least n r =
      let h = tally_lt (λ _. false) (upto n) (places P.size) n (λ m e. absurd (false≢true e)) (L.reads_in n r) refl
      (and_from (P.reads n) (leb (place o (rd n)) (place o (rd n))) r (le-leb (place o (rd n)) (place o (rd n)) (omega arith))) in
      omega arith

  mutual
    few_read : {n : ℕ} {e : Origin} {r : ℕ} → P.reads n ≡ true → ReadTrace P copy o n e r → r ≤ tally (upto n) (places P.size)
    few_read {n} x (at_start h p q) = let a = one_at_least n x in omega arith
    few_read {n} x (at_write m s l t q) = let a = few_write n x l t in omega arith

    few_write :
        {m : ℕ} {e : Origin} {s : ℕ} (n : ℕ) → P.reads n ≡ true → Newest P o n m → WriteTrace P copy o m e s
        → suc s ≤ tally (upto n) (places P.size)
    few_write n x l (at_end c p q) = let a = one_at_least n x in omega arith
    few_write {m} n x l (at_copy k c t) = let a = few_read (H.reads m k c) t in let b = fewer n k x (falls n m k x l c) in omega arith

  few : (n : ℕ) → P.reads n ≡ true → (e : Origin) (r : ℕ) → ReadTrace P copy o n e r → r ≤ reads_in P
  unfolding upto
  few n x e r t =
      let a = few_read x t in
      let b = tally_le (upto n) P.reads (places P.size) (λ m e. (and_parts (P.reads m) (leb (place o (rd m)) (place o (rd n))) e).0) in
      omega arith

  mutual
    read_finds : {n : ℕ} {e : Origin} {r : ℕ} → P.reads n ≡ true → ReadTrace P copy o n e r → found P written start e ≡ words n
    read_finds {n} x (at_start h p q) = ap (found P written start) p ∙ sym (A.value_start n x (λ m c. h m (considered_of n m x c)))
    read_finds {n} x (at_write m s l t q) = write_finds t ∙ sym (A.value n m x (latest_of n m x l))

    write_finds : {m : ℕ} {e : Origin} {s : ℕ} → WriteTrace P copy o m e s → found P written start e ≡ stored words m
    write_finds {m} (at_end c p q) = ap (found P written start) p ∙ (found_at P written start m ∙ sym (H.kept m c))
    write_finds {m} (at_copy k c t) = read_finds (H.reads m k c) t ∙ sym (H.handed m k c)

  -- a read has one newest write
  pub newest_one : (n m k : ℕ) → P.reads n ≡ true → Newest P o n m → Newest P o n k → m ≡ k
  newest_one n m k x l l' =
      let a = latest_of n m x l in let b = latest_of n k x l' in
      let u = a.last k b.concerns in
      let v = b.last m a.concerns in
      let e = place_same o (wr m) (wr k) (A.termination m a.concerns.writes) (omega arith) in
      omega arith

  mutual
    read_one :
        {n : ℕ} {e : Origin} {r : ℕ} → P.reads n ≡ true → ReadTrace P copy o n e r → (e' : Origin) (r' : ℕ) → ReadTrace P copy o n e' r'
        → (e ≡ e') × (r ≡ r')
    read_one x (at_start h p q) e' r' (at_start h' p' q') = (p ∙ sym p', q ∙ sym q')
    read_one x (at_start h p q) e' r' (at_write m s l t q') = absurd (h m l.considered)
    read_one x (at_write m s l t q) e' r' (at_start h p q') = absurd (h m l.considered)
    read_one {n} x (at_write m s l t q) e' r' (at_write m' s' l' t' q') =
        let i = newest_one n m' m x l' l in
        let y = write_one t e' s' (subst (λ (a : ℕ). WriteTrace P copy o a e' s') i t') in
        (y.0, q ∙ (ap suc y.1 ∙ sym q'))

    write_one :
        {m : ℕ} {e : Origin} {s : ℕ} → WriteTrace P copy o m e s → (e' : Origin) (s' : ℕ) → WriteTrace P copy o m e' s'
        → (e ≡ e') × (s ≡ s')
    write_one (at_end c p q) e' s' (at_end c' p' q') = (p ∙ sym p', q ∙ sym q')
    write_one (at_end c p q) e' s' (at_copy k c' t') = absurd (some≢none k (sym c' ∙ c))
    write_one (at_copy k c t) e' s' (at_end c' p' q') = absurd (some≢none k (sym c ∙ c'))
    write_one {m} (at_copy k c t) e' s' (at_copy k' c' t') =
        let i : k' ≡ k = cc in
        read_one (H.reads m k c) t e' s' (subst (λ (a : ℕ). ReadTrace P copy o a e' s') i t')

  -- what a read should have: there is such a write, or there is none
  pub should_be : (n : ℕ) → P.reads n ≡ true → Should P o n None ⊎ ((m : ℕ) × Should P o n (Some m))
  should_be n x = elim (best (Concerns P o n) (dec_concerns P o n) (λ m. place o (wr m)) (places P.size)) [
    | inl h ↦ inl (λ m c. let d = considered_concerns P o A.order_read A.order_write A.termination n m x c in h m (L.writes_in m d.writes) d)
    | inr b ↦ inr (
      b.0,
      latest_newest P o A.order_read A.order_write A.termination n b.0 x
          (record { concerns = b.1; last = λ j c. b.2 j (L.writes_in j c.writes) c }),
    )
  ]

  ends_by : (fuel n : ℕ) → place o (rd n) < fuel → P.reads n ≡ true → (e : Origin) × ((r : ℕ) × ReadTrace P copy o n e r)
  ends_by zero n h x = let z : ⊥ = omega arith in absurd z
  ends_by (suc fuel) n h x = go (should_be n x) (λ k s y. ends_by fuel k (omega arith) y)
    where
      Rec : Type 0
      Rec = (k : ℕ) → place o (rd k) < place o (rd n) → P.reads k ≡ true → (e : Origin) × ((r : ℕ) × ReadTrace P copy o k e r)

      by_write : (m : ℕ) → Newest P o n m → (c : Option ℕ) → copy m ≡ c → Rec → (e : Origin) × ((r : ℕ) × ReadTrace P copy o n e r)
      by_write m l None c i = (end_at P m, (1, at_write m 0 l (at_end c refl refl) refl))
      by_write m l (Some k) c i =
          let t = i k (falls n m k x l c) (H.reads m k c) in
          (t.0, (suc t.1.0, at_write m t.1.0 l (at_copy k c t.1.1) refl))

      go : Should P o n None ⊎ ((m : ℕ) × Should P o n (Some m)) → Rec → (e : Origin) × ((r : ℕ) × ReadTrace P copy o n e r)
      go (inl h) i = (Start (P.cell n), (1, at_start h refl refl))
      go (inr (m, l)) i = by_write m l (copy m) refl i

  pub traced : (n : ℕ) → P.reads n ≡ true → Traced P copy written start o words n
  traced n x = record {
    ends = ends_by (suc (place o (rd n))) n (omega arith) x;
    one = λ e e' r r' t t'. read_one x t e' r' t';
    few = few n x;
    finds = λ e r t. read_finds x t;
  }
