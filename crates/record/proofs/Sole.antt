-- Where one thing stands, or one fault: each way to make a form keeps this.
use Rattle.std.proofs.Common.{◌≡◌, ℕ, ◌<◌, Bool, true, false, List, length, sym, refl, ap, inl, inr, arith}
use Rattle.std.proofs.lemmas.Bool.{cases_order, cases_eq}
use Rattle.std.proofs.lemmas.List.{length_push}
use Rattle.numbers.proofs.Standing.{number_unique, number_faultless, fault_unique}
use Rattle.faults.specs.declared.Fault.{Fault}
use Rattle.record.specs.Form.{Form, say, demand, ◌then◌, Test, tested, Run, none, more, Stops, repeated, inside}

-- at each place of the form stands one thing, or one fault
pub record Sole {X : Type 0} (F : Form X) : Type 0 where
  pub one : (at : ℕ) (x y : X) (m n : ℕ) → F.is at x m → F.is at y n → (x ≡ y) × (m ≡ n)
  pub apart : (at : ℕ) (x : X) (m : ℕ) (e : Fault) → F.is at x m → F.amiss at e → ⊥
  pub blame : (at : ℕ) (d e : Fault) → F.amiss at d → F.amiss at e → d ≡ e

pub sole_say : {X : Type 0} (x : X) → Sole (say x)
sole_say x = record {
  one = λ at y z m n a b. (cc (a.0, b.0), cc (a.1, b.1));
  apart = λ at y m e a b. b;
  blame = λ at d e a b. absurd a;
}

pub sole_demand : (b : Bool) (e : Fault) → Sole (demand b e)
sole_demand b e = record {
  one = λ at x y m n p q. (refl, cc (p.1, q.1));
  apart = λ at x m f p q. let z : ◌≡◌ {A = Bool} true false = cc (p.0, q.0) in let y : ◌≡◌ {A = ℕ} 0 1 = cc in omega arith;
  blame = λ at d f p q. cc (p.1, q.1);
}

module _ {X Y : Type 0} (F : Form X) (G : X → Form Y) (f : Sole F) (g : (x : X) → Sole (G x)) where
  is_at : (x x' : X) (p q : ℕ) (y : Y) (n : ℕ) → x ≡ x' → p ≡ q → (G x').is q y n → (G x).is p y n
  is_at x x' p q y n i j h = rw (i, j) h

  amiss_at : (x x' : X) (p q : ℕ) (e : Fault) → x ≡ x' → p ≡ q → (G x').amiss q e → (G x).amiss p e
  amiss_at x x' p q e i j h = rw (i, j) h

  then_one : (at : ℕ) (y z : Y) (m n : ℕ) → (F then G).is at y m → (F then G).is at z n → (y ≡ z) × (m ≡ n)
  then_one at y z m n (x, p, a, b) (x', q, c, d) =
      let u = f.one at x x' p q a c in
      (g x).one p y z m n b (is_at x x' p q z n u.0 u.1 d)

  then_apart : (at : ℕ) (y : Y) (m : ℕ) (e : Fault) → (F then G).is at y m → (F then G).amiss at e → ⊥
  then_apart at y m e (x, p, a, b) (inl c) = f.apart at x p e a c
  then_apart at y m e (x, p, a, b) (inr (x', q, c, d)) =
      let u = f.one at x x' p q a c in
      (g x).apart p y m e b (amiss_at x x' p q e u.0 u.1 d)

  then_blame : (at : ℕ) (d e : Fault) → (F then G).amiss at d → (F then G).amiss at e → d ≡ e
  then_blame at d e (inl a) (inl b) = f.blame at d e a b
  then_blame at d e (inl a) (inr (x, p, b, c)) = absurd (f.apart at x p d b a)
  then_blame at d e (inr (x, p, b, c)) (inl a) = absurd (f.apart at x p e b a)
  then_blame at d e (inr (x, p, a, b)) (inr (x', q, c, h)) =
      let u = f.one at x x' p q a c in
      (g x).blame p d e b (amiss_at x x' p q e u.0 u.1 h)

  pub sole_then : Sole (F then G)
  sole_then = record { one = then_one; apart = then_apart; blame = then_blame }

module _ (bytes : List ℕ) (base : ℕ) (t : Test) where
  tested_apart : (at v m : ℕ) (e : Fault) → (tested bytes base t).is at v m → (tested bytes base t).amiss at e → ⊥
  tested_apart at v m e a (inl k) = number_faultless bytes base at v m e a.0 k
  tested_apart at v m e a (inr k) =
      let u = number_unique bytes at v k.value m k.next a.0 k.stands in
      let same : t v ≡ t k.value = ap t u.0 in
      let z : ◌≡◌ {A = ℕ} 0 1 = cc (a.1, k.fails, same) in omega arith

  tested_blame : (at : ℕ) (d e : Fault) → (tested bytes base t).amiss at d → (tested bytes base t).amiss at e → d ≡ e
  tested_blame at d e (inl k) (inl l) = fault_unique bytes base at d e k l
  tested_blame at d e (inl k) (inr l) = absurd (number_faultless bytes base at l.value l.next d l.stands k)
  tested_blame at d e (inr k) (inl l) = absurd (number_faultless bytes base at k.value k.next e k.stands l)
  tested_blame at d e (inr k) (inr l) =
      let u = number_unique bytes at k.value l.value k.next l.next k.stands l.stands in
      let same : t k.value ≡ t l.value = ap t u.0 in
      cc (k.fails, l.fails, same, k.fault, l.fault)

  pub sole_tested : Sole (tested bytes base t)
  sole_tested = record {
    one = λ at v w m n a b. number_unique bytes at v w m n a.0 b.0;
    apart = tested_apart;
    blame = tested_blame;
  }

-- two runs that cannot go on are one run
module _ {X : Type 0} (Item : List X → Form X) (Done : List X → ℕ → Type 0) (each : (f : List X) → Sole (Item f)) (start : ℕ) where
  same_long :
      (f g : List X) (p q : ℕ) → Run Item Done start f p → Run Item Done start g q → length f ≡ length g → (f ≡ g) × (p ≡ q)
  same_long f g p q (none e a) (none h b) l = (cc (e, h), cc (a, b))
  same_long f g p q (none e a) (more {before = v} {x = y} s w j h) l = absurd (omega (arith, ap length e, ap length h, length_push v y))
  same_long f g p q (more {before = u} {x = x} r w i e) (none h b) l = absurd (omega (arith, ap length e, ap length h, length_push u x))
  same_long f g p q (more {before = u} {q = k} {x = x} r c i e) (more {before = v} {q = m} {x = y} s d j h) l =
      let w : length u ≡ length v = omega (arith, ap length e, ap length h, length_push u x, length_push v y) in
      let z = same_long u v k m r s w in
      let j' : (Item u).is k y q = rw (z.0, z.1) j in
      let o = (each u).one k x y p q i j' in
      (cc (e, h, z.0, o.0), o.1)

  -- a run that is longer went on where the shorter one ends
  GoesOn : List X → ℕ → Type 0
  GoesOn f p = (x : X) × (m : ℕ) × (Done f p → ⊥) × (Item f).is p x m

  stage :
      (f : List X) (p n : ℕ) → Run Item Done start f p → n < length f
      → (b : List X) × (q : ℕ) × Run Item Done start b q × (length b ≡ n) × GoesOn b q
  unfolding GoesOn
  stage f p n (none e a) h = absurd (omega (arith, ap length e))
  stage f p n (more {before = u} {q = k} {x = x} r c i e) h =
      elim (cases_eq n (length u)) [
        | inl w ↦ (u, k, r, sym w, (x, p, c, i))
        | inr w ↦ stage u k n r (omega (arith, ap length e, length_push u x, w))
      ]

  goes_at : (f g : List X) (p q : ℕ) → f ≡ g → p ≡ q → GoesOn g q → GoesOn f p
  goes_at f g p q e h k = rw (e, h) k

  meet :
      (f g : List X) (p q : ℕ) → Run Item Done start f p → Run Item Done start g q
      → (GoesOn f p → ⊥) → (GoesOn g q → ⊥) → (f ≡ g) × (p ≡ q)
  meet f g p q r s a b =
      elim (cases_order (length f) (length g)) [
        | inl e ↦ same_long f g p q r s e
        | inr o ↦ elim o [
          | inl h ↦ absurd (let t = stage g q (length f) s h in
              let z = same_long f t.0 p t.1 r t.2 (sym t.3) in
              a (goes_at f t.0 p t.1 z.0 z.1 t.4))
          | inr h ↦ absurd (let t = stage f p (length g) r h in
              let z = same_long g t.0 q t.1 s t.2 (sym t.3) in
              b (goes_at g t.0 q t.1 z.0 z.1 t.4))
        ]
      ]

  done_ends : (f : List X) (p : ℕ) → Done f p → GoesOn f p → ⊥
  unfolding GoesOn
  done_ends f p d k = k.2 d

  stuck_ends : (f : List X) (p : ℕ) (e : Fault) → (Item f).amiss p e → GoesOn f p → ⊥
  unfolding GoesOn
  stuck_ends f p e s k = (each f).apart p k.0 k.1 e k.3 s

  pub filled_once :
      (f g : List X) (p q : ℕ) → (repeated Item Done).is start f p → (repeated Item Done).is start g q → (f ≡ g) × (p ≡ q)
  filled_once f g p q a b = meet f g p q a.0 b.0 (done_ends f p a.1) (done_ends g q b.1)

  done_at : (f g : List X) (p q : ℕ) → f ≡ g → p ≡ q → Done f p → Done g q
  done_at f g p q e h d = rw (sym e, sym h) d

  pub filled_faultless : (f : List X) (p : ℕ) (e : Fault) → (repeated Item Done).is start f p → Stops Item Done start e → ⊥
  filled_faultless f p e a s =
      let z = meet f s.front p s.at a.0 s.stand (done_ends f p a.1) (stuck_ends s.front s.at e s.stuck) in
      s.going (done_at f s.front p s.at z.0 z.1 a.1)

  stuck_at : (f g : List X) (p q : ℕ) (e : Fault) → f ≡ g → p ≡ q → (Item g).amiss q e → (Item f).amiss p e
  stuck_at f g p q e i j k = rw (i, j) k

  pub stops_once : (d e : Fault) → Stops Item Done start d → Stops Item Done start e → d ≡ e
  stops_once d e a b =
      let z = meet a.front b.front a.at b.at a.stand b.stand (stuck_ends a.front a.at d a.stuck) (stuck_ends b.front b.at e b.stuck) in
      (each a.front).blame a.at d e a.stuck (stuck_at a.front b.front a.at b.at e z.0 z.1 b.stuck)

pub sole_repeated :
    {X : Type 0} (Item : List X → Form X) (Done : List X → ℕ → Type 0) → ((f : List X) → Sole (Item f)) → Sole (repeated Item Done)
sole_repeated Item Done each = record {
  one = λ at f g p q a b. filled_once Item Done each at f g p q a b;
  apart = λ at f p e a s. filled_faultless Item Done each at f p e a s;
  blame = λ at d e a b. stops_once Item Done each at d e a b;
}

pub sole_inside : {X : Type 0} (part : List ℕ) (F : Form X) → Sole F → Sole (inside part F)
sole_inside part F f = record {
  one = λ at x y m n a b. ((f.one 0 x y (length part) (length part) a.0 b.0).0, cc (a.1, b.1));
  apart = λ at x m e a b. f.apart 0 x (length part) e a.0 b;
  blame = λ at d e a b. f.blame 0 d e a b;
}
