-- Orders that list events of the tables, by test and by relation.
use Rattle.std.proofs.Common.{◌≡◌, ℕ, zero, suc, ◌/◌, ◌%◌, ◌<◌, Bool, true, false, eqb, ◌⊎◌, List, [], ◌∷◌, length, get_or, Decides, refl, subst, inl, inr, arith}
use Rattle.std.proofs.lemmas.Bool.{both_ways}
use Rattle.std.proofs.lemmas.Bool.Decides.{Decides-and, Decides-or, Decides-eqb, Decides-like}
use Rattle.tables.specs.Size.{Size, rd, wr}
use Rattle.tables.specs.Rows.{Rows}
use Rattle.tables.specs.View.{reads_at, writes_at, is_read, is_write, is_event}
use Rattle.rules.specs.Waits.{Waits}
use Rattle.model.specs.Program.{program}
use Rattle.model.specs.Orders.{At, Event, read, write, Listed}
use Rattle.judging.specs.Searches.{AllBelow}
use Rattle.judging.specs.Case.{Lacks}

pub get_at : (o : List ℕ) (i d : ℕ) → i < length o → At o i (get_or o i d)
get_at [] i d h = let z : ⊥ = omega arith in absurd z
get_at (x ∷ o) zero d h = refl
get_at (x ∷ o) (suc i) d h = get_at o i d (omega arith)

pub at_get : (o : List ℕ) (i e d : ℕ) → At o i e → (i < length o) × (get_or o i d ≡ e)
at_get [] i e d h = absurd h
at_get (x ∷ o) zero e d h = (omega arith, h)
at_get (x ∷ o) (suc i) e d h = let r = at_get o i e d h in (omega arith, r.1)

pub decides_self : (b : Bool) → Decides b (b ≡ true)
decides_self b = (λ h. h, λ h. h)

module _ (z : Size) (ts : List Rows) where
  -- a code is that of the read, or of the write, of a line
  pub reads_is : (e : ℕ) → Decides (is_read z ts e) ((n : ℕ) × (reads_at z ts n ≡ true) × (e ≡ rd n))
  reads_is e =
      Decides-like (is_read z ts e) (λ h. let x = h.0 in (e / 2, h.1, omega arith))
      (λ h. let x = h.2 in let q : h.0 ≡ e / 2 = omega arith in (omega arith, subst (λ (k : ℕ). reads_at z ts k ≡ true) q h.1))
      (Decides-and (eqb (e % 2) 0) (reads_at z ts (e / 2)) (Decides-eqb (e % 2) 0) (decides_self (reads_at z ts (e / 2))))

  pub writes_is : (e : ℕ) → Decides (is_write z ts e) ((n : ℕ) × (writes_at z ts n ≡ true) × (e ≡ wr n))
  writes_is e =
      Decides-like (is_write z ts e) (λ h. let x = h.0 in (e / 2, h.1, omega arith))
      (λ h. let x = h.2 in let q : h.0 ≡ e / 2 = omega arith in (omega arith, subst (λ (k : ℕ). writes_at z ts k ≡ true) q h.1))
      (Decides-and (eqb (e % 2) 1) (writes_at z ts (e / 2)) (Decides-eqb (e % 2) 1) (decides_self (writes_at z ts (e / 2))))

  module _ (w : Waits) where
    from_event : (e : ℕ) → Event (program z w ts) e → (is_read z ts e ≡ true) ⊎ (is_write z ts e ≡ true)
    from_event e (read n r q) = inl ((reads_is e).1 (n, r, q))
    from_event e (write n v q) = inr ((writes_is e).1 (n, v, q))

    pub event_is : (e : ℕ) → Decides (is_event z ts e) (Event (program z w ts) e)
    event_is e =
        Decides-like (is_event z ts e)
        (λ h. elim h [
          | inl r ↦ let x = (reads_is e).0 r in read x.0 x.1 x.2
          | inr v ↦ let x = (writes_is e).0 v in write x.0 x.1 x.2
        ]) (from_event e)
        (Decides-or (is_read z ts e) (is_write z ts e) (decides_self (is_read z ts e)) (decides_self (is_write z ts e)))

    module _ (o : List ℕ) where
      listed_to : (n : ℕ) → AllBelow (is_event z ts) o n → (i e : ℕ) → i < n → At o i e → Event (program z w ts) e
      listed_to n h i e l a =
          let g = at_get o i e 0 a in (event_is e).0 (subst (λ (x : ℕ). is_event z ts x ≡ true) g.1 (h i l))

      pub listed_from : AllBelow (is_event z ts) o (length o) → Listed (program z w ts) o
      listed_from h i e a = listed_to (length o) h i e (at_get o i e 0 a).0 a

      pub lacks_from :
          (i : ℕ) → i < length o → is_event z ts (get_or o i 0) ≡ false → AllBelow (is_event z ts) o i → Lacks (program z w ts) o i
      lacks_from i l n h = record {
        code = get_or o i 0;
        at = get_at o i 0 l;
        lacking = λ v. both_ways (is_event z ts (get_or o i 0)) n ((event_is (get_or o i 0)).1 v);
        before = λ j e k a. listed_to i h j e k a;
      }
