-- What `rposition` over a slice finds, by the run of its iterator from the back.
use Rattle.std.proofs.Common.{◌≡◌, ℕ, ◌+◌, ◌-◌, ◌<◌, Bool, true, false, Iter, List, length, get_or, Some, None, Option, MatchOption, IfSome, IsSomeAnd, subst, arith}
use Rattle.std.proofs.lemmas.Option.{none-some, same_Some}
use Rattle.std.specs.Borrow.{Bor}
use Rattle.std.specs.Bool.{IsTrue}
use Rattle.std.specs.Fn.{Called}
use Rattle.std.specs.Option.{option_map}
use Rattle.std.specs.Slice.Iter.{iter_rest, iter_steps_back}
use Rattle.std.specs.Iterator.Runs.{Run, SomeRun, EveryRun, ItemsMapToReversed, CallKeepsClosure, AllItemsGive, IsFirstToGive}
use denote.Param.Members.{Mut}

module _ (v : ℕ) (P : Bor ℕ → Type 0) (Q : ℕ → Type 0) (then : (x : Bor ℕ) → P x → Q x.now) where
  of_some : (o : Option (Bor ℕ)) → IsSomeAnd o P → option_map (λ y. y.now) o ≡ Some v → Q v
  of_some None h e = absurd h
  of_some (Some x) h e = subst Q (same_Some x.now v e) (then x h)

  of_if : (o : Option (Bor ℕ)) → IfSome o P → option_map (λ y. y.now) o ≡ Some v → Q v
  of_if None h e = absurd (none-some v e)
  of_if (Some x) h e = subst Q (same_Some x.now v e) (then x h)

module _ {F : Type 0} {g : Mut F (Bor ℕ × Unit {0}) Bool} {f : F} (Yes No : ℕ → Type 0) (keeps : CallKeepsClosure g f)
    (yes : (x : Bor ℕ) → Called g f (x, tt) true f → Yes x.now) (no : (x : Bor ℕ) → Called g f (x, tt) false f → No x.now) where
  last_in :
      (p : Run (iter_steps_back {A = ℕ})) (xs : List ℕ) → ItemsMapToReversed p (λ y. y.now) xs → (r : Option ℕ) → IfSome r (λ i. i < length xs)
      → MatchOption r (IsTrue p.whole × AllItemsGive p g f false)
      (λ i. (i + p.len ≡ length xs) × IsFirstToGive p g f true false (length xs - 1 - i))
      → MatchOption r ((k : ℕ) → k < length xs → No (get_or xs k 0))
      (λ i. (i < length xs) × Yes (get_or xs i 0) × ((k : ℕ) → i < k → k < length xs → No (get_or xs k 0)))
  last_in p xs items None b h = λ k l.
      let n = items.1 h.0 in
      of_if (get_or xs k 0) (λ x. Called g f (x, tt) false f) No no (p.at (length xs - 1 - k)) (h.1 keeps (length xs - 1 - k))
      (items.2 k 0 l (omega arith))
  last_in p xs items (Some i) b h =
      let w = h.1 keeps in
      let n = h.0 in (
        b,
        of_some (get_or xs i 0) (λ x. Called g f (x, tt) true f) Yes yes (p.at (length xs - 1 - i)) w.0 (items.2 i 0 b (omega arith)),
        λ k u l.
            of_some (get_or xs k 0) (λ x. Called g f (x, tt) false f) No no (p.at (length xs - 1 - k))
            (w.1 (length xs - 1 - k) (omega arith)) (items.2 k 0 l (omega arith)),
      )

  -- the last position whose item passes, by the clauses of `iter` and of `rposition`
  pub last_from :
      (s : Iter ℕ) (xs : List ℕ) → iter_rest s ≡ xs → EveryRun (iter_steps_back {A = ℕ}) (λ p. ItemsMapToReversed p (λ y. y.now) (iter_rest p.from))
      → (r : Option ℕ) → IfSome r (λ i. i < length (iter_rest s))
      → SomeRun (iter_steps_back {A = ℕ}) s (λ p. MatchOption r (IsTrue p.whole × AllItemsGive p g f false)
      (λ i. (i + p.len ≡ length (iter_rest s)) × IsFirstToGive p g f true false (length (iter_rest s) - 1 - i)))
      → MatchOption r ((k : ℕ) → k < length xs → No (get_or xs k 0))
      (λ i. (i < length xs) × Yes (get_or xs i 0) × ((k : ℕ) → i < k → k < length xs → No (get_or xs k 0)))
  last_from s xs q back r b run =
      subst (λ (ys : List ℕ). MatchOption r ((k : ℕ) → k < length ys → No (get_or ys k 0))
      (λ i. (i < length ys) × Yes (get_or ys i 0) × ((k : ℕ) → i < k → k < length ys → No (get_or ys k 0)))) q
      (last_in run.0 (iter_rest s)
      (subst (λ (t : Iter ℕ). ItemsMapToReversed run.0 (λ y. y.now) (iter_rest t)) run.1 (back run.0 run.0.seen)) r b run.2)
