-- Where an event stands in an order, how often, and how that changes as the order grows.
use Rattle.std.proofs.Common.{◌≡◌, ℕ, suc, ◌+◌, ◌<◌, ◌≤◌, cond, eqb, ◌⊎◌, List, [], ◌∷◌, ◌++◌, length, sym, refl, ap, inl, inr, arith}
use Rattle.std.proofs.lemmas.Bool.{cases_Bool, cases_eq, cases_lt}
use Rattle.std.proofs.lemmas.Bool.Decides.{nat_tests}
use Rattle.model.specs.Orders.{snoc}

-- the first position of an event; the order's length where it does not stand
abbrev pub place : List ℕ → ℕ → ℕ
place [] e = 0
place (x ∷ o) e = cond (eqb x e) 0 (suc (place o e))

abbrev pub times : List ℕ → ℕ → ℕ
times [] e = 0
times (x ∷ o) e = cond (eqb x e) (suc (times o e)) (times o e)

abbrev pub Inside : List ℕ → ℕ → Type 0
Inside o e = place o e < length o

abbrev pub Before : List ℕ → ℕ → ℕ → Type 0
Before o e f = place o e < place o f

pub place_le : (o : List ℕ) (e : ℕ) → place o e ≤ length o
place_le [] e = omega arith
place_le (x ∷ o) e = let r = place_le o e in grind (arith, nat_tests)

pub length_snoc : (o : List ℕ) (x : ℕ) → length (snoc o x) ≡ suc (length o)
length_snoc [] x = refl
length_snoc (y ∷ o) x = ap suc (length_snoc o x)

pub place_old : (o : List ℕ) (x e : ℕ) → Inside o e → place (snoc o x) e ≡ place o e
place_old [] x e h = omega arith
place_old (y ∷ o) x e h = let r = place_old o x e in grind (arith, nat_tests)

pub place_new : (o : List ℕ) (x e : ℕ) → place o e ≡ length o → x ≡ e → place (snoc o x) e ≡ length o
place_new [] x e h p = grind (arith, nat_tests)
place_new (y ∷ o) x e h p = let r = place_new o x e in grind (arith, nat_tests)

pub place_not : (o : List ℕ) (x e : ℕ) → place o e ≡ length o → (x ≡ e → ⊥) → place (snoc o x) e ≡ suc (length o)
place_not [] x e h p = grind (arith, nat_tests)
place_not (y ∷ o) x e h p = let r = place_not o x e in grind (arith, nat_tests)

pub place_same : (o : List ℕ) (e f : ℕ) → Inside o e → place o e ≡ place o f → e ≡ f
place_same [] e f h p = omega arith
place_same (y ∷ o) e f h p = let r = place_same o e f in grind (arith, nat_tests)

pub times_snoc : (o : List ℕ) (x e : ℕ) → times (snoc o x) e ≡ times o e + cond (eqb x e) 1 0
times_snoc [] x e = grind (arith, nat_tests)
times_snoc (y ∷ o) x e = let r = times_snoc o x e in grind (arith, nat_tests)

pub times_none : (o : List ℕ) (e : ℕ) → place o e ≡ length o → times o e ≡ 0
times_none [] e h = refl
times_none (y ∷ o) e h = let r = times_none o e in grind (arith, nat_tests)

pub times_some : (o : List ℕ) (e : ℕ) → Inside o e → 1 ≤ times o e
times_some [] e h = omega arith
times_some (y ∷ o) e h = let r = times_some o e in grind (arith, nat_tests)

-- each event that stands in o has its place in o', and the others come later
abbrev pub Keeps : List ℕ → List ℕ → Type 0
Keeps o o' = (e : ℕ) → (Inside o e × (place o' e ≡ place o e)) ⊎ ((place o e ≡ length o) × (length o ≤ place o' e))

pub keeps_append : (o o₂ : List ℕ) → Keeps o (o ++ o₂)
keeps_append [] o₂ e = inr (refl, omega arith)
keeps_append (y ∷ o) o₂ e = elim (cases_Bool (eqb y e)) [
  | inl q ↦ inl (grind (arith, nat_tests))
  | inr q ↦ elim (keeps_append o o₂ e) [ inl k ↦ inl (grind (arith, nat_tests)) | inr k ↦ inr (grind (arith, nat_tests)) ]
]

times_append : (o o₂ : List ℕ) (e : ℕ) → times o₂ e ≤ times (o ++ o₂) e
times_append [] o₂ e = omega arith
times_append (y ∷ o) o₂ e = let r = times_append o o₂ e in grind (arith, nat_tests)

pub place_next : (o o₂ : List ℕ) (e : ℕ) → times (o ++ (e ∷ o₂)) e ≤ 1 → place (o ++ (e ∷ o₂)) e ≡ length o
place_next [] o₂ e h = grind (arith, nat_tests)
place_next (y ∷ o) o₂ e h =
    let r = place_next o o₂ e in
    let t = times_append o (e ∷ o₂) e in
    let u : times (e ∷ o₂) e ≡ suc (times o₂ e) = grind (arith, nat_tests) in
    grind (arith, nat_tests)

-- o' is o with the events A added behind it, at most one of them
pub record Grow (A : ℕ → Type 0) (o o' : List ℕ) : Type 0 where
  pub old : (e : ℕ) → Inside o e → Inside o' e × (place o' e ≡ place o e)
  pub new : (e : ℕ) → Inside o' e → Inside o e ⊎ A e
  pub added : (e : ℕ) → A e → Inside o' e × (place o e ≡ length o) × (place o' e ≡ length o)
  pub late : (e : ℕ) → place o e ≡ length o → length o ≤ place o' e

pub grow_snoc : (o : List ℕ) (x : ℕ) → place o x ≡ length o → Grow (λ e. e ≡ x) o (snoc o x)
grow_snoc o x h = record {
  old = λ e st. let a = place_old o x e st in let l = length_snoc o x in (omega arith, a);
  new = new;
  added = λ e p. let h' : place o e ≡ length o = cc in let a = place_new o x e h' (sym p) in let l = length_snoc o x in (omega arith, h', a);
  late = late;
}
  where
    new : (e : ℕ) → Inside (snoc o x) e → Inside o e ⊎ (e ≡ x)
    new e st = elim (cases_lt (place o e) (length o)) [
      | inl l ↦ inl l
      | inr l ↦ elim (cases_eq x e) [
        | inl p ↦ inr (sym p)
        | inr p ↦ let b = place_le o e in let a = place_not o x e (omega arith) p in let c = length_snoc o x in let z : ⊥ = omega arith in absurd z
      ]
    ]

    late : (e : ℕ) → place o e ≡ length o → length o ≤ place (snoc o x) e
    late e q = elim (cases_eq x e) [ inl p ↦ let a = place_new o x e q p in omega arith | inr p ↦ let a = place_not o x e q p in omega arith ]

module _ {A : ℕ → Type 0} {o o' : List ℕ} (G : Grow A o o') where
  pub before_grow : (e f : ℕ) → (Inside o f → Before o e f) → (A f → Inside o e) → Inside o' f → Before o' e f
  before_grow e f h k st = elim (G.new f st) [
    | inl s ↦ let b = h s in let a = G.old f s in let se : Inside o e = omega arith in let c = G.old e se in omega arith
    | inr a ↦ let se = k a in let c = G.old e se in let d = G.added f a in omega arith
  ]

  pub grow_place : (e : ℕ) → (Inside o e × (place o' e ≡ place o e)) ⊎ ((place o e ≡ length o) × (length o ≤ place o' e))
  grow_place e = elim (cases_lt (place o e) (length o)) [
    | inl l ↦ inl (l, (G.old e l).1)
    | inr l ↦ let p = place_le o e in let q : place o e ≡ length o = omega arith in inr (q, G.late e q)
  ]

pub stands_next : (o o₂ : List ℕ) (e : ℕ) → Inside (o ++ (e ∷ o₂)) e
stands_next [] o₂ e = grind (arith, nat_tests)
stands_next (y ∷ o) o₂ e = let r = stands_next o o₂ e in grind (arith, nat_tests)

pub stands_from : (o : List ℕ) (e : ℕ) → 1 ≤ times o e → Inside o e
stands_from o e h = elim (cases_lt (place o e) (length o)) [
  | inl l ↦ l
  | inr l ↦ let p = place_le o e in let t = times_none o e (omega arith) in omega arith
]
