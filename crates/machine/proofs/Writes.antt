-- What always holds of what a machine keeps, after each of its writers; and the state that each leaves.
use Rattle.std.proofs.Common.{◌≡◌, ℕ, ◌+◌, ◌/◌, ◌%◌, ◌<◌, ◌≤◌, true, false, cond, eqb, List, [], ◌∷◌, ◌++◌, length, get_or, set, Some, None, Option, sym, refl, ap, ◌∙◌, subst, inl, inr, arith, length-set}
use Rattle.std.proofs.lemmas.List.{get_or-set_same, get_or-set_other, length-append}
use Rattle.std.proofs.lemmas.Bool.{both_ways, cases_eq}
use Rattle.tables.specs.declared.event.Event.{Event}
use Rattle.tables.specs.Size.{unit, table, rd, wr}
use Rattle.tables.specs.Events.{bit_of}
use Rattle.model.specs.Machine.{after_issue, after_drain}
use Rattle.machine.specs.declared.mark.Mark.{Mark}
use Rattle.machine.specs.declared.mark.Mark.TheVariants.{Waiting, Held, Done}
use Rattle.machine.specs.declared.inner.Inner.{Inner}
use Rattle.machine.specs.States.{is_held, place_of, line_of, inside}
use Rattle.machine.specs.Sound.{Sound}
use Rattle.arrayvec.specs.ArrayVec.{array_vec_len}
use Rattle.machine.proofs.Arrays.{set_is, same_state, sum_few, count_held, count_drained, count_done, count_more, sum_bump, bump_same, bump_below, bump_least, bump_is}

-- the lengths of its arrays
pub record Sized (m : Inner) : Type 0 where
  pub marks : length m.marks ≡ 128
  pub issued : length m.issued ≡ 4
  pub last : length m.last ≡ 64

-- a drain of line n, which is held, with its write event and cell
module _ (m : Inner) (z : Sized m) (s : Sound m) (n : ℕ) (l : n < 128) (h : is_held (get_or m.marks n Waiting) ≡ true) where
  pub drain_room : array_vec_len m.order < 256
  drain_room = let a = sum_few m.issued z.issued s.few in let b = count_held m.marks n (omega arith) h in let c = s.room in omega arith

  module _ (w : Event) (code cell : ℕ) (at : place_of w ≡ n) (c : cell ≤ 63) where
    abbrev pub after_put_drain : Inner
    after_put_drain = record {
      tables = m.tables;
      marks = set m.marks n Done;
      issued = m.issued;
      last = set m.last cell (Some w);
      half = None;
      order = record { items = m.order.items ++ code ∷ [] };
    }

    pub drain_sound : Sound after_put_drain
    drain_sound = record {
      few = s.few;
      room = let a = count_drained m.marks n (omega arith) h in let b = s.room in omega (arith, length-append m.order.items (code ∷ []));
      fits = let a = drain_room in omega (arith, length-append m.order.items (code ∷ []));
      issued = λ k e. elim (cases_eq k n) [
        | inl q ↦ absurd (both_ways (is_held (get_or (set m.marks n Done) k Waiting))
            (ap is_held (subst (λ (x : ℕ). get_or (set m.marks n Done) x Waiting ≡ Done) (sym q) (get_or-set_same m.marks n Done Waiting (omega arith)))) e)
        | inr q ↦ s.issued k (sym (ap is_held (get_or-set_other m.marks n k Done Waiting q)) ∙ e)
      ];
      half = λ e q. let x : ◌≡◌ {A = ℕ} 0 1 = cc in let y : ⊥ = omega arith in absurd y;
      halfway = λ e q. let x : ◌≡◌ {A = ℕ} 0 1 = cc in let y : ⊥ = omega arith in absurd y;
      reading = λ e q. let x : ◌≡◌ {A = ℕ} 0 1 = cc in let y : ⊥ = omega arith in absurd y;
      drained = λ d e q. elim (cases_eq d cell) [
        | inl x ↦
            let a = get_or-set_same m.last cell (Some w) None (omega arith) in
            let b = subst (λ (i : ℕ). get_or (set m.last cell (Some w)) i None ≡ Some e) x q in
            let f : w ≡ e = cc in
            let g = ap place_of f in omega arith
        | inr x ↦ s.drained d e (sym (get_or-set_other m.last cell d (Some w) None x) ∙ q)
      ];
    }

    pub drain_state : code ≡ wr n → inside after_put_drain ≡ after_drain (inside m) n cell
    drain_state e =
        same_state refl (set_is is_held m.marks n Done Waiting (omega arith))
        (set_is line_of m.last cell (Some w) None (omega arith)
        ∙ ap {B = ℕ → Option ℕ} (λ (k i : ℕ). cond (eqb i cell) (Some k) (line_of (get_or m.last i None))) at)
        (ap (λ (k : ℕ). m.order.items ++ k ∷ []) e) refl

-- the issue of line n, the next of its table
module _ (m : Inner) (z : Sized m) (s : Sound m) (n : ℕ) (l : n < 128) (next : n % 32 ≡ get_or m.issued (n / 32) 0) where
  abbrev issued' : List ℕ
  issued' = set m.issued (n / 32) (get_or m.issued (n / 32) 0 + 1)

  inside_issued : n / 32 < length m.issued
  inside_issued = let a = z.issued in omega arith

  inside_marks : n < length m.marks
  inside_marks = let a = z.marks in omega arith

  few' : (q : ℕ) → get_or issued' q 0 ≤ 32
  few' = bump_below m.issued (n / 32) inside_issued 32 s.few (omega arith)

  pub issue_room : array_vec_len m.order < 256
  issue_room =
      let a = sum_few issued' (length-set m.issued (n / 32) (get_or m.issued (n / 32) 0 + 1) ∙ z.issued) few' in
      let b = sum_bump m.issued (n / 32) inside_issued in
      let c = s.room in omega arith

  held' : (v : Mark) (k : ℕ) → is_held (get_or (set m.marks n v) k Waiting) ≡ true → k % 32 < get_or issued' (k / 32) 0
  held' v k e = elim (cases_eq k n) [
    | inl q ↦ let a = bump_same m.issued (n / 32) inside_issued in
        let b : n % 32 < get_or issued' (n / 32) 0 = omega arith in
        subst (λ (x : ℕ). x % 32 < get_or issued' (x / 32) 0) (sym q) b
    | inr q ↦
        let a = s.issued k (sym (ap is_held (get_or-set_other m.marks n k v Waiting q)) ∙ e) in
        let b = bump_least m.issued (n / 32) inside_issued (k / 32) in omega arith
  ]

  half' : (v : Mark) (e : Event) → m.half ≡ Some e → is_held (get_or (set m.marks n v) (place_of e) Waiting) ≡ true
  half' v e q =
      let a = s.halfway e q in
      let b = s.issued (place_of e) a in
      let d : place_of e ≡ n → ⊥ = λ x. let y = subst (λ (i : ℕ). i % 32 < get_or m.issued (i / 32) 0) x b in omega arith in
      ap is_held (get_or-set_other m.marks n (place_of e) v Waiting d) ∙ a

  order_is : (code : ℕ) → code ≡ rd n → m.order.items ++ code ∷ [] ≡ m.order.items ++ rd n ∷ []
  order_is code e = ap (λ (k : ℕ). m.order.items ++ k ∷ []) e

  issued_is : ◌≡◌ {A = ℕ → ℕ} (λ p. get_or issued' p 0) (λ p. cond (eqb p (table unit n)) (get_or m.issued p 0 + 1) (get_or m.issued p 0))
  unfolding table
  issued_is = bump_is m.issued (n / 32) inside_issued

  abbrev pub after_put_load : ℕ → Inner
  after_put_load code = record {
    tables = m.tables;
    marks = set m.marks n Done;
    issued = issued';
    last = m.last;
    half = m.half;
    order = record { items = m.order.items ++ code ∷ [] };
  }

  abbrev pub after_put_store : Inner
  after_put_store = record {
    tables = m.tables;
    marks = set m.marks n Held;
    issued = issued';
    last = m.last;
    half = m.half;
    order = m.order;
  }

  abbrev pub after_put_swap : ℕ → Event → Inner
  after_put_swap code r = record {
    tables = m.tables;
    marks = set m.marks n Held;
    issued = issued';
    last = m.last;
    half = Some r;
    order = record { items = m.order.items ++ code ∷ [] };
  }

  pub load_sound : (code : ℕ) → Sound (after_put_load code)
  load_sound code = record {
    few = few';
    room = let a = count_done m.marks n inside_marks in let b = sum_bump m.issued (n / 32) inside_issued in let c = s.room in omega (arith, length-append m.order.items (code ∷ []));
    fits = let a = issue_room in omega (arith, length-append m.order.items (code ∷ []));
    issued = held' Done;
    half = s.half;
    halfway = half' Done;
    reading = s.reading;
    drained = s.drained;
  }

  pub store_sound : Sound after_put_store
  store_sound = record {
    few = few';
    room = let a = count_more m.marks n inside_marks in let b = sum_bump m.issued (n / 32) inside_issued in let c = s.room in omega arith;
    fits = s.fits;
    issued = held' Held;
    half = s.half;
    halfway = half' Held;
    reading = s.reading;
    drained = s.drained;
  }

  pub swap_sound : (code : ℕ) (r : Event) → place_of r ≡ n → bit_of r.side ≡ 0 → Sound (after_put_swap code r)
  swap_sound code r at side = record {
    few = few';
    room = let a = count_more m.marks n inside_marks in let b = sum_bump m.issued (n / 32) inside_issued in let c = s.room in omega (arith, length-append m.order.items (code ∷ []));
    fits = let a = issue_room in omega (arith, length-append m.order.items (code ∷ []));
    issued = held' Held;
    half = λ e q. let x : r ≡ e = cc in let y = ap place_of x in omega arith;
    halfway = λ e q. let x : r ≡ e = cc in
        subst (λ (k : ℕ). is_held (get_or (set m.marks n Held) k Waiting) ≡ true) (sym at ∙ ap place_of x) (ap is_held (get_or-set_same m.marks n Held Waiting inside_marks));
    reading = λ e q. let x : r ≡ e = cc in sym (ap (λ (d : Event). bit_of d.side) x) ∙ side;
    drained = s.drained;
  }

  pub load_state : (code : ℕ) → code ≡ rd n → inside (after_put_load code) ≡ after_issue unit (inside m) n true false
  load_state code e = same_state issued_is (set_is is_held m.marks n Done Waiting inside_marks) refl (order_is code e) refl

  pub store_state : inside after_put_store ≡ after_issue unit (inside m) n false true
  store_state = same_state issued_is (set_is is_held m.marks n Held Waiting inside_marks) refl refl refl

  pub swap_state : (code : ℕ) (r : Event) → place_of r ≡ n → code ≡ rd n → inside (after_put_swap code r) ≡ after_issue unit (inside m) n true true
  swap_state code r at e = same_state issued_is (set_is is_held m.marks n Held Waiting inside_marks) refl (order_is code e) (ap (λ (k : ℕ). Some k) at)
