-- Calls that are written one after another make up a schedule.
use Rattle.std.proofs.Common.{◌≡◌, ℕ, zero, suc, ◌+◌, ◌-◌, ◌/◌, ◌%◌, ◌<◌, ◌≤◌, Bool, cond, List, [], ◌∷◌, ◌++◌, length, get_or, drop, set, sym, refl, ap, ◌∙◌, subst, inl, inr, append_assoc, append-nil, arith, length-append}
use mathlib.Core.Path.{fun_ext}
use Rattle.std.proofs.lemmas.List.{map-append, get_or-set_same, get_or-set_other, drop_more, length_push, length-map, take-append-drop}
use Rattle.std.proofs.lemmas.Bool.{cases_eq, eq-eqb, ne_eqb}
use Rattle.std.proofs.lemmas.Bool.Decides.{nat_tests}
use Rattle.numbers.specs.Put.{Put}
use Rattle.numbers.proofs.Puts.{put_both}
use Rattle.tables.specs.Size.{unit, number, table, row}
use Rattle.tables.proofs.Numbering.{number_table_row}
use Rattle.model.specs.declared.call.Call.{Call}
use Rattle.model.specs.declared.call.Call.TheVariants.{Issue}
use Rattle.model.specs.Schedule.{schedule, call_code, fill, lacking, more, up_to, drain_of, drains}
use Rattle.model.proofs.Schedules.{more_self}
use Rattle.scheduling.specs.Calls.{issued_by, event_calls, codes_of}

more_other : (f : ℕ → ℕ) (p k q : ℕ) → (q ≡ p → ⊥) → more f p k q ≡ f q
more_other f p k q d = grind (arith, nat_tests)

pub none_more : (f : ℕ → ℕ) (p q : ℕ) → f q ≡ more f p 0 q
none_more f p q = grind (arith, nat_tests)

-- one line more is issued
pub one_issued :
    (f : ℕ → ℕ) (is : List ℕ) (p k : ℕ) → p < length is → ((q : ℕ) → issued_by is q ≡ more f p k q)
    → (q : ℕ) → issued_by (set is p (get_or is p 0 + 1)) q ≡ more f p (suc k) q
one_issued f is p k l h q = elim (cases_eq q p) [
  | inl e ↦ subst (λ (x : ℕ). issued_by (set is p (get_or is p 0 + 1)) x ≡ more f p (suc k) x) (sym e)
      (get_or-set_same is p (get_or is p 0 + 1) 0 l ∙ (let a = h p in let b = more_self f p k in let d = more_self f p (suc k) in omega arith))
  | inr d ↦ get_or-set_other is p q (get_or is p 0 + 1) 0 d ∙ (h q ∙ (more_other f p k q d ∙ sym (more_other f p (suc k) q d)))
]

fill_more : (k p : ℕ) → codes_of (fill (suc k) p) ≡ codes_of (fill k p) ++ p ∷ []
unfolding fill
fill_more k p =
    let e : p + 1 - 1 ≡ p = omega arith in
    map-append (call_code unit) (fill k p) (Issue (p + 1) ∷ []) ∙ ap (λ (x : ℕ). codes_of (fill k p) ++ x ∷ []) e

fill_length : (k p : ℕ) → length (fill k p) ≡ k
unfolding fill
fill_length zero p = refl
fill_length (suc k) p = let i = fill_length k p in let l = length_push (fill k p) (Issue (p + 1)) in omega arith

-- where no call is made, nothing is written
pub put_nothing : (out : List ℕ) (at : ℕ) → at ≤ length out → Put [] out at at out
put_nothing out at h = record { after = sym (take-append-drop at out); ends = omega arith; within = h }

-- one issue more
pub put_issue :
    (k p : ℕ) (out out₁ out₂ : List ℕ) (at mid next : ℕ) → Put (codes_of (fill k p)) out at mid out₁ → Put (p ∷ []) out₁ mid next out₂
    → Put (codes_of (fill (suc k) p)) out at next out₂
put_issue k p out out₁ out₂ at mid next a b =
    subst (λ (xs : List ℕ). Put xs out at next out₂) (sym (fill_more k p)) (put_both (codes_of (fill k p)) (p ∷ []) out out₁ out₂ at mid next a b)

-- calls after calls
pub put_parts :
    (us vs : List Call) (out out₁ out₂ : List ℕ) (at mid next : ℕ) → Put (codes_of us) out at mid out₁ → Put (codes_of vs) out₁ mid next out₂
    → Put (codes_of (us ++ vs)) out at next out₂
put_parts us vs out out₁ out₂ at mid next a b =
    subst (λ (xs : List ℕ). Put xs out at next out₂) (sym (map-append (call_code unit) us vs))
    (put_both (codes_of us) (codes_of vs) out out₁ out₂ at mid next a b)

-- a drain's code is four more than the line's number
drain_code : (n : ℕ) → call_code unit (drain_of unit n) ≡ 4 + n
drain_code n =
    let t : table unit n + 1 - 1 ≡ table unit n = omega arith in
    let r : row unit n + 1 - 1 ≡ row unit n = omega arith in
    ap (λ (x : ℕ). 4 + number unit x (row unit n + 1 - 1)) t
    ∙ (ap (λ (x : ℕ). 4 + number unit (table unit n) x) r ∙ ap (λ (x : ℕ). 4 + x) (number_table_row unit n))

-- k issues end k places on
pub issues_end : (k p : ℕ) (out out₁ : List ℕ) (at mid : ℕ) → Put (codes_of (fill k p)) out at mid out₁ → mid ≡ at + k
issues_end k p out out₁ at mid a = let l = length-map (fill k p) (call_code unit) in let m = fill_length k p in omega (arith, a.ends)

-- the calls for a write end with its drain, and for a read there is none
module _ (f : ℕ → ℕ) (e : ℕ) where
  abbrev issues : List Call
  issues = fill (lacking unit f (e / 2)) (table unit (e / 2))

  event_write : e % 2 ≡ 1 → event_calls f e ≡ issues ++ drain_of unit (e / 2) ∷ []
  event_write h = ap (λ (b : Bool). issues ++ cond b (drain_of unit (e / 2) ∷ []) []) (eq-eqb (e % 2) 1 h)

  event_read : (e % 2 ≡ 1 → ⊥) → event_calls f e ≡ issues
  event_read h = ap (λ (b : Bool). issues ++ cond b (drain_of unit (e / 2) ∷ []) []) (ne_eqb (e % 2) 1 h) ∙ append-nil issues

  pub issues_fit : lacking unit f (e / 2) ≤ length (event_calls f e)
  issues_fit = let a = length-append issues (drains unit (e / 2) (e % 2)) in let b = fill_length (lacking unit f (e / 2)) (table unit (e / 2)) in omega arith

  pub drain_fits : e % 2 ≡ 1 → lacking unit f (e / 2) < length (event_calls f e)
  drain_fits h =
      let a = ap length (event_write h) in
      let b = length_push issues (drain_of unit (e / 2)) in
      let d = fill_length (lacking unit f (e / 2)) (table unit (e / 2)) in
      omega arith

  pub put_write :
      (out out₁ out₂ : List ℕ) (at mid next : ℕ) → e % 2 ≡ 1 → Put (codes_of issues) out at mid out₁ → Put ((4 + e / 2) ∷ []) out₁ mid next out₂
      → Put (codes_of (event_calls f e)) out at next out₂
  put_write out out₁ out₂ at mid next h a b =
      subst (λ (xs : List Call). Put (codes_of xs) out at next out₂) (sym (event_write h))
      (put_parts issues (drain_of unit (e / 2) ∷ []) out out₁ out₂ at mid next a
      (subst (λ (x : ℕ). Put (x ∷ []) out₁ mid next out₂) (sym (drain_code (e / 2))) b))

  pub put_read : (out out₁ : List ℕ) (at mid : ℕ) → (e % 2 ≡ 1 → ⊥) → Put (codes_of issues) out at mid out₁ → Put (codes_of (event_calls f e)) out at mid out₁
  put_read out out₁ at mid h a = subst (λ (xs : List Call). Put (codes_of xs) out at mid out₁) (sym (event_read h)) a

module _ (f : ℕ → ℕ) (o : List ℕ) (i : ℕ) (l : i < length o) where
  abbrev e : ℕ
  e = get_or o i 0

  abbrev rest : List ℕ
  rest = drop (i + 1) o

  -- the calls for an event stand before those for the events after it
  pub scheduled_on :
      (g : ℕ → ℕ) (done : List Call) → ((q : ℕ) → g q ≡ up_to unit f (e / 2) q)
      → (done ++ event_calls f e) ++ schedule unit g rest ≡ done ++ schedule unit f (drop i o)
  scheduled_on g done h =
      let f' = up_to unit f (e / 2) in
      ap (λ (s : ℕ → ℕ). (done ++ event_calls f e) ++ schedule unit s rest) (fun_ext h)
      ∙ (append_assoc done (event_calls f e) (schedule unit f' rest)
      ∙ (ap (λ (z : List Call). done ++ z) (append_assoc (fill (lacking unit f (e / 2)) (table unit (e / 2))) (drains unit (e / 2) (e % 2)) (schedule unit f' rest))
      ∙ ap (λ (z : List ℕ). done ++ schedule unit f z) (sym (drop_more o i 0 l))))

  -- so there is room for them if there is for all
  pub room_on :
      (done all : List Call) (n : ℕ) → done ++ schedule unit f (drop i o) ≡ all → length all ≤ n → length done + length (event_calls f e) ≤ n
  room_on done all n h b =
      let f' = up_to unit f (e / 2) in
      let s = ap length (scheduled_on f' done (λ _. refl) ∙ h) in
      let a = length-append (done ++ event_calls f e) (schedule unit f' rest) in
      let d = length-append done (event_calls f e) in
      omega arith
