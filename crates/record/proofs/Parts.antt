-- How an entry stands, and what is amiss with one, number by number.
use Rattle.std.proofs.Common.{◌≡◌, ℕ, ◌<◌, ◌≤◌, IsErrAnd, Result, List, [], ◌∷◌, ◌++◌, length, sym, refl, ap, ◌∙◌, inl, inr, append_assoc, append-nil, arith}
use Rattle.std.proofs.lemmas.Result.{err_from_is_err_and}
use Rattle.faults.specs.declared.Fault.{Fault}
use Rattle.numbers.proofs.Standing.{number_on}
use Rattle.tables.specs.Rows.{Rows}
use Rattle.record.specs.declared.entries.Item.{Item}
use Rattle.record.specs.Form.{Takes, tested}
use Rattle.record.specs.declared.entries.EntryCode.TheVariants.{Store, Swap}
use Rattle.record.specs.declared.entries.Source.{Source}
use Rattle.record.specs.declared.entries.Source.TheVariants.{Number, Copy}
use Rattle.record.specs.Entries.{code_of, numbers_of}
use Rattle.record.specs.Table.{Role, cell, claim, roles, role_of, test, code_test, parts, entry_form}

module _ (part : List ℕ) (base : ℕ) (s : Rows) (at : ℕ) where
  -- at `at` an entry of this code has begun: the numbers `got` stand after the code, and those of the roles rs are due at p
  pub record Begun (code : ℕ) (got : List ℕ) (rs : List Role) (p : ℕ) : Type 0 where
    pub stuck : {e : Fault} → (parts part base s rs).amiss p e → (entry_form part base s).amiss at e
    pub ends :
        (ns : List ℕ) (x : Item) (next : ℕ)
        → (parts part base s rs).is p ns next → numbers_of x ≡ code ∷ got ++ ns → (entry_form part base s).is at x next

  pub begun : {code mid : ℕ} (rs : List Role) → (tested part base (code_test s)).is at code mid → roles code ≡ rs → Begun code [] rs mid
  begun {code = code} {mid = mid} rs t e =
      let under : (qs : List Role) → qs ≡ rs → Begun code [] qs mid → Begun code [] rs mid = λ qs i h. rw (sym i) h in
      under (roles code) e (record {
        stuck = λ f. inr (code, mid, t, inl f);
        ends = λ ns x next a n. (code, mid, t, (ns, next, a, (n, refl)));
      })

module _ {part : List ℕ} {base : ℕ} {s : Rows} {at code : ℕ} {got : List ℕ} where
  pub one :
      {r : Role} {rs : List Role} {p v q : ℕ}
      → Begun part base s at code got (r ∷ rs) p → (tested part base (test s r)).is p v q → Begun part base s at code (got ++ v ∷ []) rs q
  one {v = v} {q = q} b t = record {
    stuck = λ f. b.stuck (inr (v, q, t, inl f));
    ends = λ ns x next a n. b.ends (v ∷ ns) x next (v, q, t, (ns, next, a, (refl, refl))) (n ∙ ap (λ (xs : List ℕ). code ∷ xs) (append_assoc got (v ∷ []) ns));
  }

  -- no number more is due
  pub whole : {p : ℕ} (x : Item) → Begun part base s at code got [] p → numbers_of x ≡ code ∷ got → (entry_form part base s).is at x p
  whole {p = p} x b n = b.ends [] x p (refl, refl) (n ∙ ap (λ (xs : List ℕ). code ∷ xs) (sym (append-nil got)))

  -- the exit where something is amiss with the number that is due
  pub amiss :
      {r : Role} {rs : List Role} {p : ℕ} {e : Fault} (next : ℕ) (result : Result Item Fault)
      → Begun part base s at code got (r ∷ rs) p → IsErrAnd result (λ f. f ≡ e) → (tested part base (test s r)).amiss p e
      → Takes (entry_form part base s) at next result
  amiss next result b h f = let p = err_from_is_err_and result h in rw (p.1, p.2) (b.stuck (inl f))

-- an entry has its bytes within its part
module _ (part : List ℕ) (base : ℕ) (s : Rows) where
  parts_on : (rs : List Role) (p : ℕ) (ns : List ℕ) (n : ℕ) → (parts part base s rs).is p ns n → p ≤ length part → (p ≤ n) × (n ≤ length part)
  parts_on [] p ns n (e, f) l = (omega arith, omega arith)
  parts_on (r ∷ rs) p ns n (v, q, (t, u), (vs, m, a, (i, j))) l =
      let o = number_on part p v q t in
      let h = parts_on rs q vs m a t.within in
      (omega arith, omega arith)

  pub entry_on : (at : ℕ) (x : Item) (next : ℕ) → (entry_form part base s).is at x next → (at < next) × (next ≤ length part)
  entry_on at x next (code, mid, (t, u), (ns, n, a, (i, j))) =
      let o = number_on part at code mid t in
      let h = parts_on (roles code) mid ns n a t.within in
      (omega arith, omega arith)

pub roles_store : (o : Source) → roles (code_of (Store o)) ≡ cell ∷ role_of o ∷ []
roles_store Number = refl
roles_store Copy = refl

pub roles_swap : (o : Source) → roles (code_of (Swap o)) ≡ cell ∷ role_of o ∷ claim ∷ []
roles_swap Number = refl
roles_swap Copy = refl

-- an entry after those of a table that is known under another name
pub entry_after :
    (part : List ℕ) (base : ℕ) (s t : Rows) (at : ℕ) (x : Item) (next : ℕ)
    → s ≡ t → (entry_form part base s).is at x next → (entry_form part base t).is at x next
entry_after part base s t at x next e h = rw (sym e) h

pub amiss_after :
    (part : List ℕ) (base : ℕ) (s t : Rows) (at : ℕ) (f : Fault) → s ≡ t → (entry_form part base s).amiss at f → (entry_form part base t).amiss at f
amiss_after part base s t at f e h = rw (sym e) h
