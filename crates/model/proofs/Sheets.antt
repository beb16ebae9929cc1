-- What an issue does to the words on a sheet.
use Rattle.std.proofs.Common.{◌≡◌, ℕ, zero, suc, ◌<◌, Bool, true, false, cond, eqb, List, [], ◌∷◌, length, get_or, set, sym, refl, ap, ◌∙◌, subst, inl, inr, length-set}
use mathlib.Core.Path.{fun_ext}
use Rattle.std.proofs.lemmas.List.{get_or-set_same, get_or-set_other}
use Rattle.std.proofs.lemmas.Bool.{cases_eq, eq-eqb, ne_eqb, cond-true, cond-false}
use Rattle.tables.specs.Lines.{nth}
use Rattle.model.specs.Program.{Program}
use Rattle.model.specs.Machine.{State, words_on, read_word, issue_sheet}
use Rattle.model.proofs.WordsRead.{issue_words, put}

pub nth_set_other : {A : Type 0} (xs : List A) (i j : ℕ) (v : A) → (j ≡ i → ⊥) → nth (set xs i v) j ≡ nth xs j
nth_set_other [] i j v h = refl
nth_set_other (x ∷ xs) zero zero v h = absurd (h refl)
nth_set_other (x ∷ xs) zero (suc j) v h = refl
nth_set_other (x ∷ xs) (suc i) zero v h = refl
nth_set_other (x ∷ xs) (suc i) (suc j) v h = nth_set_other xs i j v (λ e. h (ap suc e))

words_set : {M : Type 0} (start : ℕ → M) (sheet : List M) (i : ℕ) (v : M) → i < length sheet → words_on start (set sheet i v) ≡ put (words_on start sheet) i v
words_set start sheet i v l = fun_ext (λ k. elim (cases_eq k i) [
  | inl e ↦ subst (λ (j : ℕ). get_or (set sheet i v) j (start 0) ≡ v) (sym e) (get_or-set_same sheet i v (start 0) l)
      ∙ sym (cond-true (eqb k i) v (words_on start sheet k) (eq-eqb k i e))
  | inr e ↦ get_or-set_other sheet i k v (start 0) e ∙ sym (cond-false (eqb k i) v (words_on start sheet k) (ne_eqb k i e))
])

module _ {M : Type 0} (P : Program) (stored : (ℕ → M) → ℕ → M) (start : ℕ → M) (s : State) (sheet : List M) (n : ℕ) where
  abbrev v : M
  v = read_word P.size P.cell stored start s sheet n

  pub words_issue :
      (P.reads n ≡ true → n < length sheet)
      → words_on start (issue_sheet P stored start s sheet n) ≡ issue_words P stored start s (words_on start sheet) n
  words_issue = go (P.reads n)
    where
      go : (b : Bool) → (b ≡ true → n < length sheet) → words_on start (cond b (set sheet n v) sheet) ≡ cond b (put (words_on start sheet) n v) (words_on start sheet)
      go true l = words_set start sheet n v (l refl)
      go false l = refl

  pub length_issue : length (issue_sheet P stored start s sheet n) ≡ length sheet
  length_issue = go (P.reads n)
    where
      go : (b : Bool) → length (cond b (set sheet n v) sheet) ≡ length sheet
      go true = length-set sheet n v
      go false = refl

  pub nth_issue : (i : ℕ) → (P.reads n ≡ true → i ≡ n → ⊥) → nth (issue_sheet P stored start s sheet n) i ≡ nth sheet i
  nth_issue i = go (P.reads n)
    where
      go : (b : Bool) → (b ≡ true → i ≡ n → ⊥) → nth (cond b (set sheet n v) sheet) i ≡ nth sheet i
      go true h = nth_set_other sheet n i v (h refl)
      go false h = refl
