-- What is kept, one entry or one table more.
use Rattle.std.proofs.Common.{◌≡◌, ℕ, zero, suc, ◌+◌, ◌-◌, ◌*◌, ◌<◌, List, [], ◌∷◌, ◌++◌, map, length, get_or, set, replicate, None, fold, Option, sym, refl, ap, ◌∙◌, inl, inr, append-nil, arith, length-set}
use lib.ListN.{length-map, length-replicate}
use Rattle.std.proofs.lemmas.List.{length_push, length-append, get_or_append_left, get_or_at, get_or_past, get_or-set_same, get_or-set_other, get_or-map, get_or_default, get_or-replicate, flat_map_more, same_lists}
use Rattle.std.proofs.lemmas.List.Sums.{fold_push}
use Rattle.std.proofs.lemmas.Bool.{cases_eq, cases_lt}
use Rattle.tables.specs.declared.line.Access.{Access}
use Rattle.tables.specs.declared.line.Entry.{Entry}
use Rattle.tables.specs.declared.line.Entry.TheVariants.{Operation, Barrier}
use Rattle.tables.specs.Size.{unit, number, table, row}
use Rattle.tables.specs.Rows.{Rows, empty, added}
use Rattle.tables.specs.Contents.{blank, with_added}
use Rattle.tables.proofs.Numbering.{number_table_row, table_number, row_number}
use Rattle.record.specs.declared.entries.Item.{Item}
use Rattle.record.specs.Entries.{rows, line_claim, claims_of, claim_at}
use Rattle.record.specs.Kept.{Kept, note_at, noted}

below : (p m : ℕ) → p < 4 → m < 32 → number unit p m < 128
unfolding number
below p m g h = omega arith

-- a list's end, past which there is nothing
pub end_at : {X : Type 0} (xs : List X) (x d : X) → get_or (xs ++ x ∷ []) (length xs) d ≡ x
end_at xs x d = get_or_at xs x [] d (length xs) refl

pub end_other : {X : Type 0} (xs : List X) (x d : X) (k : ℕ) → (k ≡ length xs → ⊥) → get_or (xs ++ x ∷ []) k d ≡ get_or xs k d
end_other xs x d k h =
    elim (cases_lt k (length xs)) [
      | inl l ↦ get_or_append_left xs (x ∷ []) d k l
      | inr l ↦ let n = length_push xs x in
          let e : (k ≡ length xs) → ⊥ = h in
          get_or_past (xs ++ x ∷ []) k d (omega (arith, e)) ∙ sym (get_or_past xs k d l)
    ]

pub rows_more : (xs : List Item) (x : Item) → rows (xs ++ x ∷ []) ≡ added (rows xs) x.entry
rows_more xs x = fold_push (λ s y. added s y.entry) empty xs x

claims_more : (xs : List Item) (x : Item) → claims_of (xs ++ x ∷ []) ≡ claims_of xs ++ line_claim x.entry x.claim
claims_more xs x = sym (flat_map_more (λ y. line_claim y.entry y.claim) [] xs x)

one_line : (s : Rows) (e : Entry) (k : Option ℕ) → length (added s e).lines ≡ length s.lines + length (line_claim e k)
one_line s (Operation a c) k = length_push s.lines (record { access = a; cell = c; barrier = s.barriers })
one_line s Barrier k = omega arith

length_lines : (xs : List Item) (s : Rows) → length (fold (λ t x. added t x.entry) s xs).lines ≡ length s.lines + length (claims_of xs)
length_lines [] s = omega arith
length_lines (x ∷ xs) s =
    let h = length_lines xs (added s x.entry) in
    let o = one_line s x.entry x.claim in
    let a = length-append (line_claim x.entry x.claim) (claims_of xs) in
    omega arith

-- a table's lines have a claim each
lines_claims : (xs : List Item) → length (rows xs).lines ≡ length (claims_of xs)
lines_claims xs = let h = length_lines xs empty in omega arith

-- a table with nothing in it says nothing
end_none : (ts : List (List Item)) (k : ℕ) → get_or (ts ++ [] ∷ []) k [] ≡ get_or ts k []
end_none ts k =
    elim (cases_eq k (length ts)) [
      | inl e ↦ ap (λ (m : ℕ). get_or (ts ++ [] ∷ []) m []) e ∙ end_at ts [] [] ∙ sym (get_or_past ts k [] (omega arith))
      | inr h ↦ end_other ts [] [] k h
    ]

pub kept_new : (ts : List (List Item)) (rs : List Rows) (cs : List (Option ℕ)) → Kept ts rs cs → Kept (ts ++ [] ∷ []) rs cs
kept_new ts rs cs k = record {
  count = k.count;
  tables = λ j. k.tables j ∙ ap rows (sym (end_none ts j));
  size = k.size;
  claims = λ n. k.claims n ∙ ap (λ (xs : List Item). get_or (claims_of xs) (row unit n) None) (sym (end_none ts (table unit n)));
}

-- a line has room in its table
abbrev pub Room : Entry → ℕ → Type 0
Room (Operation a c) m = m < 32
Room Barrier m = Unit {0}

module _ (p m : ℕ) (low : p < 4) (cs : List (Option ℕ)) (all : length cs ≡ 128) where
  note_inside :
      (e : Entry) (k : Option ℕ) (A A' : List (Option ℕ)) → Room e m → A' ≡ A ++ line_claim e k → m ≡ length A
      → (n : ℕ) → table unit n ≡ p → get_or cs n None ≡ get_or A (row unit n) None
      → get_or (note_at e k (number unit p m) cs) n None ≡ get_or A' (row unit n) None
  note_inside (Operation a c) k A A' h i j n t g =
      let b = below p m low h in
      elim (cases_eq (row unit n) m) [
        | inl r ↦ let q : n ≡ number unit p m = sym (number_table_row unit n) ∙ (ap (λ (x : ℕ). number unit x (row unit n)) t ∙ ap (number unit p) r) in
            ap (λ (x : ℕ). get_or (set cs (number unit p m) k) x None) q
            ∙ get_or-set_same cs (number unit p m) k None (omega arith)
            ∙ sym (ap (λ (x : ℕ). get_or A' x None) (r ∙ j) ∙ ap (λ (x : List (Option ℕ)). get_or x (length A) None) i ∙ end_at A k None)
        | inr r ↦ let ne : (n ≡ number unit p m) → ⊥ = λ q. r (ap (row unit) q ∙ row_number unit p m h) in
            get_or-set_other cs (number unit p m) n k None ne ∙ g
            ∙ sym (ap (λ (x : List (Option ℕ)). get_or x (row unit n) None) i ∙ end_other A k None (row unit n) (λ q. r (q ∙ sym j)))
      ]
  note_inside Barrier k A A' h i j n t g =
      g ∙ sym (ap (λ (x : List (Option ℕ)). get_or x (row unit n) None) (i ∙ append-nil A))

  note_outside : (e : Entry) (k : Option ℕ) → Room e m → (n : ℕ) → (table unit n ≡ p → ⊥) → get_or (note_at e k (number unit p m) cs) n None ≡ get_or cs n None
  note_outside (Operation a c) k h n t = get_or-set_other cs (number unit p m) n k None (λ q. t (ap (table unit) q ∙ table_number unit p m h))
  note_outside Barrier k h n t = refl

  note_length : (e : Entry) (k : Option ℕ) → length (note_at e k (number unit p m) cs) ≡ 128
  note_length (Operation a c) k = length-set cs (number unit p m) k ∙ all
  note_length Barrier k = all

module _ (ts : List (List Item)) (p : ℕ) (count : length ts ≡ p) (low : p < 4) (xs : List Item) (x : Item) where
  old : List (List Item)
  old = ts ++ xs ∷ []

  new : List (List Item)
  new = ts ++ (xs ++ x ∷ []) ∷ []

  old_here : (j : ℕ) → j ≡ p → get_or old j [] ≡ xs
  unfolding old
  old_here j e = ap (λ (m : ℕ). get_or (ts ++ xs ∷ []) m []) (e ∙ sym count) ∙ end_at ts xs []

  new_here : (j : ℕ) → j ≡ p → get_or new j [] ≡ xs ++ x ∷ []
  unfolding new
  new_here j e = ap (λ (m : ℕ). get_or (ts ++ (xs ++ x ∷ []) ∷ []) m []) (e ∙ sym count) ∙ end_at ts (xs ++ x ∷ []) []

  same_there : (j : ℕ) → (j ≡ p → ⊥) → get_or old j [] ≡ get_or new j []
  unfolding old new
  same_there j h = end_other ts xs [] j (λ e. h (e ∙ count)) ∙ sym (end_other ts (xs ++ x ∷ []) [] j (λ e. h (e ∙ count)))

  module _ (rs : List Rows) (cs : List (Option ℕ)) (k : Kept old rs cs) (room : Room x.entry (length (get_or rs p empty).lines)) where
    row_is : get_or rs p empty ≡ rows xs
    row_is = k.tables p ∙ ap rows (old_here p refl)

    tables_more : (j : ℕ) → get_or (with_added rs (p + 1) x.entry) j empty ≡ rows (get_or new j [])
    tables_more j =
        let q : p + 1 - 1 ≡ p = omega arith in
        let w : with_added rs (p + 1) x.entry ≡ set rs p (added (get_or rs p empty) x.entry) =
        ap (λ (i : ℕ). set rs i (added (get_or rs i empty) x.entry)) q in
        ap (λ (r : List Rows). get_or r j empty) w
        ∙ elim (cases_eq j p) [
          | inl e ↦ ap (λ (i : ℕ). get_or (set rs p (added (get_or rs p empty) x.entry)) i empty) e
              ∙ get_or-set_same rs p (added (get_or rs p empty) x.entry) empty (omega (arith, k.count))
              ∙ ap (λ (r : Rows). added r x.entry) row_is ∙ sym (rows_more xs x) ∙ ap rows (sym (new_here j e))
          | inr e ↦ get_or-set_other rs p j (added (get_or rs p empty) x.entry) empty e ∙ k.tables j ∙ ap rows (same_there j e)
        ]

    claims_more_at : (n : ℕ) → get_or (noted p (get_or rs p empty) x cs) n None ≡ claim_at new n
    claims_more_at n =
        let m = length (get_or rs p empty).lines in
        elim (cases_eq (table unit n) p) [
          | inl e ↦ note_inside p m low cs k.size x.entry x.claim (claims_of xs) (claims_of (xs ++ x ∷ [])) room (claims_more xs x)
              (ap (λ (r : Rows). length r.lines) row_is ∙ lines_claims xs) n e
              (k.claims n ∙ ap (λ (i : List Item). get_or (claims_of i) (row unit n) None) (old_here (table unit n) e))
              ∙ ap (λ (i : List Item). get_or (claims_of i) (row unit n) None) (sym (new_here (table unit n) e))
          | inr e ↦ note_outside p m low cs k.size x.entry x.claim room n e ∙ k.claims n
              ∙ ap (λ (i : List Item). get_or (claims_of i) (row unit n) None) (same_there (table unit n) e)
        ]

    kept_item : Kept new (with_added rs (p + 1) x.entry) (noted p (get_or rs p empty) x cs)
    kept_item = record {
      count = length-set rs (p + 1 - 1) (added (get_or rs (p + 1 - 1) empty) x.entry) ∙ k.count;
      tables = tables_more;
      size = note_length p (length (get_or rs p empty).lines) low cs k.size x.entry x.claim;
      claims = claims_more_at;
    }

-- one entry more in the last table
pub kept_more :
    (ts : List (List Item)) (p : ℕ) → length ts ≡ p → p < 4 → (xs : List Item) (x : Item) (rs rs' : List Rows) (cs cs' : List (Option ℕ))
    → Room x.entry (length (get_or rs p empty).lines) → rs' ≡ with_added rs (p + 1) x.entry → cs' ≡ noted p (get_or rs p empty) x cs
    → Kept (ts ++ xs ∷ []) rs cs → Kept (ts ++ (xs ++ x ∷ []) ∷ []) rs' cs'
unfolding old new
kept_more ts p l h xs x rs rs' cs cs' room e f k = rw (e, f) (kept_item ts p l h xs x rs cs k room)

-- the table to which an entry was added
pub row_added :
    (rs rs' : List Rows) (p : ℕ) (xs : List Item) (x : Item) → p < length rs → rs' ≡ with_added rs (p + 1) x.entry → get_or rs p empty ≡ rows xs
    → get_or rs' p empty ≡ rows (xs ++ x ∷ [])
row_added rs rs' p xs x h e r =
    let q : p + 1 - 1 ≡ p = omega arith in
    ap (λ (s : List Rows). get_or s p empty) (e ∙ ap (λ (i : ℕ). set rs i (added (get_or rs i empty) x.entry)) q)
    ∙ get_or-set_same rs p (added (get_or rs p empty) x.entry) empty h
    ∙ ap (λ (s : Rows). added s x.entry) r ∙ sym (rows_more xs x)

-- noting the claim of a line
pub note_line :
    (p : ℕ) (s : Rows) (x : Item) (cs : List (Option ℕ)) (n : ℕ) (a : Access) (c : ℕ)
    → x.entry ≡ Operation a c → n ≡ length s.lines → set cs (p * 32 + n) x.claim ≡ noted p s x cs
unfolding number
note_line p s x cs n a c e f =
    let q : p * 32 + n ≡ 32 * p + length s.lines = omega arith in
    ap (λ (i : ℕ). set cs i x.claim) q ∙ sym (ap (λ (y : Entry). note_at y x.claim (32 * p + length s.lines) cs) e)

blank_at : (k : ℕ) → get_or blank k empty ≡ empty
blank_at zero = refl
blank_at (suc zero) = refl
blank_at (suc (suc zero)) = refl
blank_at (suc (suc (suc zero))) = refl
blank_at (suc (suc (suc (suc k)))) = refl

none_at : (n m : ℕ) (d : Option ℕ) → get_or (replicate n d) m d ≡ d
none_at n m d =
    let l = length-replicate n d in
    elim (cases_lt m n) [ inl h ↦ get_or-replicate n m d d h | inr h ↦ get_or_past (replicate n d) m d (omega arith) ]

-- before anything is read
pub kept_none : (rs : List Rows) → rs ≡ blank → Kept [] rs (replicate 128 None)
kept_none rs e = record {
  count = ap length e;
  tables = λ k. ap (λ (r : List Rows). get_or r k empty) e ∙ blank_at k;
  size = length-replicate {A = Option ℕ} 128 None;
  claims = λ n. none_at 128 n None;
}

-- all tables that are kept, once all are read
pub kept_tables : (ts : List (List Item)) (rs : List Rows) (cs : List (Option ℕ)) → length ts ≡ 4 → Kept ts rs cs → rs ≡ map rows ts
kept_tables ts rs cs l k =
    let n = length-map ts rows in
    same_lists rs (map rows ts) (omega (arith, k.count))
    (λ j d h. get_or_default rs j d empty h ∙ k.tables j ∙ sym (get_or-map rows ts j [] d (omega (arith, k.count))))
