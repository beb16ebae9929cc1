-- What stands at a place: group by group, and that it is one thing only.
use Rattle.std.proofs.Common.{◌≡◌, ℕ, zero, suc, ◌+◌, ◌-◌, ◌*◌, ◌/◌, ◌%◌, ◌^◌, ◌<◌, ◌≤◌, ◌⊎◌, List, ◌∷◌, ◌++◌, length, get_or, take, drop, Ok, Err, Result, sym, refl, ap, ◌∙◌, inl, inr, sub-one, arith}
use Rattle.std.proofs.lemmas.Bool.{cases_lt}
use Rattle.std.proofs.lemmas.List.{drop_all, drop_more, drop-drop, drop_at}
use Rattle.faults.specs.declared.Fault.{Fault}
use Rattle.faults.specs.declared.Fault.TheVariants.{NumberEnds, NumberMalformed}
use Rattle.numbers.specs.Number.{value_of, bound, Goes, Reaches, Stands, Shortest, encoded, encoded_by, Number}
use Rattle.numbers.specs.Amiss.{capped, Cut, Wide, Spoilt, NoNumber, Reads}
use Rattle.numbers.proofs.Codes.{last, more, size_last, size_more, bound_more, bound_one, bound_five, bound_above, room}

-- the number that the bytes from `at` to p say
abbrev said : List ℕ → ℕ → ℕ → ℕ
said xs at p = value_of (take (p + 1 - at) (drop at xs))

said_more :
    (xs : List ℕ) (at p : ℕ) → at ≤ p → at < length xs → said xs at p ≡ get_or xs at 0 % 128 + 128 * said xs (at + 1) p
unfolding value_of
said_more xs at p h w =
    let e : p + 1 - at ≡ suc (p + 1 - (at + 1)) = omega arith in
    rw (drop_more xs at 0 w, e)

said_last : (xs : List ℕ) (at : ℕ) → at < length xs → said xs at at ≡ get_or xs at 0 % 128
unfolding value_of
said_last xs at w =
    let e : at + 1 - (at + 1) ≡ 0 = omega arith in
    let z : said xs (at + 1) at ≡ 0 = rw e in
    omega (arith, said_more xs at at (omega arith) w)

goes_more : (xs : List ℕ) (at p : ℕ) → 128 ≤ get_or xs at 0 → Goes xs (at + 1) p → Goes xs at p
goes_more xs at p here after i low high =
    elim (cases_lt at i) [ inl q ↦ after i (omega arith) high | inr q ↦ (let e : i ≡ at = omega arith in rw e here) ]

goes_after : (xs : List ℕ) (at p : ℕ) → Goes xs at p → Goes xs (at + 1) p
goes_after xs at p goes i low high = goes i (omega arith) high

reaches_more : (g : ℕ) (xs : List ℕ) (at p : ℕ) → 1 < g → 128 ≤ get_or xs at 0 → Reaches (g - 1) xs (at + 1) p → Reaches g xs at p
reaches_more g xs at p h here r = record {
  low = omega arith;
  high = omega arith;
  within = r.within;
  goes = goes_more xs at p here r.goes;
}

reaches_after : (g : ℕ) (xs : List ℕ) (at p : ℕ) → at < p → Reaches g xs at p → Reaches (g - 1) xs (at + 1) p
reaches_after g xs at p h r = record {
  low = omega arith;
  high = omega arith;
  within = r.within;
  goes = goes_after xs at p r.goes;
}

-- the first byte belongs to the number
pub reaches_here : (g : ℕ) (xs : List ℕ) (at : ℕ) → 0 < g → at < length xs → Reaches g xs at at
reaches_here g xs at h w = record {
  low = omega arith;
  high = omega arith;
  within = w;
  goes = λ i low high. absurd (omega arith);
}

pub stands_last :
    (g : ℕ) (xs : List ℕ) (at : ℕ)
    → 0 < g → at < length xs → get_or xs at 0 < 128 → (g ≡ 1 → get_or xs at 0 < 16) → Stands g xs at (get_or xs at 0) at
stands_last g xs at p h below low = record {
  reaches = reaches_here g xs at p h;
  stops = below;
  says = omega (arith, said_last xs at h);
  small = elim (cases_lt 1 g) [ inl q ↦ omega (arith, bound_more g q, bound_above (g - 1) (omega arith)) | inr q ↦ omega (arith, bound_above g p, low (omega arith)) ];
}

pub stands_more :
    (g : ℕ) (xs : List ℕ) (at v n p : ℕ)
    → 1 < g → at < length xs → 128 ≤ get_or xs at 0 → get_or xs at 0 < 256 → n ≡ v * 128 + (get_or xs at 0 - 128)
    → Stands (g - 1) xs (at + 1) v p → Stands g xs at n p
stands_more g xs at v n p h w goes byte is s =
    let r = s.reaches in
    record {
      reaches = reaches_more g xs at p h goes r;
      stops = s.stops;
      says = omega (arith, said_more xs at p (omega arith) w, s.says);
      small = omega (arith, bound_more g h, s.small);
    }

pub cut_more : (g : ℕ) (xs : List ℕ) (at : ℕ) → 1 < g → 128 ≤ get_or xs at 0 → Cut (g - 1) xs (at + 1) → Cut g xs at
cut_more g xs at h here c = record { short = omega (arith, c.short); goes = goes_more xs at (length xs) here c.goes }

pub wide_more : (g : ℕ) (xs : List ℕ) (at : ℕ) → 1 < g → 128 ≤ get_or xs at 0 → Wide (g - 1) xs (at + 1) → Wide g xs at
wide_more g xs at h here w = record {
  p = w.p;
  reaches = reaches_more g xs at w.p h here w.reaches;
  full = omega (arith, w.full);
  above = w.above;
}

-- what stands, by its first byte
pub front :
    (g : ℕ) (xs : List ℕ) (at v p : ℕ) → Stands g xs at v p
    → ((at ≡ p) × (get_or xs at 0 < 128) × (v ≡ get_or xs at 0))
    ⊎ ((at < p) × (1 < g) × (128 ≤ get_or xs at 0) × (v % 128 ≡ get_or xs at 0 % 128) × Stands (g - 1) xs (at + 1) (v / 128) p)
front g xs at v p s =
    let r = s.reaches in
    elim (cases_lt at p) [
      | inl q ↦
          (let m = said_more xs at p (omega arith) (omega arith) in
          let h : 1 < g = omega arith in
          inr (
            q,
            h,
            r.goes at (omega arith) q,
            omega (arith, s.says),
            record {
              reaches = reaches_after g xs at p q r;
              stops = s.stops;
              says = omega (arith, s.says);
              small = omega (arith, s.small, bound_more g h);
            },
          ))
      | inr q ↦
          (let e : at ≡ p = omega arith in
          let b : get_or xs at 0 < 128 = rw e s.stops in
          let t : v ≡ said xs at at = s.says ∙ rw e in
          inl (e, b, omega (arith, said_last xs at (omega arith))))
    ]

-- no bytes that say a number are fewer than those that are written
pub fewest : (g : ℕ) (xs : List ℕ) (at v p : ℕ) → Stands g xs at v p → at + length (encoded_by g v) ≤ p + 1
fewest zero xs at v p s = let r = s.reaches in absurd (omega arith)
fewest (suc f) xs at v p s =
    let r = s.reaches in
    elim (cases_lt v 128) [
      | inl low ↦ omega (arith, size_last (suc f) v (omega arith) low)
      | inr high ↦ elim (front (suc f) xs at v p s) [
        | inl q ↦ absurd (omega (arith, q.1, q.2))
        | inr q ↦
            (let i = fewest f xs (at + 1) (v / 128) p (rw sub-one at q.4) in
            let m : length (encoded_by (suc f) v) ≡ 1 + length (encoded_by f (v / 128)) = rw sub-one at (size_more (suc f) v (omega arith) high) in
            omega arith)
      ]
    ]

-- a last group that is not 0 makes the number so
positive : (g : ℕ) (xs : List ℕ) (at v p : ℕ) → Stands g xs at v p → 0 < get_or xs p 0 → 0 < v
positive zero xs at v p s h = let r = s.reaches in absurd (omega arith)
positive (suc f) xs at v p s h =
    elim (front (suc f) xs at v p s) [
      | inl q ↦ (let e : get_or xs at 0 ≡ get_or xs p 0 = rw q.0 in omega (arith, q.2))
      | inr q ↦ omega (arith, positive f xs (at + 1) (v / 128) p (rw sub-one at q.4) h)
    ]

-- what stands in the fewest bytes is the number as it is written
pub as_written :
    (g : ℕ) (xs : List ℕ) (at v p : ℕ) → ((i : ℕ) → get_or xs i 0 < 256) → Stands g xs at v p → Shortest xs at p
    → (drop at xs ≡ encoded_by g v ++ drop (p + 1) xs) × (p + 1 ≡ at + length (encoded_by g v))
as_written zero xs at v p bytes s least = let r = s.reaches in absurd (omega arith)
as_written (suc f) xs at v p bytes s least =
    let r = s.reaches in
    let d = drop_more xs at 0 (omega arith) in
    elim (front (suc f) xs at v p s) [
      | inl q ↦
          (let e = q.0 in
          let c = last (suc f) v (omega arith) (omega (arith, q.1, q.2)) in
          (rw c (cc (d, q.2, e)), omega (arith, ap length c)))
      | inr q ↦
          (let t : Stands f xs (at + 1) (v / 128) p = rw sub-one at q.4 in
          let k = positive f xs (at + 1) (v / 128) p t (least q.0) in
          let i = as_written f xs (at + 1) (v / 128) p bytes t (λ h. least q.0) in
          let m = more (suc f) v (omega arith) (omega arith) in
          let c : encoded_by (suc f) v ≡ (128 + v % 128) ∷ encoded_by f (v / 128) = rw sub-one at m in
          let b : 128 + v % 128 ≡ get_or xs at 0 = omega (arith, q.2, q.3, bytes at) in
          (rw c (cc (d, i.0, b)), omega (arith, ap length c, i.1)))
    ]

-- a list that goes on at a place reaches past it
heads : (xs : List ℕ) (at v : ℕ) (rest : List ℕ) → drop at xs ≡ v ∷ rest → at < length xs
heads xs at v rest e =
    elim (cases_lt at (length xs))
    [ inl h ↦ h | inr h ↦ absurd (let z : ◌≡◌ {A = ℕ} 0 1 = cc (drop_all at xs h, e) in omega arith) ]

-- where the written bytes of a number begin, it stands in the fewest bytes
pub written_stands :
    (g : ℕ) (xs : List ℕ) (at v : ℕ) (rest : List ℕ) → 0 < g → v < bound g → drop at xs ≡ encoded_by g v ++ rest
    → (p : ℕ) × Stands g xs at v p × (Shortest xs at p) × (p + 1 ≡ at + length (encoded_by g v)) × (0 < v → 0 < get_or xs p 0)
written_stands zero xs at v rest h small e = absurd (omega arith)
written_stands (suc f) xs at v rest h small e =
    elim (cases_lt v 128) [
      | inl low ↦
          (let c = last (suc f) v h low in
          let b : drop at xs ≡ v ∷ rest = rw c at e in
          let w : at < length xs = heads xs at v rest b in
          let is : get_or xs at 0 ≡ v = cc (drop_more xs at 0 w, b) in (
            at,
            rw is at (stands_last (suc f) xs at h w (omega arith) (λ one. omega (arith, bound_one (suc f) one))),
            (λ k. absurd (omega arith)),
            omega (arith, ap length c),
            (λ k. omega arith),
          ))
      | inr high ↦
          (let m = room (suc f) v h high small in
          let c : encoded_by (suc f) v ≡ (128 + v % 128) ∷ encoded_by f (v / 128) = rw sub-one at (more (suc f) v h high) in
          let b : drop at xs ≡ (128 + v % 128) ∷ (encoded_by f (v / 128) ++ rest) = rw c at e in
          let w : at < length xs = heads xs at (128 + v % 128) (encoded_by f (v / 128) ++ rest) b in
          let is : get_or xs at 0 ≡ 128 + v % 128 = cc (drop_more xs at 0 w, b) in
          let t : drop (at + 1) xs ≡ encoded_by f (v / 128) ++ rest = cc (drop_more xs at 0 w, b) in
          let i = written_stands f xs (at + 1) (v / 128) rest (omega arith) (rw sub-one at m.1) t in
          let s : Stands (suc f - 1) xs (at + 1) (v / 128) i.0 = rw sub-one i.1 in (
            i.0,
            stands_more (suc f) xs at (v / 128) v i.0 m.0 w (omega arith) (omega arith) (omega arith) s,
            (λ k. i.4 (omega arith)),
            omega (arith, ap length c, i.3),
            (λ k. i.4 (omega arith)),
          ))
    ]

-- what begins with a number's bytes has the number there
pub number_here :
    (xs : List ℕ) (at v : ℕ) (rest : List ℕ) → v < 2 ^ 32 → drop at xs ≡ encoded v ++ rest → Number xs at v (at + length (encoded v))
number_here xs at v rest small e =
    let i = written_stands 5 xs at v rest (omega arith) (omega (arith, bound_five)) e in
    let r = i.1.reaches in
    record {
      p = i.0;
      stands = i.1;
      shortest = i.2;
      after = sym i.3;
      small = small;
      begins = e ∙ ap (λ (z : List ℕ). encoded v ++ z) (sym (
          sym (drop-drop (length (encoded v)) at xs) ∙ rw e (drop_at (encoded v) rest (length (encoded v)) refl)));
      ends = refl;
      within = omega (arith, i.3);
    }

pub number_made :
    (xs : List ℕ) (at v p : ℕ) → ((i : ℕ) → get_or xs i 0 < 256) → Stands 5 xs at v p → Shortest xs at p → Number xs at v (p + 1)
number_made xs at v p bytes s least =
    let w = as_written 5 xs at v p bytes s least in
    let r = s.reaches in
    record {
      p = p;
      stands = s;
      shortest = least;
      after = refl;
      small = omega (arith, s.small, bound_five);
      begins = w.0;
      ends = w.1;
      within = omega arith;
    }

-- a number has a byte or more
pub number_on : (xs : List ℕ) (at v next : ℕ) → Number xs at v next → at < next
number_on xs at v next n = let r = n.stands.reaches in omega (arith, n.after)

-- no two places end what stands at `at`
one_end : (f g : ℕ) (xs : List ℕ) (at p q : ℕ) → Reaches f xs at p → get_or xs p 0 < 128 → Reaches g xs at q → q ≤ p
one_end f g xs at p q r stop s =
    elim (cases_lt p q) [ inl h ↦ absurd (let w = s.goes p r.low h in omega arith) | inr h ↦ h ]

pub number_unique : (xs : List ℕ) (at v w m n : ℕ) → Number xs at v m → Number xs at w n → (v ≡ w) × (m ≡ n)
number_unique xs at v w m n a b =
    let s = a.stands in
    let t = b.stands in
    let j = one_end 5 5 xs at a.p b.p s.reaches s.stops t.reaches in
    let k = one_end 5 5 xs at b.p a.p t.reaches t.stops s.reaches in
    let e : a.p ≡ b.p = omega arith in
    (s.says ∙ (ap (said xs at) e ∙ sym t.says), omega (arith, a.after, b.after))

-- the last of f groups is small where a number stands
narrow : (g : ℕ) (xs : List ℕ) (at v p : ℕ) → Stands g xs at v p → p + 1 ≡ at + g → get_or xs p 0 < 16
narrow zero xs at v p s e = let r = s.reaches in absurd (omega arith)
narrow (suc f) xs at v p s e =
    elim (front (suc f) xs at v p s) [
      | inl q ↦
          (let b : get_or xs at 0 ≡ get_or xs p 0 = rw q.0 in
          omega (arith, q.0, q.2, s.small, bound_one (suc f) (omega (arith, q.0))))
      | inr q ↦ narrow f xs (at + 1) (v / 128) p (rw sub-one at q.4) (omega arith)
    ]

number_cut : (xs : List ℕ) (at v m : ℕ) → Number xs at v m → Cut 5 xs at → ⊥
number_cut xs at v m n c =
    let s = n.stands in
    let r = s.reaches in
    let w = c.goes n.p r.low r.within in
    omega (arith, s.stops)

number_spoilt : (xs : List ℕ) (at v m : ℕ) → Number xs at v m → Spoilt xs at → ⊥
number_spoilt xs at v m n z =
    let s = n.stands in
    let r = s.reaches in
    elim z [
      | inl w ↦
          (let j = one_end 5 5 xs at n.p w.p r s.stops w.reaches in
          let e : n.p ≡ w.p = omega (arith, w.full) in
          let b : get_or xs n.p 0 ≡ get_or xs w.p 0 = rw e in
          let k = narrow 5 xs at v n.p s (omega (arith, w.full)) in
          omega (arith, w.above))
      | inr w ↦
          (let j = one_end 5 5 xs at n.p w.p r s.stops w.reaches in
          let k = one_end 5 5 xs at w.p n.p w.reaches (omega (arith, w.idle)) r in
          let e : n.p ≡ w.p = omega arith in
          let b : get_or xs n.p 0 ≡ get_or xs w.p 0 = rw e in
          let l = n.shortest (omega (arith, w.several)) in
          omega (arith, w.idle))
    ]

cut_spoilt : (xs : List ℕ) (at : ℕ) → Cut 5 xs at → Spoilt xs at → ⊥
cut_spoilt xs at c z =
    elim z [
      | inl w ↦ (let r = w.reaches in omega (arith, c.short, w.full))
      | inr w ↦ (let r = w.reaches in let k = c.goes w.p r.low r.within in omega (arith, w.idle))
    ]

pub number_faultless : (xs : List ℕ) (base at v m : ℕ) (e : Fault) → Number xs at v m → NoNumber xs base at e → ⊥
number_faultless xs base at v m e n f =
    elim f [ inl c ↦ number_cut xs at v m n c.1 | inr z ↦ number_spoilt xs at v m n z.1 ]

pub fault_unique : (xs : List ℕ) (base at : ℕ) (d e : Fault) → NoNumber xs base at d → NoNumber xs base at e → d ≡ e
fault_unique xs base at d e m n =
    elim m [
      | inl p ↦ elim n [ inl q ↦ (cc (p.0, q.0)) | inr q ↦ absurd (cut_spoilt xs at p.1 q.1) ]
      | inr p ↦ elim n [ inl q ↦ absurd (cut_spoilt xs at q.1 p.1) | inr q ↦ (cc (p.0, q.0)) ]
    ]

-- the bytes decide what is read
pub reads_once : (xs : List ℕ) (base at : ℕ) (r s : Result (ℕ × ℕ) Fault) → Reads xs base at r → Reads xs base at s → r ≡ s
reads_once xs base at (Ok a) (Ok b) m n =
    let u = number_unique xs at a.0 b.0 a.1 b.1 m n in
    let e : ◌≡◌ {A = ℕ × ℕ} (a.0, a.1) (b.0, b.1) = cc (u.0, u.1) in
    ap Ok e
reads_once xs base at (Ok a) (Err e) m n = absurd (number_faultless xs base at a.0 a.1 e m n)
reads_once xs base at (Err d) (Ok b) m n = absurd (number_faultless xs base at b.0 b.1 d n m)
reads_once xs base at (Err d) (Err e) m n = ap Err (fault_unique xs base at d e m n)

-- what the bytes are decides the answer
module _ (xs : List ℕ) (base at : ℕ) (r : Result (ℕ × ℕ) Fault) (reads : Reads xs base at r) where
  pub reads_whole :
      (v : ℕ) (rest : List ℕ) → v < 2 ^ 32 → drop at xs ≡ encoded v ++ rest → r ≡ Ok (v, at + length (encoded v))
  reads_whole v rest small e =
      reads_once xs base at r (Ok (v, at + length (encoded v))) reads (number_here xs at v rest small e)

  pub reads_ends : Cut 5 xs at → r ≡ Err (NumberEnds (capped (base + at)))
  reads_ends cut = reads_once xs base at r (Err (NumberEnds (capped (base + at)))) reads (inl (refl, cut))

  pub reads_malformed : Spoilt xs at → r ≡ Err (NumberMalformed (capped (base + at)))
  reads_malformed spoilt = reads_once xs base at r (Err (NumberMalformed (capped (base + at)))) reads (inr (refl, spoilt))

  -- all that reading tells
  pub told : record {
    reads : Reads xs base at r;
    whole : (v : ℕ) (rest : List ℕ) → v < 2 ^ 32 → drop at xs ≡ encoded v ++ rest → r ≡ Ok (v, at + length (encoded v));
    ends : Cut 5 xs at → r ≡ Err (NumberEnds (capped (base + at)));
    malformed : Spoilt xs at → r ≡ Err (NumberMalformed (capped (base + at)));
  }
  told = record { reads = reads; whole = reads_whole; ends = reads_ends; malformed = reads_malformed }
