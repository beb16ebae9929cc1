-- A record says one thing.
use Rattle.std.proofs.Common.{◌≡◌, ℕ, cond, eqb, leb, List, [], ◌∷◌, length, get_or, take, drop, Some, None, Ok, Err, Option, sym, refl, ap, ◌∙◌, inl, inr, arith}
use Rattle.faults.specs.declared.Fault.{Fault}
use Rattle.faults.specs.declared.Fault.TheVariants.{RecordTooLong, SheetShort, OutputShort}
use Rattle.numbers.proofs.Standing.{number_unique, number_faultless, fault_unique}
use Rattle.tables.specs.Size.{unit, places}
use Rattle.tables.specs.Rows.{Rows}
use Rattle.tables.specs.declared.line.Operand.TheVariants.{Written, Copied}
use Rattle.tables.specs.declared.line.Access.TheVariants.{Load, Store, Swap}
use Rattle.tables.specs.declared.line.Entry.{Entry}
use Rattle.tables.specs.declared.line.Entry.TheVariants.{Operation, Barrier}
use Rattle.rules.specs.declared.rule.Rule.{Rule}
use Rattle.rules.specs.declared.rule.Rule.TheVariants.{Strong, TotalStoreOrder}
use Rattle.rules.specs.Rules.{number_of}
use Rattle.record.specs.declared.entries.Item.{Item}
use Rattle.record.specs.Form.{Form, inside}
use Rattle.record.specs.Section.{SectionAt, NoSection, section_form, held}
use Rattle.record.specs.Entries.{entry_numbers, numbers_of, rows}
use Rattle.record.specs.Table.{Role, roles, test, code_test, parts, numbered, entry_form, table_form, tables_form}
use Rattle.record.specs.Order.{event_test, order_form}
use Rattle.record.specs.Record.{longest, marked, ruled, ended, record_form, read_form}
use Rattle.record.specs.Laws.{SaysOne}
use Rattle.record.proofs.Sole.{Sole, sole_say, sole_demand, sole_then, sole_tested, sole_repeated, sole_inside}

module _ (bytes : List ℕ) (at : ℕ) where
  section_once : (p q : List ℕ) (s t m n : ℕ) → SectionAt bytes at p s m → SectionAt bytes at q t n → (p ≡ q) × (s ≡ t) × (m ≡ n)
  section_once p q s t m n a b =
      let u = number_unique bytes at (length p) (length q) s t a.stands b.stands in
      let k : take (length p) (drop s bytes) ≡ take (length q) (drop t bytes) = cc (u.0, u.1) in
      (a.is ∙ (k ∙ sym b.is), u.1, omega (arith, u.0, u.1, a.ends, b.ends))

  section_apart : (p : List ℕ) (s m : ℕ) (e : Fault) → SectionAt bytes at p s m → NoSection bytes at e → ⊥
  section_apart p s m e a (inl k) = number_faultless bytes 0 at (length p) s e a.stands k
  section_apart p s m e a (inr k) =
      let t = k.1 in
      let u = number_unique bytes at (length p) t.size s t.start a.stands t.stands in
      omega (arith, u.0, u.1, t.beyond, a.within, a.ends)

  section_blame : (d e : Fault) → NoSection bytes at d → NoSection bytes at e → d ≡ e
  section_blame d e (inl k) (inl l) = fault_unique bytes 0 at d e k l
  section_blame d e (inl k) (inr l) = absurd (number_faultless bytes 0 at l.1.size l.1.start d l.1.stands k)
  section_blame d e (inr k) (inl l) = absurd (number_faultless bytes 0 at k.1.size k.1.start e k.1.stands l)
  section_blame d e (inr k) (inr l) = cc (k.0, l.0)

  same_pair : (s t : List ℕ × ℕ) → s.0 ≡ t.0 → s.1 ≡ t.1 → s ≡ t
  same_pair s t a b =
      let go : (x : List ℕ) (y : ℕ) → s.0 ≡ x → s.1 ≡ y → s ≡ (x, y) = λ x y i j. rw (sym i, sym j) refl in
      go t.0 t.1 a b

pub sole_section : (bytes : List ℕ) → Sole (section_form bytes)
sole_section bytes = record {
  one = λ at s t m n a b. let u = section_once bytes at s.0 t.0 s.1 t.1 m n a b in (same_pair bytes at s t u.0 u.1, u.2);
  apart = λ at s m e a b. section_apart bytes at s.0 s.1 m e a b;
  blame = λ at d e a b. section_blame bytes at d e a b;
}

pub sole_held : {X : Type 0} (bytes : List ℕ) (F : List ℕ → ℕ → Form X) → ((part : List ℕ) (base : ℕ) → Sole (F part base)) → Sole (held bytes F)
sole_held bytes F f =
    sole_then (section_form bytes) (λ s. inside s.0 (F s.0 s.1)) (sole_section bytes) (λ s. sole_inside s.0 (F s.0 s.1) (f s.0 s.1))

sole_parts : (part : List ℕ) (base : ℕ) (s : Rows) (rs : List Role) → Sole (parts part base s rs)
sole_parts part base s [] = sole_say []
sole_parts part base s (r ∷ rs) =
    sole_then _ _ (sole_tested part base (test s r)) (λ v. sole_then _ _ (sole_parts part base s rs) (λ vs. sole_say (v ∷ vs)))

claim_in : List ℕ → Option ℕ
claim_in [] = None
claim_in (c ∷ cs) = Some c

-- the entry that numbers say
item_in : List ℕ → Item
item_in ns =
    cond (eqb (get_or ns 0 0) 0) (record { entry = Operation Load (get_or ns 1 0); claim = claim_in (drop 2 ns) })
    (cond (eqb (get_or ns 0 0) 1) (record { entry = Operation (Store (Written (get_or ns 2 0))) (get_or ns 1 0); claim = claim_in (drop 3 ns) })
    (cond (eqb (get_or ns 0 0) 2) (record { entry = Operation (Store (Copied (get_or ns 2 0))) (get_or ns 1 0); claim = claim_in (drop 3 ns) })
    (cond (eqb (get_or ns 0 0) 3) (record { entry = Operation (Swap (Written (get_or ns 2 0))) (get_or ns 1 0); claim = claim_in (drop 3 ns) })
    (cond (eqb (get_or ns 0 0) 4) (record { entry = Operation (Swap (Copied (get_or ns 2 0))) (get_or ns 1 0); claim = claim_in (drop 3 ns) })
    (record { entry = Barrier; claim = claim_in (drop 1 ns) })))))

item_of : (e : Entry) (k : Option ℕ) → item_in (entry_numbers e k) ≡ record { entry = e; claim = k }
unfolding item_in claim_in
item_of (Operation Load c) None = refl
item_of (Operation Load c) (Some v) = refl
item_of (Operation (Store (Written n)) c) None = refl
item_of (Operation (Store (Written n)) c) (Some v) = refl
item_of (Operation (Store (Copied l)) c) None = refl
item_of (Operation (Store (Copied l)) c) (Some v) = refl
item_of (Operation (Swap (Written n)) c) None = refl
item_of (Operation (Swap (Written n)) c) (Some v) = refl
item_of (Operation (Swap (Copied l)) c) None = refl
item_of (Operation (Swap (Copied l)) c) (Some v) = refl
item_of Barrier None = refl
item_of Barrier (Some v) = refl

pub same_item : (x y : Item) → numbers_of x ≡ numbers_of y → x ≡ y
same_item x y e = sym (item_of x.entry x.claim) ∙ (ap item_in e ∙ item_of y.entry y.claim)

sole_numbered : (ns : List ℕ) → Sole (numbered ns)
sole_numbered ns = record {
  one = λ at x y m n a b. (same_item x y (a.0 ∙ sym b.0), cc (a.1, b.1));
  apart = λ at x m e a b. b;
  blame = λ at d e a b. absurd a;
}

pub sole_entry : (part : List ℕ) (base : ℕ) (s : Rows) → Sole (entry_form part base s)
sole_entry part base s =
    sole_then _ _ (sole_tested part base (code_test s)) (λ c. sole_then _ _ (sole_parts part base s (roles c)) (λ ns. sole_numbered (c ∷ ns)))

pub sole_table : (part : List ℕ) (base : ℕ) → Sole (table_form part base)
sole_table part base = sole_repeated _ _ (λ front. sole_entry part base (rows front))

pub sole_tables : (bytes : List ℕ) → Sole (tables_form bytes)
sole_tables bytes = sole_repeated _ _ (λ front. sole_held bytes table_form sole_table)

pub sole_order : (part : List ℕ) (base : ℕ) → Sole (order_form part base)
sole_order part base = sole_repeated _ _ (λ front. sole_tested part base (event_test (length front)))

sole_marked : (bytes : List ℕ) → Sole (marked bytes)
sole_marked bytes = record {
  one = λ at x y m n a b. (refl, cc (a.1, b.1));
  apart = λ at x m e a b. b.0 a.0;
  blame = λ at d e a b. cc (a.1, b.1);
}

-- no two rules have one number
rule_once : (v w : Rule) → number_of v ≡ number_of w → v ≡ w
rule_once Strong Strong e = refl
rule_once Strong TotalStoreOrder e = absurd (omega arith)
rule_once TotalStoreOrder Strong e = absurd (omega arith)
rule_once TotalStoreOrder TotalStoreOrder e = refl

module _ (bytes : List ℕ) (at : ℕ) where
  ruled_once : (v w : Rule) (m n : ℕ) → (ruled bytes).is at v m → (ruled bytes).is at w n → (v ≡ w) × (m ≡ n)
  ruled_once v w m n a b = let u = number_unique bytes at (number_of v) (number_of w) m n a b in (rule_once v w u.0, u.1)

  ruled_apart : (w : Rule) (m : ℕ) (e : Fault) → (ruled bytes).is at w m → (ruled bytes).amiss at e → ⊥
  ruled_apart w m e a (inl k) = number_faultless bytes 0 at (number_of w) m e a k
  ruled_apart w m e a (inr k) =
      let r = k.1 in
      let u = number_unique bytes at (number_of w) r.value m r.next a r.stands in
      r.unknown w u.0

  ruled_blame : (d e : Fault) → (ruled bytes).amiss at d → (ruled bytes).amiss at e → d ≡ e
  ruled_blame d e (inl k) (inl l) = fault_unique bytes 0 at d e k l
  ruled_blame d e (inl k) (inr l) = absurd (number_faultless bytes 0 at l.1.value l.1.next d l.1.stands k)
  ruled_blame d e (inr k) (inl l) = absurd (number_faultless bytes 0 at k.1.value k.1.next e k.1.stands l)
  ruled_blame d e (inr k) (inr l) = cc (k.0, l.0)

sole_ruled : (bytes : List ℕ) → Sole (ruled bytes)
sole_ruled bytes = record { one = ruled_once bytes; apart = ruled_apart bytes; blame = ruled_blame bytes }

sole_ended : (bytes : List ℕ) → Sole (ended bytes)
sole_ended bytes = record {
  one = λ at x y m n a b. (refl, cc (a.1, b.1));
  apart = λ at x m e a b. omega (arith, a.0, b.0);
  blame = λ at d e a b. cc (a.1, b.1);
}

pub sole_format : (bytes : List ℕ) → Sole (record_form bytes)
sole_format bytes =
    sole_then _ _ (sole_demand (leb (length bytes) longest) (RecordTooLong longest))
    (λ _. sole_then _ _ (sole_marked bytes)
    (λ _. sole_then _ _ (sole_ruled bytes)
    (λ w. sole_then _ _ (sole_tables bytes)
    (λ ts. sole_then _ _ (sole_held bytes order_form sole_order)
    (λ o. sole_then _ _ (sole_ended bytes)
    (λ _. sole_say (record { rule = w; tables = ts; order = o })))))))

pub sole_reading : (bytes : List ℕ) (sheet output : ℕ) → Sole (read_form bytes sheet output)
sole_reading bytes sheet output =
    sole_then _ _ (sole_demand (leb (places unit) sheet) (SheetShort sheet))
    (λ _. sole_then _ _ (sole_format bytes)
    (λ s. sole_then _ _ (sole_demand (leb (length s.order) output) (OutputShort (length s.order)))
    (λ _. sole_say s)))

pub says_one : (bytes : List ℕ) (sheet output : ℕ) → SaysOne bytes sheet output
says_one bytes p q (Ok s) (Ok t) a b = ap Ok ((sole_reading bytes p q).one 0 s t (length bytes) (length bytes) a b).0
says_one bytes p q (Ok s) (Err e) a b = absurd ((sole_reading bytes p q).apart 0 s (length bytes) e a b)
says_one bytes p q (Err e) (Ok s) a b = absurd ((sole_reading bytes p q).apart 0 s (length bytes) e b a)
says_one bytes p q (Err d) (Err e) a b = ap Err ((sole_reading bytes p q).blame 0 d e a b)
