-- A whole record, piece by piece.
use Rattle.std.proofs.Common.{◌≡◌, ℕ, ◌<◌, ◌≤◌, List, length, sym, refl, ap, ◌∙◌, inl, inr, le-leb}
use borrow.Author.Tests.{lt-leb}
use Rattle.faults.specs.declared.Fault.{Fault}
use Rattle.faults.specs.declared.Fault.TheVariants.{BytesLeft, SheetShort, OutputShort}
use Rattle.rules.specs.declared.rule.Rule.{Rule}
use Rattle.tables.specs.Size.{places}
use Rattle.record.specs.declared.entries.Item.{Item}
use Rattle.record.specs.Section.{held}
use Rattle.record.specs.Table.{tables_form}
use Rattle.record.specs.Order.{order_form}
use Rattle.record.specs.Record.{longest, Marked, ruled, Said, record_form, read_form}

abbrev pub said_so : Rule → List (List Item) → List ℕ → Said
said_so w ts o = record { rule = w; tables = ts; order = o }

module _ (bytes : List ℕ) where
  module _ (short : length bytes ≤ longest) (m : Marked bytes 0) where
    pub no_rule : {e : Fault} → (ruled bytes).amiss 4 e → (record_form bytes).amiss 0 e
    no_rule a = inr (tt, 0, (le-leb (length bytes) longest short, refl), inr (tt, 4, (m, refl), inl a))

    pub no_tables : (w : Rule) {p : ℕ} {e : Fault} → (ruled bytes).is 4 w p → (tables_form bytes).amiss p e → (record_form bytes).amiss 0 e
    no_tables w {p = p} r a = inr (tt, 0, (le-leb (length bytes) longest short, refl), inr (tt, 4, (m, refl), inr (w, p, r, inl a)))

    module _ (w : Rule) {p : ℕ} (r : (ruled bytes).is 4 w p) {ts : List (List Item)} {q : ℕ} (t : (tables_form bytes).is p ts q) where
      pub no_order : {e : Fault} → (held bytes order_form).amiss q e → (record_form bytes).amiss 0 e
      no_order a = inr (tt, 0, (le-leb (length bytes) longest short, refl), inr (tt, 4, (m, refl), inr (w, p, r, inr (ts, q, t, inl a))))

      module _ {o : List ℕ} {end : ℕ} (h : (held bytes order_form).is q o end) where
        pub left_over : end < length bytes → (record_form bytes).amiss 0 (BytesLeft end)
        left_over l =
            inr (tt, 0, (le-leb (length bytes) longest short, refl), inr (tt, 4, (m, refl), inr (w, p, r, inr (ts, q, t, inr (o, end, h, inl (l, refl))))))

        pub all_said : end ≡ length bytes → (record_form bytes).is 0 (said_so w ts o) (length bytes)
        all_said e = (
          tt,
          0,
          (le-leb (length bytes) longest short, refl),
          (tt, 4, (m, refl), (w, p, r, (ts, q, t, (o, end, h, (tt, end, (e, refl), (refl, sym e)))))),
        )

  module _ (sheet output : ℕ) where
    pub no_sheet : sheet < 128 → (read_form bytes sheet output).amiss 0 (SheetShort sheet)
    unfolding places
    no_sheet h = inl (lt-leb 128 sheet h, refl)

    module _ (room : 128 ≤ sheet) where
      pub no_record : {e : Fault} → (record_form bytes).amiss 0 e → (read_form bytes sheet output).amiss 0 e
      unfolding places
      no_record a = inr (tt, 0, (le-leb 128 sheet room, refl), inl a)

      pub no_output : (s : Said) → (record_form bytes).is 0 s (length bytes) → output < length s.order → (read_form bytes sheet output).amiss 0 (OutputShort (length s.order))
      unfolding places
      no_output s i l = inr (tt, 0, (le-leb 128 sheet room, refl), inr (s, length bytes, i, inl (lt-leb (length s.order) output l, refl)))

      pub read_all : (s : Said) → (record_form bytes).is 0 s (length bytes) → length s.order ≤ output → (read_form bytes sheet output).is 0 s (length bytes)
      unfolding places
      read_all s i l = (tt, 0, (le-leb 128 sheet room, refl), (s, length bytes, i, (tt, length bytes, (le-leb (length s.order) output l, refl), (refl, refl))))

-- a record has all tables
pub four_tables : (bytes : List ℕ) (s : Said) (n : ℕ) → (record_form bytes).is 0 s n → length s.tables ≡ 4
four_tables bytes s n (u, a, d, (v, b, m, (w, p, r, (ts, q, t, (o, e, h, (x, f, g, (i, j))))))) = ap (λ (y : Said). length y.tables) i ∙ t.1
