-- What the invariant of a passing order gives, and that it follows from the axioms.
use Rattle.std.proofs.Common.{◌≡◌, ℕ, ◌+◌, ◌^◌, ◌<◌, ◌≤◌, true, List, length, get_or, Some, sym, subst, arith}
use Rattle.tables.specs.Size.{unit, rd}
use Rattle.tables.specs.Rows.{Rows}
use Rattle.tables.specs.View.{reads_at, copy_at, is_event, Good}
use Rattle.tables.proofs.Goods.{good}
use Rattle.rules.specs.Waits.{Waits, KeepsWrites}
use Rattle.model.specs.Program.{program, Words, written_at, stored_at}
use Rattle.model.specs.Orders.{Listed}
use Rattle.model.specs.Axioms.{later_read, later_write, Should, Meets}
use Rattle.model.specs.Trace.{ReadTrace}
use Rattle.model.proofs.Positions.{place, Before, stands_from}
use Rattle.model.proofs.PlacedAxioms.{Placed, to_places}
use Rattle.model.proofs.Promises.{trace_finds_the_word_lem}
use Rattle.judging.specs.declared.passing.Passing.{Passing}
use Rattle.judging.specs.declared.passing.Trace.{Trace}
use Rattle.judging.specs.Searches.{AllBelow}
use Rattle.judging.specs.Sources.{Settled}
use Rattle.judging.specs.Outcomes.{rows_of, order_of, TracedTo}
use Rattle.judging.specs.Traces.{ReadsLead, reach}
use Rattle.judging.proofs.Listing.{get_at, event_is}
use Rattle.judging.proofs.Tracing.{reach_before}

-- what a write copied was read before the read that should have it
pub goes_up :
    (p : Passing) (n m : ℕ) → reads_at unit (rows_of p) n ≡ true
    → ((w : Waits) → Should (program unit w (rows_of p)) (order_of p) n (Some m))
    → reach (order_of p) (copy_at unit (rows_of p) m) ≤ place (order_of p) (rd n)
goes_up p n m r h =
    let w : Waits = λ _ _. true in
    reach_before unit (rows_of p) (order_of p) p.complete.settled.reads_once (good p.complete.standing.tables.now) p.leads w n m r (h w)

-- so the reads of a trace are fewer than the order is long
pub countable : (p : Passing) (n : ℕ) → reads_at unit (rows_of p) n ≡ true → place (order_of p) (rd n) + 1 < 2 ^ 64
countable p n r =
    let t = p.complete.settled.reads_once n r in
    let i = stands_from (order_of p) (rd n) (omega arith) in
    let l = p.short in
    omega arith

module _ (ts : List Rows) (w : Waits) (o : List ℕ) where
  pub events_listed : Listed (program unit w ts) o → AllBelow (is_event unit ts) o (length o)
  events_listed h i l = (event_is unit ts w (get_or o i 0)).1 (h i (get_or o i 0) (get_at o i 0 l))

  module _ {M : Type 0} (K : Words M) (words : ℕ → M) (S : Meets (program unit w ts) (stored_at K unit ts) K.start o words) where
    places : Placed (program unit w ts) (stored_at K unit ts) K.start o words
    places = to_places (program unit w ts) (stored_at K unit ts) K.start o words S

    pub settles : Listed (program unit w ts) o → Settled unit ts o
    settles h = record {
      listed = events_listed h;
      reads_once = places.order_read;
      writes_once = places.order_write;
      writes_stand = places.termination;
    }

    pub leads : ReadsLead unit ts o
    leads v e f (later_read m n r s t p q) =
        subst (λ (x : ℕ). Before o x f) (sym p) (subst (λ (y : ℕ). Before o (rd m) y) (sym q) (places.load_read m n r s t))
    leads v e f (later_write m n r s t p q) =
        subst (λ (x : ℕ). Before o x f) (sym p) (subst (λ (y : ℕ). Before o (rd m) y) (sym q) (places.load_write m n r s t))

    -- the trace found is the only one, is short and finds the word
    pub traced_to :
        KeepsWrites w → Good unit ts → (n : ℕ) → reads_at unit ts n ≡ true → (t : Trace)
        → ReadTrace (program unit w ts) (copy_at unit ts) o n t.end t.reads
        → TracedTo (program unit w ts) (copy_at unit ts) (written_at K unit ts) K.start o words n t
    traced_to law g n r t h =
        let T = trace_finds_the_word_lem w law K unit ts g o words S n r in
        record {
          is = h;
          only = λ e k i. T.one e t.end k t.reads i h;
          few = T.few t.end t.reads h;
          finds = T.finds t.end t.reads h;
        }

-- what holds of tables and an order holds of equal ones
pub moved : (P : List Rows → List ℕ → Type 0) {ts ts' : List Rows} {o o' : List ℕ} → ts' ≡ ts → o' ≡ o → P ts o → P ts' o'
moved P {ts = ts} {o' = o'} d e h = subst (λ (y : List Rows). P y o') (sym d) (subst (P ts) (sym e) h)
