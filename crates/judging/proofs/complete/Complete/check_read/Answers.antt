use Rattle.std.proofs.Common.{◌≡◌, ℕ, Option, sym, ap, ◌∙◌, subst}
use Rattle.std.proofs.lemmas.Bool.{both_ways}
use Rattle.tables.specs.Contents.{contents}
use Rattle.tables.specs.Size.{unit}
use Rattle.rules.specs.declared.sheet.Sheet.{Sheet}
use Rattle.tables.specs.View.{cell_at}
use Rattle.model.specs.Program.{stored_at, words_of}
use Rattle.model.specs.Axioms.{worth}
use Rattle.judging.specs.Words.{words_on}
use Rattle.judging.proofs.Choosing.{should_same}
use Rattle.judging.proofs.complete.Complete.check_read.Goals as goal

pub returns-then-same-clause-checked : goal.returns-then-same-clause-checked
returns-then-same-clause-checked g c =
    let ts = contents c.args.self.now.standing.tables.now in
    let n = c.args.n in
    let start = g.K.WordKind.starts in
    let words = words_on g.K.WordKind c.args.sheet.now.places.now in
    let stored = stored_at (words_of g.K.WordKind) unit ts in
    let s = c.source-source in
    let q = ap (λ (x : Sheet g.row.K-Word.Denot). words_on g.K.WordKind x.places.now n) c.source_word-due.ensures.same in
    let due =
    c.source_word-due.ensures.value s.ensures.within ∙ ap (λ (x : ℕ). worth stored start words x s.result) c.cell.ensures in
    let e = sym (c.word_at-word.ensures.value ∙ q) ∙ c.same.ensures.0 c.if-same.true ∙ due in
    λ w r a h.
    subst (λ (v : Option ℕ). words n ≡ worth stored start words (cell_at unit ts n) v)
    (should_same ts c.args.self.now.standing.order.now c.args.self.now.settled w n a s.result r (s.ensures.should w) h) e

pub returns-else-same-clause-checked : goal.returns-else-same-clause-checked
returns-else-same-clause-checked g c =
    let ts = contents c.args.self.now.standing.tables.now in
    let n = c.args.n in
    let start = g.K.WordKind.starts in
    let words = words_on g.K.WordKind c.args.sheet.now.places.now in
    let stored = stored_at (words_of g.K.WordKind) unit ts in
    let s = c.source-source in
    let q = ap (λ (x : Sheet g.row.K-Word.Denot). words_on g.K.WordKind x.places.now n) c.source_word-due.ensures.same in
    let due =
    c.source_word-due.ensures.value s.ensures.within ∙ ap (λ (x : ℕ). worth stored start words x s.result) c.cell.ensures in
    λ w. record {
      reads = sym c.if-not-reads.ensures;
      should = s.ensures.should w;
      wrong = λ e. both_ways c.same.result c.if-same.false (c.same.ensures.1 (c.word_at-word.ensures.value ∙ q ∙ e ∙ sym due));
    }
