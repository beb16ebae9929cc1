use Rattle.std.proofs.Common.{ℕ, false, map, set, sym, ap, ◌∙◌}
use Rattle.tables.specs.Size.{unit}
use Rattle.tables.specs.Lines.{reads, line_reads}
use Rattle.tables.specs.View.{of_line, cell_at, reads_at}
use Rattle.model.specs.Program.{Words, stored_at}
use Rattle.model.specs.Axioms.{worth}
use Rattle.model.specs.Machine.{words_on, source}
use Rattle.machine.specs.Machines.{state_of, lines_of}
use Rattle.machine.proofs.Puts.{put_is}
use Rattle.machine.proofs.machine.Machine.put_word.Goals as goal

pub returns-then-reads-clause-after : goal.returns-then-reads-clause-after
returns-then-reads-clause-after g c =
    let W = g.K.WordKind in
    let K : Words W.Meaning = record { start = W.starts; written = W.writtens } in
    let m = c.args.self.now in let xs = c.args.sheet.now.places.now in let n = c.args.n in
    let ts = lines_of m in
    let st = stored_at K unit ts in let sh = words_on W.starts (map W.meaning xs) in
    let w = c.source_word-word.result in
    let from = source unit (cell_at unit ts) (state_of m) n in
    ap (map W.meaning) (c.put.ensures.after ∙ ap (λ y. set y.places.now n w) c.source_word-word.ensures.same)
    ∙ put_is W.meaning xs n w (worth st W.starts sh (cell_at unit ts n) from) (reads_at unit ts n)
    (ap (of_line false line_reads) (sym c.requires.own) ∙ sym (ap reads c.kind.ensures) ∙ sym c.if-reads.ensures)
    (c.source_word-word.ensures.value c.source_of-from.ensures.within ∙ ap (λ o. worth st W.starts sh c.args.line.cell o) c.source_of-from.ensures.value
    ∙ ap (λ (x : ℕ). worth st W.starts sh x from) (ap (of_line 0 (λ l. l.cell)) c.requires.own))
