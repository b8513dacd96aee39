use Rattle.std.proofs.Common.{inl, inr, sym, subst}
use Rattle.std.specs.Io.KnownBytes.{Appends}
use Rattle.jh_lines.specs.Answering.{said_to_all}
use Rattle.jh_lines.proofs.StreamLemmas.{Consumes-some, went_over, whole_over}
use Rattle.jh_lines.proofs.TalkLemmas.{told_to_end, told_when_over}
use Rattle.jh_lines.proofs.streams.converse_over.Goals as goal

pub returns-clause-talk : goal.returns-clause-talk
returns-clause-talk g c =
    let all = c.converse.ensures in
    let both =
    went_over (λ s. s.reader) (λ s. s.writer) g.R.Read.remaining g.W.Write.contents c.args.streams.now
    c.converse.new.peer all.0 all.1 in
    (all.0, both.0, both.1, all.2)

pub returns-clause-whole : goal.returns-clause-whole
returns-clause-whole g c =
    let all = c.converse.ensures in
    let both =
    went_over (λ s. s.reader) (λ s. s.writer) g.R.Read.remaining g.W.Write.contents c.args.streams.now
    c.converse.new.peer all.0 all.1 in
    let contents = g.W.Write.contents in
    let says = said_to_all g.M.Machine.opening g.M.Machine.after_line g.M.Machine.answer_to c.args.machine.now in
    elim [
      | inl over ↦ Consumes-some _ _ _
          (λ input. Appends (contents c.args.streams.now.writer) (contents c.converse.new.peer.writer) (says input))
          both.0 (λ rest.
          subst (Appends (contents c.args.streams.now.writer) (contents c.converse.new.peer.writer))
          (sym (told_when_over g.M.Machine.opening g.M.Machine.after_line g.M.Machine.answer_to g.M.Machine.has_finished
          _ _ all.0 _ g.met.M.Machine.stays_over over all.2.1 rest)) both.1)
      | inr ended ↦
          let facts =
          told_to_end g.M.Machine.opening g.M.Machine.after_line g.M.Machine.answer_to g.M.Machine.has_finished _ _ all.0
          _ ended all.2.1 in
          whole_over (λ s. s.reader) (λ s. s.writer) g.R.Read.remaining contents c.args.streams.now c.converse.new.peer
          all.0
          (λ input. Appends (contents c.args.streams.now.writer) (contents c.converse.new.peer.writer) (says input))
          all.1 facts.0
          (subst (Appends (contents c.args.streams.now.writer) (contents c.converse.new.peer.writer)) facts.1
          both.1)
    ]
