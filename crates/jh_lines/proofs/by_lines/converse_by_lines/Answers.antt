use Rattle.std.proofs.Common.{sym, subst}
use Rattle.std.specs.Io.KnownBytes.{Appends, Consumes}
use Rattle.jh_lines.specs.ByLines.{left_by_lines}
use Rattle.jh_lines.specs.Events.{heard_in, told_in}
use Rattle.jh_lines.proofs.ByLinesLemmas.{named_as, over_with_line, pieces_of, went_by_lines}
use Rattle.jh_lines.proofs.by_lines.converse_by_lines.Goals as goal

-- the lines and the writer end as the peer leaves them, which keeps those that were lent
pub returns : goal.returns
returns g c =
    let all = c.converse.ensures in
    let contents = g.W.Write.contents in
    let left = left_by_lines g.B.Read.remaining in
    let both = went_by_lines (λ s. s.lines) (λ s. s.writer) (λ r. left r.now) (λ w. contents w.now) (λ r. r.ghost_name) (λ w. w.ghost_name)
    _ c.converse.new.peer all.0 all.1 in
    let named = named_as (λ s. s.lines) (λ s. s.writer) (λ r. left r.now) (λ w. contents w.now) (λ r. r.ghost_name) (λ w. w.ghost_name)
    _ c.converse.new.peer all.0 all.1 in
    let pieces = pieces_of (λ s. s.lines) (λ s. s.writer) (λ r. left r.now) (λ w. contents w.now) (λ r. r.ghost_name) (λ w. w.ghost_name)
    _ c.converse.new.peer all.0 all.1 in (
      all.0,
      subst (λ lines. Consumes (left c.args.lines.now) (left lines) (heard_in all.0)) (sym (c.lines-1.given.1 (sym named.0))) both.0,
      subst (λ writer. Appends (contents c.args.writer.now) (contents writer) (told_in all.0)) (sym (c.writer-1.given.1 (sym named.1))) both.1,
      all.2,
      over_with_line g.M.Machine.opening g.M.Machine.after_line g.M.Machine.answer_to g.M.Machine.has_finished
          g.met.M.Machine.stays_over c.args.machine.now c.converse.new.machine all.0 c.converse.result pieces all.2,
    )
