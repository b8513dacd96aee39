use Rattle.std.proofs.Common.{◌∙◌, All, ap, sym, subst}
use Rattle.jh_ops.specs.OperationWritten.{IsWritable}
use Rattle.std.proofs.lemmas.Result.{err_from_is_err_and}
use Rattle.jh_simnode.specs.Histories.{HasIntegers, journal_history}
use Rattle.jh_simnode.proofs.EventBoundLemmas.{never_fills}
use Rattle.jh_simnode.proofs.WritableLemmas.{writable_from}
use Rattle.jh_simnode.proofs.serial.run_serial.Goals as goal

pub returns-clause-judged : goal.returns-clause-judged
returns-clause-judged c =
    let o = c.in_ok-run_turns.ensures.over in
    (c.in_ok-run_turns.ensures.setup, record { turns = o.turns; reached = o.reached; ended = o.ended; over = o.rests; is_history = c.in_ok-history.ensures ∙ ap journal_history c.journal-journal.ensures.events })

pub returns-clause-writable : goal.returns-clause-writable
returns-clause-writable c =
    subst (All (λ op. IsWritable op.process)) (sym (c.in_ok-history.ensures ∙ ap journal_history c.journal-journal.ensures.events)) (writable_from c.run_turns.new.world.journal 0 0 0 c.in_ok-run_turns.ensures.small)

pub returns-clause-text : goal.returns-clause-text
returns-clause-text c = record {
  few = c.journal-journal.ensures.few;
  integers = subst (All HasIntegers) c.journal-journal.ensures.events c.events_have_integers.ensures;
}

pub returns-in_err-run_turns-clause-judged : goal.returns-in_err-run_turns-clause-judged
returns-in_err-run_turns-clause-judged c =
    let p = err_from_is_err_and c.from_residual-in_err-run_turns.result c.from_residual-in_err-run_turns.ensures.1 in
    rw (p.1, p.2) (never_fills c.args.plan.now c.in_err-run_turns.ensures.kept c.in_err-run_turns.field-0.0 c.in_err-run_turns.ensures.stopped)
