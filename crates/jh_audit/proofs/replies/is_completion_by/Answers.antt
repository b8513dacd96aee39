use Rattle.std.proofs.Common.{◌≡◌, sym, subst, ◌∙◌, rules}
use Rattle.std.proofs.lemmas.Bool.Decides.{Decides-eqb}
use Rattle.jh_ops.specs.Operation.{operation}
use Rattle.jh_simnode.specs.declared.events.Event.{Event}
use Rattle.jh_audit.specs.Audit.{IsCompletionBy}
use Rattle.jh_audit.specs.Forms.{Says}
use Rattle.jh_audit.specs.declared.forms.Form.TheVariants.{Completes}
use Rattle.jh_audit.proofs.ReplyValueLemmas.{completes_call, call_completed}
use Rattle.jh_audit.proofs.replies.is_completion_by.Goals as goal
use Rattle.jh_audit.proofs.replies.is_completion_by.Goals.{then-process-completer, else-process-completer}

-- a call's completion has its process, its request and its reply
pub returns-then-eq : goal.returns-then-eq
returns-then-eq c =
    let place = c.args.place in
    let op = operation c.args.op.now in
    let it = c.in-Call-Completes in
    let event = Event.Call it.process it.node-0 it.request it.draw-0 it.reply in
    let says : Says place op (Completes it.completer it.given it.event-1) = subst (λ f. Says place op f) it.is-1 c.requires in
    let process : it.process ≡ it.completer = elim c.if-process-completer.branch [
      | then-process-completer w ↦ search rules
      | else-process-completer w ↦ (Decides-eqb it.process it.completer).0 (sym w.value-is ∙ c.if-eq.true)
    ] in
    let request : it.request ≡ it.given = elim c.if-process-completer.branch [
      | then-process-completer w ↦ search rules
      | else-process-completer w ↦ absurd (w.if-process-completer.false process)
    ] in (
      λ holds. subst (λ e. IsCompletionBy e place op c.args.form) (sym it.is-0) (subst (λ f. IsCompletionBy event place op f) (sym it.is-1)
          (completes_call op place it.event-1 it.process it.completer it.request it.given it.reply says process request (c.has_reply.ensures.0 holds))),
      λ given. c.has_reply.ensures.1 (call_completed op place it.event-1 it.process it.completer it.request it.given it.reply
          (subst (λ f. IsCompletionBy event place op f) it.is-1 (subst (λ e. IsCompletionBy e place op c.args.form) it.is-0 given))),
    )
