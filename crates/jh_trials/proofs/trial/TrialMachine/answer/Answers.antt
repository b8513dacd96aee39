use Rattle.std.proofs.Common.{◌≡◌, ◌++◌, ◌∙◌, append-nil, ap, sym, true, false}
use Rattle.jh_trials.specs.Trials.{has_begun_in, is_ready}
use Rattle.jh_trials.proofs.TrialLemmas.{ready_begins, said_to_other, said_to_ready}
use Rattle.jh_trials.proofs.trial.TrialMachine.answer.Goals.{then-has_begun+in_ok-open-in-Waiting, else-has_begun}
use Rattle.jh_trials.proofs.trial.TrialMachine.answer.Goals as goal

pub returns-after-has_begun-clause-said : goal.returns-after-has_begun-clause-said
returns-after-has_begun-clause-said c =
    let begins = ready_begins c.saturating_add-self-inside.result c.args.line.now in
    let stage = ap has_begun_in c.in_ok-self-inside-in-Waiting.ensures in
    let talk = c.self.inside.conversation in
    rw (← c.self.view_is, c.in-Waiting.is) (elim c.if-has_begun.branch [
      | then-has_begun+in_ok-open-in-Waiting w ↦
          let ready : is_ready c.args.line.now ≡ true = sym begins ∙ sym stage ∙ sym w.if-has_begun.ensures in
          ap (λ o. o.items) w.out-is ∙ w.in_ok-open-in-Waiting.ensures
          ∙ ap (λ l. c.args.out.now.items ++ l) (said_to_ready talk c.args.line.now ready)
      | else-has_begun w ↦
          let other : is_ready c.args.line.now ≡ false = sym begins ∙ sym stage ∙ sym w.if-has_begun.ensures in
          ap (λ o. o.items) w.out-is ∙ sym (append-nil c.args.out.now.items)
          ∙ ap (λ l. c.args.out.now.items ++ l) (said_to_other talk c.args.line.now other)
    ])
