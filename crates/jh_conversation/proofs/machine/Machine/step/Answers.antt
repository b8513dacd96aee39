use Rattle.std.proofs.Common.{◌∙◌, List, ℕ, length, subst, sym}
use Rattle.jh_nemesis.specs.Steps.{FitsNodes}
use Rattle.jh_conversation.proofs.SoundLemmas.{small_due}
use Rattle.jh_conversation.proofs.machine.Machine.step.Goals as goal

pub begin-requires-clause-fits : goal.begin-requires-clause-fits
begin-requires-clause-fits c =
    subst (λ (names : List (List ℕ)). FitsNodes (length names) c.in-Some.due.step) (sym c.requires.6.0)
    (small_due c.args.test.now c.clients-clients.ensures.fit c.args.self.now c.in-Some.due (sym c.in_ok-due.ensures ∙ c.in-Some.is)).1
