use Rattle.std.proofs.Common.{◌≡◌, ◌+◌, ◌++◌, [], ◌∷◌, ◌∙◌, Some, ap, nat_cmp, subst, sym}
use Rattle.std.specs.BTreeMap.{Updates, get}
use Rattle.jh_timeline.specs.LanesInside.{invoking_with}
use Rattle.jh_timeline.proofs.CallLemmas.{Answered, answered_all, answered_client, answered_other}
use Rattle.jh_timeline.proofs.calls.answers_in.Goals as goal
use Rattle.jh_timeline.proofs.calls.answers_in.Goals.{in-Client+in_ok-insert, in_default}

pub returns : goal.returns
returns c = answered_all _ c.loop-op.answers.items c.args.history.now c.loop-op.op-index c.loop-op-test.false c.loop-op.invariant

pub loop-op-preserved : goal.loop-op-preserved
loop-op-preserved c =
    let l = c.loop-op in
    let op = c.op-item.result in
    let grown : c.push.new.self.items ≡ l.answers.items ++ invoking_with l.invoking op.process ∷ [] =
    c.in_ok-push.ensures.items ∙ ap (λ b. l.answers.items ++ b ∷ []) c.is_answering.ensures in
    elim c.match-op.branch [
      | in-Client+in_ok-insert w ↦
          subst (λ m. Answered (get nat_cmp m) c.push.new.self.items c.args.history.now (l.op-index + 1)) (sym w.invoking-is)
          (answered_client l.invoking w.insert.new.self l.answers.items c.push.new.self.items c.args.history.now l.op-index w.in-Client.client op c.loop-op-test.true
          c.op-item.is w.in-Client.is l.invariant
          (subst (λ v. Updates nat_cmp l.invoking w.insert.new.self w.in-Client.client (Some v)) w.is_invocation.ensures w.in_ok-insert.ensures.updates) grown)
      | in_default w ↦
          subst (λ m. Answered (get nat_cmp m) c.push.new.self.items c.args.history.now (l.op-index + 1)) (sym w.invoking-is)
          (answered_other l.invoking l.answers.items c.push.new.self.items c.args.history.now l.op-index op c.loop-op-test.true c.op-item.is w.in_default.is l.invariant grown)
    ]
