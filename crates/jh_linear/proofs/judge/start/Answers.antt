use Rattle.std.proofs.Common.{◌≡◌, ◌++◌, [], ◌∷◌, List, false, refl, subst, ap, ◌∙◌}
use Rattle.jh_linear.specs.declared.config.Config.{Config}
use Rattle.jh_linear.specs.declared.search.Furthest.{Furthest}
use Rattle.jh_linear.specs.declared.search.Search.{Search}
use Rattle.jh_linear.specs.declared.queue.RankedConfig.{RankedConfig}
use Rattle.jh_linear.specs.declared.verdict.Step.{Step}
use Rattle.jh_linear.specs.Reached.{root}
use Rattle.jh_linear.specs.WaitingInside.{IsWith}
use Rattle.jh_linear.proofs.JudgeLemmas.{kept_start}
use Rattle.jh_linear.proofs.judge.start.Goals as goal

pub returns : goal.returns
returns c =
    let p = c.args.problem.now in
    let config : Config = c.in_ok-config.config in
    let empty : c.new-configs.result.keys ≡ [] = c.new-configs.ensures.empty in
    let keys : c.insert.new.self.keys ≡ config ∷ [] = rw empty at c.in_ok-insert.ensures.keys in
    let steps : c.push.new.self.items ≡ root ∷ [] = c.in_ok-push.ensures.items ∙ ap (λ (ss : List Step). ss ++ c.first_step.result ∷ []) c.new-steps.ensures.items ∙ ap (λ (s : Step). s ∷ []) c.first_step.ensures in
    let furthest : Furthest = record { stage = 0; step = c.first_step-2.result } in
    let first : RankedConfig = record { rank = 0; at = 0; is_last = false } in
    let with' : IsWith first [] c.push-2.new.self = subst (λ ts. IsWith first ts c.push-2.new.self) c.new-waiting.ensures c.in_ok-push-2.ensures in
    let search : Search = record { configs = c.insert.new.self; steps = c.push.new.self; waiting = c.push-2.new.self; furthest = furthest } in
    kept_start p c.requires.problem search config first keys steps refl with' (ap (λ s. record { stage = 0; step = s }) c.first_step-2.ensures) c.requires.budget c.requires.some
    c.in_ok-config.ensures.stands c.in_ok-config.ensures.stage c.in_ok-config.ensures.value
