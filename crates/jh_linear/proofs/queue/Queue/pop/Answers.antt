use Rattle.std.proofs.Common.{◌∷◌, subst}
use Rattle.std.specs.Prelude.{Option, Some, None, IfSome}
use Rattle.std.proofs.lemmas.List.Sorted.{IsPermutation-sym}
use Rattle.jh_linear.specs.declared.queue.RankedConfig.{RankedConfig}
use Rattle.jh_linear.specs.WaitingInside.{IsWith}
use Rattle.jh_linear.proofs.queue.Queue.pop.Goals as goal

if_some : {X : Type 0} {P Q : X → Type 0} (r : Option X) → ((x : X) → P x → Q x) → IfSome r P → IfSome r Q
if_some (Some x) f h = f x h
if_some None f h = h

pub returns-clause-some : goal.returns-clause-some
returns-clause-some c =
    if_some c.pop.result (λ (ranked : RankedConfig) h. subst (IsWith ranked c.pop.new.self.data.items) c.self.view_is (IsPermutation-sym c.self.inside.configs.data.items (ranked ∷ c.pop.new.self.data.items) h)) c.pop.ensures.permutation
