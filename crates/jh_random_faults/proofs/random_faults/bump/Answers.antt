use Rattle.std.proofs.Common.{length, ap, subst, ◌∙◌}
use Rattle.std.specs.Prelude.{map}
use Rattle.std.specs.List.{All}
use Rattle.std.proofs.lemmas.Result.{IfOk-weaker}
use Rattle.jh_env.specs.Faults.{FitsCount, Bump, IsBumpAmount}
use Rattle.jh_env.specs.Naming.{RefusesFault, judged_bumps, known_bump}
use Rattle.jh_random_faults.specs.RandomFaults.{offset_of}
use Rattle.jh_random_faults.proofs.FaultLemmas.{bumps_refused, made_so, only_memory, where_ok}
use Rattle.jh_random_faults.proofs.random_faults.bump.Goals as goal

pub made-requires : goal.made-requires
made-requires c =
    let known = c.in_ok-named.ensures.known in
    let made = c.deref-2.ensures.value in
    let bumps = made ∙ c.in_ok-bumps.ensures.bumps ∙ ap (map (λ node. (node, offset_of c.args.choice))) c.deref.ensures.value in
    let amounts = subst (All (λ b. IsBumpAmount b.1)) (c.in_ok-bumps.ensures.bumps ∙ ap (map (λ node. (node, offset_of c.args.choice))) c.deref.ensures.value) c.in_ok-bumps.ensures.amounts in
    only_memory _ _ c.bump.result (λ e refused. bumps_refused c.args.nodes.now c.in_ok-named.named.items (offset_of c.args.choice) e known.below known.distinct amounts (subst (λ b. RefusesFault (judged_bumps (known_bump c.args.nodes.now) b) b e) bumps refused)) c.bump.ensures.made

pub returns-clause-made : goal.returns-clause-made
returns-clause-made c =
    let bumps = c.deref-2.ensures.value ∙ c.in_ok-bumps.ensures.bumps ∙ ap (map (λ node. (node, offset_of c.args.choice))) (c.deref.ensures.value ∙ c.in_ok-named.ensures.nodes) in
    made_so _ c.bump.result c.made.result c.made.ensures
    (IfOk-weaker c.bump.result _ _ (λ fault made. made.0 ∙ ap Bump bumps) (where_ok _ _ c.bump.result c.bump.ensures.made))

pub returns-clause-fits : goal.returns-clause-fits
returns-clause-fits c = made_so (FitsCount (length c.args.nodes.now)) c.bump.result c.made.result c.made.ensures c.bump.ensures.fits
