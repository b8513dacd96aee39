use Rattle.std.proofs.Common.{◌<◌, length, ap, subst, sym, ◌∙◌}
use Rattle.std.specs.List.{All}
use Rattle.std.proofs.lemmas.Result.{IfOk-weaker}
use Rattle.jh_env.specs.Faults.{FitsCount, Pause, kept_nodes}
use Rattle.jh_tables.specs.declared.faults.NodeFault.TheVariants as Kind
use Rattle.jh_random_faults.proofs.FaultLemmas.{nodes_refused, made_so, only_memory, where_ok}
use Rattle.jh_random_faults.proofs.random_faults.pause.Goals as goal

pub made-requires : goal.made-requires
made-requires c =
    let n = length c.args.nodes.now in
    let below : All (λ a. a < n) c.deref.result.now = subst (All (λ a. a < n)) (sym c.deref.ensures.value) c.in_ok-named.ensures.known.below in
    only_memory _ _ c.pause.result (λ e refused. nodes_refused c.args.nodes.now Kind.Pause c.deref.result.now e below refused) c.pause.ensures.made

pub returns-clause-made : goal.returns-clause-made
returns-clause-made c =
    made_so _ c.pause.result c.made.result c.made.ensures
    (IfOk-weaker c.pause.result _ _ (λ fault made. made.0 ∙ ap (λ nodes. Pause (kept_nodes nodes)) (c.deref.ensures.value ∙ c.in_ok-named.ensures.nodes)) (where_ok _ _ c.pause.result c.pause.ensures.made))

pub returns-clause-fits : goal.returns-clause-fits
returns-clause-fits c = made_so (FitsCount (length c.args.nodes.now)) c.pause.result c.made.result c.made.ensures c.pause.ensures.fits
