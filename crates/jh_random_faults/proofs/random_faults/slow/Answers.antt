use Rattle.std.proofs.Common.{length, ap, subst, sym, ◌∙◌}
use Rattle.std.proofs.lemmas.Result.{IfOk-weaker}
use Rattle.std.specs.Prelude.{pos}
use Rattle.jh_env.specs.Amounts.{link_fault_of}
use Rattle.jh_env.specs.Faults.{FitsCount, Slow, kept_links}
use Rattle.jh_env.specs.declared.amounts.GivenLinkFault.TheVariants as Given
use Rattle.jh_env.proofs.AmountLemmas.{given_slow}
use Rattle.jh_step_texts.specs.NamedFaults.{AreLinksAmong}
use Rattle.jh_laws.specs.StepLines.{links_of}
use Rattle.jh_laws.specs.StepLines.{HasNoSelfLink}
use Rattle.jh_random_faults.proofs.FaultLemmas.{links_refused, made_so, none_to_itself, only_memory, where_ok}
use Rattle.jh_random_faults.proofs.random_faults.slow.Goals as goal

pub made-requires : goal.made-requires
made-requires c =
    let n = length c.args.nodes.now in
    let among : AreLinksAmong n c.deref.result.now = subst (AreLinksAmong n) (sym c.deref.ensures.value) c.in_ok-links.ensures.among in
    only_memory _ _ c.slow.result (λ e refused. links_refused c.args.nodes.now c.deref.result.now (link_fault_of (Given.Slow (pos c.args.ms))) e among (given_slow c.args.ms c.requires.amount) refused) c.slow.ensures.made

pub returns-clause-made : goal.returns-clause-made
returns-clause-made c =
    made_so _ c.slow.result c.made.result c.made.ensures
    (IfOk-weaker c.slow.result _ _ (λ fault made. made.0 ∙ ap (λ links. Slow c.args.ms (kept_links links)) (c.deref.ensures.value ∙ c.in_ok-links.ensures.links)) (where_ok _ _ c.slow.result c.slow.ensures.made))

pub returns-clause-fits : goal.returns-clause-fits
returns-clause-fits c = made_so (FitsCount (length c.args.nodes.now)) c.slow.result c.made.result c.made.ensures c.slow.ensures.fits

pub returns-clause-others : goal.returns-clause-others
returns-clause-others c =
    made_so HasNoSelfLink c.slow.result c.made.result c.made.ensures
    (IfOk-weaker c.slow.result _ _ (λ fault given. none_to_itself c.deref.result.now fault (ap links_of given.0) given.1.1) (where_ok _ _ c.slow.result c.slow.ensures.made))
