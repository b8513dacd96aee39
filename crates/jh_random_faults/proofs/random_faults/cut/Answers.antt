use Rattle.std.proofs.Common.{length, ap, refl, subst, sym, ◌∙◌}
use Rattle.std.proofs.lemmas.Result.{IfOk-weaker}
use Rattle.jh_env.specs.Amounts.{link_fault_of}
use Rattle.jh_env.specs.Faults.{FitsCount, Cut, kept_links}
use Rattle.jh_env.specs.declared.amounts.GivenLinkFault.TheVariants as Given
use Rattle.jh_step_texts.specs.NamedFaults.{AreLinksAmong}
use Rattle.jh_laws.specs.StepLines.{links_of}
use Rattle.jh_laws.specs.StepLines.{HasNoSelfLink}
use Rattle.jh_random_faults.proofs.FaultLemmas.{links_refused, made_so, none_to_itself, only_memory, where_ok}
use Rattle.jh_random_faults.proofs.random_faults.cut.Goals as goal

pub made-requires : goal.made-requires
made-requires c =
    let n = length c.args.nodes.now in
    let among : AreLinksAmong n c.deref.result.now = subst (AreLinksAmong n) (sym c.deref.ensures.value) c.in_ok-links.ensures.among in
    only_memory _ _ c.cut.result (λ e refused. links_refused c.args.nodes.now c.deref.result.now (link_fault_of Given.Cut) e among refl refused) c.cut.ensures.made

pub returns-clause-made : goal.returns-clause-made
returns-clause-made c =
    made_so _ c.cut.result c.made.result c.made.ensures
    (IfOk-weaker c.cut.result _ _ (λ fault made. made.0 ∙ ap (λ links. Cut (kept_links links)) (c.deref.ensures.value ∙ c.in_ok-links.ensures.links)) (where_ok _ _ c.cut.result c.cut.ensures.made))

pub returns-clause-fits : goal.returns-clause-fits
returns-clause-fits c = made_so (FitsCount (length c.args.nodes.now)) c.cut.result c.made.result c.made.ensures c.cut.ensures.fits

pub returns-clause-others : goal.returns-clause-others
returns-clause-others c =
    made_so HasNoSelfLink c.cut.result c.made.result c.made.ensures
    (IfOk-weaker c.cut.result _ _ (λ fault given. none_to_itself c.deref.result.now fault (ap links_of given.0) given.1.1) (where_ok _ _ c.cut.result c.cut.ensures.made))
