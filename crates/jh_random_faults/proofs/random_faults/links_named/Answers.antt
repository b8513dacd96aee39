use Rattle.std.proofs.Common.{◌/◌, length, subst, sym}
use Rattle.std.proofs.lemmas.Result.{IfOk-weaker}
use Rattle.jh_step_texts.specs.NamedFaults.{AreLinksAmong}
use Rattle.jh_random_faults.proofs.FaultLemmas.{apart_among, first_among}
use Rattle.jh_random_faults.proofs.random_faults.links_named.Goals as goal

pub returns-in-0-clause-among : goal.returns-in-0-clause-among
returns-in-0-clause-among c =
    let order = c.args.order.now in let n = length order in
    IfOk-weaker c.first_link.result _ _ (λ links is. subst (AreLinksAmong n) (sym is) (first_among n order c.requires.all)) c.first_link.ensures

pub returns-in-1-clause-among : goal.returns-in-1-clause-among
returns-in-1-clause-among c =
    let order = c.args.order.now in let n = length order in
    IfOk-weaker c.links_apart.result _ _ (λ links is. subst (AreLinksAmong n) (sym is) (apart_among n 1 order c.requires.all)) c.links_apart.ensures

pub returns-in-2-clause-among : goal.returns-in-2-clause-among
returns-in-2-clause-among c =
    let order = c.args.order.now in let n = length order in
    IfOk-weaker c.links_apart-in-2.result _ _ (λ links is. subst (AreLinksAmong n) (sym is) (apart_among n (n / 2) order c.requires.all)) c.links_apart-in-2.ensures
