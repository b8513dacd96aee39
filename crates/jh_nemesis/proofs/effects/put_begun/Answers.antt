use Rattle.std.proofs.Common.{◌≡◌, ◌∙◌}
use Rattle.jh_nemesis.specs.AcceptedInside.{accepted_at}
use Rattle.jh_nemesis.specs.declared.accepted.AcceptedStep.TheVariants.{Begun}
use Rattle.jh_nemesis.proofs.EffectLemmas.{step_read}
use Rattle.jh_nemesis.proofs.effects.put_begun.Goals as goal

pub returns-in-Begun-clause-stands : goal.returns-in-Begun-clause-stands
returns-in-Begun-clause-stands c =
    let at : accepted_at c.args.accepted.now c.args.stamp ≡ Begun c.in-Begun.field-0 c.in-Begun.fault =
    step_read c.args.accepted.now c.args.stamp c.index-accepted-stamp.result c.requires.begin.0 c.index-accepted-stamp.is ∙ c.in-Begun.is in
    rw at c.put.ensures.stands
