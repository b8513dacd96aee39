use Rattle.std.proofs.Common.{◌∙◌, ap}
use Rattle.jh_env.proofs.NamingLemmas.{cut_made}
use Rattle.jh_step_texts.specs.FaultText.{refusal_of}
use Rattle.jh_step_texts.proofs.FaultTextLemmas.{cut_refused}
use Rattle.jh_step_texts.proofs.named.cut.Goals as goal

pub returns-in-Ok-clause-cut : goal.returns-in-Ok-clause-cut
returns-in-Ok-clause-cut c =
    let made = cut_made c.args.nodes.now c.links.result.now c.in-Ok.fault c.in-Ok.ensures.made in rw c.links.ensures.links at made.0

pub returns-in-Err-clause-cut : goal.returns-in-Err-clause-cut
returns-in-Err-clause-cut c =
    c.from.ensures ∙ ap refusal_of (cut_refused c.args.nodes.now c.links.result.now c.in-Err.refusal (rw c.links.ensures.links c.requires) c.in-Err.ensures.made)
