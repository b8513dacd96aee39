use Rattle.std.proofs.Common.{◌∙◌, ap, refl}
use Rattle.jh_edn.specs.Edn.{str}
use Rattle.jh_test_parts.proofs.ValueLemmas.{named}
use Rattle.jh_test_parts.proofs.operations.name_value.Goals as goal

pub returns : goal.returns
returns c = ap str (c.in_ok-of.ensures ∙ ap (λ s. s.now) c.unwrap_or-name.ensures ∙ named (λ s. s.now) c.name.result _ c.args.nodes.now c.args.node refl c.name.ensures)
