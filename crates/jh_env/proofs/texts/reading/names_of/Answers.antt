use Rattle.std.proofs.Common.{sym, ◌∙◌}
use Rattle.jh_edn.specs.View.{view}
use Rattle.jh_env.specs.Text.{text_of_string}
use Rattle.jh_env.proofs.TextLemmas.{each_none, each_of-map}
use Rattle.jh_env.proofs.texts.reading.names_of.Goals as goal

pub loop-element-init : goal.loop-element-init
loop-element-init c =
    let elements = c.in_ok-elements.elements.now in
    rw c.new-names.ensures.items (each_none (λ v. text_of_string (view v)) elements ∙ sym (each_of-map text_of_string view elements))
