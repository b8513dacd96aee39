use Rattle.std.proofs.Common.{◌≡◌, drop, map}
use Rattle.jh_edn.specs.View.{view, views}
use Rattle.jh_env.specs.Text.{each_of, text_of_string}
use Rattle.jh_env.specs.TextInside.{list_with_front}
use Rattle.jh_env.proofs.texts.reading.names_of.Given as goal

abbrev pub invariant-loop-element : goal.invariant-loop-element
invariant-loop-element l =
    list_with_front (map (λ s. s.now) l.names.items) (each_of (λ v. text_of_string (view v)) (drop l.element-index l.elements))
    ≡ each_of text_of_string (views l.elements)
