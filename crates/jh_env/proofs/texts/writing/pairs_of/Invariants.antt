use Rattle.std.proofs.Common.{◌≡◌, ◌∷◌, map, take}
use Rattle.jh_edn.specs.Edn.{keyword, vector, str, items_of}
use Rattle.jh_edn.specs.View.{view_pairs}
use Rattle.jh_env.specs.Text.{nodes_keyword}
use Rattle.jh_env.specs.TextWritten.{section_pair}
use Rattle.jh_env.proofs.texts.writing.pairs_of.Given as goal

abbrev pub invariant-loop-section : goal.invariant-loop-section
invariant-loop-section l =
    view_pairs l.pairs.items
    ≡ (keyword nodes_keyword, vector (items_of (map str l.env.names))) ∷ map (section_pair l.env) (take l.section-index l.section-items)
