use Rattle.std.proofs.Common.{◌≡◌, ◌∙◌, List, [], ◌∷◌, map, sym, subst, refl, ap}
use Rattle.std.proofs.lemmas.Iterator.{YieldsList-from_chars}
use Rattle.std.proofs.lemmas.Iterator.Consumers.{YieldsList-end}
use Rattle.std.specs.Fmt.{HasWritten}
use Rattle.std.specs.List.{flat_map}
use Rattle.jh_one_line.specs.OneLine.{one_line_text, shown_character}
use Rattle.jh_one_line.proofs.line.OnOneLineDisplay.fmt.Goals as goal

map_itself : {X : Type 0} (xs : List X) → map (λ x. x) xs ≡ xs
map_itself [] = refl
map_itself (x ∷ xs) = ap (λ ys. x ∷ ys) (map_itself xs)

pub returns-clause-writes : goal.returns-clause-writes
returns-clause-writes g c plain ok =
    let all = YieldsList-end (YieldsList-from_chars c.text.result.now c.text.utf8 cc) c.loop-character.yielded _ c.loop-character.yielded_by _ _ c.in-None.is c.next.ensures.steps in
    let writes = c.loop-character.invariant plain in
    let shown = subst (λ cs. HasWritten {W = g.row.W.Denot} g.W.Write.write_str_gives c.args.f.now (flat_map shown_character cs) c.loop-character.f) (sym (map_itself c.loop-character.yielded) ∙ all.0) writes in
    subst (λ bytes. HasWritten {W = g.row.W.Denot} g.W.Write.write_str_gives c.args.f.now (one_line_text bytes) c.loop-character.f) c.text.ensures shown
