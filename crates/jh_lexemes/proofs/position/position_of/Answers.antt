use Rattle.std.proofs.Common.{◌≡◌, ℕ, take, ap, ◌∙◌}
use Rattle.std.proofs.lemmas.List.{take_min}
use Rattle.jh_lexemes.specs.Positions.{position_behind}
use Rattle.jh_lexemes.proofs.PositionLemmas.{line_behind}
use Rattle.jh_lexemes.proofs.position.position_of.Goals as goal

pub returns-clause-line : goal.returns-clause-line
returns-clause-line c =
    let text = c.args.text.now in
    let before : take c.min-place.result c.as_bytes.result.now ≡ take c.args.place text = ap (take c.min-place.result) c.as_bytes.ensures.value ∙ ap (λ (n : ℕ). take n text) c.min-place.ensures ∙ take_min c.args.place text in
    let here : c.position_behind.result ≡ position_behind (take c.args.place text) = c.position_behind.ensures ∙ ap position_behind before in
    rw here (line_behind (take c.args.place text))
