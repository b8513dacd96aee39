use Rattle.std.proofs.Common.{◌≡◌, ◌∷◌, ◌++◌, [], ap, ◌∙◌}
use Rattle.std.proofs.lemmas.List.{map_push}
use Rattle.std.proofs.lemmas.Result.{err_from_is_err_and}
use Rattle.jh_edn.specs.View.{view, views}
use Rattle.jh_edn.proofs.LineLemmas.{gap_fails, ends_here, value_fails, value_next, empty_of, some_of}
use Rattle.jh_edn.proofs.line.line_values.Goals as goal

pub returns-in_err-here : goal.returns-in_err-here
returns-in_err-here c =
    let p = err_from_is_err_and c.from_residual.result c.from_residual.ensures.1 in
    let l = c.loop-turn in
    rw (p.1, p.2) (gap_fails _ _ _ _ _ c.loop-turn-test.true l.invariant.rest c.in_err-here.field-0.0 c.in_err-here.ensures.gives)

pub returns-then-is_empty : goal.returns-then-is_empty
returns-then-is_empty c =
    ends_here _ _ _ _ _ c.loop-turn-test.true c.loop-turn.invariant.rest _ c.in_ok-here.ensures.gives (empty_of _ c.if-is_empty.ensures)

pub returns-in_err-value : goal.returns-in_err-value
returns-in_err-value c =
    let p = err_from_is_err_and c.from_residual-in_err-value.result c.from_residual-in_err-value.ensures.1 in
    let l = c.loop-turn in
    rw (p.1, p.2) (value_fails _ _ _ _ _ c.loop-turn-test.true l.invariant.rest _ c.in_err-value.field-0.0 c.in_ok-here.ensures.gives (some_of _ c.if-is_empty.ensures) c.in_err-value.ensures.gives)

pub loop-turn-preserved : goal.loop-turn-preserved
loop-turn-preserved c =
    let l = c.loop-turn in
    let x = view c.in_ok-value.value in
    let pushed : views c.push.new.self.items ≡ views l.values.items ++ x ∷ [] =
    ap views c.in_ok-push.ensures.items ∙ map_push view l.values.items c.in_ok-value.value in
    record {
      rest = value_next _ _ _ _ _ _ c.loop-turn-test.true l.invariant.rest _ _ _ c.in_ok-here.ensures.gives (some_of _ c.if-is_empty.ensures) c.in_ok-value.ensures.gives pushed;
      text = c.in_ok-value.ensures.text;
    }
