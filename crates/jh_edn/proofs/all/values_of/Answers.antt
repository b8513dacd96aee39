use Rattle.std.proofs.Common.{◌≡◌, ◌++◌, ◌∷◌, [], inl, inr, refl, sym, subst}
use Rattle.std.proofs.lemmas.List.{map_push}
use Rattle.std.proofs.lemmas.Result.{err_from_is_err_and}
use Rattle.jh_edn.specs.Refused.{RefusesText, IsFirstIfInText}
use Rattle.jh_edn.specs.Reading.{IsReached}
use Rattle.std.proofs.lemmas.Str.{IsCharBoundary-start}
use Rattle.jh_edn.specs.View.{view, views}
use Rattle.jh_edn.proofs.JoinLemmas.{Before, Behind, before_none, before_more, before_all, behind_none, behind_more, spells_nothing, refuses, first_behind}
use Rattle.jh_edn.proofs.all.values_of.Goals as goal

pub loop-values-init : goal.loop-values-init
loop-values-init c =
    let text = c.args.text.now in
    record {
      boundary = IsCharBoundary-start text c.utf8.text;
      reached = IsReached.start 0 refl;
      before = subst (λ vs. Before (views vs) text 0) (sym c.new-values.ensures.items) (before_none text);
      behind = subst (λ vs. Behind (views vs) text 0) (sym c.new-values.ensures.items) (behind_none text);
    }

pub loop-values-preserved : goal.loop-values-preserved
loop-values-preserved c =
    let l = c.loop-values in
    let text = c.args.text.now in
    let reads = rw c.in-Some.is at c.in_ok-value.ensures.some in
    let place = rw c.in-Some.is at c.in_ok-value.ensures.place in
    let pushed : views c.push.new.self.items ≡ views l.values.items ++ view c.in-Some.value ∷ [] = rw c.in_ok-push.ensures.items (map_push view l.values.items c.in-Some.value) in
    record {
      boundary = place.1;
      reached = IsReached.behind l.at c.in-Some.end (view c.in-Some.value) l.invariant.reached reads;
      before = rw pushed (before_more (views l.values.items) text l.at (view c.in-Some.value) c.in-Some.end l.invariant.before reads);
      behind = rw pushed (behind_more (views l.values.items) text l.at (view c.in-Some.value) c.in-Some.end l.invariant.behind reads);
    }

pub returns-clause-values : goal.returns-clause-values
returns-clause-values c =
    let l = c.loop-values in
    before_all (views l.values.items) c.args.text.now l.at l.invariant.before (rw c.in_default.is at c.in_ok-value.ensures.none)

pub returns-in_err-value-clause-refused : goal.returns-in_err-value-clause-refused
returns-in_err-value-clause-refused c =
    let p = err_from_is_err_and c.from_residual.result c.from_residual.ensures.1 in
    let l = c.loop-values in
    let text = c.args.text.now in
    let e = c.in_err-value.field-0.0 in
    let parsed : RefusesText text e = elim c.in_err-value.ensures.refused [
      | inl memory ↦ rw memory tt
      | inr nothing ↦
          elim c.in_err-value.ensures.first_error [
            | inl memory ↦ rw memory tt
            | inr error ↦ refuses text l.at e (spells_nothing (views l.values.items) text l.at c.utf8.text l.invariant.behind nothing) error
          ]
    ] in
    rw (p.1, p.2) parsed

pub returns-in_err-value-clause-first_error : goal.returns-in_err-value-clause-first_error
returns-in_err-value-clause-first_error c =
    let p = err_from_is_err_and c.from_residual.result c.from_residual.ensures.1 in
    let text = c.args.text.now in
    let e = c.in_err-value.field-0.0 in
    let parsed : IsFirstIfInText text e = elim c.in_err-value.ensures.first_error [
      | inl memory ↦ rw memory tt
      | inr error ↦ first_behind text c.loop-values.at e c.loop-values.invariant.reached error
    ] in
    rw (p.1, p.2) parsed
