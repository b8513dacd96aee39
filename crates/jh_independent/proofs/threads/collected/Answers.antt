use Rattle.std.proofs.Common.{◌≡◌, ◌∷◌, [], refl, sym, subst, length, rules, arith, inl, inr}
use Rattle.std.proofs.lemmas.List.{nil_from_length}
use Rattle.std.specs.Prelude.{Err, is_err, unwrap_or}
use Rattle.jh_tasks.proofs.DoneLemmas.{AreDoneInTurn, done_in_turn}
use Rattle.jh_edn.specs.View.{view}
use Rattle.jh_independent.specs.AnswersInside.{IsAnswer}
use Rattle.jh_independent.specs.FoundInside.{AreCollected, IsFoundSoFar}
use Rattle.jh_independent.specs.Refusals.{RefusesKeys}
use Rattle.jh_independent.specs.declared.error.KeysError.TheVariants.{Thread}
use Rattle.jh_independent.proofs.FoundLemmas.{all_found, first_collected, front_answer, front_let_in, keys_refused, more_collected, rest_done}
use Rattle.jh_independent.proofs.threads.collected.Goals as goal

pub loop-group-init : goal.loop-group-init
loop-group-init g c =
    let asked = g.Q.Asking.asked in
    let refuses = g.G.Gate.may_refuse in
    let groups : c.into_iter-group-iterator.result.a.rest.items ≡ c.args.groups.items = search rules in
    let answers : c.into_iter-group-iterator.result.b.rest.items ≡ c.args.answers.of_each.items = search rules in
    record {
      collected =
          subst (λ found. AreCollected asked refuses found c.into_iter-group-iterator.result.a.rest.items c.into_iter-group-iterator.result.b.rest.items) (sym c.in_ok-found.ensures.items)
          (subst (λ groups. AreCollected asked refuses [] groups c.into_iter-group-iterator.result.b.rest.items) (sym groups)
          (subst (λ answers. AreCollected asked refuses [] c.args.groups.items answers) (sym answers)
          (first_collected asked refuses c.args.groups.items c.args.answers.of_each.items c.requires.groups c.requires.right)));
      done = λ all. subst (λ left. AreDoneInTurn is_err left) (sym answers) (done_in_turn is_err c.args.answers.of_each.items (c.requires.done all));
    }

pub returns-in_err-finding-clause-found : goal.returns-in_err-finding-clause-found
returns-in_err-finding-clause-found g c =
    let asked = g.Q.Asking.asked in
    let refuses = g.G.Gate.may_refuse in
    let found = c.loop-group.found.items in
    let groups = c.next.new.self.a.rest.items in
    let answers = c.next.new.self.b.rest.items in
    let steps = c.in-Some.ensures.steps in
    let here : AreCollected asked refuses found (c.in-Some.group ∷ groups) (c.in-Some.answer ∷ answers) =
    subst (λ gs. AreCollected asked refuses found gs (c.in-Some.answer ∷ answers)) steps.0.0
    (subst (λ left. AreCollected asked refuses found c.loop-group.group-iterator.a.rest.items left) steps.1.0 c.loop-group.invariant.collected) in
    let refused : RefusesKeys asked c.in_err-finding.field-0.0 =
    keys_refused asked found c.in-Some.group groups c.in_err-finding.field-0.0 c.requires.tuples here.keys
    (subst (IsAnswer asked (view c.in-Some.group.key)) (sym c.in_err-finding.ensures) (front_answer asked refuses found c.in-Some.group groups c.in-Some.answer answers here)) in
    search (rules, refused)

pub returns-in_err-finding-clause-let_in : goal.returns-in_err-finding-clause-let_in
returns-in_err-finding-clause-let_in g c all is =
    let refuses = g.G.Gate.may_refuse in
    let found = c.loop-group.found.items in
    let answers = c.next.new.self.b.rest.items in
    let steps = c.in-Some.ensures.steps in
    let here : AreCollected g.Q.Asking.asked refuses found c.loop-group.group-iterator.a.rest.items (c.in-Some.answer ∷ answers) =
    subst (λ left. AreCollected g.Q.Asking.asked refuses found c.loop-group.group-iterator.a.rest.items left) steps.1.0 c.loop-group.invariant.collected in
    let done : AreDoneInTurn is_err (c.in-Some.answer ∷ answers) = subst (λ left. AreDoneInTurn is_err left) steps.1.0 (c.loop-group.invariant.done all) in
    let given : unwrap_or c.in-Some.answer (Err Thread) ≡ Err Thread = search (rules, is) in
    front_let_in g.Q.Asking.asked refuses found c.loop-group.group-iterator.a.rest.items c.in-Some.answer answers here done given

pub loop-group-preserved : goal.loop-group-preserved
loop-group-preserved g c =
    let asked = g.Q.Asking.asked in
    let refuses = g.G.Gate.may_refuse in
    let found = c.loop-group.found.items in
    let groups = c.next.new.self.a.rest.items in
    let answers = c.next.new.self.b.rest.items in
    let steps = c.in-Some.ensures.steps in
    let here : AreCollected asked refuses found (c.in-Some.group ∷ groups) (c.in-Some.answer ∷ answers) =
    subst (λ gs. AreCollected asked refuses found gs (c.in-Some.answer ∷ answers)) steps.0.0
    (subst (λ left. AreCollected asked refuses found c.loop-group.group-iterator.a.rest.items left) steps.1.0 c.loop-group.invariant.collected) in
    record {
      collected =
          subst (λ found. AreCollected asked refuses found groups answers) (sym c.in_ok-push.ensures.items)
          (more_collected asked refuses found c.in-Some.group groups c.in-Some.answer answers _ here refl
          (subst (IsAnswer asked (view c.in-Some.group.key)) (sym c.in_ok-finding.ensures) (front_answer asked refuses found c.in-Some.group groups c.in-Some.answer answers here)));
      done = λ all. rest_done c.in-Some.answer answers _ (subst (λ left. AreDoneInTurn is_err left) steps.1.0 (c.loop-group.invariant.done all)) (sym c.in_ok-finding.ensures);
    }

pub returns-clause-found : goal.returns-clause-found
returns-clause-found g c =
    let asked = g.Q.Asking.asked in
    let found = c.loop-group.found.items in
    let groups = c.loop-group.group-iterator.a.rest in
    let answers = c.loop-group.group-iterator.b.rest in
    let left : length answers.items ≡ length groups.items = c.loop-group.invariant.collected.size in
    let none : length groups.items ≡ 0 = elim c.in-None.ensures.steps [
      | inl one ↦ omega (arith, one.1.0, groups.ok)
      | inr one ↦ omega (arith, one.1.0, answers.ok, left)
    ] in
    all_found asked found c.requires.tuples (subst (IsFoundSoFar asked found) (nil_from_length groups.items none) c.loop-group.invariant.collected.keys)
