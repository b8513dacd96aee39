use Rattle.std.proofs.Common.{◌≡◌, refl, sym, subst, length}
use Rattle.std.proofs.lemmas.Bool.{ltb-true}
use Rattle.std.proofs.lemmas.Option.{slice_get_read}
use Rattle.std.specs.Prelude.{slice_get, Some}
use Rattle.jh_edn.specs.View.{view}
use Rattle.jh_ops.specs.Operation.{operations}
use Rattle.jh_independent.specs.AnswersInside.{IsAnswerAt}
use Rattle.jh_independent.specs.Refusals.{keys_question}
use Rattle.jh_independent.proofs.FoundLemmas.{answer_at, answered, groups_places, place_of_all}
use Rattle.jh_independent.proofs.threads.KeysTaskAnswer.answer_at.Goals as goal

pub check_key-requires : goal.check_key-requires
check_key-requires g c =
    let history = operations c.self.inside.history.now in
    let groups = c.self.inside.groups.now in
    let at : slice_get groups c.args.number ≡ Some c.in-Some.group.now =
    slice_get_read groups _ c.args.number c.in-Some.group.now refl (ltb-true c.args.number (length groups) (sym c.in-Some.ensures.lookup.0)) c.in-Some.ensures.lookup.1 in
    place_of_all history groups c.args.number c.in-Some.group.now (groups_places history groups c.self.invariant.groups_are) at

pub returns : goal.returns
returns g c =
    let asked = keys_question c.self.inside.judging (operations c.self.inside.history.now) in
    let groups = c.self.inside.groups.now in
    let at : slice_get groups c.args.number ≡ Some c.in-Some.group.now =
    slice_get_read groups _ c.args.number c.in-Some.group.now refl (ltb-true c.args.number (length groups) (sym c.in-Some.ensures.lookup.0)) c.in-Some.ensures.lookup.1 in
    record {
      judged =
          subst (λ question. IsAnswerAt question c.args.number c.check_key.result) c.self.invariant.question_is
          (answer_at asked groups c.args.number c.in-Some.group.now c.check_key.result c.self.invariant.groups_are at (answered asked (view c.in-Some.group.now.key) c.check_key.result c.check_key.ensures.judged));
      let_in = λ is. absurd (c.check_key.ensures.alone is);
    }
