use Rattle.std.proofs.Common.{codes, refl, rules, sym, ap, ◌≡◌, ◌∙◌, Some}
use Rattle.jh_checkers.specs.Checkers.{checker_name}
use Rattle.jh_arguments.proofs.commands.judging_by.Goals as goal

pub returns-in_err-named-clause-taken : goal.returns-in_err-named-clause-taken
returns-in_err-named-clause-taken c = λ given none judging is.
    let both : Some c.args.name.now ≡ Some (checker_name judging.checker) = sym given ∙ is.workload in
    let same : c.args.name.now ≡ checker_name judging.checker = cc in
    c.named.ensures.unknown (search rules) judging.checker same

pub returns-in_err-number_of-clause-taken : goal.returns-in_err-number_of-clause-taken
returns-in_err-number_of-clause-taken c = λ given none judging is. c.number_of.ensures.taken (search rules) judging.budget is.budget

pub returns-clause-parsed : goal.returns-clause-parsed
returns-clause-parsed c = λ given. record {
  workload = given ∙ ap Some c.in_ok-named.ensures.named;
  initial = c.signed_of.ensures;
  model = c.model_of.ensures;
  accounts = refl;
  total = c.signed_of-2.ensures;
  negative_balances = c.flag_of.ensures;
  linearizable = c.flag_of-2.ensures;
  locked = c.flag_of-3.ensures;
  budget = c.in_ok-number_of.ensures.parsed;
}
