use Rattle.std.proofs.Common.{codes, rules, sym, subst, ◌≡◌, ◌∙◌, Some, None}
use Rattle.clap.specs.Words.{found_of, one_of, rows_of}
use Rattle.jh_checkers.specs.Checkers.{checker_name}
use Rattle.jh_arguments.specs.Commands.{IsFlag}
use Rattle.jh_arguments.proofs.OptionLemmas.{text_given}
use Rattle.jh_arguments.proofs.commands.check_question_of.Goals as goal

pub returns-in_err-name-clause-taken : goal.returns-in_err-name-clause-taken
returns-in_err-name-clause-taken c = λ none question asks.
    let given = text_given (found_of c.args.options.now) (codes "workload") c.get_str.result None (search rules) (search rules) in
    let bad : Some (checker_name question.judging.checker) ≡ None = sym asks.judging.workload ∙ given in
    cc

pub returns-in_err-judging_by-clause-taken : goal.returns-in_err-judging_by-clause-taken
returns-in_err-judging_by-clause-taken c = λ none question asks.
    let given = text_given (found_of c.args.options.now) (codes "workload") c.get_str.result (Some c.in_ok-name.name.now) (search rules) (search rules) in
    c.judging_by.ensures.taken given (search rules) question.judging asks.judging

pub returns-in_err-threads_of-clause-taken : goal.returns-in_err-threads_of-clause-taken
returns-in_err-threads_of-clause-taken c = λ none question asks. c.threads_of.ensures.taken (search rules) question.threads asks.threads

pub returns-clause-parsed : goal.returns-clause-parsed
returns-clause-parsed c =
    let given = text_given (found_of c.args.options.now) (codes "workload") c.get_str.result (Some c.in_ok-name.name.now) (search rules) (search rules) in
    let judged = c.in_ok-judging_by.ensures in
    record {
      judging = judged.parsed given;
      explain = subst (IsFlag (one_of (codes "explain") (rows_of (found_of c.args.options.now)))) (sym judged.explained) c.flag_of-explain.ensures;
      independent = c.flag_of.ensures;
      threads = c.in_ok-threads_of.ensures.parsed;
      at_least = c.given_number.ensures;
      skips_unread = c.flag_of-2.ensures;
    }
