use Rattle.std.proofs.Common.{codes, rules, Some, None}
use Rattle.clap.specs.Words.{found_of, rows_of}
use Rattle.jh_arguments.proofs.OptionLemmas.{judging_unread, text_given}
use Rattle.jh_arguments.proofs.commands.judging_of.Goals as goal

pub returns-in_err-judging_by-in-Some-clause-taken : goal.returns-in_err-judging_by-in-Some-clause-taken
returns-in_err-judging_by-in-Some-clause-taken c = λ none judging is.
    let given = text_given (found_of c.args.options.now) (codes "workload") c.get_str.result (Some c.in-Some.name.now) (search rules) (search rules) in
    judging_unread c.args.accounts (rows_of (found_of c.args.options.now)) c.in-Some.name.now judging given (c.judging_by.ensures.taken given (search rules)) is

pub returns-in_ok-judging_by-in-Some-clause-parsed : goal.returns-in_ok-judging_by-in-Some-clause-parsed
returns-in_ok-judging_by-in-Some-clause-parsed c =
    let given = text_given (found_of c.args.options.now) (codes "workload") c.get_str.result (Some c.in-Some.name.now) (search rules) (search rules) in
    (c.in_ok-judging_by-in-Some.ensures.parsed given, c.in_ok-judging_by-in-Some.ensures.explained)

pub returns-in-None-clause-parsed : goal.returns-in-None-clause-parsed
returns-in-None-clause-parsed c = text_given (found_of c.args.options.now) (codes "workload") c.get_str.result None (search rules) (search rules)
