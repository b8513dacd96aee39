use Rattle.std.proofs.Common.{rules, arith}
use Rattle.jh_arguments.proofs.commands.trial_question_of.Goals as goal

pub returns-in_err-number_within-clause-taken : goal.returns-in_err-number_within-clause-taken
returns-in_err-number_within-clause-taken c = λ none question asks. c.number_within.ensures.taken (search rules) question.from asks.from

pub returns-in_err-number_within-2-clause-taken : goal.returns-in_err-number_within-2-clause-taken
returns-in_err-number_within-2-clause-taken c = λ none question asks. c.number_within-2.ensures.taken (search rules) question.runs asks.runs

pub returns-in_err-number_within-3-clause-taken : goal.returns-in_err-number_within-3-clause-taken
returns-in_err-number_within-3-clause-taken c = λ none question asks. c.number_within-3.ensures.taken (search rules) question.faults asks.faults

pub returns-clause-parsed : goal.returns-clause-parsed
returns-clause-parsed c = record {
  from = c.in_ok-number_within.ensures.parsed;
  runs = c.in_ok-number_within-2.ensures.parsed;
  faults = c.in_ok-number_within-3.ensures.parsed;
  palette = c.palette_of.ensures;
}

pub returns-clause-ranges : goal.returns-clause-ranges
returns-clause-ranges c = omega (arith, c.in_ok-number_within.ensures.parsed.2, c.in_ok-number_within-2.ensures.parsed.2)
