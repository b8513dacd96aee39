use Rattle.std.proofs.Common.{rules}
use Rattle.jh_arguments.proofs.commands.search_question_of.Goals as goal

pub returns-in_err-candidates-clause-taken : goal.returns-in_err-candidates-clause-taken
returns-in_err-candidates-clause-taken c = λ none question asks. c.trial_question_of.ensures.taken (search rules)
    (record { from = question.from; runs = question.runs; faults = question.faults; palette = question.palette })
    (record { from = asks.from; runs = asks.runs; faults = asks.faults; palette = asks.palette })

pub returns-clause-parsed : goal.returns-clause-parsed
returns-clause-parsed c = record {
  from = c.in_ok-candidates.ensures.parsed.from;
  runs = c.in_ok-candidates.ensures.parsed.runs;
  faults = c.in_ok-candidates.ensures.parsed.faults;
  palette = c.in_ok-candidates.ensures.parsed.palette;
  threads = c.given_within.ensures.given;
  show = c.show_of.ensures;
}

pub returns-clause-ranges : goal.returns-clause-ranges
returns-clause-ranges c = (c.in_ok-candidates.ensures.ranges, c.given_within.ensures.within)
