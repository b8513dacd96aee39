use Rattle.jh_conversation.proofs.CallLemmas.{calls_timely, stop_ends_main, two_stops_end}
use Rattle.jh_conversation.proofs.laws.calls_are_bounded.Goals as goal

pub returns-clause-stop : goal.returns-clause-stop
returns-clause-stop c = stop_ends_main

pub returns-clause-stops : goal.returns-clause-stops
returns-clause-stops c = two_stops_end

pub returns-clause-timely : goal.returns-clause-timely
returns-clause-timely c = calls_timely
