use Rattle.std.proofs.Common.{◌≡◌, ◌≤◌, take}
use Rattle.jh_simnode.specs.Counts.{answered_count, applied_count}
use Rattle.jh_audit.specs.Plans.{AreTurnsKept}
use Rattle.jh_audit.proofs.turns.are_turns_kept.Given as goal

-- the turns of the events so far are kept, and steps and calls among them were counted
abbrev pub invariant-loop-number : goal.invariant-loop-number
invariant-loop-number l = record {
  kept : AreTurnsKept l.plan l.journal l.number;
  all : l.all ≡ answered_count l.journal;
  steps : l.steps ≡ applied_count (take l.number l.journal);
  calls : l.calls ≡ answered_count (take l.number l.journal);
  few_steps : l.steps ≤ l.number;
  few_calls : l.calls ≤ l.number;
}
