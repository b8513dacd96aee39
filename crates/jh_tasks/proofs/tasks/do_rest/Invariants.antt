use Rattle.std.proofs.Common.{◌≡◌, ◌<◌, ℕ}
use Rattle.std.specs.Prelude.{None, slice_get, Some}
use Rattle.jh_tasks.specs.Answers.{AreTaskAnswers}
use Rattle.jh_tasks.proofs.tasks.do_rest.Given as goal

-- no task before this one is left
abbrev pub invariant-loop-number : goal.invariant-loop-number
invariant-loop-number g l = record {
  right : AreTaskAnswers g.T.Task.count g.T.Task.is_right l.answers.items;
  before : (earlier : ℕ) → earlier < l.number → slice_get l.answers.items earlier ≡ Some None → ⊥;
}
