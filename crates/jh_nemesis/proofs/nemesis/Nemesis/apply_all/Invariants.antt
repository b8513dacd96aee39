use Rattle.std.proofs.Common.{◌≡◌, ◌++◌, ◌+◌, ◌≤◌, length, take, drop}
use Rattle.std.specs.List.{All}
use Rattle.std.specs.Vec.{vec_capacity}
use Rattle.std.specs.Vec.Iter.{into_iter_items}
use Rattle.jh_nemesis.specs.Work.{size_of_steps}
use Rattle.jh_nemesis.specs.Steps.{StepFits, answers_of, state_after_all}
use Rattle.jh_nemesis.proofs.nemesis.Nemesis.apply_all.Given as goal

abbrev pub invariant-loop-step : goal.invariant-loop-step
invariant-loop-step l = record {
  can : (goal.iterator-loop-step).can_next l.step-iterator;
  ends : (goal.iterator-loop-step).is_finite l.step-iterator;
  room : length l.answers.items + length (into_iter_items l.step-iterator) ≤ vec_capacity l.answers;
  parsed : l.answers.items ++ answers_of l.self.state (into_iter_items l.step-iterator) ≡ answers_of l.fn.self.state l.fn.steps.items;
  rest : state_after_all l.self.state (into_iter_items l.step-iterator) ≡ state_after_all l.fn.self.state l.fn.steps.items;
  fit : All (StepFits l.self.state) (into_iter_items l.step-iterator);
  left : drop (length l.answers.items) l.fn.steps.items ≡ into_iter_items l.step-iterator;
  answered : l.answers.items ≡ answers_of l.fn.self.state (take (length l.answers.items) l.fn.steps.items);
  taken : l.self.state ≡ state_after_all l.fn.self.state (take (length l.answers.items) l.fn.steps.items);
  work : l.self.work + size_of_steps l.self.state (into_iter_items l.step-iterator) ≤ l.fn.self.work + size_of_steps l.fn.self.state l.fn.steps.items;
}
