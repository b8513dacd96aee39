use Rattle.jh_tasks.specs.Answers.{AreTaskAnswers}
use Rattle.jh_tasks.proofs.board.Board.new.Given as goal

-- none is answered
abbrev pub invariant-loop : goal.invariant-loop
invariant-loop g l = AreTaskAnswers l.counter g.T.Task.is_right l.answers.items
