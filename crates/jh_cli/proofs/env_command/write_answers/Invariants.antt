use Rattle.std.proofs.Common.{◌≡◌, ◌++◌, drop}
use Rattle.jh_cli.specs.EnvText.{answer_lines}
use Rattle.jh_cli.proofs.env_command.write_answers.Given as goal

abbrev pub invariant-loop-answer : goal.invariant-loop-answer
invariant-loop-answer l = l.output.items ++ answer_lines (drop l.answer-index l.answers) ≡ l.fn.output.items ++ answer_lines l.answers
