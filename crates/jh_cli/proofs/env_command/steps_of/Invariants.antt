use Rattle.std.proofs.Common.{◌≡◌, length, map, take, Ok}
use Rattle.std.specs.List.{All}
use Rattle.jh_edn.specs.View.{views}
use Rattle.jh_step_texts.specs.StepText.{parsed_step}
use Rattle.jh_nemesis.specs.Steps.{FitsNodes}
use Rattle.jh_cli.proofs.env_command.steps_of.Given as goal

abbrev pub invariant-loop-index : goal.invariant-loop-index
invariant-loop-index l = record {
  parsed : map (parsed_step l.nodes) (views (take l.index l.values)) ≡ map Ok l.steps.items;
  fit : All (FitsNodes (length l.nodes)) l.steps.items;
}
