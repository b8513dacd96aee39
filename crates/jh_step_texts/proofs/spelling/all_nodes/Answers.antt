use Rattle.std.proofs.Common.{refl}
use Rattle.std.specs.Prelude.{is_some}
use Rattle.std.proofs.lemmas.List.Folds.{list_all-map}
use Rattle.jh_edn.specs.View.{view}
use Rattle.jh_env.specs.Naming.{node_name}
use Rattle.jh_step_texts.proofs.spelling.all_nodes.Goals as goal

pub returns-then-are_nodes : goal.returns-then-are_nodes
returns-then-are_nodes c = rw (list_all-map (λ x. is_some (node_name x)) view c.args.nodes.now, ← c.are_nodes.ensures, c.if-are_nodes.true) refl

pub returns-else-are_nodes : goal.returns-else-are_nodes
returns-else-are_nodes c = rw (list_all-map (λ x. is_some (node_name x)) view c.args.nodes.now, ← c.are_nodes.ensures, c.if-are_nodes.false) refl
