use Rattle.std.proofs.Common.{refl}
use Rattle.std.specs.Prelude.{is_some}
use Rattle.std.proofs.lemmas.List.Folds.{list_all-map}
use Rattle.jh_edn.specs.View.{view}
use Rattle.jh_env.specs.Naming.{link_names}
use Rattle.jh_step_texts.proofs.spelling.all_links.Goals as goal

pub returns-then-are_links : goal.returns-then-are_links
returns-then-are_links c = rw (list_all-map (λ x. is_some (link_names x)) view c.args.links.now, ← c.are_links.ensures, c.if-are_links.true) refl

pub returns-else-are_links : goal.returns-else-are_links
returns-else-are_links c = rw (list_all-map (λ x. is_some (link_names x)) view c.args.links.now, ← c.are_links.ensures, c.if-are_links.false) refl
