use Rattle.std.proofs.Common.{refl}
use Rattle.std.specs.Prelude.{is_some}
use Rattle.std.proofs.lemmas.List.Folds.{list_all-map}
use Rattle.jh_edn.specs.View.{view_pair}
use Rattle.jh_env.specs.Naming.{bump_spelled}
use Rattle.jh_step_texts.proofs.spelling.all_bumps.Goals as goal

pub returns-then-are_bumps : goal.returns-then-are_bumps
returns-then-are_bumps c = rw (list_all-map (λ x. is_some (bump_spelled x)) view_pair c.args.bumps.now, ← c.are_bumps.ensures, c.if-are_bumps.true) refl

pub returns-else-are_bumps : goal.returns-else-are_bumps
returns-else-are_bumps c = rw (list_all-map (λ x. is_some (bump_spelled x)) view_pair c.args.bumps.now, ← c.are_bumps.ensures, c.if-are_bumps.false) refl
