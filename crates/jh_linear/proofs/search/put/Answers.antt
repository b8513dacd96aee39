use Rattle.std.proofs.Common.{◌≡◌, List, [], ◌∷◌, ◌++◌, true, false, cond, ◌∙◌, ap}
use Rattle.std.specs.List.{list_any}
use Rattle.jh_linear.specs.declared.config.Config.{Config}
use Rattle.jh_linear.proofs.SameConfigLemmas.{same_config, are_same, none_same, was_there, was_not, position_none}
use Rattle.jh_linear.proofs.search.put.Goals as goal

pub returns-clause-known : goal.returns-clause-known
returns-clause-known c = λ old.
    let e = c.in_ok-insert_full.ensures in
    let keys : List Config = c.args.configs.now.keys in
    let there : list_any (same_config c.args.config) keys ≡ true = was_there keys c.args.config c.in_ok-insert_full.field-0.1 e.added old in
    (e.keys ∙ ap (λ b. cond b keys (keys ++ c.args.config ∷ [])) there, (e.stored.0, e.stored.1, are_same c.args.config e.stored.0 e.stored.2))

pub returns-clause-new : goal.returns-clause-new
returns-clause-new c = λ new.
    let e = c.in_ok-insert_full.ensures in
    let keys : List Config = c.args.configs.now.keys in
    let none : list_any (same_config c.args.config) keys ≡ false = was_not keys c.args.config c.in_ok-insert_full.field-0.1 e.added new in
    (e.keys ∙ ap (λ b. cond b keys (keys ++ c.args.config ∷ [])) none, e.index ∙ position_none (same_config c.args.config) keys none, none_same keys c.args.config none)
