use Rattle.std.proofs.Common.{rules, ap, codes, sym, ◌≡◌, ◌∙◌, Some, None}
use Rattle.std.specs.Prelude.{option_and_then}
use Rattle.clap.specs.Words.{found_of}
use Rattle.jh_checkers.specs.Models.{model_named}
use Rattle.jh_arguments.proofs.OptionLemmas.{text_given}
use Rattle.jh_arguments.proofs.commands.model_of.Goals as goal

pub returns-in-Some : goal.returns-in-Some
returns-in-Some c =
    let given = text_given (found_of c.args.options.now) (codes "model") c.get_str.result (Some c.in-Some.name.now) (search rules) (search rules) in
    c.model_named.ensures ∙ ap (option_and_then model_named) (sym given)

pub returns-in-None : goal.returns-in-None
returns-in-None c =
    let given = text_given (found_of c.args.options.now) (codes "model") c.get_str.result None (search rules) (search rules) in
    ap (option_and_then model_named) (sym given)
