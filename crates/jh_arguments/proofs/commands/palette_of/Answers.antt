use Rattle.std.proofs.Common.{rules, ap, codes, sym, ◌≡◌, ◌∙◌, Some, None}
use Rattle.std.specs.Prelude.{option_and_then}
use Rattle.clap.specs.Words.{found_of}
use Rattle.jh_arguments.specs.Palettes.{palette_named}
use Rattle.jh_arguments.proofs.OptionLemmas.{text_given}
use Rattle.jh_arguments.proofs.commands.palette_of.Goals as goal

pub returns-in-Some : goal.returns-in-Some
returns-in-Some c =
    let given = text_given (found_of c.args.options.now) (codes "palette") c.get_str.result (Some c.in-Some.text.now) (search rules) (search rules) in
    c.palette_named.ensures ∙ ap (option_and_then palette_named) (sym given)

pub returns-in-None : goal.returns-in-None
returns-in-None c =
    let given = text_given (found_of c.args.options.now) (codes "palette") c.get_str.result None (search rules) (search rules) in
    ap (option_and_then palette_named) (sym given)
