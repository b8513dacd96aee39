use Rattle.std.proofs.Common.{rules, sym, ◌≡◌, ◌∙◌, Some, None}
use Rattle.clap.specs.Words.{found_of}
use Rattle.jh_arguments.proofs.OptionLemmas.{text_given}
use Rattle.jh_arguments.proofs.commands.text_of.Goals as goal

pub returns-in-Some-clause-parsed : goal.returns-in-Some-clause-parsed
returns-in-Some-clause-parsed c =
    text_given (found_of c.args.options.now) c.args.name.now c.get_str.result (Some c.in-Some.text.now) (search rules) (search rules)

pub returns-in-None-clause-taken : goal.returns-in-None-clause-taken
returns-in-None-clause-taken c = λ none text given.
    let nothing = text_given (found_of c.args.options.now) c.args.name.now c.get_str.result None (search rules) (search rules) in
    absurd (let bad = sym nothing ∙ given in cc)
