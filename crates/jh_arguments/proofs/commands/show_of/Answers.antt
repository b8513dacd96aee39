use Rattle.std.proofs.Common.{codes, None, rules}
use Rattle.clap.specs.Words.{found_of, one_of, rows_of}
use Rattle.jh_arguments.specs.Commands.{IsGivenWithin}
use Rattle.jh_arguments.specs.Limits.{max_candidates}
use Rattle.jh_arguments.proofs.OptionLemmas.{number_given}
use Rattle.jh_arguments.proofs.commands.show_of.Goals as goal

pub returns-in_err-number : goal.returns-in_err-number
returns-in_err-number c =
    let given : IsGivenWithin 0 max_candidates (one_of (codes "show") (rows_of (found_of c.args.options.now))) None =
    number_given 0 max_candidates (one_of (codes "show") (rows_of (found_of c.args.options.now))) None tt (λ none. c.number_within.ensures.taken (search rules)) in
    rw c.from_residual.ensures given
