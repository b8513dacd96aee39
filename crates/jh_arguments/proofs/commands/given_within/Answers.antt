use Rattle.std.proofs.Common.{Some, None, rules}
use Rattle.clap.specs.Words.{found_of, one_of, rows_of}
use Rattle.jh_arguments.specs.Commands.{IsGivenWithin}
use Rattle.jh_arguments.proofs.OptionLemmas.{number_given}
use Rattle.jh_arguments.proofs.commands.given_within.Goals as goal

pub returns-in_err-number-clause-given : goal.returns-in_err-number-clause-given
returns-in_err-number-clause-given c =
    let text = one_of c.args.name.now (rows_of (found_of c.args.options.now)) in
    let given : IsGivenWithin c.from.result c.from-2.result text None =
    number_given c.from.result c.from-2.result text None tt (λ none. c.number_within.ensures.taken (search rules)) in
    rw c.from_residual.ensures (rw (c.from.ensures, c.from-2.ensures) at given)

pub returns-clause-given : goal.returns-clause-given
returns-clause-given c =
    let text = one_of c.args.name.now (rows_of (found_of c.args.options.now)) in
    let given : IsGivenWithin c.from.result c.from-2.result text (Some c.in_ok-number.number) =
    number_given c.from.result c.from-2.result text (Some c.in_ok-number.number) c.in_ok-number.ensures.parsed (λ none number is. let bad = none in cc) in
    rw (c.from.ensures, c.from-2.ensures) at given
