-- What is found in arguments and why they are refused, from what `clap` says of a parse.
use Rattle.std.proofs.Common.{◌≡◌, ap, inl, inr, subst, sym, true, List}
use Rattle.std.specs.Prelude.{Result, Ok, Err, IfOk, IfErr}
use Rattle.clap.specs.Words.{App, FailsBy, HasMatchesOf, Text, fault_of, is_simple, is_simple_and_free, subcommand_rows_of}
use Rattle.clap.specs.declared.error.Error.{Error}
use Rattle.clap.specs.declared.parser.matches.ArgMatches.{ArgMatches}
use Rattle.jh_arguments.specs.Commands.{SubcommandIsAny}
use Rattle.jh_arguments.specs.Line.{AreMatches, IsCommandLine, IsRefused}
use Rattle.jh_arguments.proofs.AskedLemmas.{taken_asks}

pub line_simple : (app : App) → IsCommandLine app → is_simple app ≡ true
line_simple app line = ap is_simple line.4

pub line_free : (app : App) → IsCommandLine app → is_simple_and_free app ≡ true
line_free app line = ap is_simple_and_free line.4

pub is_found : (r : Result ArgMatches Error) (arguments : List Text) (app : App) → IsCommandLine app → FailsBy (fault_of app arguments) r
    → IfOk r (HasMatchesOf app arguments) → IfOk r (AreMatches arguments)
is_found (Ok m) arguments app line fails has =
    let both = has (line_simple app line) in
    (app, line, fails, both.0, both.1)
is_found (Err e) arguments app line fails has = tt

pub is_refused : (r : Result ArgMatches Error) (arguments : List Text) (app : App) → IsCommandLine app → FailsBy (fault_of app arguments) r
    → IfErr r (IsRefused arguments)
is_refused (Ok m) arguments app line fails = tt
is_refused (Err e) arguments app line fails = elim fails [
  | inl memory ↦ inl memory
  | inr among ↦ inr (app, line, among)
]

pub is_asked : (r : Result ArgMatches Error) (arguments : List Text) (app : App) → IsCommandLine app → FailsBy (fault_of app arguments) r
    → IfOk r (HasMatchesOf app arguments) → IfOk r (λ m. SubcommandIsAny (subcommand_rows_of m))
is_asked (Ok m) arguments app line fails has =
    subst SubcommandIsAny (sym (has (line_simple app line)).1) (taken_asks app line arguments fails)
is_asked (Err e) arguments app line fails has = tt
