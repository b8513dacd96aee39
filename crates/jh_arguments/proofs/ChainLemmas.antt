-- What each step of a chain makes of the rule of an argument.
use Rattle.std.proofs.Common.{true, [], ◌∷◌}
use Rattle.std.specs.Prelude.{Some}
use Rattle.clap.specs.declared.builder.action.ArgAction.{ArgAction}
use Rattle.clap.specs.declared.builder.value_parser.ValueParser.{ValueParser}
use Rattle.clap.specs.Words.{Rule, Text}

abbrev pub longed : Text → Rule → Rule
longed name r = record r { long = Some name }

abbrev pub named_once : Rule → Rule
named_once r = record r { value_names = 1 }

abbrev pub wanted : Rule → Rule
wanted r = record r { required = true }

abbrev pub parsed : ValueParser → Rule → Rule
parsed p r = record r { parser = Some p }

abbrev pub defaulted : Text → Rule → Rule
defaulted text r = record r { defaults = text ∷ [] }

abbrev pub acting : ArgAction → Rule → Rule
acting action r = record r { action = Some action }
