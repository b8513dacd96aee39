-- The commands of `jeprun` and their options (this project's own), in the terms by which `clap`
-- says what it makes of arguments.
use Rattle.std.specs.Prelude.{◌≡◌, ◌⊎◌, List, [], ◌∷◌, Some, pos, negsuc, true, map, codes}
use Rattle.std.specs.Borrow.{Bor}
use Rattle.clap.specs.Words.{App, Rule, Text, IsAmong, fault_of, kind_of, matches_of, new_app}
use Rattle.clap.specs.Words.{new_rule, rows_of, found_of, subcommand_of, subcommand_rows_of}
use Rattle.clap.specs.Words.{with_rule, with_subcommand}
use Rattle.clap.specs.Simple.{on_top}
use Rattle.clap.specs.declared.builder.action.ArgAction.TheVariants.{SetTrue}
use Rattle.clap.specs.declared.builder.value_parser.ValueParser.{ValueParser}
use Rattle.clap.specs.declared.builder.value_parser.ValueParser.TheVariants.{Names, Signed}
use Rattle.clap.specs.declared.builder.value_parser.ValueParser.TheVariants.{Unsigned}
use Rattle.clap.specs.declared.error.Error.{Error}
use Rattle.clap.specs.declared.error.ErrorKind.TheVariants.{OutOfMemory}
use Rattle.clap.specs.declared.parser.matches.ArgMatches.{ArgMatches}
use Rattle.jh_checkers.specs.Checkers.{checker_names}
use Rattle.jh_checkers.specs.Models.{model_names}
use Rattle.jh_arguments.specs.Limits.{max_candidates, max_faults, max_spread_ms}
use Rattle.jh_settings.specs.Limits.{max_budget}
use Rattle.jh_tasks.specs.Threads.{max_threads}

-- The ranges here are those within which `clap` takes the text of an option; the ranges of the
-- numbers that a command has stand in Commands.antt. Clause `asked` of `parse` says that arguments
-- which `clap` takes ask for a command with such numbers.

-- an option that takes one value
abbrev pub option : Text → Rule
option name = record (new_rule name) { long = Some name; value_names = 1 }

-- one of these names
abbrev pub workload : Bor (List (Bor Text)) → Rule
workload names = record (option (codes "workload")) { parser = Some (Names names) }

-- one of these consistency models
abbrev pub model : Bor (List (Bor Text)) → Rule
model models = record (option (codes "model")) { parser = Some (Names models) }

abbrev pub needed_rule : Rule → Rule
needed_rule rule = record rule { required = true }

-- a number of `i64`, if it is given
abbrev pub signed : Text → Rule
signed name =
    record (option name)
    { parser = Some (Signed (negsuc 9223372036854775807) (pos 9223372036854775807)) }

-- the accounts of a bank, as the text of EDN values
abbrev pub accounts : Rule
accounts = option (codes "accounts")

-- a number of `u64`, if it is given: an index, or how many at least
abbrev pub given_number : Text → Rule
given_number name = record (option name) { parser = Some (Unsigned 0 18446744073709551615) }

-- a number that a parser reads, and this where it is not given
abbrev pub number_rule : Text → ValueParser → Text → Rule
number_rule name parser default =
    record (option name) { parser = Some parser; defaults = default ∷ [] }

-- how much a judge or `shrink` may do: configurations, or runs
abbrev pub budget : Text → Rule
budget default = number_rule (codes "budget") (Unsigned 0 max_budget) default

-- an option that is there or not
abbrev pub flag : Text → Rule
flag name = record (new_rule name) { long = Some name; action = Some SetTrue }

-- what can't be read is left out
abbrev pub skip_unread : Rule
skip_unread = flag (codes "skip-unread")

-- it is told where and why an input is refused
abbrev pub verbose : Rule
verbose = flag (codes "verbose")

-- a command without options of its own
abbrev pub without_options : Text → App
without_options name = with_rule (new_app name) verbose

-- by how many threads keys are judged
abbrev pub threads : Rule
threads = number_rule (codes "threads") (Unsigned 1 max_threads) (codes "1")

-- a command with the options of a judgement: what is said to one checker, and how much it may do
abbrev pub judged : Bor (List (Bor Text)) → App → App
judged models app =
    with_rule (with_rule (with_rule (with_rule (with_rule (with_rule (with_rule (with_rule app
    (signed (codes "initial"))) (model models)) accounts) (signed (codes "total")))
    (flag (codes "negative-balances"))) (flag (codes "linearizable"))) (flag (codes "locked")))
    (budget (codes "100000"))

abbrev pub check : Bor (List (Bor Text)) → Bor (List (Bor Text)) → App
check names models =
    with_rule (with_rule (with_rule (with_rule (with_rule (with_rule
    (judged models (with_rule (new_app (codes "check")) (needed_rule (workload names))))
    (flag (codes "explain"))) (flag (codes "independent"))) threads)
    (given_number (codes "at-least"))) skip_unread) verbose

-- the file with the settings of a run, by whose schedule the page of what it printed names steps
abbrev pub run_settings_file : Rule
run_settings_file = option (codes "settings")

abbrev pub timeline : Bor (List (Bor Text)) → Bor (List (Bor Text)) → App
timeline names models =
    with_rule (with_rule (with_rule (with_rule (with_rule (with_rule
    (judged models (with_rule (new_app (codes "timeline")) (workload names)))
    (flag (codes "independent"))) (given_number (codes "from")))
    (given_number (codes "to"))) run_settings_file) skip_unread) verbose

-- the file with the settings of a test of a real database, which is tried more than once
abbrev pub tried_test_file : Rule
tried_test_file = option (codes "drive")

abbrev pub shrink : App
shrink =
    with_rule (with_rule (with_rule (new_app (codes "shrink")) (budget (codes "10000")))
    tried_test_file) verbose

-- the names of kinds of faults, all where none are given
abbrev pub palette : Rule
palette =
    record (option (codes "palette")) { defaults = codes "cut,slow,loss,fix,pause,kill,bump" ∷ [] }

-- a number that a parser reads, if it is given
abbrev pub given_rule : Text → ValueParser → Rule
given_rule name parser = record (option name) { parser = Some parser }

-- by how many threads candidates are tried
abbrev pub given_threads : Rule
given_threads = given_rule (codes "threads") (Unsigned 1 max_threads)

-- which candidate is shown
abbrev pub show : Rule
show = given_rule (codes "show") (Unsigned 0 max_candidates)

-- over how many milliseconds its calls are spread
abbrev pub spread : Rule
spread = given_rule (codes "ms") (Unsigned 1 max_spread_ms)

abbrev pub search : App
search =
    with_rule (with_rule (with_rule (with_rule (with_rule (with_rule
    (with_rule (with_rule (with_rule (new_app (codes "search"))
    (number_rule (codes "runs") (Unsigned 1 max_candidates) (codes "10000")))
    (number_rule (codes "faults") (Unsigned 0 max_faults) (codes "8"))) palette)
    (number_rule (codes "from") (Unsigned 0 max_candidates) (codes "0"))) given_threads)
    show) spread) tried_test_file) verbose

-- the file with the settings of a test, which is given by its place
abbrev pub test_settings_file : Rule
test_settings_file = needed_rule (record (new_rule (codes "settings")) { value_names = 1 })

abbrev pub drive : App
drive = with_rule (with_rule (new_app (codes "drive")) test_settings_file) verbose

abbrev pub plot : App
plot = with_rule (with_rule (new_app (codes "plot")) skip_unread) verbose

abbrev pub jeprun : Bor (List (Bor Text)) → Bor (List (Bor Text)) → App
jeprun names models = with_subcommand (with_subcommand (with_subcommand (with_subcommand
    (with_subcommand (with_subcommand (with_subcommand (with_subcommand
    (on_top (λ s.
    record s { has_version = true; subcommand_required = true; arg_required_else_help = true })
    (new_app (codes "jeprun")))
    (without_options (codes "env")).top) (check names models).top) (without_options (codes "run")).top)
    shrink.top) search.top) (timeline names models).top) drive.top) plot.top

-- the command line, with the names of the workloads that there are checkers for, and those of the
-- consistency models
abbrev pub IsCommandLine : App → Type 0
IsCommandLine app =
    (names models : Bor (List (Bor Text))) × (map (λ s. s.now) names.now ≡ checker_names)
    × (map (λ s. s.now) models.now ≡ model_names) × (app ≡ jeprun names models)

-- What is found in the arguments, and why they are refused, by `clap`'s definitions.
abbrev pub AreMatches : List Text → ArgMatches → Type 0
AreMatches arguments matches = (app : App) × IsCommandLine app × (fault_of app arguments ≡ [])
    × (rows_of (found_of matches) ≡ matches_of app arguments)
    × (subcommand_rows_of matches ≡ subcommand_of app arguments)

abbrev pub IsRefused : List Text → Error → Type 0
IsRefused arguments refusal =
    (kind_of refusal ≡ OutOfMemory)
    ⊎ ((app : App) × IsCommandLine app × IsAmong (kind_of refusal) (fault_of app arguments))
