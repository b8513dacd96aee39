use Rattle.std.proofs.Common.{[], ◌∷◌, sym, subst}
use Rattle.jh_edn.specs.Spelling.{SpellsAll}
use Rattle.jh_env.specs.Overlay.{cells_of}
use Rattle.jh_env.specs.TextCells.{SpellsEnv}
use Rattle.jh_env.specs.TextWritten.{edn_of_env}
use Rattle.jh_laws.proofs.EnvironmentLemmas.{environment_printable}
use Rattle.jh_laws.proofs.LineLemmas.{one_value}
use Rattle.jh_laws.proofs.environments.environment_lines_read_back.Goals as goal

pub returns-clause-printable : goal.returns-clause-printable
returns-clause-printable c = environment_printable

pub returns-clause-spells : goal.returns-clause-spells
returns-clause-spells c = λ env starts.
    let printable = environment_printable env starts in
    (c.print_laws.ensures.spells (edn_of_env env) printable, λ others spelled. c.print_laws.ensures.alone (edn_of_env env) others printable spelled)

pub returns-clause-bytes : goal.returns-clause-bytes
returns-clause-bytes c = λ env value starts spelled.
    let same = one_value (c.print_laws.ensures.alone (edn_of_env env) (value ∷ []) (environment_printable env starts) spelled) in
    subst (λ v. SpellsEnv v env.names (cells_of env)) (sym same) (c.environments_read_back.ensures.written env starts)

pub returns-clause-one : goal.returns-clause-one
returns-clause-one c = λ env other starts more alike.
    let spelled = subst (SpellsAll (edn_of_env other ∷ [])) (sym alike) (c.print_laws.ensures.spells (edn_of_env other) (environment_printable other more)) in
    let same = one_value (c.print_laws.ensures.alone (edn_of_env env) (edn_of_env other ∷ []) (environment_printable env starts) spelled) in
    let parsed = subst (λ v. SpellsEnv v other.names (cells_of other)) same (c.environments_read_back.ensures.written other more) in
    c.environments_read_back.ensures.means_one (edn_of_env env) env.names other.names (cells_of env) (cells_of other) (c.environments_read_back.ensures.written env starts) parsed
