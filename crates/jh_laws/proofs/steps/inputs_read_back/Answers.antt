use Rattle.std.proofs.Common.{◌≡◌, ◌∷◌, map, Ok, ap, sym, subst, ◌∙◌}
use Rattle.std.proofs.lemmas.List.Elements.{All-cons}
use Rattle.jh_edn.specs.Printable.{IsPrintable}
use Rattle.jh_edn.specs.Spelling.{depth_limit}
use Rattle.jh_env.specs.TextCells.{SpellsEnv}
use Rattle.jh_env.specs.TextWritten.{edn_of_env}
use Rattle.jh_step_texts.specs.StepText.{parsed_step}
use Rattle.jh_step_texts.specs.StepWritten.{edn_of_step}
use Rattle.jh_laws.proofs.LineLemmas.{first_in, rest_in}
use Rattle.jh_laws.proofs.StepLemmas.{steps_print, one_list}
use Rattle.jh_laws.proofs.steps.inputs_read_back.Goals as goal

pub returns-clause-written : goal.returns-clause-written
returns-clause-written c = λ env steps starts all.
    let texts = map (edn_of_step env.names) steps in
    let printable = All-cons (IsPrintable depth_limit) (edn_of_env env) texts (c.environment_lines_read_back.ensures.printable env starts) (steps_print env.names starts.named steps all) in
    record {
      first = edn_of_env env;
      others = texts;
      spelled = (c.lines_read_back.ensures (edn_of_env env ∷ texts) printable).0;
      environment = c.environments_read_back.ensures.written env starts;
      parsed = c.steps_read_back.ensures.bytes env.names steps texts starts.named all (c.steps_read_back.ensures.lines env.names steps starts.named all).0;
    }

pub returns-clause-one : goal.returns-clause-one
returns-clause-one c = λ bytes names others cells more steps those one other.
    let same = c.spelled_once.ensures bytes (other.first ∷ other.others) (one.first ∷ one.others) other.spelled one.spelled in
    let environment = subst (λ value. SpellsEnv value others more) (ap first_in same) other.environment in
    let alike = c.environments_read_back.ensures.means_one one.first names others cells more one.environment environment in
    let parsed = subst (λ names. map (parsed_step names) other.others ≡ map Ok those) alike.0 other.parsed in
    (alike.0, alike.1, one_list steps those (sym parsed ∙ ap (λ values. map (parsed_step names) (rest_in values)) same ∙ one.parsed))
