-- What is written of a search, and why one is refused.
use Rattle.std.proofs.Common.{◌≡◌, ℕ, ◌<◌, ◌≤◌, ◌^◌, List, ◌++◌, codes, Some, refl, ap, subst, sym, ◌∙◌}
use Rattle.std.specs.Prelude.{IfSome, None, Option, unwrap_or}
use Rattle.std.proofs.Common.{arith}
use Rattle.std.specs.Fmt.{decimal}
use Rattle.jh_simnode.specs.Plans.{PlanValue}
use Rattle.jh_search.specs.Candidates.{candidate_of}
use Rattle.jh_search.specs.declared.options.Options.{Options}
use Rattle.jh_search.specs.declared.threads.SearchError.{SearchError}
use Rattle.jh_search.specs.declared.threads.SearchError.TheVariants as search
use Rattle.jh_settings.specs.Keys.{data_under}
use Rattle.jh_settings.specs.Limits.{max_budget}
use Rattle.jh_settings.specs.Settings.{AreSettingsOf}
use Rattle.jh_settings.specs.declared.choices.Mode.{Mode}
use Rattle.jh_settings.specs.declared.keys.Key.{Key}
use Rattle.jh_settings.proofs.PlanLemmas.{default_is}
use Rattle.jh_settings_texts.specs.Comments.{IsComment, behind_comment}
use Rattle.jh_settings_texts.specs.SettingsWritten.{CanBeWritten, plan_in_order}
use Rattle.jh_settings_texts.proofs.CommentedLemmas.{number_in_comment, both_in_comment}
use Rattle.jh_cli.specs.SearchRefusals.{RefusesSearch, RefusesSearchBytes, WantsThreads}
use Rattle.jh_cli.specs.SearchText.{IsFoundText, candidate_comment}
use Rattle.jh_cli.specs.Status.{search_error}
use Rattle.jh_cli.specs.declared.error.CliError.{CliError}
use Rattle.jh_cli.specs.declared.error.CliError.TheVariants.{TimeMissing, Input, EnvironmentMissing, Environment}
use Rattle.jh_cli.specs.declared.error.CliError.TheVariants.{Element, History, Check, Settings, Run}
use Rattle.jh_cli.specs.declared.error.CliError.TheVariants.{HistoryFull, Mismatch, Thread}
use Rattle.jh_cli.specs.declared.error.CliError.TheVariants.{Misplaced, Missing, BadAccounts}
use Rattle.jh_cli.specs.declared.error.CliError.TheVariants.{BadPalette, Unwritable, SettingsRead, Read, Write}
use Rattle.jh_cli.specs.declared.error.CliError.TheVariants.{OutOfMemory}
use Rattle.jh_cli.specs.declared.search_command.SearchQuestion.{SearchQuestion}

-- the comment before a candidate is one
pub candidate_in_comment : (number runs : ℕ) → number < 2 ^ 64 → runs < 2 ^ 64 → IsComment (candidate_comment number runs)
candidate_in_comment number runs h k =
    both_in_comment (codes " candidate ") (decimal number ++ (codes " of " ++ (decimal runs ++ codes ": invalid"))) refl
    (both_in_comment (decimal number) (codes " of " ++ (decimal runs ++ codes ": invalid")) (number_in_comment number h)
    (both_in_comment (codes " of ") (decimal runs ++ codes ": invalid") refl
    (both_in_comment (decimal runs) (codes ": invalid") (number_in_comment runs k) refl)))

-- what is written of a candidate that is in order already means it
pub found_is : (p : PlanValue) (options : Options) (number : ℕ) (made : PlanValue) (comment output bytes : List ℕ) → made ≡ candidate_of p options number → plan_in_order made ≡ made
    → comment ≡ candidate_comment number options.runs → (document : List ℕ) × (bytes ≡ behind_comment comment document)
    → AreSettingsOf bytes (plan_in_order made) Mode.Serial options.budget → output ≡ bytes → IsFoundText p options (Some number) 0 output
found_is p options number made comment output bytes candidate in_order is behind means written = (
  behind.0,
  written ∙ subst (λ c. bytes ≡ behind_comment c behind.0) is behind.1,
  subst (λ text. AreSettingsOf text (candidate_of p options number) Mode.Serial options.budget) (sym written)
      (subst (λ q. AreSettingsOf bytes q Mode.Serial options.budget) (in_order ∙ candidate) means),
)

-- settings have no budget that a judgement may not have
pub budget_few : (input : List ℕ) (p : PlanValue) (mode : Mode) (budget : ℕ) → AreSettingsOf input p mode budget → budget ≤ max_budget
budget_few input p mode budget are =
    (default_is 0 10000000 100000 (data_under Key.Budget are.0) budget (omega arith) (omega arith) are.2.budget).1

pub search_refused : (question : SearchQuestion) (input : List ℕ) (p : PlanValue) (mode : Mode) (budget : ℕ) (e : SearchError) → AreSettingsOf input p mode budget → CanBeWritten p
    → (e ≡ search.Thread → WantsThreads question) → RefusesSearchBytes question input (search_error e)
search_refused question input p mode budget search.Thread are can wants = (p, mode, budget, are, can, wants refl)
search_refused question input p mode budget search.OutOfMemory are can wants = tt

-- more than one thread is wanted, or none is told
pub not_one : (given : Option ℕ) (threads : ℕ) → IfSome given (λ n. threads ≡ n) → (threads ≡ 1 → ⊥) → given ≡ Some 1 → ⊥
not_one None threads told other one = cc
not_one (Some n) threads told other one = other (told ∙ ap (λ o. unwrap_or o 1) one)

-- why the plan that bytes mean is not searched is why the command refuses them
pub refused_by_bytes : (question : SearchQuestion) (input : List ℕ) (e : CliError) → RefusesSearchBytes question input e → RefusesSearch question input e
refused_by_bytes question input (Input error) h = absurd h
refused_by_bytes question input EnvironmentMissing h = h
refused_by_bytes question input (Environment error) h = h
refused_by_bytes question input (Element number error) h = h
refused_by_bytes question input (History error) h = h
refused_by_bytes question input (Check error) h = h
refused_by_bytes question input (Settings error) h = h
refused_by_bytes question input (Run error) h = h
refused_by_bytes question input HistoryFull h = h
refused_by_bytes question input Mismatch h = h
refused_by_bytes question input Thread h = h
refused_by_bytes question input (Misplaced option) h = h
refused_by_bytes question input (Missing option) h = h
refused_by_bytes question input BadAccounts h = h
refused_by_bytes question input BadPalette h = absurd h
refused_by_bytes question input Unwritable h = h
refused_by_bytes question input SettingsRead h = h
refused_by_bytes question input (TimeMissing index) h = h
refused_by_bytes question input Read h = absurd h
refused_by_bytes question input Write h = absurd h
refused_by_bytes question input OutOfMemory h = h
