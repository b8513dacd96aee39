-- How the program ends, from what the command says that it runs.
use Rattle.std.proofs.Common.{◌≡◌, ◌≢◌, ◌∙◌, ◌↔◌, ◌⊎◌, ap, refl, sym, List, ℕ, subst, inl, inr, Option, Some, None}
use Rattle.std.specs.Prelude.{Result, Ok, Err, IfOk, IfErr, IsErrAnd, IsErrOf, option_map}
use Rattle.clap.specs.Words.{Text, subcommand_rows_of}
use Rattle.clap.specs.declared.error.Error.{Error}
use Rattle.clap.specs.declared.parser.matches.ArgMatches.{ArgMatches}
use Rattle.jh_cli.specs.Outputs.{OnInput, WritesOutput}
use Rattle.jh_cli.specs.declared.error.CliError.{CliError}
use Rattle.jh_cli.specs.declared.error.CliError.TheVariants.{Write}
use Rattle.jh_drive.specs.declared.error.DriveError.{DriveError}
use Rattle.jh_drive.specs.declared.error.DriveError.TheVariants.{Settings}
use Rattle.jh_settings.specs.declared.error.SettingsError.{SettingsError}
use Rattle.jh_edn.specs.Edn.{Edn}
use Rattle.jh_edn.specs.View.{views}
use Rattle.jh_edn.specs.declared.value.Value.{Value}
use Rattle.jh_arguments.specs.Accounts.{Accounts, RefusesAccountsText}
use Rattle.jh_arguments.specs.Answers.{ArgumentsAskForTest, ArgumentsGive, GivesAccounts, GivesSteps, HasNoAccounts, HasNoSteps, accounts_seen, IsRunSettingsError, IsConductedTo, IsCommandDone, IsFailed, IsFileUnread, IsTestDone, IsUnfinished, of_command, of_test}
use Rattle.jh_arguments.specs.Commands.{SubcommandHasAccounts, SubcommandHasRunSettings, SubcommandIsTest, SubcommandIs, TestAsked, IsOfOptions, IsOutputOf, RefusesCommand, RefusesOptions}
use Rattle.jh_arguments.proofs.OptionRefusals.{is_of_options}
use Rattle.jh_arguments.specs.Line.{AreMatches, IsRefused}
use Rattle.jh_arguments.specs.declared.answers.Refusal.{Refusal}
use Rattle.jh_arguments.specs.declared.answers.Refusal.TheVariants as Refusals
use Rattle.jh_arguments.specs.declared.commands.Command.{Command}

pub asked_by : (arguments : List Text) (matches : ArgMatches) (given : Accounts) (command : Command) (steps : List Edn) → AreMatches arguments matches
    → GivesAccounts (subcommand_rows_of matches) (accounts_seen given) → SubcommandIs given (subcommand_rows_of matches) command → GivesSteps (subcommand_rows_of matches) steps
    → ArgumentsGive arguments command steps
asked_by arguments matches given command steps (app, line, fault, rows, found) accounts asks gives = record {
  app = app;
  line = line;
  taken = fault;
  given = given;
  accounts = subst (λ o. GivesAccounts o (accounts_seen given)) found accounts;
  asked = subst (λ o. SubcommandIs given o command) found asks;
  steps_given = subst (λ o. GivesSteps o steps) found gives;
}

-- accounts that are lent are seen as those that are held
pub seen_alike : {A : Type 0} (items : A → List Value) (held : Option A) (given : Accounts) → option_map (λ accounts. accounts.now) given ≡ option_map items held
    → option_map (λ accounts. views (items accounts)) held ≡ accounts_seen given
seen_alike items None None same = refl
seen_alike items None (Some given) same = let bad : Some given.now ≡ None = same in cc
seen_alike items (Some held) None same = let bad : None ≡ Some (items held) = same in cc
seen_alike items (Some held) (Some given) same =
    let both : Some given.now ≡ Some (items held) = same in
    let alike : given.now ≡ items held = cc in
    ap (λ values. Some (views values)) (sym alike)

-- no accounts are taken
pub without_accounts : (arguments : List Text) (matches : ArgMatches) (e : CliError) → AreMatches arguments matches
    → (text : Text) × SubcommandHasAccounts (subcommand_rows_of matches) text × RefusesAccountsText text e → HasNoAccounts arguments e
without_accounts arguments matches e (app, line, fault, rows, found) (text, has, why) =
    record { app = app; line = line; taken = fault; text = text; asked = subst (λ o. SubcommandHasAccounts o text) found has; why = why }

-- no steps can be had
pub without_steps : (arguments : List Text) (matches : ArgMatches) (given : Option (List Edn)) (e : CliError) → AreMatches arguments matches → GivesAccounts (subcommand_rows_of matches) given
    → (path : Text) × SubcommandHasRunSettings (subcommand_rows_of matches) path → IsRunSettingsError e → HasNoSteps arguments e
without_steps arguments matches given e (app, line, fault, rows, found) accounts (path, has) why = record {
  app = app;
  line = line;
  taken = fault;
  given = given;
  accounts = subst (λ o. GivesAccounts o given) found accounts;
  path = path;
  asked = subst (λ o. SubcommandHasRunSettings o path) found has;
  why = why;
}

pub asked_test_by : (arguments : List Text) (matches : ArgMatches) (asked : TestAsked) → AreMatches arguments matches → SubcommandIsTest (subcommand_rows_of matches) asked
    → ArgumentsAskForTest arguments asked
asked_test_by arguments matches asked (app, line, fault, rows, found) asks = (app, line, fault, subst (λ o. SubcommandIsTest o asked) found asks)

-- what `do_command` says of the options of a command
pub record SaysOfOptions {R : Type 0} (command : Command) (r : Result ℕ CliError) (old new : R) : Type 0 where
  pub options : (error : CliError) → IsOfOptions command error → IsErrOf r error ↔ RefusesOptions command error
  pub reader_kept : IfErr r (λ e. IsOfOptions command e → new ≡ old)

-- options that are refused are refused so
refused_so : {R : Type 0} (command : Command) (r : Result ℕ CliError) (old new : R) → SaysOfOptions command r old new → (refusal : CliError) → RefusesOptions command refusal → IsErrOf r refusal
refused_so command r old new says refusal refuses = (says.options refusal (is_of_options command refusal refuses)).1 refuses

-- and one that is of the options comes of them, with nothing read
of_options : {R : Type 0} (command : Command) (old new : R) (e : CliError) → SaysOfOptions command (Err e) old new → IsOfOptions command e → RefusesOptions command e × (new ≡ old)
of_options command old new e says of = ((says.options e of).0 refl, says.reader_kept of)

the_same : (e refusal : CliError) → ◌≡◌ {A = Result ℕ CliError} (Err e) (Err refusal) → e ≡ refusal
the_same e refusal both = cc

pub options_taken : {R : Type 0} (command : Command) (status : ℕ) (old new : R) → SaysOfOptions command (Ok status) old new → (refusal : CliError) → RefusesOptions command refusal → ⊥
options_taken command status old new says refusal refuses =
    let bad : Ok status ≡ Err refusal = refused_so command (Ok status) old new says refusal refuses in
    cc

pub ended_so : {R : Type 0} (arguments : List Text) (command : Command) (input : Option (List ℕ)) (old new : R) (e : CliError) (steps : List Edn) → ArgumentsGive arguments command steps
    → SaysOfOptions command (Err e) old new → OnInput input (λ bytes. RefusesCommand command steps bytes e) → IsFailed arguments input old new e
ended_so arguments command input old new e steps asked says refused = record {
  command = command;
  steps = steps;
  asked = asked;
  options = λ refusal refuses. the_same e refusal (refused_so command (Err e) old new says refusal refuses);
  of_options = of_options command old new e says;
  refused = refused;
}

-- ---- all that is said of an end

pub record Ends {R W : Type 0} (arguments : List Text) (input rest before after : Option (List ℕ)) (reader_old reader_new : R) (writer_old writer_new : W)
    (r : Result ℕ Refusal) : Type 0 where
  pub done : IfOk r (λ status. IsCommandDone arguments input before after status ⊎ IsConductedTo arguments input rest before after status)
  pub refused : (error : Error) → IsErrOf r (Refusals.Arguments error) → IsRefused arguments error
  pub reader_kept : (error : Error) → IsErrOf r (Refusals.Arguments error) → reader_new ≡ reader_old
  pub unwritten : (error : Error) → IsErrOf r (Refusals.Arguments error) → writer_new ≡ writer_old
  pub failed : (error : CliError) → IsErrOf r (Refusals.Command error) → IsFailed arguments input reader_old reader_new error
  pub failed_unwritten : (error : CliError) → IsErrOf r (Refusals.Command error) → error ≢ Write → writer_new ≡ writer_old
  pub unaccounted : (error : CliError) → IsErrOf r (Refusals.Accounts error) → HasNoAccounts arguments error
  pub unaccounted_reader_kept : (error : CliError) → IsErrOf r (Refusals.Accounts error) → reader_new ≡ reader_old
  pub unaccounted_unwritten : (error : CliError) → IsErrOf r (Refusals.Accounts error) → writer_new ≡ writer_old
  pub no_steps : (error : CliError) → IsErrOf r (Refusals.RunSettings error) → HasNoSteps arguments error
  pub no_steps_reader_kept : (error : CliError) → IsErrOf r (Refusals.RunSettings error) → reader_new ≡ reader_old
  pub no_steps_unwritten : (error : CliError) → IsErrOf r (Refusals.RunSettings error) → writer_new ≡ writer_old
  pub unfinished : (error : DriveError) → IsErrOf r (Refusals.Test error)
      → IsUnfinished arguments input rest before after reader_old reader_new writer_old writer_new error

-- two ends differ, or are the same
the_arguments : (x y : Error) → ◌≡◌ {A = Result ℕ Refusal} (Err (Refusals.Arguments x)) (Err (Refusals.Arguments y)) → x ≡ y
the_arguments x y e = cc

the_command : (x y : CliError) → ◌≡◌ {A = Result ℕ Refusal} (Err (Refusals.Command x)) (Err (Refusals.Command y)) → x ≡ y
the_command x y e = cc

the_accounts : (x y : CliError) → ◌≡◌ {A = Result ℕ Refusal} (Err (Refusals.Accounts x)) (Err (Refusals.Accounts y)) → x ≡ y
the_accounts x y e = cc

the_run_settings : (x y : CliError) → ◌≡◌ {A = Result ℕ Refusal} (Err (Refusals.RunSettings x)) (Err (Refusals.RunSettings y)) → x ≡ y
the_run_settings x y e = cc

the_test : (x y : DriveError) → ◌≡◌ {A = Result ℕ Refusal} (Err (Refusals.Test x)) (Err (Refusals.Test y)) → x ≡ y
the_test x y e = cc

module _ {R W : Type 0} (arguments : List Text) (input rest before after : Option (List ℕ)) (ro rn : R) (wo wn : W) where
  pub refused_ends : (error : Error) → IsRefused arguments error → rn ≡ ro → wn ≡ wo → Ends arguments input rest before after ro rn wo wn (Err (Refusals.Arguments error))
  refused_ends error refused reader_kept unwritten = record {
    done = tt;
    refused = λ other is. subst (IsRefused arguments) (the_arguments error other is) refused;
    reader_kept = λ other is. reader_kept;
    unwritten = λ other is. unwritten;
    failed = λ other is. absurd (let bad : Err (Refusals.Arguments error) ≡ Err (Refusals.Command other) = is in cc);
    failed_unwritten = λ other is. absurd (let bad : Err (Refusals.Arguments error) ≡ Err (Refusals.Command other) = is in cc);
    unaccounted = λ other is. absurd (let bad : Err (Refusals.Arguments error) ≡ Err (Refusals.Accounts other) = is in cc);
    unaccounted_reader_kept = λ other is. absurd (let bad : Err (Refusals.Arguments error) ≡ Err (Refusals.Accounts other) = is in cc);
    unaccounted_unwritten = λ other is. absurd (let bad : Err (Refusals.Arguments error) ≡ Err (Refusals.Accounts other) = is in cc);
    no_steps = λ other is. absurd (let bad : Err (Refusals.Arguments error) ≡ Err (Refusals.RunSettings other) = is in cc);
    no_steps_reader_kept = λ other is. absurd (let bad : Err (Refusals.Arguments error) ≡ Err (Refusals.RunSettings other) = is in cc);
    no_steps_unwritten = λ other is. absurd (let bad : Err (Refusals.Arguments error) ≡ Err (Refusals.RunSettings other) = is in cc);
    unfinished = λ other is. absurd (let bad : Err (Refusals.Arguments error) ≡ Err (Refusals.Test other) = is in cc);
  }

  -- no accounts are taken
  pub unaccounted_ends : (error : CliError) → HasNoAccounts arguments error → rn ≡ ro → wn ≡ wo → Ends arguments input rest before after ro rn wo wn (Err (Refusals.Accounts error))
  unaccounted_ends error none reader_kept unwritten = record {
    done = tt;
    refused = λ other is. absurd (let bad : Err (Refusals.Accounts error) ≡ Err (Refusals.Arguments other) = is in cc);
    reader_kept = λ other is. absurd (let bad : Err (Refusals.Accounts error) ≡ Err (Refusals.Arguments other) = is in cc);
    unwritten = λ other is. absurd (let bad : Err (Refusals.Accounts error) ≡ Err (Refusals.Arguments other) = is in cc);
    failed = λ other is. absurd (let bad : Err (Refusals.Accounts error) ≡ Err (Refusals.Command other) = is in cc);
    failed_unwritten = λ other is. absurd (let bad : Err (Refusals.Accounts error) ≡ Err (Refusals.Command other) = is in cc);
    unaccounted = λ other is. subst (HasNoAccounts arguments) (the_accounts error other is) none;
    unaccounted_reader_kept = λ other is. reader_kept;
    unaccounted_unwritten = λ other is. unwritten;
    no_steps = λ other is. absurd (let bad : Err (Refusals.Accounts error) ≡ Err (Refusals.RunSettings other) = is in cc);
    no_steps_reader_kept = λ other is. absurd (let bad : Err (Refusals.Accounts error) ≡ Err (Refusals.RunSettings other) = is in cc);
    no_steps_unwritten = λ other is. absurd (let bad : Err (Refusals.Accounts error) ≡ Err (Refusals.RunSettings other) = is in cc);
    unfinished = λ other is. absurd (let bad : Err (Refusals.Accounts error) ≡ Err (Refusals.Test other) = is in cc);
  }

  -- the steps of a page can't be had
  pub no_steps_ends : (error : CliError) → HasNoSteps arguments error → rn ≡ ro → wn ≡ wo → Ends arguments input rest before after ro rn wo wn (Err (Refusals.RunSettings error))
  no_steps_ends error none reader_kept unwritten = record {
    done = tt;
    refused = λ other is. absurd (let bad : Err (Refusals.RunSettings error) ≡ Err (Refusals.Arguments other) = is in cc);
    reader_kept = λ other is. absurd (let bad : Err (Refusals.RunSettings error) ≡ Err (Refusals.Arguments other) = is in cc);
    unwritten = λ other is. absurd (let bad : Err (Refusals.RunSettings error) ≡ Err (Refusals.Arguments other) = is in cc);
    failed = λ other is. absurd (let bad : Err (Refusals.RunSettings error) ≡ Err (Refusals.Command other) = is in cc);
    failed_unwritten = λ other is. absurd (let bad : Err (Refusals.RunSettings error) ≡ Err (Refusals.Command other) = is in cc);
    unaccounted = λ other is. absurd (let bad : Err (Refusals.RunSettings error) ≡ Err (Refusals.Accounts other) = is in cc);
    unaccounted_reader_kept = λ other is. absurd (let bad : Err (Refusals.RunSettings error) ≡ Err (Refusals.Accounts other) = is in cc);
    unaccounted_unwritten = λ other is. absurd (let bad : Err (Refusals.RunSettings error) ≡ Err (Refusals.Accounts other) = is in cc);
    no_steps = λ other is. subst (HasNoSteps arguments) (the_run_settings error other is) none;
    no_steps_reader_kept = λ other is. reader_kept;
    no_steps_unwritten = λ other is. unwritten;
    unfinished = λ other is. absurd (let bad : Err (Refusals.RunSettings error) ≡ Err (Refusals.Test other) = is in cc);
  }

  -- what a command that is asked for comes to
  pub command_ends : (command : Command) (steps : List Edn) (r : Result ℕ CliError) → ArgumentsGive arguments command steps → SaysOfOptions command r ro rn
      → IfOk r (λ status. WritesOutput input (IsOutputOf command steps) status before after)
      → IfErr r (λ e. OnInput input (λ bytes. RefusesCommand command steps bytes e)) → IfErr r (λ e. e ≢ Write → wn ≡ wo)
      → Ends arguments input rest before after ro rn wo wn (of_command r)
  command_ends command steps (Ok status) asked says written refused unwritten = record {
    done = inl (record { command = command; steps = steps; asked = asked; options = options_taken command status ro rn says; written = written });
    refused = λ other is. absurd (let bad : Ok status ≡ Err (Refusals.Arguments other) = is in cc);
    reader_kept = λ other is. absurd (let bad : Ok status ≡ Err (Refusals.Arguments other) = is in cc);
    unwritten = λ other is. absurd (let bad : Ok status ≡ Err (Refusals.Arguments other) = is in cc);
    failed = λ other is. absurd (let bad : Ok status ≡ Err (Refusals.Command other) = is in cc);
    failed_unwritten = λ other is. absurd (let bad : Ok status ≡ Err (Refusals.Command other) = is in cc);
    unaccounted = λ other is. absurd (let bad : Ok status ≡ Err (Refusals.Accounts other) = is in cc);
    unaccounted_reader_kept = λ other is. absurd (let bad : Ok status ≡ Err (Refusals.Accounts other) = is in cc);
    unaccounted_unwritten = λ other is. absurd (let bad : Ok status ≡ Err (Refusals.Accounts other) = is in cc);
    no_steps = λ other is. absurd (let bad : Ok status ≡ Err (Refusals.RunSettings other) = is in cc);
    no_steps_reader_kept = λ other is. absurd (let bad : Ok status ≡ Err (Refusals.RunSettings other) = is in cc);
    no_steps_unwritten = λ other is. absurd (let bad : Ok status ≡ Err (Refusals.RunSettings other) = is in cc);
    unfinished = λ other is. absurd (let bad : Ok status ≡ Err (Refusals.Test other) = is in cc);
  }
  command_ends command steps (Err error) asked says written refused unwritten = record {
    done = tt;
    refused = λ other is. absurd (let bad : Err (Refusals.Command error) ≡ Err (Refusals.Arguments other) = is in cc);
    reader_kept = λ other is. absurd (let bad : Err (Refusals.Command error) ≡ Err (Refusals.Arguments other) = is in cc);
    unwritten = λ other is. absurd (let bad : Err (Refusals.Command error) ≡ Err (Refusals.Arguments other) = is in cc);
    failed = λ other is. subst (IsFailed arguments input ro rn) (the_command error other is) (ended_so arguments command input ro rn error steps asked says refused);
    failed_unwritten = λ other is differs. unwritten (λ same. differs (sym (the_command error other is) ∙ same));
    unaccounted = λ other is. absurd (let bad : Err (Refusals.Command error) ≡ Err (Refusals.Accounts other) = is in cc);
    unaccounted_reader_kept = λ other is. absurd (let bad : Err (Refusals.Command error) ≡ Err (Refusals.Accounts other) = is in cc);
    unaccounted_unwritten = λ other is. absurd (let bad : Err (Refusals.Command error) ≡ Err (Refusals.Accounts other) = is in cc);
    no_steps = λ other is. absurd (let bad : Err (Refusals.Command error) ≡ Err (Refusals.RunSettings other) = is in cc);
    no_steps_reader_kept = λ other is. absurd (let bad : Err (Refusals.Command error) ≡ Err (Refusals.RunSettings other) = is in cc);
    no_steps_unwritten = λ other is. absurd (let bad : Err (Refusals.Command error) ≡ Err (Refusals.RunSettings other) = is in cc);
    unfinished = λ other is. absurd (let bad : Err (Refusals.Command error) ≡ Err (Refusals.Test other) = is in cc);
  }

  -- what a test that is asked for comes to
  pub test_ends : (asked_for : TestAsked) (r : Result ℕ DriveError) → ArgumentsAskForTest arguments asked_for
      → (IsErrAnd r IsFileUnread × (rn ≡ ro) × (wn ≡ wo)) ⊎ ((settings : List ℕ) × IsTestDone asked_for settings input rest before after r)
      → ((error : SettingsError) → IsErrOf r (Settings error) → (rn ≡ ro) × (wn ≡ wo))
      → Ends arguments input rest before after ro rn wo wn (of_test r)
  test_ends asked_for (Ok status) asked ended streams_kept = record {
    done = inr (conducted ended);
    refused = λ other is. absurd (let bad : Ok status ≡ Err (Refusals.Arguments other) = is in cc);
    reader_kept = λ other is. absurd (let bad : Ok status ≡ Err (Refusals.Arguments other) = is in cc);
    unwritten = λ other is. absurd (let bad : Ok status ≡ Err (Refusals.Arguments other) = is in cc);
    failed = λ other is. absurd (let bad : Ok status ≡ Err (Refusals.Command other) = is in cc);
    failed_unwritten = λ other is. absurd (let bad : Ok status ≡ Err (Refusals.Command other) = is in cc);
    unaccounted = λ other is. absurd (let bad : Ok status ≡ Err (Refusals.Accounts other) = is in cc);
    unaccounted_reader_kept = λ other is. absurd (let bad : Ok status ≡ Err (Refusals.Accounts other) = is in cc);
    unaccounted_unwritten = λ other is. absurd (let bad : Ok status ≡ Err (Refusals.Accounts other) = is in cc);
    no_steps = λ other is. absurd (let bad : Ok status ≡ Err (Refusals.RunSettings other) = is in cc);
    no_steps_reader_kept = λ other is. absurd (let bad : Ok status ≡ Err (Refusals.RunSettings other) = is in cc);
    no_steps_unwritten = λ other is. absurd (let bad : Ok status ≡ Err (Refusals.RunSettings other) = is in cc);
    unfinished = λ other is. absurd (let bad : Ok status ≡ Err (Refusals.Test other) = is in cc);
  }
    where
      conducted : (⊥ × (rn ≡ ro) × (wn ≡ wo)) ⊎ ((settings : List ℕ) × IsTestDone asked_for settings input rest before after (Ok status)) → IsConductedTo arguments input rest before after status
      conducted (inl none) = absurd none.0
      conducted (inr (settings, done)) = record { asked_for = asked_for; asked = asked; settings = settings; done = done }
  test_ends asked_for (Err error) asked ended streams_kept = record {
    done = tt;
    refused = λ other is. absurd (let bad : Err (Refusals.Test error) ≡ Err (Refusals.Arguments other) = is in cc);
    reader_kept = λ other is. absurd (let bad : Err (Refusals.Test error) ≡ Err (Refusals.Arguments other) = is in cc);
    unwritten = λ other is. absurd (let bad : Err (Refusals.Test error) ≡ Err (Refusals.Arguments other) = is in cc);
    failed = λ other is. absurd (let bad : Err (Refusals.Test error) ≡ Err (Refusals.Command other) = is in cc);
    failed_unwritten = λ other is. absurd (let bad : Err (Refusals.Test error) ≡ Err (Refusals.Command other) = is in cc);
    unaccounted = λ other is. absurd (let bad : Err (Refusals.Test error) ≡ Err (Refusals.Accounts other) = is in cc);
    unaccounted_reader_kept = λ other is. absurd (let bad : Err (Refusals.Test error) ≡ Err (Refusals.Accounts other) = is in cc);
    unaccounted_unwritten = λ other is. absurd (let bad : Err (Refusals.Test error) ≡ Err (Refusals.Accounts other) = is in cc);
    no_steps = λ other is. absurd (let bad : Err (Refusals.Test error) ≡ Err (Refusals.RunSettings other) = is in cc);
    no_steps_reader_kept = λ other is. absurd (let bad : Err (Refusals.Test error) ≡ Err (Refusals.RunSettings other) = is in cc);
    no_steps_unwritten = λ other is. absurd (let bad : Err (Refusals.Test error) ≡ Err (Refusals.RunSettings other) = is in cc);
    unfinished = λ other is. subst (IsUnfinished arguments input rest before after ro rn wo wn) (the_test error other is)
        (record { asked_for = asked_for; asked = asked; why = ended; streams_kept = λ settings is_so. streams_kept settings (ap Err is_so) });
  }

-- a test whose settings are refused leaves all as it was
pub left_so : {S : Type 0} (r : Result ℕ DriveError) (old new : S) → ((error : SettingsError) → IfErr r (λ e. e ≡ Settings error → new ≡ old))
    → (error : SettingsError) → IsErrOf r (Settings error) → new ≡ old
left_so (Ok status) old new says error is = absurd (let bad : Ok status ≡ Err (Settings error) = is in cc)
left_so (Err e) old new says error is = says error (let both : ◌≡◌ {A = Result ℕ DriveError} (Err e) (Err (Settings error)) = is in cc)

-- what is never answered is not
pub never_so : (r : Result ℕ DriveError) (error : SettingsError) → IfErr r (λ e. e ≢ Settings error) → IsErrOf r (Settings error) → ⊥
never_so (Ok status) error says is = let bad : Ok status ≡ Err (Settings error) = is in cc
never_so (Err e) error says is = says (let both : ◌≡◌ {A = Result ℕ DriveError} (Err e) (Err (Settings error)) = is in cc)
