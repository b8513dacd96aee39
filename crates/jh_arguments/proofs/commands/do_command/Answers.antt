use Rattle.std.proofs.Common.{◌≡◌, ◌↔◌, subst, sym}
use Rattle.std.specs.Prelude.{IfErr, IfOk, IsErrOf}
use Rattle.jh_edn.specs.View.{views}
use Rattle.jh_cli.specs.Outputs.{WritesOutput}
use Rattle.jh_cli.specs.declared.error.CliError.{CliError}
use Rattle.jh_arguments.specs.Commands.{IsOfOptions, IsOutputOf, RefusesOptions}
use Rattle.jh_arguments.specs.declared.commands.Command.{Command}
use Rattle.jh_arguments.proofs.OptionRefusals.{for_each_error, search_options, search_reader_kept}
use Rattle.jh_arguments.proofs.commands.do_command.Goals as goal

pub returns-in-Timeline-clause-written : goal.returns-in-Timeline-clause-written
returns-in-Timeline-clause-written g c =
    let remaining = g.R.Read.remaining c.args.reader.now in
    let before = g.W.Write.contents c.args.writer.now in
    let after = g.W.Write.contents c.timeline_run.new.writer in
    subst (λ (command : Command). IfOk c.timeline_run.result (λ status. WritesOutput remaining (IsOutputOf command (views c.args.steps.now)) status before after)) (sym c.in-Timeline.is) c.timeline_run.ensures.written

-- ---- options

pub returns-in-Env-clause-options : goal.returns-in-Env-clause-options
returns-in-Env-clause-options g c =
    subst (λ (command : Command). (e : CliError) → IsOfOptions command e → IsErrOf c.env_run.result e ↔ RefusesOptions command e) (sym c.in-Env.is) (λ e of. absurd of)

pub returns-in-Env-clause-reader_kept : goal.returns-in-Env-clause-reader_kept
returns-in-Env-clause-reader_kept g c =
    subst (λ (command : Command). IfErr c.env_run.result (λ e. IsOfOptions command e → c.env_run.new.reader ≡ c.args.reader.now)) (sym c.in-Env.is) (for_each_error (λ e. ⊥ → c.env_run.new.reader ≡ c.args.reader.now) c.env_run.result (λ e of. absurd of))

pub returns-in-Run-clause-options : goal.returns-in-Run-clause-options
returns-in-Run-clause-options g c =
    subst (λ (command : Command). (e : CliError) → IsOfOptions command e → IsErrOf c.run_run.result e ↔ RefusesOptions command e) (sym c.in-Run.is) (λ e of. absurd of)

pub returns-in-Run-clause-reader_kept : goal.returns-in-Run-clause-reader_kept
returns-in-Run-clause-reader_kept g c =
    subst (λ (command : Command). IfErr c.run_run.result (λ e. IsOfOptions command e → c.run_run.new.reader ≡ c.args.reader.now)) (sym c.in-Run.is) (for_each_error (λ e. ⊥ → c.run_run.new.reader ≡ c.args.reader.now) c.run_run.result (λ e of. absurd of))

pub returns-in-Shrink-clause-options : goal.returns-in-Shrink-clause-options
returns-in-Shrink-clause-options g c =
    subst (λ (command : Command). (e : CliError) → IsOfOptions command e → IsErrOf c.shrink_run.result e ↔ RefusesOptions command e) (sym c.in-Shrink.is) (λ e of. absurd of)

pub returns-in-Shrink-clause-reader_kept : goal.returns-in-Shrink-clause-reader_kept
returns-in-Shrink-clause-reader_kept g c =
    subst (λ (command : Command). IfErr c.shrink_run.result (λ e. IsOfOptions command e → c.shrink_run.new.reader ≡ c.args.reader.now)) (sym c.in-Shrink.is) (for_each_error (λ e. ⊥ → c.shrink_run.new.reader ≡ c.args.reader.now) c.shrink_run.result (λ e of. absurd of))

pub returns-in-Plot-clause-options : goal.returns-in-Plot-clause-options
returns-in-Plot-clause-options g c =
    subst (λ (command : Command). (e : CliError) → IsOfOptions command e → IsErrOf c.plot_run.result e ↔ RefusesOptions command e) (sym c.in-Plot.is) (λ e of. absurd of)

pub returns-in-Plot-clause-reader_kept : goal.returns-in-Plot-clause-reader_kept
returns-in-Plot-clause-reader_kept g c =
    subst (λ (command : Command). IfErr c.plot_run.result (λ e. IsOfOptions command e → c.plot_run.new.reader ≡ c.args.reader.now)) (sym c.in-Plot.is) (for_each_error (λ e. ⊥ → c.plot_run.new.reader ≡ c.args.reader.now) c.plot_run.result (λ e of. absurd of))

pub returns-in-Check-clause-options : goal.returns-in-Check-clause-options
returns-in-Check-clause-options g c =
    subst (λ (command : Command). (e : CliError) → IsOfOptions command e → IsErrOf c.check_run.result e ↔ RefusesOptions command e) (sym c.in-Check.is) c.check_run.ensures.options

pub returns-in-Check-clause-reader_kept : goal.returns-in-Check-clause-reader_kept
returns-in-Check-clause-reader_kept g c =
    subst (λ (command : Command). IfErr c.check_run.result (λ e. IsOfOptions command e → c.check_run.new.reader ≡ c.args.reader.now)) (sym c.in-Check.is) c.check_run.ensures.reader_kept

pub returns-in-Timeline-clause-options : goal.returns-in-Timeline-clause-options
returns-in-Timeline-clause-options g c =
    subst (λ (command : Command). (e : CliError) → IsOfOptions command e → IsErrOf c.timeline_run.result e ↔ RefusesOptions command e) (sym c.in-Timeline.is) c.timeline_run.ensures.options

pub returns-in-Timeline-clause-reader_kept : goal.returns-in-Timeline-clause-reader_kept
returns-in-Timeline-clause-reader_kept g c =
    subst (λ (command : Command). IfErr c.timeline_run.result (λ e. IsOfOptions command e → c.timeline_run.new.reader ≡ c.args.reader.now)) (sym c.in-Timeline.is) c.timeline_run.ensures.reader_kept

pub returns-in-Search-clause-options : goal.returns-in-Search-clause-options
returns-in-Search-clause-options g c =
    subst (λ (command : Command). (e : CliError) → IsOfOptions command e → IsErrOf c.search_run.result e ↔ RefusesOptions command e) (sym c.in-Search.is) (search_options c.in-Search.question c.search_run.result c.search_run.ensures.asked)

pub returns-in-Search-clause-reader_kept : goal.returns-in-Search-clause-reader_kept
returns-in-Search-clause-reader_kept g c =
    subst (λ (command : Command). IfErr c.search_run.result (λ e. IsOfOptions command e → c.search_run.new.reader ≡ c.args.reader.now)) (sym c.in-Search.is) (search_reader_kept c.in-Search.question c.search_run.result c.args.reader.now c.search_run.new.reader c.search_run.ensures.reader_kept)
