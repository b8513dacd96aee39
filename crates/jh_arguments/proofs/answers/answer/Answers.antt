use Rattle.std.proofs.Common.{refl, sym, subst, map, rules, inl, inr, None}
use Rattle.std.specs.Prelude.{List}
use Rattle.clap.specs.Words.{subcommand_rows_of}
use Rattle.jh_edn.specs.View.{views}
use Rattle.jh_edn.specs.declared.value.Value.{Value}
use Rattle.jh_arguments.specs.Answers.{GivesAccounts, GivesSteps}
use Rattle.jh_arguments.proofs.AnswerLemmas.{Ends, asked_by, asked_test_by, command_ends, refused_ends, seen_alike, test_ends, unaccounted_ends, no_steps_ends, without_accounts, without_steps}
use Rattle.jh_arguments.specs.Commands.{test_asked}
use Rattle.jh_arguments.proofs.answers.answer.Given as given
use Rattle.jh_arguments.proofs.answers.answer.Goals as goal

-- the arguments are refused
pub returns-in-Err-clause-refused : goal.returns-in-Err-clause-refused
returns-in-Err-clause-refused g c =
    (refused_ends (map g.S.AsStr.text c.args.arguments.now) (g.R.Read.remaining c.args.streams.now.reader) None None None c.args.streams.now.reader c.args.streams.now.reader c.args.streams.now.writer c.args.streams.now.writer
    c.in-Err.error c.in-Err.ensures.refused refl refl).refused

pub returns-in-Err-clause-reader_kept : goal.returns-in-Err-clause-reader_kept
returns-in-Err-clause-reader_kept g c =
    (refused_ends (map g.S.AsStr.text c.args.arguments.now) (g.R.Read.remaining c.args.streams.now.reader) None None None c.args.streams.now.reader c.args.streams.now.reader c.args.streams.now.writer c.args.streams.now.writer
    c.in-Err.error c.in-Err.ensures.refused refl refl).reader_kept

pub returns-in-Err-clause-unwritten : goal.returns-in-Err-clause-unwritten
returns-in-Err-clause-unwritten g c =
    (refused_ends (map g.S.AsStr.text c.args.arguments.now) (g.R.Read.remaining c.args.streams.now.reader) None None None c.args.streams.now.reader c.args.streams.now.reader c.args.streams.now.writer c.args.streams.now.writer
    c.in-Err.error c.in-Err.ensures.refused refl refl).unwritten

pub returns-in-Err-clause-failed : goal.returns-in-Err-clause-failed
returns-in-Err-clause-failed g c =
    (refused_ends (map g.S.AsStr.text c.args.arguments.now) (g.R.Read.remaining c.args.streams.now.reader) None None None c.args.streams.now.reader c.args.streams.now.reader c.args.streams.now.writer c.args.streams.now.writer
    c.in-Err.error c.in-Err.ensures.refused refl refl).failed

pub returns-in-Err-clause-failed_unwritten : goal.returns-in-Err-clause-failed_unwritten
returns-in-Err-clause-failed_unwritten g c =
    (refused_ends (map g.S.AsStr.text c.args.arguments.now) (g.R.Read.remaining c.args.streams.now.reader) None None None c.args.streams.now.reader c.args.streams.now.reader c.args.streams.now.writer c.args.streams.now.writer
    c.in-Err.error c.in-Err.ensures.refused refl refl).failed_unwritten

pub returns-in-Err-clause-unaccounted : goal.returns-in-Err-clause-unaccounted
returns-in-Err-clause-unaccounted g c =
    (refused_ends (map g.S.AsStr.text c.args.arguments.now) (g.R.Read.remaining c.args.streams.now.reader) None None None c.args.streams.now.reader c.args.streams.now.reader c.args.streams.now.writer c.args.streams.now.writer
    c.in-Err.error c.in-Err.ensures.refused refl refl).unaccounted

pub returns-in-Err-clause-unaccounted_reader_kept : goal.returns-in-Err-clause-unaccounted_reader_kept
returns-in-Err-clause-unaccounted_reader_kept g c =
    (refused_ends (map g.S.AsStr.text c.args.arguments.now) (g.R.Read.remaining c.args.streams.now.reader) None None None c.args.streams.now.reader c.args.streams.now.reader c.args.streams.now.writer c.args.streams.now.writer
    c.in-Err.error c.in-Err.ensures.refused refl refl).unaccounted_reader_kept

pub returns-in-Err-clause-unaccounted_unwritten : goal.returns-in-Err-clause-unaccounted_unwritten
returns-in-Err-clause-unaccounted_unwritten g c =
    (refused_ends (map g.S.AsStr.text c.args.arguments.now) (g.R.Read.remaining c.args.streams.now.reader) None None None c.args.streams.now.reader c.args.streams.now.reader c.args.streams.now.writer c.args.streams.now.writer
    c.in-Err.error c.in-Err.ensures.refused refl refl).unaccounted_unwritten

pub returns-in-Err-clause-no_steps : goal.returns-in-Err-clause-no_steps
returns-in-Err-clause-no_steps g c =
    (refused_ends (map g.S.AsStr.text c.args.arguments.now) (g.R.Read.remaining c.args.streams.now.reader) None None None c.args.streams.now.reader c.args.streams.now.reader c.args.streams.now.writer c.args.streams.now.writer
    c.in-Err.error c.in-Err.ensures.refused refl refl).no_steps

pub returns-in-Err-clause-no_steps_reader_kept : goal.returns-in-Err-clause-no_steps_reader_kept
returns-in-Err-clause-no_steps_reader_kept g c =
    (refused_ends (map g.S.AsStr.text c.args.arguments.now) (g.R.Read.remaining c.args.streams.now.reader) None None None c.args.streams.now.reader c.args.streams.now.reader c.args.streams.now.writer c.args.streams.now.writer
    c.in-Err.error c.in-Err.ensures.refused refl refl).no_steps_reader_kept

pub returns-in-Err-clause-no_steps_unwritten : goal.returns-in-Err-clause-no_steps_unwritten
returns-in-Err-clause-no_steps_unwritten g c =
    (refused_ends (map g.S.AsStr.text c.args.arguments.now) (g.R.Read.remaining c.args.streams.now.reader) None None None c.args.streams.now.reader c.args.streams.now.reader c.args.streams.now.writer c.args.streams.now.writer
    c.in-Err.error c.in-Err.ensures.refused refl refl).no_steps_unwritten

pub returns-in-Err-clause-unfinished : goal.returns-in-Err-clause-unfinished
returns-in-Err-clause-unfinished g c =
    (refused_ends (map g.S.AsStr.text c.args.arguments.now) (g.R.Read.remaining c.args.streams.now.reader) (g.R.Read.remaining c.args.streams.now.reader) (g.W.Write.contents c.args.streams.now.writer)
    (g.W.Write.contents c.args.streams.now.writer) c.args.streams.now.reader c.args.streams.now.reader c.args.streams.now.writer c.args.streams.now.writer c.in-Err.error c.in-Err.ensures.refused refl refl).unfinished

-- a test is asked for
tested : (g : given.Over) (c : goal.Joined-matches g)
    → Ends {R = g.row.R.Denot} {W = g.row.W.Denot} (map g.S.AsStr.text c.args.arguments.now) (g.R.Read.remaining c.args.streams.now.reader) (g.R.Read.remaining c.answer_test.new.streams.reader)
    (g.W.Write.contents c.args.streams.now.writer) (g.W.Write.contents c.answer_test.new.streams.writer) c.args.streams.now.reader c.answer_test.new.streams.reader c.args.streams.now.writer c.answer_test.new.streams.writer
    c.of_test.result
tested g c =
    let asked = asked_test_by _ c.in-Ok.matches (test_asked c.in-Some.question) c.in-Ok.ensures.found c.in-Some.ensures.parsed in
    let ends = test_ends _ (g.R.Read.remaining c.args.streams.now.reader) (g.R.Read.remaining c.answer_test.new.streams.reader) (g.W.Write.contents c.args.streams.now.writer) (g.W.Write.contents c.answer_test.new.streams.writer)
    c.args.streams.now.reader c.answer_test.new.streams.reader c.args.streams.now.writer c.answer_test.new.streams.writer (test_asked c.in-Some.question) c.answer_test.result asked c.answer_test.ensures.ended c.answer_test.ensures.streams_kept in
    subst (Ends (map g.S.AsStr.text c.args.arguments.now) (g.R.Read.remaining c.args.streams.now.reader) (g.R.Read.remaining c.answer_test.new.streams.reader) (g.W.Write.contents c.args.streams.now.writer)
    (g.W.Write.contents c.answer_test.new.streams.writer) c.args.streams.now.reader c.answer_test.new.streams.reader c.args.streams.now.writer c.answer_test.new.streams.writer) (sym c.of_test.ensures) ends

pub returns-in-Some-clause-done : goal.returns-in-Some-clause-done
returns-in-Some-clause-done g c = (tested g c).done

pub returns-in-Some-clause-refused : goal.returns-in-Some-clause-refused
returns-in-Some-clause-refused g c = (tested g c).refused

pub returns-in-Some-clause-reader_kept : goal.returns-in-Some-clause-reader_kept
returns-in-Some-clause-reader_kept g c = (tested g c).reader_kept

pub returns-in-Some-clause-unwritten : goal.returns-in-Some-clause-unwritten
returns-in-Some-clause-unwritten g c = (tested g c).unwritten

pub returns-in-Some-clause-failed : goal.returns-in-Some-clause-failed
returns-in-Some-clause-failed g c = (tested g c).failed

pub returns-in-Some-clause-failed_unwritten : goal.returns-in-Some-clause-failed_unwritten
returns-in-Some-clause-failed_unwritten g c = (tested g c).failed_unwritten

pub returns-in-Some-clause-unaccounted : goal.returns-in-Some-clause-unaccounted
returns-in-Some-clause-unaccounted g c = (tested g c).unaccounted

pub returns-in-Some-clause-unaccounted_reader_kept : goal.returns-in-Some-clause-unaccounted_reader_kept
returns-in-Some-clause-unaccounted_reader_kept g c = (tested g c).unaccounted_reader_kept

pub returns-in-Some-clause-unaccounted_unwritten : goal.returns-in-Some-clause-unaccounted_unwritten
returns-in-Some-clause-unaccounted_unwritten g c = (tested g c).unaccounted_unwritten

pub returns-in-Some-clause-no_steps : goal.returns-in-Some-clause-no_steps
returns-in-Some-clause-no_steps g c = (tested g c).no_steps

pub returns-in-Some-clause-no_steps_reader_kept : goal.returns-in-Some-clause-no_steps_reader_kept
returns-in-Some-clause-no_steps_reader_kept g c = (tested g c).no_steps_reader_kept

pub returns-in-Some-clause-no_steps_unwritten : goal.returns-in-Some-clause-no_steps_unwritten
returns-in-Some-clause-no_steps_unwritten g c = (tested g c).no_steps_unwritten

pub returns-in-Some-clause-unfinished : goal.returns-in-Some-clause-unfinished
returns-in-Some-clause-unfinished g c = (tested g c).unfinished

-- no accounts are taken
pub returns-in-Err-accounts_of-clause-unaccounted : goal.returns-in-Err-accounts_of-clause-unaccounted
returns-in-Err-accounts_of-clause-unaccounted g c =
    (unaccounted_ends (map g.S.AsStr.text c.args.arguments.now) (g.R.Read.remaining c.args.streams.now.reader) None None None c.args.streams.now.reader c.args.streams.now.reader c.args.streams.now.writer c.args.streams.now.writer
    c.in-Err-accounts_of.error (without_accounts _ c.in-Ok.matches c.in-Err-accounts_of.error c.in-Ok.ensures.found c.in-Err-accounts_of.ensures.refused) refl refl).unaccounted

-- `clap` takes no arguments that ask for nothing
pub unreachable-requires : goal.unreachable-requires
unreachable-requires g c = elim c.in-Ok.ensures.asked [
  | inl asks ↦ (let asked = asks c.as_deref.result in c.command_of.ensures.taken (search rules) asked.0 asked.1)
  | inr (asked, asks) ↦ c.test_question_of.ensures.taken (search rules) asked asks
]

-- no steps can be had
pub returns-in-Err-steps_of-clause-no_steps : goal.returns-in-Err-steps_of-clause-no_steps
returns-in-Err-steps_of-clause-no_steps g c =
    (no_steps_ends (map g.S.AsStr.text c.args.arguments.now) (g.R.Read.remaining c.args.streams.now.reader) None None None c.args.streams.now.reader c.args.streams.now.reader c.args.streams.now.writer c.args.streams.now.writer
    c.in-Err-steps_of.error
    (without_steps _ c.in-Ok.matches _ c.in-Err-steps_of.error c.in-Ok.ensures.found c.in-Ok-accounts_of.ensures.accounts c.in-Err-steps_of.ensures.named c.in-Err-steps_of.ensures.error) refl refl).no_steps

-- a command is asked for
commanded : (g : given.Over) (c : goal.Joined-matches-4 g)
    → Ends {R = g.row.R.Denot} {W = g.row.W.Denot} (map g.S.AsStr.text c.args.arguments.now) (g.R.Read.remaining c.args.streams.now.reader) (g.R.Read.remaining c.do_command.new.reader)
    (g.W.Write.contents c.args.streams.now.writer) (g.W.Write.contents c.do_command.new.writer) c.args.streams.now.reader c.do_command.new.reader c.args.streams.now.writer c.do_command.new.writer
    c.of_command.result
commanded g c =
    let says = c.do_command.ensures in
    let steps = views c.deref.result.now in
    let gives = subst (λ (items : List Value). GivesSteps (subcommand_rows_of c.in-Ok.matches) (views items)) (sym c.deref.ensures.value) c.in-Ok-steps_of.ensures.steps in
    let accounts = subst (GivesAccounts (subcommand_rows_of c.in-Ok.matches)) (seen_alike _ c.in-Ok-accounts_of.accounts c.as_deref.result c.as_deref.ensures.value) c.in-Ok-accounts_of.ensures.accounts in
    let asked = asked_by _ c.in-Ok.matches c.as_deref.result c.in-Some-command_of.command steps c.in-Ok.ensures.found accounts c.in-Some-command_of.ensures.parsed gives in
    let ends = command_ends _ (g.R.Read.remaining c.args.streams.now.reader) (g.R.Read.remaining c.do_command.new.reader) (g.W.Write.contents c.args.streams.now.writer) (g.W.Write.contents c.do_command.new.writer)
    c.args.streams.now.reader c.do_command.new.reader c.args.streams.now.writer c.do_command.new.writer c.in-Some-command_of.command steps c.do_command.result asked
    (record { options = says.options; reader_kept = says.reader_kept }) says.written says.refused says.unwritten in
    subst (Ends (map g.S.AsStr.text c.args.arguments.now) (g.R.Read.remaining c.args.streams.now.reader) (g.R.Read.remaining c.do_command.new.reader) (g.W.Write.contents c.args.streams.now.writer)
    (g.W.Write.contents c.do_command.new.writer) c.args.streams.now.reader c.do_command.new.reader c.args.streams.now.writer c.do_command.new.writer) (sym c.of_command.ensures) ends

pub returns-clause-done : goal.returns-clause-done
returns-clause-done g c = (commanded g c).done

pub returns-clause-refused : goal.returns-clause-refused
returns-clause-refused g c = (commanded g c).refused

pub returns-clause-reader_kept : goal.returns-clause-reader_kept
returns-clause-reader_kept g c = (commanded g c).reader_kept

pub returns-clause-unwritten : goal.returns-clause-unwritten
returns-clause-unwritten g c = (commanded g c).unwritten

pub returns-clause-failed : goal.returns-clause-failed
returns-clause-failed g c = (commanded g c).failed

pub returns-clause-failed_unwritten : goal.returns-clause-failed_unwritten
returns-clause-failed_unwritten g c = (commanded g c).failed_unwritten

pub returns-clause-unaccounted : goal.returns-clause-unaccounted
returns-clause-unaccounted g c = (commanded g c).unaccounted

pub returns-clause-unaccounted_reader_kept : goal.returns-clause-unaccounted_reader_kept
returns-clause-unaccounted_reader_kept g c = (commanded g c).unaccounted_reader_kept

pub returns-clause-unaccounted_unwritten : goal.returns-clause-unaccounted_unwritten
returns-clause-unaccounted_unwritten g c = (commanded g c).unaccounted_unwritten

pub returns-clause-no_steps : goal.returns-clause-no_steps
returns-clause-no_steps g c = (commanded g c).no_steps

pub returns-clause-no_steps_reader_kept : goal.returns-clause-no_steps_reader_kept
returns-clause-no_steps_reader_kept g c = (commanded g c).no_steps_reader_kept

pub returns-clause-no_steps_unwritten : goal.returns-clause-no_steps_unwritten
returns-clause-no_steps_unwritten g c = (commanded g c).no_steps_unwritten

pub returns-clause-unfinished : goal.returns-clause-unfinished
returns-clause-unfinished g c = (commanded g c).unfinished
