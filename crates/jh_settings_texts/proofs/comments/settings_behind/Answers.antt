use Rattle.std.proofs.Common.{rules, ◌≡◌, ◌≢◌, List, ℕ, Ok, Err, Result, String, Global, Some, string_bytes, subst, sym}
use Rattle.std.proofs.lemmas.Str.{IsUtf8-string_bytes}
use Rattle.std.specs.Prelude.{IfOk}
use Rattle.std.specs.declared.alloc.AllocError.{AllocError}
use Rattle.toml.specs.Parse.{parse_document}
use Rattle.toml_parser.specs.Lexical.{first}
use Rattle.jh_simnode.specs.Plans.{PlanValue}
use Rattle.jh_settings.specs.Settings.{AreSettingsOf}
use Rattle.jh_settings.specs.declared.choices.Mode.{Mode}
use Rattle.jh_settings_texts.specs.Comments.{IsComment, behind_comment}
use Rattle.jh_settings_texts.specs.SettingsWritten.{plan_in_order}
use Rattle.jh_settings_texts.proofs.CommentLemmas.{read_behind_comment}
use Rattle.jh_settings_texts.proofs.comments.settings_behind.Goals as goal

-- settings mean behind a comment what they mean by themselves
commented : (comment settings : List ℕ) (p : PlanValue) (mode : Mode) (budget : ℕ) → IsComment comment → first settings ≢ 239 → AreSettingsOf settings p mode budget
    → (r : Result (String Global) AllocError) → IfOk r (λ text. string_bytes text ≡ behind_comment comment settings) → IfOk r (λ text. AreSettingsOf (string_bytes text) p mode budget)
commented comment settings p mode budget of_comment unmarked are (Ok text) is =
    let parsed = read_behind_comment comment settings are.0 of_comment unmarked are.1.1 in
    (are.0, (IsUtf8-string_bytes text, subst (λ bytes. parse_document bytes ≡ Some are.0) (sym is) parsed), are.2)
commented comment settings p mode budget of_comment unmarked are (Err e) is = tt

pub returns-clause-read_back : goal.returns-clause-read_back
returns-clause-read_back c =
    let settings = string_bytes c.in_ok-settings.settings in
    let written : IfOk c.format.result (λ text. string_bytes text ≡ behind_comment c.args.comment.now settings) = search rules in
    commented c.args.comment.now settings (plan_in_order c.args.plan.now) Mode.Serial c.args.budget c.requires.comment c.in_ok-settings.ensures.unmarked
    c.in_ok-settings.ensures.read_back c.format.result written
