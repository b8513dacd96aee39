use Rattle.std.proofs.Common.{rules, ◌≡◌, Ok, Err, Result, String, Global, string_bytes, subst, sym, List, ℕ}
use Rattle.std.specs.Prelude.{IfOk}
use Rattle.std.specs.declared.alloc.AllocError.{AllocError}
use Rattle.jh_settings_texts.specs.Comments.{IsComment}
use Rattle.jh_cli.specs.SearchText.{candidate_comment}
use Rattle.jh_cli.proofs.SearchLemmas.{candidate_in_comment}
use Rattle.jh_cli.proofs.search_command.comment_of.Goals as goal

is_comment : (comment : List ℕ) → IsComment comment → (r : Result (String Global) AllocError) → IfOk r (λ text. string_bytes text ≡ comment) → IfOk r (λ text. IsComment (string_bytes text))
is_comment comment are (Ok text) is = subst IsComment (sym is) are
is_comment comment are (Err e) is = tt

pub returns-clause-comment : goal.returns-clause-comment
returns-clause-comment c =
    let comment = candidate_comment c.args.number c.args.runs in
    let written : IfOk c.format.result (λ text. string_bytes text ≡ comment) = search rules in
    is_comment comment (candidate_in_comment c.args.number c.args.runs c.ranges.number.fits c.ranges.runs.fits) c.format.result written
