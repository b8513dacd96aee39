use Rattle.std.proofs.Common.{◌≡◌, refl, string_bytes, subst, sym, ◌∙◌}
use Rattle.jh_settings_texts.specs.Comments.{IsComment}
use Rattle.jh_cli.proofs.SearchLemmas.{found_is}
use Rattle.jh_cli.proofs.search_command.found_text.Goals as goal

pub settings_behind-requires-clause-comment : goal.settings_behind-requires-clause-comment
settings_behind-requires-clause-comment c = subst IsComment (sym c.deref.ensures) c.in_ok-comment.ensures.comment

pub returns : goal.returns
returns c =
    let written : c.into_bytes.result.items ≡ string_bytes c.in_ok-output.output = rw c.into_bytes.ensures.value refl in
    found_is c.args.plan.now c.args.options.now c.args.number c.in_ok-found.found c.deref.result.now c.into_bytes.result.items (string_bytes c.in_ok-output.output)
    c.in_ok-found.ensures.candidate c.in_ok-found.ensures.read_back (c.deref.ensures ∙ c.in_ok-comment.ensures.text)
    c.in_ok-output.ensures.behind c.in_ok-output.ensures.read_back written
