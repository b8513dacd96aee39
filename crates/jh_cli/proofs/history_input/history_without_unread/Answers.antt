use Rattle.std.proofs.Common.{◌≡◌, ◌∙◌, inl, inr, refl, subst}
use Rattle.std.specs.Str.{IsUtf8}
use Rattle.jh_unread.specs.Unread.{without_unread}
use Rattle.jh_cli.proofs.history_input.history_without_unread.Goals as goal

pub returns-clause-refused : goal.returns-clause-refused
returns-clause-refused c =
    let same : c.deref.result.now ≡ without_unread c.args.text.now = c.deref.ensures.value ∙ c.in_ok-shown.ensures.out in
    let fails : IsUtf8 (without_unread c.args.text.now) → ⊥ = subst (λ t. IsUtf8 t → ⊥) same c.in-Err.ensures.cases.0 in
    inr (without_unread c.args.text.now, (c.utf8.text, refl), inl (tt, (fails, tt)))
