use Rattle.std.proofs.Common.{sym, ap, ◌∙◌}
use Rattle.jh_edn.specs.View.{view}
use Rattle.jh_audit.specs.RepliesInside.{are_numbers, is_numbers}
use Rattle.jh_audit.proofs.FormLemmas.{list-items}
use Rattle.jh_audit.proofs.replies.is_numbers.Goals as goal

pub returns-in-Vector : goal.returns-in-Vector
returns-in-Vector c =
    let numbers = c.args.numbers.now in
    c.are_numbers.ensures ∙ ap (are_numbers numbers) (c.as_slice.ensures ∙ sym (list-items c.in-Vector.items))
    ∙ sym (ap (λ v. is_numbers numbers (view v)) c.in-Vector.is)
