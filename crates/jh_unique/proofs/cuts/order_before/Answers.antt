use Rattle.std.proofs.Common.{sym, subst, ◌∙◌}
use Rattle.jh_linear.specs.Order.{EndAfterInvoked}
use Rattle.jh_linear.specs.Stuck.{ops_before}
use Rattle.jh_unique.specs.Judged.{IsUniqueVerdict}
use Rattle.jh_unique.proofs.CutLemmas.{once_cut, ends_cut}
use Rattle.jh_unique.proofs.HalvingLemmas.{none_of}
use Rattle.jh_unique.proofs.cuts.order_before.Goals as goal

pub judge_unique-requires : goal.judge_unique-requires
judge_unique-requires c = record { ends = subst EndAfterInvoked (sym (c.as_slice.ensures.value ∙ c.in_ok-shown.ensures)) (ends_cut c.args.ops.now c.args.cut c.requires.ends) }

pub returns : goal.returns
returns c =
    let ops = c.args.ops.now in
    let initial = c.args.initial in
    let verdict = c.in_ok-verdict.verdict in
    none_of (ops_before ops c.args.cut) initial verdict (once_cut ops c.args.cut initial c.requires.once)
    (subst (λ xs. IsUniqueVerdict xs initial verdict) (c.as_slice.ensures.value ∙ c.in_ok-shown.ensures) c.in_ok-verdict.ensures) c.in_default.not-Valid
