use Rattle.std.proofs.Common.{sym, ◌∙◌, eq-eqb}
use Rattle.std.proofs.lemmas.Bool.{eqb-true}
use Rattle.jh_linear.proofs.OrderLemmas.{whole_if, counted_if}
use Rattle.jh_linear.proofs.order_check.has_all_done.Goals as goal

pub returns : goal.returns
returns c =
    let ops = c.args.ops.now in
    let order = c.args.order.now in (
      λ same. whole_if ops order c.requires.apart (sym c.count_done.ensures ∙ eqb-true _ _ same ∙ c.count_all_done.ensures),
      λ whole. eq-eqb _ _ (c.count_done.ensures ∙ counted_if ops order c.requires.apart whole ∙ sym c.count_all_done.ensures),
    )
