use Rattle.std.proofs.Common.{◌∙◌, rules}
use Rattle.jh_ops.specs.Operation.{operations}
use Rattle.jh_independent.specs.SplitInside.{view_keyed}
use Rattle.jh_independent.proofs.SplitLemmas.{groups_sorted}
use Rattle.jh_independent.proofs.split.split.Goals as goal

pub returns : goal.returns
returns c =
    ((search rules), c.in_ok-grouped.ensures ∙ groups_sorted (operations c.args.history.now) (view_keyed c.in_ok-keyed.keyed.items) c.in_ok-keyed.ensures.order)
