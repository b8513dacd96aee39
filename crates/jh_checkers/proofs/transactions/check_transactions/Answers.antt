use Rattle.std.proofs.Common.{sym, subst, rules}
use Rattle.jh_ops.specs.Operation.{operations}
use Rattle.jh_ops.specs.Pairing.{IsWellFormed, history_pairs}
use Rattle.jh_txn_histories.specs.Histories.{RefusesTransactions}
use Rattle.jh_checkers.specs.Findings.{RefusesListAppend}
use Rattle.jh_checkers.proofs.RefusalLemmas.{refused_as_read}
use Rattle.jh_checkers.proofs.transactions.check_transactions.Goals as goal

pub returns : goal.returns
returns c =
    let history = operations c.args.history.now in
    let formed : IsWellFormed history = search rules in
    let refused : RefusesTransactions history (history_pairs history) c.in-Err.error = search rules in
    subst (RefusesListAppend history) (sym c.error_of.ensures) (refused_as_read history c.in-Err.error formed refused)
