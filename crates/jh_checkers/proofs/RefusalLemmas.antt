-- Why a history of transactions is refused, by the error of reading them; and that no value of a
-- register's history is bad where each of its pairs stands for an operation.
use Rattle.std.proofs.Common.{◌≡◌, ℕ, zero, suc, ◌<◌, List, [], ◌∷◌, length, get_or, map, Some, None, ap, arith}
use Rattle.std.specs.Prelude.{is_some, if◌then◌else◌}
use Rattle.jh_ops.specs.Operation.{Operation}
use Rattle.jh_ops.specs.Pairing.{IsWellFormed, history_pairs}
use Rattle.jh_txn_histories.specs.Histories.{RefusesTransactions}
use Rattle.jh_txn_histories.specs.declared.histories.TxnError.{TxnError}
use Rattle.jh_txn_histories.specs.declared.histories.TxnError.TheVariants.{BadValue, RepeatedAppend, OutOfMemory}
use Rattle.jh_ops.specs.declared.pairs.Pair.{Pair}
use Rattle.jh_linear.specs.Operations.{IsLeastBad, bad_place, place_of_value, reg_op_of}
use Rattle.jh_linear.specs.declared.operations.Object.{Object}
use Rattle.jh_linear.specs.declared.register.RegOp.{RegOp}
use Rattle.jh_checkers.specs.Findings.{RefusesListAppend}
use Rattle.jh_checkers.specs.TransactionsInside.{error_of_reading}

pub refused_as_read : (history : List Operation) (error : TxnError) → IsWellFormed history → RefusesTransactions history (history_pairs history) error
    → RefusesListAppend history (error_of_reading error)
refused_as_read history (BadValue place) formed h = (formed, h)
refused_as_read history (RepeatedAppend place) formed h = (formed, h)
refused_as_read history OutOfMemory formed h = tt

pub none_bad : (object : Object) (history : List Operation) (pairs : List Pair) (ops : List RegOp) → map (reg_op_of object history) pairs ≡ map Some ops → IsLeastBad object history pairs None
none_bad object history [] ops parsed = λ k d less. absurd (omega (arith, less))
none_bad object history (pair ∷ pairs) [] parsed = absurd cc
none_bad object history (pair ∷ pairs) (op ∷ ops) parsed =
    let first : reg_op_of object history pair ≡ Some op = cc in
    let rest : map (reg_op_of object history) pairs ≡ map Some ops = cc in
    behind (ap (λ o. if is_some o then None else Some (place_of_value object history pair)) first) (none_bad object history pairs ops rest)
  where
    behind : bad_place object history pair ≡ None → IsLeastBad object history pairs None → (k : ℕ) (d : Pair) → k < length (pair ∷ pairs) → bad_place object history (get_or (pair ∷ pairs) k d) ≡ None
    behind here others zero d less = here
    behind here others (suc k) d less = others k d (omega (arith, less))
