-- Which of two least places a history is refused for: proofs rest on it, and no public clause names
-- it. This project's own.
use Rattle.std.specs.Prelude.{ℕ, nat_lt, if◌then◌else◌, Option, Some, None}
use Rattle.jh_txn_histories.specs.declared.histories.TxnError.{TxnError}
use Rattle.jh_txn_histories.specs.declared.histories.TxnError.TheVariants.{BadValue}
use Rattle.jh_txn_histories.specs.declared.histories.TxnError.TheVariants.{RepeatedAppend}

-- the lesser place, and of one place the bad value
abbrev pub txn_error_of : Option ℕ → Option ℕ → Option TxnError
txn_error_of (Some place) (Some other) =
    if nat_lt other place then Some (RepeatedAppend other) else Some (BadValue place)
txn_error_of (Some place) None = Some (BadValue place)
txn_error_of None (Some other) = Some (RepeatedAppend other)
txn_error_of None None = None
