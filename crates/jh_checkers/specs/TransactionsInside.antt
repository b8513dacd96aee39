-- What the checker of transactions makes of an error of reading them: proofs rest on it, and no
-- public clause names it. This project's own.
use Rattle.jh_check.specs.declared.error.CheckError.{CheckError}
use Rattle.jh_check.specs.declared.error.CheckError.TheVariants.{BadValue, RepeatedAppend}
use Rattle.jh_check.specs.declared.error.CheckError.TheVariants.{OutOfMemory}
use Rattle.jh_txn_histories.specs.declared.histories.TxnError.{TxnError}
use Rattle.jh_txn_histories.specs.declared.histories.TxnError.TheVariants as transactions

-- the same error
abbrev pub error_of_reading : TxnError → CheckError
error_of_reading (transactions.BadValue place) = BadValue place
error_of_reading (transactions.RepeatedAppend place) = RepeatedAppend place
error_of_reading transactions.OutOfMemory = OutOfMemory
