-- What judging one key goes by: proofs rest on it, and no public clause names it.
-- This project's own.
use Rattle.std.specs.Prelude.{ℕ, List, [], None, slice_index_or}
use Rattle.jh_edn.specs.Edn.{nil}
use Rattle.jh_ops.specs.Operation.{Operation}
use Rattle.jh_ops.specs.declared.operation.Kind.{Kind}
use Rattle.jh_ops.specs.declared.operation.Process.{Process}
use Rattle.jh_check.specs.declared.error.CheckError.{CheckError}
use Rattle.jh_check.specs.declared.error.CheckError.TheVariants as check_errors
use Rattle.jh_independent.specs.Refusals.{check_error_in, pairing_in}
use Rattle.jh_independent.specs.declared.error.KeysError.{KeysError}
use Rattle.jh_independent.specs.declared.error.KeysError.TheVariants.{Key, OutOfMemory}

-- what stands past the end of a history
abbrev pub no_operation : Operation
no_operation =
    record {
      kind = Kind.Info;
      process = Process.Nemesis;
      f = nil;
      value = nil;
      time = None;
      index =
          None;
      rest = [];
    }

abbrev pub operation_at : List Operation → ℕ → Operation
operation_at history place = slice_index_or history place no_operation

-- the error that is reported for one of a key's checker
abbrev pub keys_error_of : List ℕ → CheckError → KeysError
keys_error_of places (check_errors.Pair error) = Key (check_errors.Pair (pairing_in places error))
keys_error_of places (check_errors.BadValue place) =
    Key (check_error_in places (check_errors.BadValue place))
keys_error_of places (check_errors.NegativeAdd place) =
    Key (check_error_in places (check_errors.NegativeAdd place))
keys_error_of places (check_errors.RepeatedAppend place) =
    Key (check_error_in places (check_errors.RepeatedAppend place))
keys_error_of places check_errors.OutOfMemory = OutOfMemory
