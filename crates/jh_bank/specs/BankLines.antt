-- The value of a bank's result, a map, whose printed text is its one line (this project's own; the keys
-- and the names of errors are those of jepsen.tests.bank).
use Rattle.std.specs.Prelude.{ℕ, pos, List, [], ◌∷◌, ◌++◌, codes, Option, Some, None}
use Rattle.jh_edn.specs.Edn.{Edn, int, keyword}
use Rattle.jh_edn.specs.Parts.{map_of}
use Rattle.jh_ops.specs.Operation.{operation}
use Rattle.jh_ops.specs.OperationWritten.{value_written}
use Rattle.jh_ops.specs.declared.operation.Op.{Op}
use Rattle.jh_check.specs.Lines.{map_with_verdict}
use Rattle.jh_bank.specs.declared.judge.BankErrors.{BankErrors}
use Rattle.jh_bank.specs.declared.judge.BankResult.{BankResult}
use Rattle.jh_bank.specs.declared.judge.ReadErrors.{ReadErrors}

-- how many reads have an error, and the first of them, written as operations are
abbrev pub errors_value : ReadErrors → Edn
errors_value errors =
    map_of ((keyword (codes "count"), int (pos errors.count))
    ∷ (keyword (codes "first"), value_written (operation errors.first)) ∷ [])

-- under the name of the error, where there is one
abbrev pub kind_pairs : List ℕ → Option ReadErrors → List (Edn × Edn)
kind_pairs name None = []
kind_pairs name (Some errors) = (keyword name, errors_value errors) ∷ []

-- those that occur, in the order in which a read is asked for them
abbrev pub error_pairs : BankErrors → List (Edn × Edn)
error_pairs errors =
    kind_pairs (codes "unexpected-key") errors.unexpected_key
    ++ (kind_pairs (codes "nil-balance") errors.nil_balance
    ++ (kind_pairs (codes "wrong-total") errors.wrong_total
    ++ kind_pairs (codes "negative-value") errors.negative_value))

abbrev pub worst_pairs : Option Op → List (Edn × Edn)
worst_pairs None = []
worst_pairs (Some op) = (keyword (codes "worst"), value_written (operation op)) ∷ []

-- what is found, as a map
abbrev pub bank_value : BankResult → Edn
bank_value result =
    map_with_verdict result.verdict ((keyword (codes "reads"), int (pos result.reads))
    ∷ (keyword (codes "errors"), map_of (error_pairs result.errors)) ∷ worst_pairs result.worst)
