-- What is found in the histories of all keys, and why nothing is (this project's own): first for a
-- value that is no tuple, then for the first key, in normal order, that could not be judged.
use Rattle.std.specs.Prelude.{◌≡◌, ◌≢◌, ◌<◌, ℕ, List, map, slice_get, slice_index_or, All, Some}
use Rattle.jh_edn.specs.Edn.{Edn}
use Rattle.jh_edn.specs.View.{view}
use Rattle.jh_ops.specs.Operation.{Operation}
use Rattle.jh_ops.specs.declared.pairs.PairError.{PairError}
use Rattle.jh_ops.specs.declared.pairs.PairError.TheVariants as pairing
use Rattle.jh_check.specs.declared.error.CheckError.{CheckError}
use Rattle.jh_check.specs.declared.error.CheckError.TheVariants as check_errors
use Rattle.jh_checkers.specs.Findings.{IsFinding, RefusesChecking}
use Rattle.jh_independent.specs.Keys.{AreTuples, IsFirstBad, history_of, history_keys, places_of}
use Rattle.jh_independent.specs.declared.error.KeysError.{KeysError}
use Rattle.jh_independent.specs.declared.error.KeysError.TheVariants.{BadValue, Key, Thread, OutOfMemory}
use Rattle.jh_checkers.specs.declared.finding.Finding.{Finding}
use Rattle.jh_checkers.specs.declared.finding.Judging.{Judging}
use Rattle.jh_independent.specs.declared.serial.KeyFinding.{KeyFinding}

-- a history, and what all its keys are judged by
pub record KeysQuestion : Type 0 where
  pub history : List Operation
  pub judging : Judging

abbrev pub keys_question : Judging → List Operation → KeysQuestion
keys_question judging history = record { history = history; judging = judging }

-- the finding of one key: of its history alone, with the whole budget
abbrev pub IsFindingOf : KeysQuestion → Edn → Finding → Type 0
IsFindingOf asked key found = IsFinding asked.judging (history_of key asked.history) found

-- One finding for each key, in normal order.
pub record AreFindings (asked : KeysQuestion) (found : List KeyFinding) : Type 0 where
  pub tuples : AreTuples asked.history
  pub keys : map (λ one. view one.key) found ≡ history_keys asked.history
  pub each : All (λ one. IsFindingOf asked (view one.key) one.finding) found

-- ---- refusals

-- an error, reported at the place in the whole history instead of that in the history of a key
abbrev pub pairing_in : List ℕ → PairError → PairError
pairing_in places (pairing.AfterCrash place) = pairing.AfterCrash (slice_index_or places place 0)
pairing_in places (pairing.DoubleInvoke place) =
    pairing.DoubleInvoke (slice_index_or places place 0)
pairing_in places (pairing.NoInvoke place) = pairing.NoInvoke (slice_index_or places place 0)
pairing_in places pairing.OutOfMemory = pairing.OutOfMemory

abbrev pub check_error_in : List ℕ → CheckError → CheckError
check_error_in places (check_errors.Pair error) = check_errors.Pair (pairing_in places error)
check_error_in places (check_errors.BadValue place) =
    check_errors.BadValue (slice_index_or places place 0)
check_error_in places (check_errors.NegativeAdd place) =
    check_errors.NegativeAdd (slice_index_or places place 0)
check_error_in places (check_errors.RepeatedAppend place) =
    check_errors.RepeatedAppend (slice_index_or places place 0)
check_error_in places check_errors.OutOfMemory = check_errors.OutOfMemory

-- the history of a key is refused, and this is reported
abbrev pub IsErrorOf : KeysQuestion → Edn → CheckError → Type 0
IsErrorOf asked key given =
    (inner : CheckError)
    × RefusesChecking asked.judging.checker (history_of key asked.history) inner
    × (inner ≢ check_errors.OutOfMemory)
    × (given ≡ check_error_in (places_of key asked.history) inner)

-- Why a key was not judged: its history is refused, its thread was not let in, or memory ran out.
abbrev pub RefusesKey : KeysQuestion → Edn → KeysError → Type 0
RefusesKey asked key (BadValue place) = ⊥
RefusesKey asked key (Key given) = IsErrorOf asked key given
RefusesKey asked key Thread = Unit {0}
RefusesKey asked key OutOfMemory = Unit {0}

-- each key before this one was judged
abbrev pub AreFoundBefore : KeysQuestion → ℕ → Type 0
AreFoundBefore asked place =
    (earlier : ℕ) (key : Edn) → earlier < place
    → slice_get (history_keys asked.history) earlier ≡ Some key
    → (found : Finding) × IsFindingOf asked key found

-- Why nothing is found. A thread is missing only for a key, behind the findings of all before it;
-- memory may run out also before the first key is judged.
abbrev pub RefusesKeys : KeysQuestion → KeysError → Type 0
RefusesKeys asked (BadValue place) = IsFirstBad asked.history place
RefusesKeys asked (Key given) =
    AreTuples asked.history
    × ((place : ℕ) × (key : Edn) × (slice_get (history_keys asked.history) place ≡ Some key)
    × AreFoundBefore asked place × IsErrorOf asked key given)
RefusesKeys asked Thread =
    AreTuples asked.history
    × ((place : ℕ) × (key : Edn) × (slice_get (history_keys asked.history) place ≡ Some key)
    × AreFoundBefore asked place)
RefusesKeys asked OutOfMemory = AreTuples asked.history
