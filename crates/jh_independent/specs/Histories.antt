-- The histories of all keys of a history, as they are given, and why they are not
-- (jepsen.independent; the refusal is this project's own).
use Rattle.std.specs.Prelude.{List, map}
use Rattle.jh_edn.specs.Edn.{Edn}
use Rattle.jh_edn.specs.View.{view}
use Rattle.jh_ops.specs.Operation.{Operation, operations}
use Rattle.jh_independent.specs.Keys.{AreTuples, IsFirstBad}
use Rattle.jh_independent.specs.declared.error.KeysError.{KeysError}
use Rattle.jh_independent.specs.declared.error.KeysError.TheVariants.{BadValue, Key, Thread, OutOfMemory}
use Rattle.jh_independent.specs.declared.histories.KeyHistory.{KeyHistory}

-- a key with its history, as specs see it
abbrev pub view_history : KeyHistory → Edn × List Operation
view_history part = (view part.key, operations part.history.items)

abbrev pub view_histories : List KeyHistory → List (Edn × List Operation)
view_histories parts = map view_history parts

-- Why a history is not split by key: for the first value that is no tuple, or because memory ran
-- out.
abbrev pub RefusesKeySplit : List Operation → KeysError → Type 0
RefusesKeySplit history (BadValue place) = IsFirstBad history place
RefusesKeySplit history (Key error) = ⊥
RefusesKeySplit history Thread = ⊥
RefusesKeySplit history OutOfMemory = AreTuples history
