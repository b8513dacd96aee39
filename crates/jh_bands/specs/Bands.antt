-- Which faults are active behind each record of a history, and the bands that they make (this
-- project's own). What records of steps look like is said in docs/drive.md and docs/runs.md: the
-- nemesis asks for the step of an entry of the schedule, and its next record answers with the entry's
-- place and a code, which is 0 where the step was done (`code_of` of jh_nemesis, specs/Steps.antt).
-- Indexes count the records of the history from 0.
use Rattle.std.specs.Prelude.{ℕ, ◌+◌, ◌<◌, ℤ, pos, negsuc, Bool, not, ◌&&◌, List, [], ◌∷◌}
use Rattle.std.specs.Prelude.{◌++◌, map, filter, slice_get, codes, IfSome}
use Rattle.std.specs.Prelude.{if◌then◌else◌, Option, Some, None, option_and_then, option_map}
use Rattle.std.specs.Option.{option_map_or, option_or}
use Rattle.std.specs.Ordering.{int_eq}
use Rattle.jh_edn.specs.Edn.{Edn, int, elements_of, integer_of, is_keyword, value_under}
use Rattle.jh_edn.specs.Print.{print}
use Rattle.jh_ops.specs.Operation.{Operation, is_client, is_kind}
use Rattle.jh_ops.specs.declared.operation.Kind.{Kind}
use Rattle.jh_bands.specs.Replay.{ActiveList, StepValue, ReplayValue, first_replay, is_id_active}
use Rattle.jh_bands.specs.Replay.{replay_after, step_in}
use Rattle.jh_bands.specs.Words.{in_words}
use Rattle.jh_bands.specs.declared.band.Band.{Band}

-- ---- records of steps

-- the record asks for a step, or answers one
abbrev pub is_of_step : Operation → Bool
is_of_step op =
    not (is_client op.process) && (is_kind Kind.Info op.kind && is_keyword (codes "step") op.f)

-- the entry of a schedule at a place
abbrev pub scheduled_at : List Edn → ℤ → Option Edn
scheduled_at steps (pos place) = slice_get steps place
scheduled_at steps (negsuc n) = None

-- the text of the step of an entry: what stands under `:step` among the other keys of the record
-- that asks for it, or else the schedule's, if there is one
abbrev pub known_step_text : List Edn → ℤ → List (Edn × Edn) → Option Edn
known_step_text steps place rest = option_or (value_under (codes "step") rest) (scheduled_at steps place)

-- the entry's place with the step that it asks for, where that is known
abbrev pub asked_at : List Edn → List (Edn × Edn) → ℤ → Option (ℤ × StepValue)
asked_at steps rest place =
    option_map (λ step. (place, step)) (option_and_then step_in (known_step_text steps place rest))

-- what a record asks for
abbrev pub asked_in : List Edn → Operation → Option (ℤ × StepValue)
asked_in steps op =
    if is_of_step op then option_and_then (asked_at steps op.rest) (integer_of op.value) else None

-- the code that these elements have behind this place, if they are a place and a code
abbrev pub code_behind : ℤ → List Edn → Option ℤ
code_behind place (int answered ∷ int code ∷ []) = if int_eq answered place then Some code else None
code_behind place _ = None

-- the code with which a record answers the step of the entry at this place, if it answers it
abbrev pub answer_code : ℤ → Operation → Option ℤ
answer_code place op =
    if is_of_step op then option_and_then (code_behind place) (elements_of op.value) else None

-- the step that a record answers, behind the nemesis's record that asked for it, with the code
abbrev pub answered_step : Option (ℤ × StepValue) → Operation → Option (StepValue × ℤ)
answered_step None op = None
answered_step (Some asked) op = option_map (λ code. (asked.1, code)) (answer_code asked.0 op)

-- this code says that the step was done
abbrev pub is_done_code : ℤ → Bool
is_done_code code = int_eq code (pos 0)

-- the step that was done, of one that was answered
abbrev pub step_if_done : StepValue × ℤ → Option StepValue
step_if_done answered = if is_done_code answered.1 then Some answered.0 else None

-- the step that a record says was done, behind the nemesis's record that asked for it
abbrev pub done_step : Option (ℤ × StepValue) → Operation → Option StepValue
done_step waiting op = option_and_then step_if_done (answered_step waiting op)

-- ---- active faults

-- where a history stands behind some of its records: what the last record of the nemesis asked for,
-- and what the steps that were done have left
pub record MomentValue : Type 0 where
  pub asked : Option (ℤ × StepValue)
  pub replay : ReplayValue

-- before any record
abbrev pub first_moment : MomentValue
first_moment = record { asked = None; replay = first_replay }

-- behind one record more; a client's changes nothing
abbrev pub moment_behind : List Edn → MomentValue → Operation → MomentValue
moment_behind steps m op =
    if is_client op.process then m
    else record {
      asked = asked_in steps op;
      replay = option_map_or (replay_after m.replay) (done_step m.asked op) m.replay;
    }

-- the faults that are active behind each of these records
abbrev pub active_lists : List Edn → MomentValue → List Operation → List ActiveList
active_lists steps m [] = []
active_lists steps m (op ∷ ops) =
    (moment_behind steps m op).replay.active ∷ active_lists steps (moment_behind steps m op) ops

-- the same of a whole history
abbrev pub active_behind : List Edn → List Operation → List ActiveList
active_behind steps history = active_lists steps first_moment history

-- ---- bands

-- a band as a contract sees it
pub record BandValue : Type 0 where
  pub from : ℕ
  pub to : Option ℕ
  pub label : List ℕ

abbrev pub view_band : Band → BandValue
view_band band = record { from = band.from; to = band.to; label = band.label.items }

-- what names a fault: its id, and behind a colon the fault in words, as `1: cut n1 n2`
abbrev pub label_of : ℤ × Edn → List ℕ
label_of fault = print (int fault.0) ++ (codes ": " ++ in_words fault.1)

-- the faults that are active now and were not before
abbrev pub new_faults : ActiveList → ActiveList → ActiveList
new_faults before now = filter (λ fault. not (is_id_active fault.0 before)) now

-- the first index at which no fault of this id is active, if there is one; the first of these lists
-- is that behind the record at the index
abbrev pub band_end : ℤ → ℕ → List ActiveList → Option ℕ
band_end id index [] = None
band_end id index (active ∷ later) =
    if is_id_active id active then band_end id (index + 1) later else Some index

-- the band of a fault that becomes active at an index, before these lists
abbrev pub band_of : ℕ → List ActiveList → (ℤ × Edn) → BandValue
band_of index later fault =
    record { from = index; to = band_end fault.0 (index + 1) later; label = label_of fault }

-- At each index a band begins for each fault that is active behind its record and was not before.
abbrev pub bands_from : ℕ → ActiveList → List ActiveList → List BandValue
bands_from index before [] = []
bands_from index before (now ∷ later) =
    map (band_of index later) (new_faults before now) ++ bands_from (index + 1) now later

-- the bands of a history, with the steps of its schedule
abbrev pub bands_in : List Edn → List Operation → List BandValue
bands_in steps history = bands_from 0 [] (active_behind steps history)

-- A band begins at one of so many records, and ends at a later one of them, if it ends.
pub record IsBandWithin (count : ℕ) (band : BandValue) : Type 0 where
  pub from : band.from < count
  pub to : IfSome band.to (λ to. (band.from < to) × (to < count))
