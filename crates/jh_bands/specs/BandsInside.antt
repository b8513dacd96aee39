-- What is kept on the way to the bands of a history: edits of the active list, of which each can be
-- taken back, and the changes that they make, in order. Proofs rest on it, and no public clause names
-- it.
-- This project's own.
use Rattle.std.specs.Prelude.{◌≡◌, ℕ, ◌+◌, ◌<◌, ◌≤◌, ℤ, Bool, true, false, List, [], ◌∷◌, ◌++◌, map}
use Rattle.std.specs.Prelude.{if◌then◌else◌, length, insert, remove, reverse, Option, Some, None}
use Rattle.std.specs.Prelude.{option_map, slice_index_or}
use Rattle.std.specs.Ordering.{int_eq}
use Rattle.jh_edn.specs.Edn.{Edn}
use Rattle.jh_edn.specs.View.{view}
use Rattle.jh_bands.specs.Bands.{BandValue, MomentValue, label_of, new_faults}
use Rattle.jh_bands.specs.Replay.{ActiveList, StepValue, begin, withdraw, withdraw_all, undo, redo}
use Rattle.jh_bands.specs.Replay.{ReplayValue, is_id_active}
use Rattle.jh_bands.specs.declared.step.Answered.{Answered}
use Rattle.jh_bands.specs.declared.step.Asked.{Asked}
use Rattle.jh_bands.specs.declared.step.Fault.{Fault}
use Rattle.jh_bands.specs.declared.step.Step.{Step}
use Rattle.jh_bands.specs.declared.edit.Edit.{Edit}
use Rattle.jh_bands.specs.declared.edit.Edit.TheVariants.{Insert, Remove, Fill, Clear}
use Rattle.jh_bands.specs.declared.edit.Change.{Change}
use Rattle.jh_bands.specs.declared.moment.Moment.{Moment}
use Rattle.jh_bands.specs.declared.replay.Replay.{Replay}

-- ---- what a contract sees of faults and steps

abbrev pub view_begun : Fault → ℤ × Edn
view_begun fault = (fault.id, view fault.value.now)

abbrev pub view_all_begun : List Fault → ActiveList
view_all_begun faults = map view_begun faults

abbrev pub view_step : Step → StepValue
view_step (Step.Begin fault) = begin fault.id (view fault.value.now)
view_step (Step.Withdraw id) = withdraw id
view_step Step.WithdrawAll = withdraw_all
view_step Step.Undo = undo
view_step Step.Redo = redo

abbrev pub view_asked : Asked → ℤ × StepValue
view_asked asked = (asked.place, view_step asked.step)

abbrev pub view_answered : Answered → StepValue × ℤ
view_answered answered = (view_step answered.step, answered.code)

-- ---- edits

-- what an edit makes of a list
abbrev pub edited : Edit → ActiveList → ActiveList
edited (Insert place fault) active = insert active place (view_begun fault)
edited (Remove place) active = remove active place
edited (Fill faults) active = view_all_begun faults.items
edited Clear active = []

-- the place is one of the list, and its fault the only one of its id
pub record IsOnlyAt (place : ℕ) (active : ActiveList) : Type 0 where
  pub within : place < length active
  pub only : (d : ℤ × Edn) → is_id_active (slice_index_or active place d).0 (remove active place) ≡ false

-- the fault may be put there: none of its id is active
pub record IsNewAt (place : ℕ) (fault : ℤ × Edn) (active : ActiveList) : Type 0 where
  pub within : place ≤ length active
  pub new : is_id_active fault.0 active ≡ false

-- a list allows an edit
abbrev pub AllowsEdit : Edit → ActiveList → Type 0
AllowsEdit (Insert place fault) active = IsNewAt place (view_begun fault) active
AllowsEdit (Remove place) active = IsOnlyAt place active
AllowsEdit (Fill faults) active = active ≡ []
AllowsEdit Clear active = Unit {0}

-- An edit takes a list back to another.
pub record TakesBack (back : Edit) (new old : ActiveList) : Type 0 where
  pub fits : AllowsEdit back new
  pub edited : edited back new ≡ old

-- ---- the replay, of which only edits are kept

-- the lists that edits lead to, one after the other
abbrev pub lists_along : List Edit → ActiveList → List ActiveList
lists_along [] active = []
lists_along (edit ∷ edits) active =
    edited edit active ∷ lists_along edits (edited edit active)

-- each of these edits fits where it is made
abbrev pub FitAlong : List Edit → ActiveList → Type 0
FitAlong [] active = Unit {0}
FitAlong (edit ∷ edits) active = AllowsEdit edit active × FitAlong edits (edited edit active)

-- what a replay is that a program holds: the last edits stand last
abbrev pub view_replay : Replay → ReplayValue
view_replay r =
    record {
      past = lists_along (reverse r.past.items) (view_all_begun r.active.items);
      active = view_all_begun r.active.items;
      future = lists_along (reverse r.future.items) (view_all_begun r.active.items);
    }

pub record AreFit (r : Replay) : Type 0 where
  pub past : FitAlong (reverse r.past.items) (view_all_begun r.active.items)
  pub future : FitAlong (reverse r.future.items) (view_all_begun r.active.items)

abbrev pub view_moment : Moment → MomentValue
view_moment m = record { asked = option_map view_asked m.asked; replay = view_replay m.replay }

-- ---- changes

-- a fault becomes active at an index, or ends there
pub record ChangeValue : Type 0 where
  pub index : ℕ
  pub begins : Bool
  pub fault : ℤ × Edn

abbrev pub view_change : Change → ChangeValue
view_change change =
    record { index = change.index; begins = change.begins; fault = view_begun change.fault }

abbrev pub view_changes : List Change → List ChangeValue
view_changes changes = map view_change changes

-- these faults begin at an index, or end there
abbrev pub changes_with : ℕ → Bool → ActiveList → List ChangeValue
changes_with index begins faults =
    map (λ fault. record { index = index; begins = begins; fault = fault }) faults

-- what becomes active at an index, and what ends there
abbrev pub changes_at : ℕ → ActiveList → ActiveList → List ChangeValue
changes_at index before now =
    changes_with index true (new_faults before now)
    ++ changes_with index false (new_faults now before)

-- the changes at each index from one on
abbrev pub changes_from : ℕ → ActiveList → List ActiveList → List ChangeValue
changes_from index before [] = []
changes_from index before (now ∷ later) =
    changes_at index before now ++ changes_from (index + 1) now later

-- the index of the first of these changes that is of this id
abbrev pub next_change : ℤ → List ChangeValue → Option ℕ
next_change id [] = None
next_change id (change ∷ changes) =
    if int_eq change.fault.0 id then Some change.index else next_change id changes

-- the band of a change that begins, up to an index, and none of one that ends
abbrev pub new_bands : ChangeValue → Option ℕ → List BandValue
new_bands change to =
    if change.begins
    then record { from = change.index; to = to; label = label_of change.fault } ∷ []
    else []

-- the bands of changes
abbrev pub bands_along : List ChangeValue → List BandValue
bands_along [] = []
bands_along (change ∷ changes) =
    new_bands change (next_change change.fault.0 changes) ++ bands_along changes

-- ---- steps on the way

-- no two faults have one id
abbrev pub HaveOwnIds : ActiveList → Type 0
HaveOwnIds [] = Unit {0}
HaveOwnIds (fault ∷ faults) = (is_id_active fault.0 faults ≡ false) × HaveOwnIds faults

abbrev pub AllHaveOwnIds : List ActiveList → Type 0
AllHaveOwnIds [] = Unit {0}
AllHaveOwnIds (active ∷ lists) = HaveOwnIds active × AllHaveOwnIds lists

-- in no list of a replay two faults have one id
pub record HasOwnIds (r : ReplayValue) : Type 0 where
  pub past : AllHaveOwnIds r.past
  pub active : HaveOwnIds r.active
  pub future : AllHaveOwnIds r.future

-- these changes are found behind others, of a list that becomes another at an index
abbrev pub AddChanges : ℕ → ActiveList → ActiveList → List Change → List Change → Type 0
AddChanges index before now found all =
    view_changes all ≡ view_changes found ++ changes_at index before now

-- a replay goes on to a value
pub record GoesOnTo (old new : Replay) (next : ReplayValue) : Type 0 where
  pub replay : view_replay new ≡ next
  pub fit : AreFit new

-- a moment goes on to a value
pub record PassesTo (old new : Moment) (next : MomentValue) : Type 0 where
  pub moment : view_moment new ≡ next
  pub fit : AreFit new.replay
