-- Keys with their histories: proofs rest on it, and no public clause names it.
-- This project's own.
use Rattle.std.specs.Prelude.{◌≡◌, Bool, List, [], ◌++◌, map, All, Option}
use Rattle.std.specs.List.{AllZip}
use Rattle.jh_edn.specs.Edn.{Edn}
use Rattle.jh_edn.specs.View.{view}
use Rattle.jh_checkers.specs.declared.finding.Finding.{Finding}
use Rattle.jh_independent.specs.Histories.{view_history}
use Rattle.jh_independent.specs.Keys.{AreTuples, history_of, key_with_history}
use Rattle.jh_independent.specs.declared.histories.KeyHistory.{KeyHistory}
use Rattle.jh_independent.specs.declared.serial.KeyFinding.{KeyFinding}
use Rattle.jh_ops.specs.Operation.{Operation, operations}
use Rattle.jh_timeline_pages.specs.declared.section.Section.{Section}
use Rattle.jh_timeline_sections.specs.KeySections.{heading_of, keys_found, stands_before}
use Rattle.jh_timeline_sections.specs.Sections.{IsSectionOf}
use Rattle.jh_timeline_sections.specs.declared.key_sections.ShownKey.{ShownKey}
use Rattle.jh_timeline_sections.specs.declared.window.Choice.{Choice}

-- a shown key without its history
abbrev pub key_and_found : ShownKey → Edn × Option Finding
key_and_found one = (view one.key, one.found)

abbrev pub keys_and_found : List ShownKey → List (Edn × Option Finding)
keys_and_found shown = map key_and_found shown

-- The shown key has its own history.
abbrev pub HasHistory : List Operation → ShownKey → Type 0
HasHistory history one = operations one.history.items ≡ history_of (view one.key) history

-- The key is that of the history.
abbrev pub IsKeyOf : List Operation → Edn × Option Finding → KeyHistory → Type 0
IsKeyOf history key own = view_history own ≡ key_with_history history key.0

-- These are the shown keys of a history, in the order of its keys.
pub record AreShownKeys (history : List Operation) (findings : Option (List KeyFinding))
    (shown : List ShownKey) : Type 0 where
  pub keys : keys_and_found shown ≡ keys_found history findings
  pub each : All (HasHistory history) shown
  pub tuples : AreTuples history

-- Some keys have their histories. The keys that are left stand behind these, each beside its own history.
pub record AreJoined
    (history : List Operation) (keys : List (Edn × Option Finding)) (shown : List ShownKey)
    (left : List (Edn × Option Finding))
    (others : List KeyHistory) : Type 0 where
  pub whole : keys_and_found shown ++ left ≡ keys
  pub each : All (HasHistory history) shown
  pub beside : AllZip (IsKeyOf history) left others

-- the section of a key stands before another's
abbrev pub is_shown_before : ShownKey → ShownKey → Bool
is_shown_before a b = stands_before (key_and_found a) (key_and_found b)

-- The section is that of a shown key.
abbrev pub IsSectionOfShown : Choice → ShownKey → Section → Type 0
IsSectionOfShown choice one section =
    IsSectionOf (heading_of (key_and_found one)) (operations one.history.items) [] one.found choice
    section

-- Some of the shown keys have their sections, and the others are left.
pub record AreMade (choice : Choice) (shown left : List ShownKey)
    (sections : List Section) : Type 0 where
  pub made : List ShownKey
  pub whole : made ++ left ≡ shown
  pub each : AllZip (IsSectionOfShown choice) made sections
