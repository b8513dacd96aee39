-- The sections of independent keys, one for each (jepsen.independent tells what the history of a
-- key is; the order of the sections and their headings are this project's own).
use Rattle.std.specs.Prelude.{◌≡◌, ℕ, Bool, nat_lt, List, [], ◌++◌, map, codes, Option, Some, None}
use Rattle.std.specs.List.{AllZip}
use Rattle.jh_check.specs.declared.verdict.Verdict.{Verdict}
use Rattle.jh_edn.specs.Edn.{Edn}
use Rattle.jh_edn.specs.Order.{in_order}
use Rattle.jh_edn.specs.Print.{print}
use Rattle.jh_edn.specs.View.{view}
use Rattle.jh_checkers.specs.Findings.{finding_verdict}
use Rattle.jh_checkers.specs.declared.finding.Finding.{Finding}
use Rattle.jh_independent.specs.Keys.{AreTuples, history_of, history_keys}
use Rattle.jh_independent.specs.declared.serial.KeyFinding.{KeyFinding}
use Rattle.jh_ops.specs.Operation.{Operation}
use Rattle.jh_timeline_pages.specs.declared.section.Section.{Section}
use Rattle.jh_timeline_sections.specs.Sections.{IsSectionOf}
use Rattle.jh_timeline_sections.specs.declared.window.Choice.{Choice}

-- ---- keys

-- a key with what was found of it
abbrev pub key_found : KeyFinding → Edn × Option Finding
key_found finding = (view finding.key, Some finding.finding)

-- a key that was not judged
abbrev pub unjudged_key : Edn → Edn × Option Finding
unjudged_key key = (key, None)

-- the keys of a history, each with what was found of it, if they were judged
abbrev pub keys_found : List Operation → Option (List KeyFinding) → List (Edn × Option Finding)
keys_found history None = map unjudged_key (history_keys history)
keys_found history (Some findings) = map key_found findings

-- ---- the order of sections

abbrev pub rank_of_verdict : Verdict → ℕ
rank_of_verdict Verdict.False = 0
rank_of_verdict Verdict.Unknown = 1
rank_of_verdict Verdict.True = 2

-- where sections stand: first those of keys that are not valid, then those of unknown verdict
abbrev pub section_rank : Option Finding → ℕ
section_rank None = 0
section_rank (Some found) = rank_of_verdict (finding_verdict found)

abbrev pub stands_before : Edn × Option Finding → Edn × Option Finding → Bool
stands_before a b = nat_lt (section_rank a.1) (section_rank b.1)

-- keys as their sections stand; those of one verdict stay as they stood
abbrev pub section_order : List (Edn × Option Finding) → List (Edn × Option Finding)
section_order keys = in_order stands_before keys

-- ---- sections

abbrev pub verdict_text : Verdict → List ℕ
verdict_text Verdict.True = codes ": valid"
verdict_text Verdict.Unknown = codes ": unknown"
verdict_text Verdict.False = codes ": not valid"

-- the text in a heading of what was found
abbrev pub found_text : Option Finding → List ℕ
found_text None = []
found_text (Some found) = verdict_text (finding_verdict found)

-- the heading of a section: its key, and what was found of it
abbrev pub heading_of : Edn × Option Finding → List ℕ
heading_of key = codes "Key " ++ print key.0 ++ found_text key.1

-- The section shows the key's own history, with what was found in it. The nemesis has no record there,
-- so no steps are needed.
abbrev pub IsSectionOfKey : List Operation → Choice → Edn × Option Finding → Section → Type 0
IsSectionOfKey history choice key section =
    IsSectionOf (heading_of key) (history_of key.0 history) [] key.1 choice section

-- one section for each key of a history of tuples
pub record AreSectionsOf (history : List Operation) (choice : Choice)
    (findings : Option (List KeyFinding)) (sections : List Section)
    : Type 0 where
  pub tuples : AreTuples history
  pub each : AllZip (IsSectionOfKey history choice)
      (section_order (keys_found history findings)) sections

-- what is found stands in the order of the keys, if they were judged
abbrev pub AreOfKeys : List Operation → Option (List KeyFinding) → Type 0
AreOfKeys history None = Unit {0}
AreOfKeys history (Some findings) =
    map (λ finding. view finding.key) findings ≡ history_keys history
