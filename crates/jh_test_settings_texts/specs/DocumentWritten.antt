-- The TOML document that is written with the seed and the schedule of a test (this project's own; the
-- keys and the kinds of value are those of the settings of a test).
use Rattle.std.specs.Prelude.{ℕ, pos, List, [], ◌∷◌, map, codes}
use Rattle.toml.specs.Data.{array, Items, Members}
use Rattle.toml.specs.View.{items_of as data_items}
use Rattle.jh_edn.specs.Edn.{Edn, int, keyword, vector, items_of}
use Rattle.jh_step_texts.specs.StepWritten.{edn_of_step}
use Rattle.jh_settings.specs.declared.keys.Key.{Key}
use Rattle.jh_test_parts.specs.declared.parts.TestEntry.{TestEntry}
use Rattle.jh_test_parts.specs.declared.parts.When.{When}
use Rattle.jh_test_parts.specs.Test.{TestValue}
use Rattle.jh_settings_texts.specs.DocumentWritten.{printed_text, whole_number}
use Rattle.jh_settings_texts.specs.TableInside.{put_key}

-- AT: after so many answered calls, or at `[:ms T]`
abbrev pub when_value : When → Edn
when_value (When.Calls n) = int (pos n)
when_value (When.Milliseconds n) = vector (items_of (keyword (codes "ms") ∷ int (pos n) ∷ []))

-- the value of an entry: AT and STEP, over nodes of these names
abbrev pub test_entry_value : List (List ℕ) → TestEntry → Edn
test_entry_value names entry =
    vector (items_of (when_value entry.at ∷ edn_of_step names entry.step ∷ []))

-- the text of each entry, in order
abbrev pub test_entry_texts : List (List ℕ) → List TestEntry → Items
test_entry_texts names schedule =
    data_items (map (λ entry. printed_text (test_entry_value names entry)) schedule)

-- a document with the seed and the schedule of a test under their keys, and all else as it was
abbrev pub rewritten_document : TestValue → Members → Members
rewritten_document test document =
    put_key Key.Schedule (array (test_entry_texts test.start.names test.schedule))
    (put_key Key.Seed (whole_number test.seed) document)
