-- The kinds of faults that an option names (this project's own): their names, in any order, with
-- commas between and nothing else.
use Rattle.std.specs.Prelude.{ℕ, ◌==◌, Bool, List, codes, if◌then◌else◌, Option, Some, None, is_some}
use Rattle.std.specs.List.{list_all, list_any, slice_split}
use Rattle.std.specs.Str.{bytes_eq}
use Rattle.jh_random_faults.specs.declared.kinds.Palette.{Palette}
use Rattle.jh_step_texts.specs.Kinds.{fault_kind_named}

-- what stands between commas
abbrev pub names_in : List ℕ → List (List ℕ)
names_in text = slice_split (λ byte. byte == 44) text

abbrev pub is_kind_name : List ℕ → Bool
is_kind_name name = is_some (fault_kind_named name)

-- the text names kinds and nothing else
abbrev pub names_kinds : List ℕ → Bool
names_kinds text = list_all is_kind_name (names_in text)

-- the text names this kind
abbrev pub names_kind : List ℕ → List ℕ → Bool
names_kind text kind = list_any (λ name. bytes_eq name kind) (names_in text)

-- the palette that a text names, which has the kinds that it names
abbrev pub palette_named : List ℕ → Option Palette
palette_named text =
    if names_kinds text
    then Some (record {
      cut = names_kind text (codes "cut");
      slow = names_kind text (codes "slow");
      loss = names_kind text (codes "loss");
      fix = names_kind text (codes "fix");
      pause = names_kind text (codes "pause");
      kill = names_kind text (codes "kill");
      bump = names_kind text (codes "bump");
    })
    else None
