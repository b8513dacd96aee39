-- When an entry of a schedule is due, as settings write it (this project's own).
use Rattle.std.specs.Prelude.{ℕ, ℤ, pos, Bool, false, List, [], ◌∷◌, codes, nat_le, if◌then◌else◌}
use Rattle.std.specs.Prelude.{Option, Some}
use Rattle.std.specs.Str.{bytes_eq}
use Rattle.jh_edn.specs.Edn.{Edn, int, keyword, elements_of}
use Rattle.jh_gen.specs.DriverState.{max_calls}
use Rattle.jh_settings.specs.Limits.{max_due_at, max_time_ms}
use Rattle.jh_settings_reasons.specs.declared.key_texts.SettingsKind.{SettingsKind}

abbrev pub is_up_to : ℤ → ℕ → Bool
is_up_to (pos n) most = nat_le n most
is_up_to _ most = false

-- a time, as settings of a test write one
abbrev pub is_time_in : Option (List Edn) → Bool
is_time_in (Some (keyword name ∷ int z ∷ [])) =
    if bytes_eq name (codes "ms") then is_up_to z max_time_ms else false
is_time_in _ = false

-- When an entry of a test is due: a number of answered calls, or a time. The settings themselves
-- have the same limit of calls, `max_calls`.
abbrev pub is_test_moment : Edn → Bool
is_test_moment (int z) = is_up_to z max_calls
is_test_moment x = is_time_in (elements_of x)

abbrev pub is_run_moment : Edn → Bool
is_run_moment (int z) = is_up_to z max_due_at
is_run_moment _ = false

-- an element says when an entry is due
abbrev pub is_moment : SettingsKind → Edn → Bool
is_moment SettingsKind.Run x = is_run_moment x
is_moment SettingsKind.Test x = is_test_moment x
