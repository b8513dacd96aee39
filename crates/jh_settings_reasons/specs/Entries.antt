-- Why a value is no entry of a schedule (this project's own).
use Rattle.std.specs.Prelude.{◌≡◌, ℕ, List, [], ◌∷◌, codes, if◌then◌else◌, Option, Some}
use Rattle.std.specs.Prelude.{None, Result, Ok, Err, MatchOption}
use Rattle.toml.specs.Data.{Data}
use Rattle.jh_edn.specs.Edn.{Edn, elements_of}
use Rattle.jh_nemesis.specs.declared.steps.Step.{Step}
use Rattle.jh_step_texts.specs.StepText.{parsed_step}
use Rattle.jh_step_texts.specs.declared.steps.StepTextError.{StepTextError}
use Rattle.jh_settings_reasons.specs.TextErrors.{IsOneElement, RefusesElementText, text_error_text}
use Rattle.jh_settings_reasons.specs.Moments.{is_moment}
use Rattle.jh_settings_reasons.specs.declared.key_texts.SettingsKind.{SettingsKind}
use Rattle.jh_settings_reasons.specs.declared.schedule.EntryError.{EntryError}

-- The text of an error; that of an error of EDN or of a step is that error's own, which no clause knows.
-- The numbers in a text are `max_due_at` and `max_time_ms` of jh_settings, and `max_calls` of jh_gen.
abbrev pub entry_error_text : EntryError → Option (List ℕ)
entry_error_text (EntryError.Text error) = text_error_text error
entry_error_text EntryError.NoPair = Some (codes "not [AT STEP]")
entry_error_text (EntryError.Moment SettingsKind.Run) =
    Some (codes "AT is no number from 0 to 10000")
entry_error_text (EntryError.Moment SettingsKind.Test) =
    Some (codes "AT is no number from 0 to 1000000, and no [:ms T] with T from 0 to 86400000")
entry_error_text (EntryError.Step error) = None

abbrev pub parsed_step_error : Result Step StepTextError → Option EntryError
parsed_step_error (Ok step) = None
parsed_step_error (Err error) = Some (EntryError.Step error)

abbrev pub pair_error : SettingsKind → List (List ℕ) → Option (List Edn) → Option EntryError
pair_error kind names (Some (at ∷ step ∷ [])) =
    if is_moment kind at then parsed_step_error (parsed_step names step) else Some (EntryError.Moment kind)
pair_error kind names _ = Some EntryError.NoPair

-- why an element is no entry over nodes of these names, if it is none
abbrev pub element_error : SettingsKind → List (List ℕ) → Edn → Option EntryError
element_error kind names x = pair_error kind names (elements_of x)

-- the value is a text of an entry
abbrev pub IsEntry : SettingsKind → List (List ℕ) → Data → Type 0
IsEntry kind names value = (x : Edn) × IsOneElement value x × (element_error kind names x ≡ None)

-- the value is a text of one element, to which the error applies
abbrev pub HasElementError : SettingsKind → List (List ℕ) → Data → EntryError → Type 0
HasElementError kind names value error =
    (x : Edn) × IsOneElement value x × (element_error kind names x ≡ Some error)

-- why a value is no text of an entry
abbrev pub RefusesEntryText : SettingsKind → List (List ℕ) → Data → EntryError → Type 0
RefusesEntryText kind names value (EntryError.Text error) = RefusesElementText value error
RefusesEntryText kind names value error = HasElementError kind names value error

abbrev pub IsEntryError : SettingsKind → List (List ℕ) → Data → Option EntryError → Type 0
IsEntryError kind names value found =
    MatchOption found (IsEntry kind names value) (RefusesEntryText kind names value)
