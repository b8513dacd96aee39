-- How a test of a real database ends otherwise than with a verdict (this project's own): refused settings
-- and a line that is no reply have status 3, an input that ended early and errors of the machine 4.
use Rattle.std.specs.Prelude.{◌++◌, ℕ, List, Option, Some, None, codes, option_map}
use Rattle.std.specs.Fmt.{decimal}
use Rattle.jh_check.specs.declared.error.CheckError.TheVariants as CheckError
use Rattle.jh_independent.specs.declared.error.KeysError.TheVariants as KeysError
use Rattle.jh_settings.specs.declared.error.SettingsError.TheVariants as SettingsError
use Rattle.jh_test_parts.specs.Complaints.{complaint_text}
use Rattle.jh_drive.specs.declared.error.DriveError.{DriveError}
use Rattle.jh_drive.specs.declared.error.DriveError.TheVariants.{Settings, SettingsRead, Reply}
use Rattle.jh_drive.specs.declared.error.DriveError.TheVariants.{BadPalette}
use Rattle.jh_drive.specs.declared.error.DriveError.TheVariants.{RepliesEnded, Read, TooManyTurns}
use Rattle.jh_drive.specs.declared.error.DriveError.TheVariants.{Mismatch}
use Rattle.jh_drive.specs.declared.error.DriveError.TheVariants.{Write, OutOfMemory}

abbrev pub drive_status : DriveError → ℕ
drive_status (Settings error) = 3
drive_status SettingsRead = 4
drive_status BadPalette = 3
drive_status (Reply number why) = 3
drive_status RepliesEnded = 4
drive_status Read = 4
drive_status TooManyTurns = 4
drive_status Mismatch = 4
drive_status Write = 4
drive_status OutOfMemory = 4

-- The text of an error. That of settings is `jh_settings`' own, which no clause knows.
abbrev pub drive_text : DriveError → Option (List ℕ)
drive_text (Settings error) = None
drive_text SettingsRead = Some (codes "settings: read failed")
drive_text BadPalette =
    Some (codes "--palette: not kinds of cut, slow, loss, fix, pause, kill, bump, with commas between")
drive_text (Reply number why) =
    option_map (λ text. codes "reply " ++ (decimal number ++ (codes ": " ++ text)))
    (complaint_text why)
drive_text RepliesEnded = Some (codes "replies ended")
drive_text Read = Some (codes "read failed")
drive_text TooManyTurns = Some (codes "too many turns")
drive_text Mismatch = Some (codes "mismatch")
drive_text Write = Some (codes "write failed")
drive_text OutOfMemory = Some (codes "out of memory")

-- what a refusal of settings means
abbrev pub drive_settings_error : SettingsError.the_data → DriveError
drive_settings_error SettingsError.OutOfMemory = OutOfMemory
drive_settings_error error = Settings error

-- what a refusal of a history by a checker means, and one of its keys
abbrev pub check_refusal : CheckError.the_data → DriveError
check_refusal CheckError.OutOfMemory = OutOfMemory
check_refusal error = Mismatch

abbrev pub keys_refusal : KeysError.the_data → DriveError
keys_refusal KeysError.OutOfMemory = OutOfMemory
keys_refusal error = Mismatch
