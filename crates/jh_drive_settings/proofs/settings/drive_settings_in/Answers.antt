use Rattle.std.proofs.Common.{◌≡◌, None, inr, subst}
use Rattle.std.proofs.lemmas.Result.{MatchResult-weaker}
use Rattle.toml.specs.Data.{Members}
use Rattle.toml.specs.View.{table_view}
use Rattle.jh_settings.specs.declared.error.SettingsError.{SettingsError}
use Rattle.jh_settings.specs.declared.error.SettingsError.TheVariants.{NotToml, Unknown, Missing, BadValue, OutOfMemory}
use Rattle.jh_settings.specs.Keys.{HasKnownKeys, drive_keys, needed_drive_keys, first_missing}
use Rattle.jh_drive_settings.specs.Inside.{RefusesDriveValues}
use Rattle.jh_drive_settings.specs.Settings.{RefusesDriveDocument}
use Rattle.jh_drive_settings.proofs.settings.drive_settings_in.Goals as goal

-- where no key is unknown or missing, a document is refused for its values
refused : (document : Members) → HasKnownKeys drive_keys document → first_missing needed_drive_keys document ≡ None → (e : SettingsError) → RefusesDriveValues document e → RefusesDriveDocument document e
refused document known none NotToml h = h
refused document known none (Unknown name) h = absurd h
refused document known none (Missing key) h = (known, inr (none, h.0, h.1))
refused document known none (BadValue key) h = (known, none, h)
refused document known none OutOfMemory h = tt

pub returns : goal.returns
returns c =
    let document = table_view c.args.table.now in
    let known = subst (λ keys. HasKnownKeys keys document) c.drive_keys.ensures c.in_ok-refuse_unknown_or_missing_keys.ensures.0 in
    let none = subst (λ keys. first_missing keys document ≡ None) c.needed_drive_keys.ensures c.in_ok-refuse_unknown_or_missing_keys.ensures.1 in
    MatchResult-weaker c.settings_in.result c.settings_in.ensures (λ settings h. h) (λ e h. refused document known none e h)
