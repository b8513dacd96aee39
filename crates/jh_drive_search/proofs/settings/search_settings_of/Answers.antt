use Rattle.std.proofs.Common.{◌∙◌, inr, refl, sym}
use Rattle.std.proofs.lemmas.Bool.{false≢true}
use Rattle.jh_drive_search.proofs.settings.search_settings_of.Goals as goal

pub returns-then-not-can_be_written : goal.returns-then-not-can_be_written
returns-then-not-can_be_written c =
    inr (
      (
        record { table = c.in-Ok.table; settings = c.in-Ok-drive_settings_in.settings },
        c.in-Ok.ensures,
        c.in-Ok-drive_settings_in.ensures,
        λ writable. false≢true (sym c.if-not-can_be_written.true ∙ c.can_be_written.ensures.1 writable),
      ),
      refl,
    )
