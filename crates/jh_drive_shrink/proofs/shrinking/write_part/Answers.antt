use Rattle.std.proofs.Common.{string_bytes, sym, subst}
use Rattle.std.proofs.KnownBytes.{Appends-trans}
use Rattle.std.specs.Io.KnownBytes.{Appends}
use Rattle.std.specs.List.{All}
use Rattle.jh_test_settings_texts.specs.WritableEntries.{IsWritableTestEntry}
use Rattle.jh_drive_shrink.specs.PartsInside.{place_numbers}
use Rattle.jh_drive_shrink.specs.ToldInside.{told_heading}
use Rattle.jh_drive_shrink.proofs.PartLemmas.{standing_all}
use Rattle.jh_drive_shrink.proofs.ShownLemmas.{means_part}
use Rattle.jh_drive_shrink.proofs.SeedLemmas.{seed_fits}
use Rattle.jh_drive_shrink.proofs.shrinking.write_part.Goals as goal

pub settings_with-requires-clause-seed : goal.settings_with-requires-clause-seed
settings_with-requires-clause-seed g c = let s = c.args.settings.settings in seed_fits _ s.test _ c.in_ok-part.part s.initial s.model s.budget c.in_ok-part.ensures c.requires.means.0

pub settings_with-requires-clause-written : goal.settings_with-requires-clause-written
settings_with-requires-clause-written g c =
    subst (λ made. All IsWritableTestEntry made.schedule) (sym c.in_ok-part.ensures)
    (standing_all IsWritableTestEntry 0 c.args.settings.settings.test.schedule (place_numbers c.args.places.now) c.requires.means.1)

pub returns : goal.returns
returns g c =
    let s = c.args.settings.settings in
    let text = string_bytes c.in_ok-text.text in
    let heading = subst (Appends (g.W.Write.contents c.args.writer.now) _) c.heading.ensures c.in_ok-write_bytes.ensures.written in (
      text,
      Appends-trans _ _ _ (told_heading c.args.told) text heading (rw c.as_bytes.ensures.value at c.in_ok-write_bytes-2.ensures.written),
      means_part _ s.test _ c.in_ok-part.part text s.initial s.model s.budget c.in_ok-part.ensures c.requires.means.0 c.in_ok-text.ensures.read_back,
    )
