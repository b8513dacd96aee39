use Rattle.std.proofs.Common.{◌∙◌, ap, map, rules}
use Rattle.std.specs.Prelude.{filter}
use Rattle.std.proofs.lemmas.Fn.{filter_same}
use Rattle.jh_bands.specs.Bands.{view_band}
use Rattle.jh_bands.specs.declared.band.Band.{Band}
use Rattle.jh_timeline_sections.specs.Sections as rule
use Rattle.jh_timeline_sections.proofs.NemesisLemmas.{map_filter}
use Rattle.jh_timeline_sections.proofs.nemesis.bands_shown.Goals as goal

pub returns : goal.returns
returns c =
    let kept = filter_same _ (λ (band : Band). rule.is_active_in c.args.window (view_band band)) _ (λ band b after called. (search rules, search rules)) c.in_ok-bands.bands.items c.retain.new.self.items c.retain.ensures.filtered in
    ap (map view_band) kept ∙ map_filter view_band (rule.is_active_in c.args.window) c.in_ok-bands.bands.items ∙ ap (filter (rule.is_active_in c.args.window)) c.in_ok-bands.ensures.bands
