use Rattle.std.proofs.Common.{◌≡◌, ◌∙◌, ◌≤◌, ◌+◌, ap, subst, sym, arith}
use Rattle.std.specs.Io.KnownBytes.{Appends}
use Rattle.jh_edn.proofs.CitedLemmas.{appends_then}
use Rattle.jh_timeline_pages.proofs.BandLemmas.{bands_next, before_le, run_next}
use Rattle.jh_timeline_pages.specs.Bands.{band_from, band_text, bands_before}
use Rattle.jh_timeline_pages.proofs.bands.draw_bands.Goals as goal

pub loop-band-preserved : goal.loop-band-preserved
loop-band-preserved g c =
    let contents = g.W.Write.contents in
    let start = contents c.args.writer.now in
    let frame = c.args.frame in
    let band = c.band-item.result in
    let i = c.loop-band.band-index in
    let last = c.loop-band.last in
    let count = c.loop-band.count in
    let row = c.band_from-row.ensures in
    let before : c.bands_before-before.result ≡ bands_before (band_from frame band) last count =
    c.bands_before-before.ensures ∙ ap (λ r. bands_before r last count) row in
    let written = subst (λ n. Appends (contents c.loop-band.writer) (contents c.write_band.new.writer) (band_text frame n band)) before c.in_ok-write_band.ensures in
    let more = appends_then start (contents c.loop-band.writer) (contents c.write_band.new.writer) _ _ c.loop-band.invariant.0 written in
    let few : c.bands_before-before.result ≤ count = subst (λ n. n ≤ count) (sym before) (before_le (band_from frame band) last count) in (
      subst (λ w. Appends start (contents c.write_band.new.writer) w)
          (bands_next frame c.args.bands.now i last count band c.loop-band-test.true c.band-item.is c.loop-band.invariant.1) more,
      run_next frame c.args.bands.now i last count band c.loop-band-test.true c.band-item.is c.loop-band.invariant.1
          ∙ ap (λ r. (r, bands_before (band_from frame band) last count + 1)) (sym row)
          ∙ ap (λ n. (c.band_from-row.result, n + 1)) (sym before),
      omega (arith, few, c.loop-band.invariant.2),
    )
