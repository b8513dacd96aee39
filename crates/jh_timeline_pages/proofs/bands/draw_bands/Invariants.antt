use Rattle.std.proofs.Common.{◌≡◌, ◌≤◌, take}
use Rattle.std.specs.Io.KnownBytes.{Appends}
use Rattle.jh_timeline_pages.specs.Bands.{bands_behind}
use Rattle.jh_timeline_pages.proofs.BandLemmas.{run_behind}
use Rattle.jh_timeline_pages.proofs.bands.draw_bands.Given as goal

abbrev pub invariant-loop-band : goal.invariant-loop-band
invariant-loop-band g l =
    let contents = g.W.Write.contents in
    Appends (contents l.fn.writer) (contents l.writer) (bands_behind l.frame 0 0 (take l.band-index l.bands))
    × (run_behind l.frame 0 0 (take l.band-index l.bands) ≡ (l.last, l.count)) × (l.count ≤ l.band-index)
