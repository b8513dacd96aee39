use Rattle.std.proofs.Common.{◌∙◌, ap, subst}
use Rattle.std.specs.Io.KnownBytes.{Appends}
use Rattle.std.specs.Prelude.{OnOk}
use Rattle.jh_timeline_pages.specs.Drawings.{place_text}
use Rattle.jh_timeline_pages.specs.Pixels.{left_of, top_of}
use Rattle.jh_timeline_pages.proofs.bars.write_bar_place.Goals as goal

pub returns : goal.returns
returns g c =
    let contents = g.W.Write.contents in
    let bar = c.args.bar.now in
    let frame = c.args.frame in
    let same =
    ap (λ left. place_text left c.top_of-top.result c.height_of.result) c.left_of-left.ensures.left
    ∙ ap (λ top. place_text (left_of frame bar.lane) top c.height_of.result) c.top_of-top.ensures
    ∙ ap (λ height. place_text (left_of frame bar.lane) (top_of frame bar.call.first) height) c.height_of.ensures in
    subst (λ w. OnOk c.write_place.result (Appends (contents c.args.writer.now) (contents c.write_place.new.writer) w)) same c.write_place.ensures
