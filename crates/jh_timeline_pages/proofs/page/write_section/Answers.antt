use Rattle.std.proofs.Common.{◌∙◌, ap, subst}
use Rattle.std.proofs.lemmas.Result.{on_ok_weaker}
use Rattle.std.specs.Io.KnownBytes.{Appends}
use Rattle.std.specs.List.{flat_map}
use Rattle.jh_edn.proofs.CitedLemmas.{appends_then}
use Rattle.jh_timeline_pages.specs.Marks.{first_pointer}
use Rattle.jh_timeline_pages.specs.Page.{heading_text, jump_text, lane_text, window_text}
use Rattle.jh_timeline_pages.proofs.page.write_section.Goals as goal

pub returns : goal.returns
returns g c =
    let contents = g.W.Write.contents in
    let start = contents c.args.writer.now in
    let heading =
    subst (λ w. Appends (contents c.put.new.writer) (contents c.write_heading.new.writer) (heading_text c.args.number w)) c.as_slice.ensures.value c.in_ok-write_heading.ensures in
    let window =
    subst (λ total. Appends (contents c.write_heading.new.writer) (contents c.write_window.new.writer) (window_text c.args.section.now.window total))
    c.len.ensures c.in_ok-write_window.ensures in
    let lanes =
    subst (λ ls. Appends (contents c.put-2.new.writer) (contents c.write_lanes.new.writer) (flat_map lane_text ls))
    c.as_slice-3.ensures.value c.in_ok-write_lanes.ensures in
    let one = appends_then start (contents c.put.new.writer) (contents c.write_heading.new.writer) _ _ c.in_ok-put.ensures.bytes heading in
    let two = appends_then start (contents c.write_heading.new.writer) (contents c.write_window.new.writer) _ _ one window in
    let jump =
    subst (λ mark. Appends (contents c.write_left_out.new.writer) (contents c.write_jump.new.writer) (jump_text c.args.number mark))
    (c.first_pointer.ensures ∙ ap first_pointer c.as_slice-2.ensures.value) c.in_ok-write_jump.ensures in
    let left_out = appends_then start (contents c.write_window.new.writer) (contents c.write_left_out.new.writer) _ _ two c.in_ok-write_left_out.ensures in
    let jumped = appends_then start (contents c.write_left_out.new.writer) (contents c.write_jump.new.writer) _ _ left_out jump in
    let three = appends_then start (contents c.write_jump.new.writer) (contents c.put-2.new.writer) _ _ jumped c.in_ok-put-2.ensures.bytes in
    let four = appends_then start (contents c.put-2.new.writer) (contents c.write_lanes.new.writer) _ _ three lanes in
    let five = appends_then start (contents c.write_lanes.new.writer) (contents c.put-3.new.writer) _ _ four c.in_ok-put-3.ensures.bytes in
    let six = appends_then start (contents c.put-3.new.writer) (contents c.write_picture.new.writer) _ _ five c.in_ok-write_picture.ensures in
    on_ok_weaker c.put-4.result (λ end. appends_then start (contents c.write_picture.new.writer) (contents c.put-4.new.writer) _ _ six end) c.put-4.ensures.bytes
