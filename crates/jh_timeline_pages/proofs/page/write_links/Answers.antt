use Rattle.std.proofs.Common.{subst}
use Rattle.std.specs.Io.KnownBytes.{Appends}
use Rattle.std.specs.List.{flat_map}
use Rattle.jh_edn.proofs.CitedLemmas.{appends_then}
use Rattle.jh_timeline_pages.proofs.ListLemmas.{numbered_all, numbered_next}
use Rattle.jh_timeline_pages.specs.Page.{section_link_text}
use Rattle.jh_timeline_pages.proofs.page.write_links.Goals as goal

pub loop-number-preserved : goal.loop-number-preserved
loop-number-preserved g c =
    let contents = g.W.Write.contents in
    let start = contents c.args.writer.now in
    let more = appends_then start (contents c.loop-number.writer) (contents c.write_link.new.writer) _ _ c.loop-number.invariant c.in_ok-write_link.ensures in
    subst (λ w. Appends start (contents c.write_link.new.writer) w)
    (numbered_next (λ numbered. section_link_text numbered.0 numbered.1) c.args.sections.now c.loop-number.number c.index-sections-number.result c.loop-number-test.true c.index-sections-number.is) more

pub returns : goal.returns
returns g c =
    let contents = g.W.Write.contents in
    subst (λ all. Appends (contents c.args.writer.now) (contents c.loop-number.writer) (flat_map (λ numbered. section_link_text numbered.0 numbered.1) all))
    (numbered_all c.args.sections.now c.loop-number.number c.loop-number-test.false) c.loop-number.invariant
