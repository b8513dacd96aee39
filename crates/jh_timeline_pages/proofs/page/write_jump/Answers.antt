use Rattle.std.proofs.Common.{subst, sym}
use Rattle.std.proofs.lemmas.Result.{on_ok_weaker}
use Rattle.std.specs.Io.KnownBytes.{Appends}
use Rattle.std.specs.Prelude.{OnOk, option_map}
use Rattle.jh_edn.proofs.CitedLemmas.{appends_then}
use Rattle.jh_timeline_pages.specs.Page.{jump_text}
use Rattle.jh_timeline_pages.proofs.page.write_jump.Goals as goal

pub returns-in_ok-write_mark_name-in-Some : goal.returns-in_ok-write_mark_name-in-Some
returns-in_ok-write_mark_name-in-Some g c =
    let contents = g.W.Write.contents in
    let start = contents c.args.writer.now in
    let one = appends_then start (contents c.put.new.writer) (contents c.write_mark_name.new.writer) _ _ c.in_ok-put-in-Some.ensures.bytes c.in_ok-write_mark_name-in-Some.ensures in
    subst (λ mark. OnOk c.put-in-Some.result (Appends start (contents c.put-in-Some.new.writer) (jump_text c.args.number (option_map (λ mark. mark.now) mark))))
    (sym c.in-Some.is)
    (on_ok_weaker c.put-in-Some.result (λ end. appends_then start (contents c.write_mark_name.new.writer) (contents c.put-in-Some.new.writer) _ _ one end) c.put-in-Some.ensures.bytes)
