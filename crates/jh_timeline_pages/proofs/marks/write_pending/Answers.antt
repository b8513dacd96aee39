use Rattle.std.proofs.Common.{◌∙◌, subst, sym}
use Rattle.std.proofs.lemmas.Result.{on_ok_weaker}
use Rattle.std.specs.Io.KnownBytes.{Appends}
use Rattle.std.specs.Prelude.{OnOk, Option}
use Rattle.jh_edn.proofs.CitedLemmas.{appends_then}
use Rattle.jh_timeline.specs.declared.marks.Place.{Place}
use Rattle.jh_timeline_pages.specs.Marks.{pending_meaning}
use Rattle.jh_timeline_pages.proofs.marks.write_pending.Goals as goal

pub returns-in_ok-put-in-Some-clause-bytes : goal.returns-in_ok-put-in-Some-clause-bytes
returns-in_ok-put-in-Some-clause-bytes g c =
    let contents = g.W.Write.contents in
    let start = contents c.args.writer.now in
    subst (λ (place : Option Place). OnOk c.write_place_meaning.result (Appends start (contents c.write_place_meaning.new.writer) (pending_meaning place))) (sym c.in-Some.is)
    (on_ok_weaker c.write_place_meaning.result (λ end. appends_then start (contents c.put.new.writer) (contents c.write_place_meaning.new.writer) _ _ c.in_ok-put-in-Some.ensures.bytes end) c.write_place_meaning.ensures.bytes)

pub returns-in-None-clause-bytes : goal.returns-in-None-clause-bytes
returns-in-None-clause-bytes g c =
    let contents = g.W.Write.contents in
    let start = contents c.args.writer.now in
    subst (λ (place : Option Place). OnOk c.put-in-None.result (Appends start (contents c.put-in-None.new.writer) (pending_meaning place))) (sym c.in-None.is) c.put-in-None.ensures.bytes
