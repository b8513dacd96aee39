use Rattle.std.proofs.lemmas.Result.{on_ok_weaker}
use Rattle.jh_edn.proofs.PrintLemmas.{appends_then}
use Rattle.jh_edn.proofs.PartLemmas.{item_texts_map}
use Rattle.jh_edn.proofs.parts.write_vector.Goals as goal

pub returns-clause-bytes : goal.returns-clause-bytes
returns-clause-bytes g c =
    let contents = g.W.Write.contents in
    let start = contents c.args.writer.now in
    let a = appends_then start (contents c.put.new.writer) (contents c.write_elements.new.writer) _ _ c.in_ok-put.ensures.bytes c.in_ok-write_elements.ensures.bytes in
    on_ok_weaker c.put-2.result (λ end. rw (item_texts_map g.T.Element.value c.args.items.now) (appends_then start (contents c.write_elements.new.writer) (contents c.put-2.new.writer) _ _ a end)) c.put-2.ensures.bytes
