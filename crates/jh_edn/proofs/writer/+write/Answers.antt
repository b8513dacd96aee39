use Rattle.std.proofs.Common.{arith}
use Rattle.jh_edn.proofs.PrintLemmas.{appends_then, items_push, members_push}
use Rattle.jh_edn.proofs.writer.+write.Goals as goal

pub write_items-loop-place-preserved : goal.write_items-loop-place-preserved
write_items-loop-place-preserved g t c =
    let contents = g.W.Write.contents in
    let xs = c.deref-item-items.result.now in
    let x = c.item-item.result in
    let a = appends_then (contents c.args.writer.now) (contents c.loop-place.writer) (contents c.separate.new.writer) _ _ c.loop-place.invariant c.in_ok-separate.ensures.bytes in
    let b = appends_then (contents c.args.writer.now) (contents c.separate.new.writer) (contents c.write.new.writer) _ _ a c.in_ok-write.ensures.bytes in
    rw (items_push xs c.loop-place.place x (omega arith), ← c.item-item.is) b

pub write_pairs-loop-place-preserved : goal.write_pairs-loop-place-preserved
write_pairs-loop-place-preserved g t c =
    let contents = g.W.Write.contents in
    let start = contents c.args.writer.now in
    let xs = c.deref-pair-items.result.now in
    let p = c.pair-item.result in
    let a = appends_then start (contents c.loop-place.writer) (contents c.separate.new.writer) _ _ c.loop-place.invariant c.in_ok-separate.ensures.bytes in
    let b = appends_then start (contents c.separate.new.writer) (contents c.write.new.writer) _ _ a c.in_ok-write.ensures.bytes in
    let d = appends_then start (contents c.write.new.writer) (contents c.put.new.writer) _ _ b c.in_ok-put.ensures.bytes in
    let e = appends_then start (contents c.put.new.writer) (contents c.write-in-loop-place.new.writer) _ _ d c.in_ok-write-2.ensures.bytes in
    rw (members_push xs c.loop-place.place p (omega arith), ← c.pair-item.is) e
