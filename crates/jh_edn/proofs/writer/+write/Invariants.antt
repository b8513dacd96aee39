use Rattle.std.proofs.Common.{take, codes}
use Rattle.std.specs.Io.KnownBytes.{Appends}
use Rattle.jh_edn.specs.Edn.{items_of, members_of}
use Rattle.jh_edn.specs.View.{views, view_pairs}
use Rattle.jh_edn.specs.Print.{joined_text, item_texts, member_texts}
use Rattle.jh_edn.proofs.writer.+write.Given as goal

abbrev pub invariant-write_items-loop-place : goal.invariant-write_items-loop-place
invariant-write_items-loop-place g l =
    let contents = g.W.Write.contents in
    Appends (contents l.fn.writer) (contents l.writer) (joined_text (codes " ") (item_texts (items_of (views (take l.place l.item-items)))))

abbrev pub invariant-write_pairs-loop-place : goal.invariant-write_pairs-loop-place
invariant-write_pairs-loop-place g l =
    let contents = g.W.Write.contents in
    Appends (contents l.fn.writer) (contents l.writer) (joined_text (codes ", ") (member_texts (members_of (view_pairs (take l.place l.pair-items)))))
