use Rattle.std.proofs.Common.{◌≡◌, ◌<◌, length, rules}
use Rattle.jh_tables.proofs.EntryLemmas.{mark_more}
use Rattle.jh_tables.proofs.entries.mark_links.Goals as goal

pub loop-from-preserved : goal.loop-from-preserved
loop-from-preserved c =
    let i = c.loop-from.from-index in
    let x = c.loop-from-item.result in
    let known : (x.0 < 64) × (x.1 < 64) = rw (← c.loop-from-item.is) at (c.requires i x c.loop-from-test.true) in
    let size : length c.loop-from.words ≡ 64 = search rules in
    rw (c.place-source.ensures, c.place.ensures)
    (mark_more c.args.links.now i c.args.words.now c.loop-from.words x c.loop-from-test.true c.loop-from-item.is known.0 known.1 size c.loop-from.invariant)
