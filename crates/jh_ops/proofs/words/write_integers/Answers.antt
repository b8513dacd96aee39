use Rattle.std.proofs.Common.{◌≡◌, ◌+◌, ◌<◌, length, take, ◌∙◌, arith, rules}
use Rattle.std.proofs.lemmas.List.{take-set-le, drop-set-lt}
use Rattle.jh_edn.specs.View.{view, views}
use Rattle.jh_ops.proofs.RecordLemmas.{put, drop_more, views_more}
use Rattle.jh_ops.proofs.words.write_integers.Goals as goal

pub loop-place-preserved : goal.loop-place-preserved
loop-place-preserved c =
    let l = c.loop-place in
    let within : 3 + l.place < length l.words = search rules in
    let value = view c.index-items-place.result in
    let there = put l.words l.place c.integer_word.result (views (take l.place c.args.items.now)) value within l.invariant.1 c.integer_word.ensures in (
      take-set-le 3 l.words (3 + l.place) c.integer_word.result (omega arith) ∙ l.invariant.0,
      rw (views_more c.args.items.now l.place c.index-items-place.result (search rules) c.index-items-place.is) there,
      drop-set-lt (3 + (l.place + 1)) l.words (3 + l.place) c.integer_word.result (omega arith) ∙ drop_more (3 + l.place) (3 + (l.place + 1)) l.words c.args.words.now (omega arith) l.invariant.2,
    )

pub returns-clause-after : goal.returns-clause-after
returns-clause-after c =
    let all : c.loop-place.place ≡ length c.args.items.now = search rules in
    rw all at c.loop-place.invariant.2
