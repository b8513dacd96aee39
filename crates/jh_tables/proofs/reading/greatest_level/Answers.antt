use Rattle.std.proofs.Common.{◌≡◌, ℕ, ◌+◌, ◌∙◌, ap, max, arith}
use Rattle.std.specs.List.{range_with_len}
use Rattle.std.proofs.lemmas.List.Sums.{fold_push}
use Rattle.jh_tables.specs.Tallies.{level_held}
use Rattle.jh_tables.proofs.LevelLemmas.{range_push}
use Rattle.jh_tables.proofs.reading.greatest_level.Goals as goal

pub loop-place-preserved : goal.loop-place-preserved
loop-place-preserved c =
    let k = c.loop-place.place in
    let f = (λ (m i : ℕ). max m (level_held c.args.losses.now i)) in
    let e : 0 + k ≡ k = omega arith in
    rw (range_push 0 k, fold_push f c.args.start (range_with_len 0 k) (0 + k), ← c.loop-place.invariant, e)
    (c.max-greatest.ensures ∙ ap (λ m. max c.loop-place.greatest m) c.level_held.ensures)
