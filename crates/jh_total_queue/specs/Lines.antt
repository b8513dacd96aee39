-- The value of the result, a map, whose printed text is its one line (this project's own; keys and
-- multisets, as maps from values to counts, are those of jepsen.checker).
use Rattle.std.specs.Prelude.{pos, [], ◌∷◌, codes}
use Rattle.jh_edn.specs.Edn.{Edn, int, keyword}
use Rattle.jh_check.specs.Lines.{map_with_verdict, tally_value}
use Rattle.jh_total_queue.specs.declared.total_queue.TotalQueueResult.{TotalQueueResult}

abbrev pub total_queue_value : TotalQueueResult → Edn
total_queue_value result =
    map_with_verdict result.verdict
    ((keyword (codes "attempted"), int (pos result.attempted))
    ∷ (keyword (codes "acknowledged"), int (pos result.acknowledged))
    ∷ (keyword (codes "ok"), int (pos result.ok))
    ∷ (keyword (codes "lost"), tally_value result.lost)
    ∷ (keyword (codes "unexpected"), tally_value result.unexpected)
    ∷ (keyword (codes "duplicated"), tally_value result.duplicated)
    ∷ (keyword (codes "recovered"), tally_value result.recovered) ∷ [])
