use Rattle.std.proofs.Common.{◌≡◌, drop}
use Rattle.jh_edn.specs.View.{view_pairs}
use Rattle.jh_env.specs.Text.{each_of, entries_under, all_entries}
use Rattle.jh_env.specs.TextInside.{list_with_front, entries_parsed}
use Rattle.jh_env.proofs.TextLemmas.{joined}
use Rattle.jh_env.proofs.texts.reading.all_entries.Given as goal

abbrev pub invariant-loop-section : goal.invariant-loop-section
invariant-loop-section l =
    list_with_front (entries_parsed l.entries.items) (joined (each_of (entries_under (view_pairs l.pairs)) (drop l.section-index l.section-items)))
    ≡ all_entries (view_pairs l.pairs)
