use Rattle.std.proofs.Common.{◌≡◌, drop}
use Rattle.jh_edn.specs.View.{view, views}
use Rattle.jh_env.specs.Text.{each_of, entry_in}
use Rattle.jh_env.specs.TextInside.{list_with_front, entries_parsed}
use Rattle.jh_env.proofs.texts.reading.push_entries.Given as goal

abbrev pub invariant-loop-element : goal.invariant-loop-element
invariant-loop-element l =
    list_with_front (entries_parsed l.entries.items) (each_of (λ v. entry_in l.section (view v)) (drop l.element-index l.elements))
    ≡ list_with_front (entries_parsed l.fn.entries.items) (each_of (entry_in l.section) (views l.elements))
