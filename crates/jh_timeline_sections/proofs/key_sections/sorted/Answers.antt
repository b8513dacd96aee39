use Rattle.std.proofs.lemmas.List.Sorted.{answers_always, IsStrictWeakOrder-by_number}
use Rattle.jh_edn.proofs.CitedLemmas.{sorted_is}
use Rattle.jh_timeline_sections.specs.ShownKeysInside.{is_shown_before}
use Rattle.jh_timeline_sections.specs.KeySections.{section_rank}
use Rattle.jh_timeline_sections.specs.declared.key_sections.ShownKey.{ShownKey}
use Rattle.jh_timeline_sections.proofs.key_sections.sorted.Goals as goal

pub returns : goal.returns
returns c =
    let sorted = c.in_ok-sort_by.ensures in
    let order = IsStrictWeakOrder-by_number (λ (one : ShownKey). section_rank one.found) in
    sorted_is is_shown_before order c.args.shown.items c.sort_by.new.self.items
    (sorted.sorted is_shown_before order (answers_always _ _ _ (λ f a r f' k. k.met)))
    (sorted.stable is_shown_before order (answers_always _ _ _ (λ f a r f' k. k.met)))
