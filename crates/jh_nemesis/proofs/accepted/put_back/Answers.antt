use Rattle.std.proofs.Common.{◌≡◌, ◌∙◌, length, nat_lt, rules, ap, tests}
use Rattle.std.specs.Prelude.{insert}
use Rattle.std.specs.List.{position, position_or_len}
use Rattle.std.proofs.lemmas.Iterator.{YieldsList-from_slice}
use Rattle.std.proofs.lemmas.Iterator.Search.{position_from_yields_List}
use Rattle.jh_nemesis.proofs.StampLemmas.{position_or_end}
use Rattle.jh_nemesis.proofs.accepted.put_back.Goals as goal

pub returns : goal.returns
returns c =
    let active = c.args.active.now.items in
    let found : c.position-higher.result ≡ position (nat_lt c.args.stamp) active =
    position_from_yields_List (nat_lt c.args.stamp) _ _ _ c.position-higher.ensures.ran (YieldsList-from_slice active cc)
    (λ x b q called. search (rules, tests)) in
    let end : c.len.result ≡ length active = c.len.ensures.value in
    let at : c.unwrap_or.result ≡ position_or_len (nat_lt c.args.stamp) active =
    c.unwrap_or.ensures ∙ rw (found, end) (position_or_end (nat_lt c.args.stamp) active) in
    c.insert.ensures.items ∙ ap (λ index. insert active index c.args.stamp) at
