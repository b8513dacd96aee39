use Rattle.std.proofs.Common.{◌≡◌, ◌<◌, length, ◌∙◌, arith}
use Rattle.std.specs.Prelude.{◌==◌}
use Rattle.std.specs.List.{Contains}
use Rattle.jh_grudge.specs.Grudges.{CompleteDrops}
use Rattle.jh_grudge.specs.Lists.{split_of, lists_of, AreDistinct}
use Rattle.jh_env.specs.Names.{node_places}
use Rattle.jh_step_texts.specs.NamedFaults.{touches}
use Rattle.jh_step_texts.proofs.LinkLemmas.{range_has}
use Rattle.jh_step_texts.proofs.GrudgeLemmas.{places_apart, split_exact, made_of, made_crossing}
use Rattle.jh_step_texts.proofs.named.split_off.Goals as goal

pub complete_grudge-requires : goal.complete_grudge-requires
complete_grudge-requires c =
    let n = length c.args.nodes.now in
    let all : c.deref.result.now ≡ node_places n = c.deref.ensures.value ∙ c.in_ok-all.ensures in
    let distinct : AreDistinct c.deref.result.now = rw all (places_apart n) in
    rw c.deref-in-Ok.ensures.value (c.in-Ok.ensures.distinct distinct)

pub returns-in-Ok : goal.returns-in-Ok
returns-in-Ok c =
    let n = length c.args.nodes.now in
    let all : c.deref.result.now ≡ node_places n = c.deref.ensures.value ∙ c.in_ok-all.ensures in
    let parts : lists_of c.deref-in-Ok.result.now ≡ split_of c.args.loner (node_places n) =
    rw (c.deref-in-Ok.ensures.value, ← all, ← c.place.ensures) c.in-Ok.ensures.parts.1 in
    let made = made_of c.complete_grudge.result _ (CompleteDrops (lists_of c.deref-in-Ok.result.now)) (touches c.args.loner) n (rw parts (split_exact n c.args.loner c.requires))
    c.complete_grudge.ensures.links c.complete_grudge.ensures.ascending in record {
      links = made;
      among = made_crossing c.complete_grudge.result (λ a. a == c.args.loner) n made;
    }

pub unreachable-requires : goal.unreachable-requires
unreachable-requires c =
    let n = length c.args.nodes.now in
    let all : c.deref.result.now ≡ node_places n = c.deref.ensures.value ∙ c.in_ok-all.ensures in
    let low : c.args.loner < n = c.requires in
    let has : Contains c.deref.result.now c.place.result = rw (all, c.place.ensures) (range_has 0 n c.args.loner (omega arith) (omega arith)) in
    (rw c.in-Err-UnknownNode.field-0-is at c.in-Err-UnknownNode.ensures.parts) has
