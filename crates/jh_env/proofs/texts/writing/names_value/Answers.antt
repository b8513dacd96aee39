use Rattle.std.proofs.Common.{◌≡◌, ◌<◌, ◌≤◌, ◌∙◌, ap, length, map, Some, None, arith, get_or}
use Rattle.std.specs.Prelude.{slice_get}
use Rattle.std.proofs.lemmas.Grind.{common_steps}
use Rattle.std.proofs.lemmas.List.{take_all}
use Rattle.std.proofs.lemmas.List.FromFn.{get_or-range_with_len, length-range_with_len}
use Rattle.jh_edn.specs.Edn.{str, vector, items_of}
use Rattle.jh_env.specs.Names.{node_places}
use Rattle.jh_env.proofs.TextWritingLemmas.{at_each_place, map_more}
use Rattle.jh_env.proofs.texts.writing.names_value.Goals as goal
use Rattle.jh_env.proofs.texts.writing.names_value.Goals.{in-Some+in_ok-string+in_ok-push, in_default}

pub loop-node-preserved : goal.loop-node-preserved
loop-node-preserved c =
    let names = c.args.nodes.now in
    let i = c.loop-node.node-index in
    let all : c.as_slice-node-items.result.now ≡ node_places (length names) = c.as_slice-node-items.ensures.value ∙ c.all.ensures.all in
    let below : i < length names = omega (arith, c.loop-node-test.true, ap length all, length-range_with_len 0 (length names)) in
    let at : get_or (node_places (length names)) i c.node-item.result ≡ i = get_or-range_with_len 0 (length names) i c.node-item.result below ∙ omega arith in
    let here : c.node-item.result ≡ i = c.node-item.is ∙ ap (λ ns. get_or ns i c.node-item.result) all ∙ at in
    elim c.match-name.branch [
      | in-Some+in_ok-string+in_ok-push w ↦
          let there : slice_get names i ≡ Some w.in-Some.name.now = grind (arith, common_steps, here) in
          let more = map_more str names i w.in-Some.name.now below there in
          grind (arith, common_steps, more)
      | in_default w ↦
          let none : slice_get names i ≡ None = grind (arith, common_steps, here) in
          absurd (at_each_place names i below none)
    ]

pub returns : goal.returns
returns c =
    let names = c.args.nodes.now in
    let all : c.as_slice-node-items.result.now ≡ node_places (length names) = c.as_slice-node-items.ensures.value ∙ c.all.ensures.all in
    let done : length names ≤ c.loop-node.node-index =
    omega (arith, c.loop-node-test.false, ap length all, length-range_with_len 0 (length names)) in
    ap (λ xs. vector (items_of xs)) (c.of.ensures ∙ c.loop-node.invariant ∙ ap (map str) (take_all c.loop-node.node-index names done))
