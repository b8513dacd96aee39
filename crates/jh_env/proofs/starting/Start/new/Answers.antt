use Rattle.std.proofs.Common.{◌≡◌, ◌*◌, ◌∙◌, length, refl, replicate}
use Rattle.jh_env.specs.Cells.{calm_link, running_node}
use Rattle.jh_env.proofs.StartLemmas.{calm_start}
use Rattle.jh_env.proofs.starting.Start.new.Goals as goal

pub returns : goal.returns
returns c =
    let count = length c.args.nodes in
    let links : c.in_ok-vec.field-0.items ≡ replicate (count * count) calm_link = c.in_ok-vec.ensures.items_if_clones_equal (λ y e. e) ∙ rw (c.calm.ensures, c.len-count.ensures.len) refl in
    let nodes : c.in_ok-vec-2.field-0.items ≡ replicate count running_node = c.in_ok-vec-2.ensures.items_if_clones_equal (λ y e. e) ∙ rw (c.running.ensures, c.len-count.ensures.len) refl in
    (refl, calm_start c.args.nodes c.in_ok-vec.field-0.items c.in_ok-vec-2.field-0.items links nodes)
