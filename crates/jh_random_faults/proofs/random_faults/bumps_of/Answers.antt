use Rattle.std.proofs.Common.{rules, FitsSigned, w64, ◌≡◌, ◌++◌, ◌∷◌, [], ℕ, List, take, ap, subst, sym, ◌∙◌}
use Rattle.std.specs.Prelude.{ℤ, map}
use Rattle.std.specs.List.{All}
use Rattle.std.proofs.lemmas.Int.{to_z-of_z}
use Rattle.std.proofs.lemmas.List.{map_more}
use Rattle.std.proofs.lemmas.List.Elements.{All-push}
use Rattle.jh_env.specs.Faults.{IsBumpAmount}
use Rattle.jh_random_faults.specs.RandomFaults.{offset_of}
use Rattle.jh_random_faults.proofs.random_faults.bumps_of.Goals as goal

pub loop-node-preserved : goal.loop-node-preserved
loop-node-preserved c =
    let nodes = c.args.nodes.now in
    let i = c.loop-node.node-index in
    let node = c.node-item.result in
    let f : ℕ → ℕ × ℤ = λ node. (node, offset_of c.args.choice) in
    let fits : FitsSigned w64 c.offset_of.result = search rules in
    let round = to_z-of_z w64 c.offset_of.result fits in
    let pushed : c.push.new.self.items ≡ c.loop-node.bumps.items ++ (node, c.offset_of.result) ∷ [] = rw round at c.in_ok-push.ensures.items in
    record {
      so_far = pushed
          ∙ ap (λ (bumps : List (ℕ × ℤ)). bumps ++ (node, c.offset_of.result) ∷ []) c.loop-node.invariant.so_far
          ∙ ap (λ (ms : ℤ). map f (take i nodes) ++ (node, ms) ∷ []) c.offset_of.ensures.offset
          ∙ ap (λ (item : ℕ). map f (take i nodes) ++ f item ∷ []) c.node-item.is
          ∙ sym (map_more f nodes i node c.loop-node-test.true);
      amounts = subst (All (λ bump. IsBumpAmount bump.1)) (sym pushed)
          (All-push (λ bump. IsBumpAmount bump.1) c.loop-node.bumps.items (node, c.offset_of.result) c.loop-node.invariant.amounts c.offset_of.ensures.bump);
    }
