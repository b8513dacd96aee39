-- All cells of an environment are looked at where each node is looked at, and each link between two.
use Rattle.std.proofs.Common.{◌≡◌, ℕ, ◌<◌, Bool, List, length, Option, Some, None, refl, sym, subst, ◌∙◌, inl, inr}
use Rattle.std.specs.Prelude.{◌==◌, ◌&&◌, not, nat_lt, IfSome}
use Rattle.std.specs.List.{All}
use Rattle.std.proofs.Math.Nat.{zero-add}
use Rattle.std.proofs.lemmas.Bool.{and_parts, cases_Bool, ltb-true, cond-false}
use Rattle.std.proofs.lemmas.List.FromFn.{get_or-range_with_len, length-range_with_len}
use Rattle.std.proofs.lemmas.Option.{slice_get_within}
use Rattle.jh_env.specs.Cells.{Table, Link, link_at}
use Rattle.jh_env.specs.Names.{node_places}
use Rattle.jh_env.specs.Overlay.{EnvValue, cells_of}
use Rattle.jh_env.specs.Starting.{IsStartingLink, IsStartingNode}
use Rattle.jh_settings_texts.specs.StartInside.{HasStartingCells, MayStartLink, MayStartNode}

none_not : {A : Type 0} (x : A) → None ≡ Some x → ⊥
none_not x e = cc

link_within : (t : Table) (a b : ℕ) (link : Link) → link_at t a b ≡ Some link → (a < length t.nodes) × (b < length t.nodes)
link_within t a b link there =
    let within : Bool = nat_lt a (length t.nodes) && (nat_lt b (length t.nodes) && not (a == b)) in
    elim (cases_Bool within) [
      | inl is ↦
          let parts = and_parts (nat_lt a (length t.nodes)) (nat_lt b (length t.nodes) && not (a == b)) is in
          (ltb-true a (length t.nodes) parts.0, ltb-true b (length t.nodes) (and_parts (nat_lt b (length t.nodes)) (not (a == b)) parts.1).0)
      | inr not_is ↦ absurd (none_not link (sym (cond-false within (Some _) None not_is) ∙ there))
    ]

-- what is so of each place is so of this one
at_place : (P : ℕ → Type 0) (n a : ℕ) → All P (node_places n) → a < n → P a
at_place P n a all below = subst P (get_or-range_with_len 0 n a a below ∙ zero-add a) (all a a (subst (λ k. a < k) (sym (length-range_with_len 0 n)) below))

if_some : {A : Type 0} (P : A → Type 0) (o : Option A) → ((x : A) → o ≡ Some x → P x) → IfSome o P
if_some P None each = tt
if_some P (Some x) each = each x refl

pub all_starting : (env : EnvValue) → length (cells_of env).nodes ≡ length env.names
    → All (λ from. All (MayStartLink env from) (node_places (length env.names))) (node_places (length env.names))
    → All (MayStartNode env) (node_places (length env.names)) → HasStartingCells env
all_starting env whole links nodes = record {
  links = λ a b link there.
      let within = link_within (cells_of env) a b link there in
      let n : ℕ = length env.names in
      let from = at_place (λ from. All (MayStartLink env from) (node_places n)) n a links (subst (λ k. a < k) whole within.0) in
      subst (λ o. IfSome o IsStartingLink) there (at_place (MayStartLink env a) n b from (subst (λ k. b < k) whole within.1));
  nodes = λ a cell there.
      let n : ℕ = length env.names in
      let below = slice_get_within (cells_of env).nodes a cell there in
      subst (λ o. IfSome o IsStartingNode) there (at_place (MayStartNode env) n a nodes (subst (λ k. a < k) whole below));
}

pub links_starting : (env : EnvValue) → HasStartingCells env → (places : List ℕ) → All (λ from. All (MayStartLink env from) places) places
links_starting env starting places = λ i d below. λ j e within. if_some IsStartingLink _ (λ link there. starting.links _ _ link there)

pub nodes_starting : (env : EnvValue) → HasStartingCells env → (places : List ℕ) → All (MayStartNode env) places
nodes_starting env starting places = λ i d below. if_some IsStartingNode _ (λ cell there. starting.nodes _ cell there)
