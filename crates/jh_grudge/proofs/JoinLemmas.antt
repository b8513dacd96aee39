-- The two ends of a link: both in the list, and different.
use Rattle.std.proofs.Common.{◌≡◌, ℕ, zero, suc, ◌+◌, ◌/◌, ◌%◌, List, [], ◌∷◌, length, refl, sym, ap, subst, ◌∙◌, inl, inr, arith, Some}
use Rattle.std.specs.Prelude.{Vec}
use Rattle.std.specs.List.{Contains}
use Rattle.std.specs.declared.alloc.Global.{Global}
use Rattle.std.proofs.lemmas.List.{length-take, length-drop, get_or-take, get_or-drop}
use Rattle.std.proofs.lemmas.List.Elements.{Contains-append_left, Contains-append_right}
use Rattle.std.proofs.lemmas.Option.{slice_get_within}
use Rattle.jh_grudge.specs.Lists.{AreDistinct, nodes_end_to_end, lists_of, first_half}
use Rattle.jh_grudge.specs.Grudges.{IsIn, CompleteDrops, BridgeDrops, RingDrops, JoinsTwoOf, nodes_beyond_bridge}
use Rattle.jh_grudge.proofs.ListLemmas.{contains_none, contains_at, one_place, parts_apart, distinct_right}
use Rattle.jh_grudge.proofs.AroundLemmas.{around}
use Rattle.jh_grudge.proofs.RankLemmas.{sides_apart}

-- ---- components

joined_has : (components : List (Vec ℕ Global)) (i node : ℕ) → IsIn (lists_of components) i node → Contains (nodes_end_to_end components) node
joined_has [] i node has = absurd (contains_none node has)
joined_has (x ∷ xs) zero node has = Contains-append_left x.items (nodes_end_to_end xs) node has
joined_has (x ∷ xs) (suc i) node has = Contains-append_right x.items (nodes_end_to_end xs) node (joined_has xs i node has)

-- a node is in one component only
pub alone : (components : List (Vec ℕ Global)) → AreDistinct (nodes_end_to_end components) → (i j node : ℕ) → IsIn (lists_of components) i node → IsIn (lists_of components) j node → i ≡ j
alone [] distinct i j node here there = absurd (contains_none node here)
alone (x ∷ xs) distinct zero zero node here there = refl
alone (x ∷ xs) distinct zero (suc j) node here there = absurd (parts_apart x.items (nodes_end_to_end xs) node distinct here (joined_has xs j node there))
alone (x ∷ xs) distinct (suc i) zero node here there = absurd (parts_apart x.items (nodes_end_to_end xs) node distinct there (joined_has xs i node here))
alone (x ∷ xs) distinct (suc i) (suc j) node here there = ap suc (alone xs (distinct_right x.items (nodes_end_to_end xs) distinct) i j node here there)

pub complete_joins : (components : List (Vec ℕ Global)) → AreDistinct (nodes_end_to_end components) → (dst src : ℕ) → CompleteDrops (lists_of components) dst src
    → JoinsTwoOf (nodes_end_to_end components) (src, dst)
complete_joins components distinct dst src (i, j, apart, to, from) = record {
  from = joined_has components j src from;
  to = joined_has components i dst to;
  apart = λ same. apart (alone components distinct i j dst to (subst (λ (node : ℕ). IsIn (lists_of components) j node) same from));
}

-- ---- bridges

pub in_first : (nodes : List ℕ) (node : ℕ) → Contains (first_half nodes) node → Contains nodes node
in_first nodes node (k, below, is) =
    let h = length nodes / 2 in
    let short = length-take h nodes in
    (k, omega arith, sym (get_or-take h nodes k node (omega arith)) ∙ is)

pub in_beyond : (nodes : List ℕ) (node : ℕ) → Contains (nodes_beyond_bridge nodes) node → Contains nodes node
in_beyond nodes node (k, below, is) =
    let h = length nodes / 2 in
    let rest = length-drop (h + 1) nodes in
    (h + 1 + k, omega arith, sym (get_or-drop (h + 1) nodes k node) ∙ is)

pub bridge_joins : (nodes : List ℕ) → AreDistinct nodes → (dst src : ℕ) → BridgeDrops nodes dst src → JoinsTwoOf nodes (src, dst)
bridge_joins nodes distinct dst src (inl (to, from)) = record {
  from = in_beyond nodes src from;
  to = in_first nodes dst to;
  apart = λ same. sides_apart nodes dst distinct to (subst (λ (node : ℕ). Contains (nodes_beyond_bridge nodes) node) same from);
}
bridge_joins nodes distinct dst src (inr (to, from)) = record {
  from = in_first nodes src from;
  to = in_beyond nodes dst to;
  apart = λ same. sides_apart nodes src distinct from (subst (λ (node : ℕ). Contains (nodes_beyond_bridge nodes) node) (sym same) to);
}

-- ---- rings

pub ring_joins : (nodes : List ℕ) → AreDistinct nodes → (dst src : ℕ) → RingDrops nodes dst src → JoinsTwoOf nodes (src, dst)
ring_joins nodes distinct dst src (i, k, at_i, enough, less, at_j) =
    let n = length nodes in
    let low = slice_get_within nodes i dst at_i in record {
      from = contains_at nodes ((i + k) % n) src at_j;
      to = contains_at nodes i dst at_i;
      apart = λ same.
          (let round = one_place nodes ((i + k) % n) i src distinct at_j (at_i ∙ ap Some (sym same)) in
          elim (around n i k low less) [ inl (a, e) ↦ omega (arith, e, round) | inr (a, e) ↦ omega (arith, e, round) ]);
    }
