-- Replicas that nodes take over, one after another.
use Rattle.std.proofs.Common.{◌≡◌, ℕ, ◌+◌, ◌<◌, ◌≤◌, Bool, true, ◌&&◌, List, [], ◌∷◌, ◌++◌, length, get_or, set, take, drop, refl, ap, sym, ◌∙◌, arith, subst, append_assoc, append-nil}
use Rattle.std.specs.Prelude.{if◌then◌else◌}
use Rattle.std.specs.List.{fold}
use Rattle.std.proofs.lemmas.List.{take_more, take_all, drop_more, drop_all, map_more, map-set, get_or-map, length-map, length-take-le}
use Rattle.std.proofs.lemmas.List.Elements.{All-push}
use Rattle.std.proofs.lemmas.List.FromFn.{length-range_with_len, fill_by_all}
use Rattle.std.proofs.lemmas.List.Sums.{fold_push}
use Rattle.std.proofs.Math.Seq.{set-append_seam}
use Rattle.jh_env.specs.Names.{node_places}
use Rattle.jh_simnode.specs.declared.replicas.Replica.{Replica}
use Rattle.jh_simnode.specs.declared.stores.Taken.{Taken}
use Rattle.jh_simnode.specs.Replicas.{blank_replica, replica_at, is_lower}
use Rattle.jh_simnode.specs.Reach.{EnvCells, is_node_running}
use Rattle.jh_simnode.specs.Stores.{replicas_with_new, replicas_with_new_at, replicas_after_sending, is_uncut}
use Rattle.jh_simnode.specs.TakingInside.{replicas_with, AreTaken, AreSources, replicas_from}
use Rattle.jh_simnode.proofs.PlaceLemmas.{places_below}

-- one replica more is taken over
pub taken_more : (old : List Replica) (taken : List Taken) (new : List Replica) (t : Taken) → AreTaken old taken new → t.place < length old
    → AreTaken old (taken ++ t ∷ []) (set new t.place t.replica)
taken_more old taken new t h within = record {
  known = All-push (λ (t : Taken). t.place < length old) taken t h.known within;
  replicas = fold_push replicas_with old taken t ∙ ap (λ (all : List Replica). replicas_with all t) h.replicas;
}

-- one node more has the new replica
pub given_more : (replicas : List Replica) (taken : List Taken) (new : Replica) (these : List ℕ) (i d : ℕ) → i < length these → get_or these i d < length replicas
    → AreTaken replicas taken (replicas_with_new_at new replicas (take i these))
    → AreTaken replicas (taken ++ record { place = get_or these i d; replica = new } ∷ []) (replicas_with_new_at new replicas (take (i + 1) these))
given_more replicas taken new these i d within there h =
    let more : replicas_with_new_at new replicas (take (i + 1) these) ≡ replicas_with_new new (replicas_with_new_at new replicas (take i these)) (get_or these i d) =
    ap (fold (replicas_with_new new) replicas) (take_more these i d within) ∙ fold_push (replicas_with_new new) replicas (take i these) (get_or these i d)
    in
    rw more (taken_more replicas taken _ (record { place = get_or these i d; replica = new }) h there)

-- the replica at a place is the one of its source
replica_from : (count : ℕ) (replicas : List Replica) (sources : List ℕ) (p source : ℕ) → AreSources count sources → p < count → source ≡ get_or sources p source
    → replica_at (replicas_from replicas sources) p ≡ replica_at replicas source
replica_from count replicas sources p source h within is =
    get_or-map (replica_at replicas) sources p source blank_replica (rw h.sized within) ∙ ap (replica_at replicas) (sym is)

-- what decides whether a node takes over another's replica, by their sources
abbrev takes : EnvCells → ℕ → ℕ → List Replica → ℕ → ℕ → Bool
takes env from to replicas source target =
    ((is_node_running (env.node from) && is_node_running (env.node to)) && is_uncut (env.link from to))
    && is_lower (replica_at replicas target).recency (replica_at replicas source).recency

send_is : (env : EnvCells) (from to count : ℕ) (replicas : List Replica) (sources : List ℕ) (source target : ℕ) → AreSources count sources → from < count → to < count
    → source ≡ get_or sources from source → target ≡ get_or sources to target
    → replicas_after_sending env from (replicas_from replicas sources) to
    ≡ (if takes env from to replicas source target then set (replicas_from replicas sources) to (replica_at replicas source) else replicas_from replicas sources)
send_is env from to count replicas sources source target h a b s t =
    rw (replica_from count replicas sources from source h a s, replica_from count replicas sources to target h b t) refl

-- the other takes it over, where both run, the link is uncut and its own stamp is lower
pub send_takes : (env : EnvCells) (from to count : ℕ) (replicas : List Replica) (sources : List ℕ) (source target : ℕ) → AreSources count sources → from < count → to < count
    → source ≡ get_or sources from source → target ≡ get_or sources to target
    → ((is_node_running (env.node from) && is_node_running (env.node to)) && is_uncut (env.link from to)) ≡ true
    → is_lower (replica_at replicas target).recency (replica_at replicas source).recency ≡ true
    → replicas_from replicas (set sources to source) ≡ replicas_after_sending env from (replicas_from replicas sources) to
send_takes env from to count replicas sources source target h a b s t uncut lower =
    let e : takes env from to replicas source target ≡ true = rw (uncut, lower) refl in
    sym (send_is env from to count replicas sources source target h a b s t ∙ rw e (sym (map-set (replica_at replicas) sources to source)))

-- each node's own replica
pub own_replicas : (replicas : List Replica) (count : ℕ) → length replicas ≡ count → replicas_from replicas (node_places count) ≡ replicas
own_replicas replicas count e = sym (fill_by_all (replica_at replicas) replicas count blank_replica e (λ k low. refl))

pub own_sources : (count : ℕ) → AreSources count (node_places count)
own_sources count = record { sized = length-range_with_len 0 count; known = places_below count }

-- the replicas while they are taken over from their sources, place by place
source_more : (replicas : List Replica) (sources : List ℕ) (i d : ℕ) → i < length sources
    → replicas_from replicas (take (i + 1) sources) ++ drop (i + 1) replicas ≡ replicas_from replicas (take i sources) ++ replica_at replicas (get_or sources i d) ∷ drop (i + 1) replicas
source_more replicas sources i d h =
    ap (λ all. all ++ drop (i + 1) replicas) (map_more (replica_at replicas) sources i d h)
    ∙ append_assoc (replicas_from replicas (take i sources)) (replica_at replicas (get_or sources i d) ∷ []) (drop (i + 1) replicas)

-- a node keeps its own
pub keeps_own : (replicas : List Replica) (taken : List Taken) (sources : List ℕ) (i d : ℕ) → AreSources (length replicas) sources → i < length sources → get_or sources i d ≡ i
    → AreTaken replicas taken (replicas_from replicas (take i sources) ++ drop i replicas)
    → AreTaken replicas taken (replicas_from replicas (take (i + 1) sources) ++ drop (i + 1) replicas)
keeps_own replicas taken sources i d s h own k =
    let sized = s.sized in
    let same : replicas_from replicas (take i sources) ++ drop i replicas ≡ replicas_from replicas (take (i + 1) sources) ++ drop (i + 1) replicas =
    ap (λ all. replicas_from replicas (take i sources) ++ all) (drop_more replicas i blank_replica (omega arith))
    ∙ ap (λ p. replicas_from replicas (take i sources) ++ replica_at replicas p ∷ drop (i + 1) replicas) (sym own)
    ∙ sym (source_more replicas sources i d h)
    in
    subst (AreTaken replicas taken) same k

takes_other : (replicas : List Replica) (sources : List ℕ) (i d : ℕ) → AreSources (length replicas) sources → i < length sources
    → set (replicas_from replicas (take i sources) ++ drop i replicas) i (replica_at replicas (get_or sources i d)) ≡ replicas_from replicas (take (i + 1) sources) ++ drop (i + 1) replicas
takes_other replicas sources i d s h =
    let sized = s.sized in
    let first = replicas_from replicas (take i sources) in
    let long : length first ≡ i = length-map (take i sources) (replica_at replicas) ∙ length-take-le i sources (omega arith) in
    let there = replica_at replicas (get_or sources i d) in
    ap (λ all. set (first ++ all) i there) (drop_more replicas i blank_replica (omega arith))
    ∙ ap (λ n. set (first ++ replica_at replicas i ∷ drop (i + 1) replicas) n there) (sym long)
    ∙ set-append_seam first (replica_at replicas i) (drop (i + 1) replicas) there
    ∙ sym (source_more replicas sources i d h)

-- a node takes over another's
pub takes_more : (replicas : List Replica) (taken : List Taken) (sources : List ℕ) (i d : ℕ) (replica : Replica) → AreSources (length replicas) sources → i < length sources
    → replica ≡ replica_at replicas (get_or sources i d) → AreTaken replicas taken (replicas_from replicas (take i sources) ++ drop i replicas)
    → AreTaken replicas (taken ++ record { place = i; replica = replica } ∷ []) (replicas_from replicas (take (i + 1) sources) ++ drop (i + 1) replicas)
takes_more replicas taken sources i d replica s h e k =
    let sized = s.sized in
    let first = replicas_from replicas (take i sources) ++ drop i replicas in
    let one : set first i replica ≡ replicas_from replicas (take (i + 1) sources) ++ drop (i + 1) replicas = ap (set first i) e ∙ takes_other replicas sources i d s h in
    subst (AreTaken replicas (taken ++ record { place = i; replica = replica } ∷ [])) one
    (taken_more replicas taken first (record { place = i; replica = replica }) k (omega arith))

-- at the end each has the replica of its source
pub taken_all : (replicas : List Replica) (sources : List ℕ) (i : ℕ) → AreSources (length replicas) sources → length sources ≤ i
    → replicas_from replicas (take i sources) ++ drop i replicas ≡ replicas_from replicas sources
taken_all replicas sources i h past =
    let sized = h.sized in
    ap (λ all. replicas_from replicas (take i sources) ++ all) (drop_all i replicas (omega arith))
    ∙ append-nil (replicas_from replicas (take i sources))
    ∙ ap (replicas_from replicas) (take_all i sources past)
