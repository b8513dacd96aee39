-- What is parsed of a fault's text, where jh_env makes the fault or refuses it.
use Rattle.std.proofs.Common.{◌≡◌, ◌≢◌, ℕ, ◌<◌, List, length, refl, ap, sym, ◌∙◌, inl, inr}
use Rattle.std.specs.Prelude.{◌⊎◌, ℤ, IsOk, IsSome, is_none, map, Option, Some, Result, Ok, Err, false}
use Rattle.std.specs.List.{filter_map, list_any}
use Rattle.std.proofs.lemmas.Bool.{ne_eqb}
use Rattle.std.proofs.lemmas.List.Elements.{All-weaker}
use Rattle.std.proofs.lemmas.List.Folds.{list_any_none}
use Rattle.jh_edn.specs.View.{view, views, view_pair, view_pairs}
use Rattle.jh_edn.specs.declared.value.Value.{Value}
use Rattle.jh_env.specs.Faults.{AreLinksOf, FaultValue, is_self_link}
use Rattle.jh_env.specs.Naming.{RefusesFault, bump_of, ends_of, judged_bumps, judged_links, judged_nodes, known_link, named_node}
use Rattle.jh_tables.specs.declared.faults.LinkFault.{LinkFault}
use Rattle.jh_tables.specs.declared.faults.LinkFault.TheVariants as Kind
use Rattle.jh_tables.specs.declared.faults.NodeFault.{NodeFault}
use Rattle.jh_env.specs.declared.faults.FaultError.TheVariants as FaultError
use Rattle.jh_env.proofs.FaultLemmas.{known_links}
use Rattle.jh_env.proofs.NamingLemmas.{links_right, memory_alone}
use Rattle.jh_step_texts.specs.FaultText.{fault_or_refusal, parsed_bumps, parsed_links, parsed_nodes, refusal_of}
use Rattle.jh_step_texts.specs.declared.steps.StepTextError.{StepTextError}
use Rattle.jh_step_texts.specs.declared.steps.StepTextError.TheVariants.{OutOfMemory}
use Rattle.jh_step_texts.specs.NamedFaults.{AreLinksAmong}
use Rattle.jh_step_texts.proofs.ListLemmas.{filter_map-map, list_any-map}

-- what a refusal says of what is parsed: that it is refused so, or that memory was refused for it
abbrev pub IsRefusedAs : Result FaultValue StepTextError → FaultError.the_data → Type 0
IsRefusedAs parsed refusal = (parsed ≡ Err (refusal_of refusal)) ⊎ ((refusal_of refusal ≡ OutOfMemory) × IsOk parsed)

-- what is judged of values is judged of what they are views of
judged_links-map : {X Y : Type 0} (ends : Y → Option (ℕ × ℕ)) (f : X → Y) (kind : Option LinkFault) (xs : List X) → judged_links ends kind (map f xs) ≡ judged_links (λ x. ends (f x)) kind xs
judged_links-map ends f kind xs = rw (list_any-map (λ y. is_none (ends y)) f xs, filter_map-map ends f xs) refl

judged_nodes-map : {X Y : Type 0} (found : Y → Option ℕ) (f : X → Y) (kind : NodeFault) (xs : List X) → judged_nodes found kind (map f xs) ≡ judged_nodes (λ x. found (f x)) kind xs
judged_nodes-map found f kind xs = rw (list_any-map (λ y. is_none (found y)) f xs, filter_map-map found f xs) refl

judged_bumps-map : {X Y : Type 0} (found : Y → Option (ℕ × ℤ)) (f : X → Y) (xs : List X) → judged_bumps found (map f xs) ≡ judged_bumps (λ x. found (f x)) xs
judged_bumps-map found f xs = rw (list_any-map (λ y. is_none (found y)) f xs, filter_map-map found f xs) refl

-- an answer to what is judged is one to what is parsed
refused_so : {A : Type 0} (judged : Result FaultValue FaultError.the_data) (parsed : Result FaultValue StepTextError) (given : List A) (refusal : FaultError.the_data) → parsed ≡ fault_or_refusal judged
    → RefusesFault judged given refusal → IsRefusedAs parsed refusal
refused_so judged parsed given refusal same (inl wrong) = inl (same ∙ ap fault_or_refusal wrong)
refused_so (Ok fault) parsed given refusal same (inr (memory, right, some)) = inr (ap refusal_of memory, rw same refl)
refused_so (Err error) parsed given refusal same (inr (memory, right, some)) = absurd cc

links_same : (names : List (List ℕ)) (kind : Option LinkFault) (links : List Value) → parsed_links names kind (views links) ≡ fault_or_refusal (judged_links (λ l. ends_of names (view l)) kind links)
links_same names kind links = ap fault_or_refusal (judged_links-map (ends_of names) view kind links)

nodes_same : (names : List (List ℕ)) (kind : NodeFault) (nodes : List Value) → parsed_nodes names kind (views nodes) ≡ fault_or_refusal (judged_nodes (λ n. named_node names (view n)) kind nodes)
nodes_same names kind nodes = ap fault_or_refusal (judged_nodes-map (named_node names) view kind nodes)

bumps_same : (names : List (List ℕ)) (bumps : List (Value × Value)) → parsed_bumps names (view_pairs bumps) ≡ fault_or_refusal (judged_bumps (λ b. bump_of names (view_pair b)) bumps)
bumps_same names bumps = ap fault_or_refusal (judged_bumps-map (bump_of names) view_pair bumps)

-- the fault that is made is the one that is parsed
pub links_parsed : (names : List (List ℕ)) (kind : Option LinkFault) (links : List Value) (fault : FaultValue) → judged_links (λ l. ends_of names (view l)) kind links ≡ Ok fault
    → parsed_links names kind (views links) ≡ Ok fault
links_parsed names kind links fault made = links_same names kind links ∙ ap fault_or_refusal made

pub links_unparsed : (names : List (List ℕ)) (kind : Option LinkFault) (links : List Value) (refusal : FaultError.the_data)
    → RefusesFault (judged_links (λ l. ends_of names (view l)) kind links) links refusal → IsRefusedAs (parsed_links names kind (views links)) refusal
links_unparsed names kind links refusal refused = refused_so (judged_links (λ l. ends_of names (view l)) kind links) (parsed_links names kind (views links)) links refusal (links_same names kind links) refused

pub nodes_parsed : (names : List (List ℕ)) (kind : NodeFault) (nodes : List Value) (fault : FaultValue) → judged_nodes (λ n. named_node names (view n)) kind nodes ≡ Ok fault
    → parsed_nodes names kind (views nodes) ≡ Ok fault
nodes_parsed names kind nodes fault made = nodes_same names kind nodes ∙ ap fault_or_refusal made

pub nodes_unparsed : (names : List (List ℕ)) (kind : NodeFault) (nodes : List Value) (refusal : FaultError.the_data)
    → RefusesFault (judged_nodes (λ n. named_node names (view n)) kind nodes) nodes refusal → IsRefusedAs (parsed_nodes names kind (views nodes)) refusal
nodes_unparsed names kind nodes refusal refused = refused_so (judged_nodes (λ n. named_node names (view n)) kind nodes) (parsed_nodes names kind (views nodes)) nodes refusal (nodes_same names kind nodes) refused

pub bumps_parsed : (names : List (List ℕ)) (bumps : List (Value × Value)) (fault : FaultValue) → judged_bumps (λ b. bump_of names (view_pair b)) bumps ≡ Ok fault
    → parsed_bumps names (view_pairs bumps) ≡ Ok fault
bumps_parsed names bumps fault made = bumps_same names bumps ∙ ap fault_or_refusal made

pub bumps_unparsed : (names : List (List ℕ)) (bumps : List (Value × Value)) (refusal : FaultError.the_data)
    → RefusesFault (judged_bumps (λ b. bump_of names (view_pair b)) bumps) bumps refusal → IsRefusedAs (parsed_bumps names (view_pairs bumps)) refusal
bumps_unparsed names bumps refusal refused = refused_so (judged_bumps (λ b. bump_of names (view_pair b)) bumps) (parsed_bumps names (view_pairs bumps)) bumps refusal (bumps_same names bumps) refused

-- links that join two different nodes of n are links of n
pub among_of : (n : ℕ) (links : List (ℕ × ℕ)) → AreLinksAmong n links → AreLinksOf n links
among_of n links among = (
  known_links n links (All-weaker (λ l. (l.0 < n) × (l.1 < n) × (l.0 ≢ l.1)) (λ l. (l.0 < n) × (l.1 < n)) (λ l h. (h.0, h.1)) links among),
  list_any_none is_self_link links (All-weaker (λ l. (l.0 < n) × (l.1 < n) × (l.0 ≢ l.1)) (λ l. is_self_link l ≡ false) (λ l h. ne_eqb l.0 l.1 h.2) links among),
)

-- a fault of links between different nodes, with an amount in its range, is refused only as out of memory
pub links_memory : (names : List (List ℕ)) (kind : Option LinkFault) (links : List (ℕ × ℕ)) (refusal : FaultError.the_data) → AreLinksAmong (length names) links → IsSome kind
    → RefusesFault (judged_links (known_link names) kind links) links refusal → refusal ≡ FaultError.OutOfMemory
links_memory names kind links refusal among some refused =
    memory_alone (judged_links (known_link names) kind links) links refusal (links_right names kind links (among_of (length names) links among) some) refused

pub cut_refused : (names : List (List ℕ)) (links : List (ℕ × ℕ)) (refusal : FaultError.the_data) → AreLinksAmong (length names) links
    → RefusesFault (judged_links (known_link names) (Some Kind.Cut) links) links refusal → refusal ≡ FaultError.OutOfMemory
cut_refused names links refusal among refused = links_memory names (Some Kind.Cut) links refusal among refl refused
