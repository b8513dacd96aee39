-- Links, nodes and bumps that are given by nodes themselves: a fault of them is judged as its definition says.
use Rattle.std.proofs.Common.{◌≡◌, ℕ, ◌<◌, Bool, true, false, List, [], ◌∷◌, refl, sym, ◌∙◌, ap, length, inl, inr}
use Rattle.std.specs.Prelude.{◌⊎◌, ℤ, IsSome, Option, Some, None, Result, Ok, Err, IsOk, MatchResult, if◌then◌else◌, is_none, ok_or, option_map, ◌||◌}
use Rattle.std.specs.List.{All, cons_option, filter_map, list_any}
use Rattle.jh_tables.specs.declared.faults.LinkFault.{LinkFault}
use Rattle.jh_tables.specs.declared.faults.LinkFault.TheVariants as Kind
use Rattle.jh_tables.specs.declared.faults.NodeFault.{NodeFault}
use Rattle.jh_tables.specs.Plain.{fault_on_links, fault_on_nodes}
use Rattle.jh_env.specs.Amounts.{IsLinkAmount}
use Rattle.jh_env.specs.Faults.{AreBumps, AreLinksOf, FaultValue, is_self_link, is_unknown_bump, is_unknown_link, is_unknown_node, kept_links, kept_nodes}
use Rattle.jh_env.specs.Faults.{Bump, Cut}
use Rattle.jh_env.specs.Naming.{RefusesFault, are_bumps, judged_bumps, judged_links, judged_nodes, known_bump, known_link, known_node}
use Rattle.jh_env.specs.declared.faults.FaultError.TheVariants as FaultError
use Rattle.jh_env.proofs.AmountLemmas.{IsJudged, judged_cut}
use Rattle.jh_env.proofs.BumpLemmas.{bumps_right, right_bumps}
use Rattle.jh_env.proofs.FaultLemmas.{known_bumps, known_nodes}

-- what follows of an answer, case by case
pub match_both : {A E : Type 0} {P Q : A → Type 0} {R S : E → Type 0} (answer : Result A E) → ((x : A) → P x → Q x) → ((e : E) → R e → S e) → MatchResult answer P R → MatchResult answer Q S
match_both (Ok x) right wrong h = right x h
match_both (Err e) right wrong h = wrong e h

-- what passes a test stands for nothing
none_unless : {A : Type 0} (test : A → Bool) (xs : List A) → list_any (λ x. is_none (if test x then None else Some x)) xs ≡ list_any test xs
none_unless test [] = refl
none_unless test (x ∷ xs) =
    elim (test x) as (λ b. (is_none (if b then None else Some x) || list_any (λ x. is_none (if test x then None else Some x)) xs) ≡ (b || list_any test xs)) [
      | true ↦ refl
      | false ↦ none_unless test xs
    ]

same_unless : {A : Type 0} (test : A → Bool) (xs : List A) → list_any test xs ≡ false → filter_map (λ x. if test x then None else Some x) xs ≡ xs
same_unless test [] none = refl
same_unless test (x ∷ xs) none =
    elim (test x) as (λ b. (b || list_any test xs) ≡ false → cons_option (if b then None else Some x) (filter_map (λ x. if test x then None else Some x) xs) ≡ x ∷ xs) [
      | true ↦ λ h. absurd cc
      | false ↦ λ h. ap (λ ys. x ∷ ys) (same_unless test xs h)
    ] none

pub unknown_links : (names : List (List ℕ)) (links : List (ℕ × ℕ)) → list_any (λ l. is_none (known_link names l)) links ≡ list_any (is_unknown_link (length names)) links
unknown_links names links = none_unless (is_unknown_link (length names)) links

pub unknown_nodes : (names : List (List ℕ)) (nodes : List ℕ) → list_any (λ n. is_none (known_node names n)) nodes ≡ list_any (is_unknown_node (length names)) nodes
unknown_nodes names nodes = none_unless (is_unknown_node (length names)) nodes

pub unknown_bumps : (names : List (List ℕ)) (bumps : List (ℕ × ℤ)) → list_any (λ b. is_none (known_bump names b)) bumps ≡ list_any (is_unknown_bump (length names)) bumps
unknown_bumps names bumps = none_unless (is_unknown_bump (length names)) bumps

same_links : (names : List (List ℕ)) (links : List (ℕ × ℕ)) → list_any (λ l. is_none (known_link names l)) links ≡ false → filter_map (known_link names) links ≡ links
same_links names links known = same_unless (is_unknown_link (length names)) links (sym (unknown_links names links) ∙ known)

same_nodes : (names : List (List ℕ)) (nodes : List ℕ) → list_any (λ n. is_none (known_node names n)) nodes ≡ false → filter_map (known_node names) nodes ≡ nodes
same_nodes names nodes known = same_unless (is_unknown_node (length names)) nodes (sym (unknown_nodes names nodes) ∙ known)

same_bumps : (names : List (List ℕ)) (bumps : List (ℕ × ℤ)) → list_any (λ b. is_none (known_bump names b)) bumps ≡ false → filter_map (known_bump names) bumps ≡ bumps
same_bumps names bumps known = same_unless (is_unknown_bump (length names)) bumps (sym (unknown_bumps names bumps) ∙ known)

-- ---- what follows of a fault that is judged to be there

-- the links that are found and what is done to them
found_links : {A : Type 0} (ends : A → Option (ℕ × ℕ)) (kind : Option LinkFault) (links : List A) (fault : FaultValue) → judged_links ends kind links ≡ Ok fault
    → (list_any (λ l. is_none (ends l)) links ≡ false) × (list_any is_self_link (filter_map ends links) ≡ false)
    × (ok_or (option_map (λ k. fault_on_links k (kept_links (filter_map ends links))) kind) FaultError.BadAmount ≡ Ok fault)
found_links ends kind links fault h =
    let made : Result FaultValue FaultError.the_data = ok_or (option_map (λ k. fault_on_links k (kept_links (filter_map ends links))) kind) FaultError.BadAmount in
    elim (list_any (λ l. is_none (ends l)) links)
    as (λ t. list_any (λ l. is_none (ends l)) links ≡ t → (if t then Err FaultError.UnknownNode else if list_any is_self_link (filter_map ends links) then Err FaultError.SelfLink else made) ≡ Ok fault
    → (list_any (λ l. is_none (ends l)) links ≡ false) × (list_any is_self_link (filter_map ends links) ≡ false) × (made ≡ Ok fault)) [
      | true ↦ λ is bad. absurd cc
      | false ↦ λ is some. elim (list_any is_self_link (filter_map ends links))
          as (λ t. list_any is_self_link (filter_map ends links) ≡ t → (if t then Err FaultError.SelfLink else made) ≡ Ok fault
          → (list_any (λ l. is_none (ends l)) links ≡ false) × (list_any is_self_link (filter_map ends links) ≡ false) × (made ≡ Ok fault)) [
            | true ↦ λ also bad. absurd cc
            | false ↦ λ also right. (is, also, right)
          ] refl some
    ] refl h

found_nodes : {A : Type 0} (found : A → Option ℕ) (kind : NodeFault) (nodes : List A) (fault : FaultValue) → judged_nodes found kind nodes ≡ Ok fault
    → (list_any (λ n. is_none (found n)) nodes ≡ false) × (fault ≡ fault_on_nodes kind (kept_nodes (filter_map found nodes)))
found_nodes found kind nodes fault h =
    let made : FaultValue = fault_on_nodes kind (kept_nodes (filter_map found nodes)) in
    elim (list_any (λ n. is_none (found n)) nodes)
    as (λ t. list_any (λ n. is_none (found n)) nodes ≡ t → (if t then Err FaultError.UnknownNode else Ok made) ≡ Ok fault → (list_any (λ n. is_none (found n)) nodes ≡ false) × (fault ≡ made)) [
      | true ↦ λ is bad. absurd cc
      | false ↦ λ is right. (is, (let same : fault ≡ made = cc in same))
    ] refl h

found_bumps : {A : Type 0} (found : A → Option (ℕ × ℤ)) (bumps : List A) (fault : FaultValue) → judged_bumps found bumps ≡ Ok fault
    → (list_any (λ b. is_none (found b)) bumps ≡ false) × (are_bumps (filter_map found bumps) ≡ true) × (fault ≡ Bump (filter_map found bumps))
found_bumps found bumps fault h =
    let all : List (ℕ × ℤ) = filter_map found bumps in
    elim (list_any (λ b. is_none (found b)) bumps)
    as (λ t. list_any (λ b. is_none (found b)) bumps ≡ t → (if t then Err FaultError.UnknownNode else if are_bumps all then Ok (Bump all) else Err FaultError.BadAmount) ≡ Ok fault
    → (list_any (λ b. is_none (found b)) bumps ≡ false) × (are_bumps all ≡ true) × (fault ≡ Bump all)) [
      | true ↦ λ is bad. absurd cc
      | false ↦ λ is some. elim (are_bumps all)
          as (λ t. are_bumps all ≡ t → (if t then Ok (Bump all) else Err FaultError.BadAmount) ≡ Ok fault → (list_any (λ b. is_none (found b)) bumps ≡ false) × (are_bumps all ≡ true) × (fault ≡ Bump all)) [
            | true ↦ λ also right. (is, also, (let same : fault ≡ Bump all = cc in same))
            | false ↦ λ also bad. absurd cc
          ] refl some
    ] refl h

links_known_by : (names : List (List ℕ)) (links : List (ℕ × ℕ)) → list_any (λ l. is_none (known_link names l)) links ≡ false → list_any is_self_link (filter_map (known_link names) links) ≡ false
    → AreLinksOf (length names) links
links_known_by names links known other = (sym (unknown_links names links) ∙ known, ap (list_any is_self_link) (sym (same_links names links known)) ∙ other)

pub links_made : (names : List (List ℕ)) (kind : LinkFault) (judged : Option LinkFault) (links : List (ℕ × ℕ)) → IsJudged kind judged → (fault : FaultValue)
    → judged_links (known_link names) judged links ≡ Ok fault
    → (fault ≡ fault_on_links kind (kept_links links)) × AreLinksOf (length names) links × IsLinkAmount kind
links_made names kind None links wrong fault made = let (known, other, bad) = found_links (known_link names) None links fault made in absurd cc
links_made names kind (Some judged) links (same, right) fault made =
    let (known, other, is) = found_links (known_link names) (Some judged) links fault made in
    let found : fault ≡ fault_on_links judged (kept_links (filter_map (known_link names) links)) = cc in
    (found ∙ ap (λ ls. fault_on_links judged (kept_links ls)) (same_links names links known) ∙ ap (λ k. fault_on_links k (kept_links links)) same, links_known_by names links known other, right)

pub cut_made : (names : List (List ℕ)) (links : List (ℕ × ℕ)) (fault : FaultValue)
    → judged_links (known_link names) (Some Kind.Cut) links ≡ Ok fault
    → (fault ≡ Cut (kept_links links)) × AreLinksOf (length names) links
cut_made names links fault made = let all = links_made names Kind.Cut (Some Kind.Cut) links judged_cut fault made in (all.0, all.1)

pub nodes_made : (names : List (List ℕ)) (kind : NodeFault) (nodes : List ℕ) (fault : FaultValue)
    → judged_nodes (known_node names) kind nodes ≡ Ok fault
    → (fault ≡ fault_on_nodes kind (kept_nodes nodes)) × (list_any (is_unknown_node (length names)) nodes ≡ false)
nodes_made names kind nodes fault made =
    let (known, is) = found_nodes (known_node names) kind nodes fault made in
    (is ∙ ap (λ ns. fault_on_nodes kind (kept_nodes ns)) (same_nodes names nodes known), sym (unknown_nodes names nodes) ∙ known)

pub bumps_made : (names : List (List ℕ)) (bumps : List (ℕ × ℤ)) (fault : FaultValue)
    → judged_bumps (known_bump names) bumps ≡ Ok fault
    → (fault ≡ Bump bumps) × (list_any (is_unknown_bump (length names)) bumps ≡ false) × AreBumps bumps
bumps_made names bumps fault made =
    let (known, right, is) = found_bumps (known_bump names) bumps fault made in
    let same = same_bumps names bumps known in
    (is ∙ ap Bump same, sym (unknown_bumps names bumps) ∙ known, bumps_right bumps (ap are_bumps (sym same) ∙ right))

-- ---- where only memory can be refused

-- what is judged to be a fault is refused for memory alone
pub memory_alone : {A : Type 0} (judged : Result FaultValue FaultError.the_data) (given : List A) (refusal : FaultError.the_data) → IsOk judged → RefusesFault judged given refusal
    → refusal ≡ FaultError.OutOfMemory
memory_alone (Ok fault) given refusal right (inl bad) = absurd cc
memory_alone (Err error) given refusal wrong refused = absurd cc
memory_alone (Ok fault) given refusal right (inr memory) = memory.0

pub links_right : (names : List (List ℕ)) (kind : Option LinkFault) (links : List (ℕ × ℕ)) → AreLinksOf (length names) links → IsSome kind → IsOk (judged_links (known_link names) kind links)
links_right names None links those some = absurd cc
links_right names (Some kind) links those some =
    let known = unknown_links names links ∙ those.0 in
    rw (known, same_links names links known, those.1) refl

pub nodes_right : (names : List (List ℕ)) (kind : NodeFault) (nodes : List ℕ) → All (λ a. a < length names) nodes → IsOk (judged_nodes (known_node names) kind nodes)
nodes_right names kind nodes those = rw (unknown_nodes names nodes ∙ known_nodes (length names) nodes those) refl

pub bumps_known_right : (names : List (List ℕ)) (bumps : List (ℕ × ℤ)) → All (λ b. b.0 < length names) bumps → AreBumps bumps → IsOk (judged_bumps (known_bump names) bumps)
bumps_known_right names bumps those right =
    let known = unknown_bumps names bumps ∙ known_bumps (length names) bumps those in
    rw (known, same_bumps names bumps known, right_bumps bumps right) refl
