-- What is written of a fault means that fault, with its links, nodes or bumps in order.
use Rattle.std.proofs.Common.{◌≡◌, ℕ, ◌^◌, ◌<◌, ◌≤◌, Bool, true, false, List, [], ◌∷◌, ◌++◌, length, map, filter_map, Option, Some, None, Ok, refl, sym, ap, ◌∙◌, arith}
use Rattle.std.specs.Prelude.{ℤ, pos, negsuc, not, is_none, is_some, ◌==◌, slice_index_or, option_map, option_and_then, if◌then◌else◌}
use Rattle.std.specs.List.{AllByRecursion, list_all, list_any, All, cons_option}
use Rattle.std.proofs.lemmas.Bool.{and_from, or_from, eqb-true, eq-eqb, lt-ltb, le-leb, not_from_false}
use Rattle.std.proofs.lemmas.Grind.{common_steps}
use Rattle.std.proofs.lemmas.Int.{ints}
use Rattle.std.proofs.lemmas.List.Elements.{recursion_from_All}
use Rattle.std.proofs.lemmas.List.Folds.{list_any-append}
use Rattle.std.proofs.lemmas.Option.{slice_get-get_or}
use Rattle.jh_edn.specs.Edn.{Edn, vector, items_of, members_of, elements_of, pairs_in}
use Rattle.jh_edn.specs.Order.{in_order}
use Rattle.jh_edn.proofs.CitedLemmas.{list_of-items_of}
use Rattle.jh_env.specs.Faults.{FaultValue, AreApart, IsBumpAmount, kept_links, kept_nodes, is_self_link, is_same_link, is_same_node, is_same_bumped}
use Rattle.jh_env.specs.Faults.{Cut, Slow, Loss, Fix, Pause, Kill, Bump}
use Rattle.jh_env.specs.Amounts.{amount_within, link_fault_of}
use Rattle.jh_env.specs.declared.amounts.GivenLinkFault.{GivenLinkFault}
use Rattle.jh_tables.specs.Plain.{fault_on_links, fault_on_nodes}
use Rattle.jh_tables.specs.declared.faults.LinkFault.{LinkFault}
use Rattle.jh_tables.specs.declared.faults.NodeFault.{NodeFault}
use Rattle.jh_step_texts.specs.FaultWritten.{is_link_before, is_node_before, is_bump_before, fault_in_order, edn_of_name, edn_of_link, edn_of_links, edn_of_nodes, edn_of_bump, edn_of_bumps, edn_of_fault}
use Rattle.jh_env.specs.Names.{AreNodeNames}
use Rattle.jh_env.proofs.TextPlaceLemmas.{place_of-at}
use Rattle.jh_env.specs.TextErrors.{place_of}
use Rattle.jh_env.specs.Naming.{link_names, node_name, bump_spelled, ends_of, named_node, bump_of, is_bump_amount, are_apart_after, are_bumps}
use Rattle.jh_step_texts.specs.Kinds.{fault_kind_named}
use Rattle.jh_step_texts.specs.FaultText.{Links, Nodes, Bumps, all_of, links_in, nodes_in, bumps_in, parsed_links, parsed_nodes, parsed_bumps}
use Rattle.jh_laws.specs.StepLines.{IsFaultOn, IsTextOfFault}
use Rattle.jh_laws.proofs.OrderLemmas.{Apart, apart_behind, apart_in_order, all_in_order, none_in_order, none_each}

-- ---- what is spelled

all_pass : {A B : Type 0} (p : B → Bool) (text : A → B) → ((x : A) → p (text x) ≡ true) → (xs : List A) → list_all p (map text xs) ≡ true
all_pass p text each [] = refl
all_pass p text each (x ∷ xs) = and_from (p (text x)) (list_all p (map text xs)) (each x) (all_pass p text each xs)

-- a sequence of what passes a test
sequence_of : {A : Type 0} (p : Edn → Bool) (text : A → Edn) → ((x : A) → p (text x) ≡ true) → (xs : List A)
    → option_and_then (all_of p) (elements_of (vector (items_of (map text xs)))) ≡ Some (map text xs)
sequence_of p text each xs =
    ap (all_of p) (list_of-items_of (map text xs)) ∙ ap (λ t. if t then Some (map text xs) else None) (all_pass p text each xs)

pub pairs_of-members : (pairs : List (Edn × Edn)) → pairs_in (members_of pairs) ≡ pairs
pairs_of-members [] = refl
pairs_of-members (p ∷ ps) = ap (λ rest. p ∷ rest) (pairs_of-members ps)

links_are : (names : List (List ℕ)) (links : List (ℕ × ℕ)) → links_in (edn_of_links names links) ≡ Some (map (edn_of_link names) links)
links_are names links = sequence_of (λ l. is_some (link_names l)) (edn_of_link names) (λ l. refl) links

nodes_are : (names : List (List ℕ)) (nodes : List ℕ) → nodes_in (edn_of_nodes names nodes) ≡ Some (map (edn_of_name names) nodes)
nodes_are names nodes = sequence_of (λ n. is_some (node_name n)) (edn_of_name names) (λ n. refl) nodes

bumps_are : (names : List (List ℕ)) (bumps : List (ℕ × ℤ)) → bumps_in (edn_of_bumps names bumps) ≡ Some (map (edn_of_bump names) bumps)
bumps_are names bumps =
    ap (all_of (λ b. is_some (bump_spelled b))) (pairs_of-members (map (edn_of_bump names) bumps))
    ∙ ap (λ t. if t then Some (map (edn_of_bump names) bumps) else None) (all_pass (λ b. is_some (bump_spelled b)) (edn_of_bump names) (λ b. refl) bumps)

-- ---- where the names stand

pub place_again : (names : List (List ℕ)) → AreNodeNames names → (a : ℕ) → a < length names → place_of names (slice_index_or names a []) ≡ Some a
place_again names named a below = place_of-at names a (slice_index_or names a []) named (slice_get-get_or names a [] below)

ends_again : (names : List (List ℕ)) → AreNodeNames names → (l : ℕ × ℕ) → (l.0 < length names) × (l.1 < length names) → ends_of names (edn_of_link names l) ≡ Some l
ends_again names named l below = rw (place_again names named l.0 below.0, place_again names named l.1 below.1) refl

node_again : (names : List (List ℕ)) → AreNodeNames names → (a : ℕ) → a < length names → named_node names (edn_of_name names a) ≡ Some a
node_again names named a below = place_again names named a below

bump_again : (names : List (List ℕ)) → AreNodeNames names → (b : ℕ × ℤ) → b.0 < length names → bump_of names (edn_of_bump names b) ≡ Some b
bump_again names named b below = ap (option_map (λ node. (node, b.1))) (place_again names named b.0 below)

-- what a list of texts means, where each means what it was written of
module _ {A B : Type 0} (text : A → B) (parsed : B → Option A) (P : A → Type 0) (again : (x : A) → P x → parsed (text x) ≡ Some x) where
  all_known : (xs : List A) → AllByRecursion P xs → list_any (λ v. is_none (parsed v)) (map text xs) ≡ false
  all_known [] all = refl
  all_known (x ∷ xs) all = or_from (is_none (parsed (text x))) (list_any (λ v. is_none (parsed v)) (map text xs)) (ap is_none (again x all.0)) (all_known xs all.1)

  all_again : (xs : List A) → AllByRecursion P xs → filter_map parsed (map text xs) ≡ xs
  all_again [] all = refl
  all_again (x ∷ xs) all = ap (λ o. cons_option o (filter_map parsed (map text xs))) (again x all.0) ∙ ap (λ ys. x ∷ ys) (all_again xs all.1)

-- ---- faults of links

abbrev AreKnown : List (List ℕ) → List (ℕ × ℕ) → Type 0
AreKnown names links = AllByRecursion (λ l. (l.0 < length names) × (l.1 < length names)) links

links_again : (names : List (List ℕ)) → AreNodeNames names → (kind : LinkFault) (links : List (ℕ × ℕ)) → AreKnown names links
    → list_any is_self_link links ≡ false → parsed_links names (Some kind) (map (edn_of_link names) links) ≡ Ok (fault_on_links kind (kept_links links))
links_again names named kind links those others =
    let known = all_known (edn_of_link names) (ends_of names) (λ l. (l.0 < length names) × (l.1 < length names)) (ends_again names named) links those in
    let again = all_again (edn_of_link names) (ends_of names) (λ l. (l.0 < length names) × (l.1 < length names)) (ends_again names named) links those in
    rw (known, again, others) refl

within : (least most n : ℕ) → least ≤ n → n ≤ most → amount_within least most (pos n) ≡ Some n
within least most n low high = rw (le-leb least n low, le-leb n most high) refl

-- ---- faults of nodes

nodes_again : (names : List (List ℕ)) → AreNodeNames names → (kind : NodeFault) (nodes : List ℕ) → AllByRecursion (λ n. n < length names) nodes
    → parsed_nodes names kind (map (edn_of_name names) nodes) ≡ Ok (fault_on_nodes kind (kept_nodes nodes))
nodes_again names named kind nodes those =
    let known = all_known (edn_of_name names) (named_node names) (λ n. n < length names) (node_again names named) nodes those in
    let again = all_again (edn_of_name names) (named_node names) (λ n. n < length names) (node_again names named) nodes those in
    rw (known, again) refl

-- ---- bumps

bump_amount : (z : ℤ) → IsBumpAmount z → is_bump_amount z ≡ true
bump_amount (pos n) h =
    let some : 0 < n = omega (arith, ints, h.0) in
    let most : n ≤ 10 ^ 9 = omega (arith, ints, h.2) in
    rw (lt-ltb 0 n some, le-leb n (10 ^ 9) most) refl
bump_amount (negsuc n) h = let most : n < 10 ^ 9 = omega (arith, ints, h.1) in lt-ltb n (10 ^ 9) most

amounts : (bumps : List (ℕ × ℤ)) → AllByRecursion (λ b. IsBumpAmount b.1) bumps → list_all (λ b. is_bump_amount b.1) bumps ≡ true
amounts [] all = refl
amounts (b ∷ bs) all = and_from (is_bump_amount b.1) (list_all (λ x. is_bump_amount x.1) bs) (bump_amount b.1 all.0) (amounts bs all.1)

-- no bump before these is the same as one of them
abbrev Unlike : List (ℕ × ℤ) → List (ℕ × ℤ) → Type 0
Unlike before bumps = AllByRecursion (λ b. list_any (λ x. is_same_bumped x b) before ≡ false) bumps

one_more : (before : List (ℕ × ℤ)) (b : ℕ × ℤ) (bs : List (ℕ × ℤ)) → Unlike before bs → AllByRecursion (λ c. is_same_bumped b c ≡ false) bs → Unlike (before ++ b ∷ []) bs
one_more before b [] unlike apart = tt
one_more before b (c ∷ cs) unlike apart =
    let last = or_from (is_same_bumped b c) false apart.0 refl in
    let all = list_any-append (λ x. is_same_bumped x c) before (b ∷ []) ∙ or_from (list_any (λ x. is_same_bumped x c) before) (list_any (λ x. is_same_bumped x c) (b ∷ [])) unlike.0 last in
    (all, one_more before b cs unlike.1 apart.1)

apart_after : (before bumps : List (ℕ × ℤ)) → Unlike before bumps → Apart is_same_bumped bumps → are_apart_after before bumps ≡ true
apart_after before [] unlike apart = refl
apart_after before (b ∷ bs) unlike apart =
    and_from (not (list_any (λ x. is_same_bumped x b) before)) (are_apart_after (before ++ b ∷ []) bs) (not_from_false (list_any (λ x. is_same_bumped x b) before) unlike.0)
    (apart_after (before ++ b ∷ []) bs (one_more before b bs unlike.1 (none_each (is_same_bumped b) bs apart.0)) apart.1)

nothing_before : (bumps : List (ℕ × ℤ)) → Unlike [] bumps
nothing_before [] = tt
nothing_before (b ∷ bs) = (refl, nothing_before bs)

are_bumps_again : (bumps : List (ℕ × ℤ)) → AllByRecursion (λ b. IsBumpAmount b.1) bumps → Apart is_same_bumped bumps → are_bumps bumps ≡ true
are_bumps_again bumps right apart =
    and_from (list_all (λ b. is_bump_amount b.1) bumps) (are_apart_after [] bumps) (amounts bumps right) (apart_after [] bumps (nothing_before bumps) apart)

bumps_again : (names : List (List ℕ)) → AreNodeNames names → (bumps : List (ℕ × ℤ)) → AllByRecursion (λ b. b.0 < length names) bumps
    → are_bumps bumps ≡ true → parsed_bumps names (map (edn_of_bump names) bumps) ≡ Ok (Bump bumps)
bumps_again names named bumps those right =
    let known = all_known (edn_of_bump names) (bump_of names) (λ b. b.0 < length names) (bump_again names named) bumps those in
    let again = all_again (edn_of_bump names) (bump_of names) (λ b. b.0 < length names) (bump_again names named) bumps those in
    rw (known, again, right) refl

-- ---- any fault

turned : (x y : ℕ × ℤ) → is_same_bumped x y ≡ is_same_bumped y x
turned x y =
    elim (x.0 == y.0) as (λ t. (x.0 == y.0) ≡ t → t ≡ (y.0 == x.0)) [
      | true ↦ λ is. sym (eq-eqb y.0 x.0 (sym (eqb-true x.0 y.0 is)))
      | false ↦ λ is. grind (arith, common_steps, is)
    ] refl

-- the bumps in order
pub known_bumps : (count : ℕ) (bumps : List (ℕ × ℤ)) → All (λ b. b.0 < count) bumps → AllByRecursion (λ b. b.0 < count) (in_order is_bump_before bumps)
known_bumps count bumps fits = all_in_order is_bump_before (λ b. b.0 < count) bumps (recursion_from_All (λ b. b.0 < count) bumps fits)

pub right_bumps : (bumps : List (ℕ × ℤ)) → All (λ b. IsBumpAmount b.1) bumps → AllByRecursion (λ b. IsBumpAmount b.1) (in_order is_bump_before bumps)
right_bumps bumps right = all_in_order is_bump_before (λ b. IsBumpAmount b.1) bumps (recursion_from_All (λ b. IsBumpAmount b.1) bumps right)

pub apart_bumps : (bumps : List (ℕ × ℤ)) → AreApart is_same_bumped bumps → Apart is_same_bumped (in_order is_bump_before bumps)
apart_bumps bumps apart = apart_in_order is_same_bumped turned is_bump_before bumps (apart_behind is_same_bumped bumps apart)

abbrev pub LinksKept : Type 0
LinksKept = (links : List (ℕ × ℕ)) → AreApart is_same_link links → kept_links (in_order is_link_before links) ≡ in_order is_link_before links

abbrev pub NodesKept : Type 0
NodesKept = (nodes : List ℕ) → AreApart is_same_node nodes → kept_nodes (in_order is_node_before nodes) ≡ in_order is_node_before nodes

module _ (links_kept : LinksKept) (nodes_kept : NodesKept) (names : List (List ℕ)) (named : AreNodeNames names) where
  links_parsed : (kind : LinkFault) (links : List (ℕ × ℕ)) → All (λ l. (l.0 < length names) × (l.1 < length names)) links
      → list_any is_self_link links ≡ false → AreApart is_same_link links
      → parsed_links names (Some kind) (map (edn_of_link names) (in_order is_link_before links)) ≡ Ok (fault_on_links kind (in_order is_link_before links))
  links_parsed kind links fits others apart =
      links_again names named kind (in_order is_link_before links)
      (all_in_order is_link_before (λ l. (l.0 < length names) × (l.1 < length names)) links (recursion_from_All (λ l. (l.0 < length names) × (l.1 < length names)) links fits))
      (none_in_order is_link_before is_self_link links others)
      ∙ ap (λ kept. Ok (fault_on_links kind kept)) (links_kept links apart)

  nodes_parsed : (kind : NodeFault) (nodes : List ℕ) → All (λ n. n < length names) nodes → AreApart is_same_node nodes
      → parsed_nodes names kind (map (edn_of_name names) (in_order is_node_before nodes)) ≡ Ok (fault_on_nodes kind (in_order is_node_before nodes))
  nodes_parsed kind nodes fits apart =
      nodes_again names named kind (in_order is_node_before nodes) (all_in_order is_node_before (λ n. n < length names) nodes (recursion_from_All (λ n. n < length names) nodes fits))
      ∙ ap (λ kept. Ok (fault_on_nodes kind kept)) (nodes_kept nodes apart)

  pub fault_again : (fault : FaultValue) → IsFaultOn (length names) fault → IsTextOfFault (edn_of_fault names fault) names (fault_in_order fault)
  unfolding fault_kind_named
  fault_again (Cut links) h =
      let ls = in_order is_link_before links in (
        Links GivenLinkFault.Cut (map (edn_of_link names) ls),
        ap (option_map (Links GivenLinkFault.Cut)) (links_are names ls),
        links_parsed LinkFault.Cut links h.fits h.others h.is_fault,
      )
  fault_again (Slow ms links) h =
      let ls = in_order is_link_before links in
      let given : GivenLinkFault = GivenLinkFault.Slow (pos ms) in
      let right : link_fault_of given ≡ Some (LinkFault.Slow ms) = ap (option_map LinkFault.Slow) (within 1 60000 ms (omega (arith, h.is_fault.0.0)) h.is_fault.0.1) in (
        Links given (map (edn_of_link names) ls),
        ap (option_map (Links given)) (links_are names ls),
        ap (λ kind. parsed_links names kind (map (edn_of_link names) ls)) right ∙ links_parsed (LinkFault.Slow ms) links h.fits h.others h.is_fault.1,
      )
  fault_again (Loss level links) h =
      let ls = in_order is_link_before links in
      let given : GivenLinkFault = GivenLinkFault.Loss (pos level) in
      let right : link_fault_of given ≡ Some (LinkFault.Loss level) = ap (option_map LinkFault.Loss) (within 1 20 level (omega (arith, h.is_fault.0.0)) h.is_fault.0.1) in (
        Links given (map (edn_of_link names) ls),
        ap (option_map (Links given)) (links_are names ls),
        ap (λ kind. parsed_links names kind (map (edn_of_link names) ls)) right ∙ links_parsed (LinkFault.Loss level) links h.fits h.others h.is_fault.1,
      )
  fault_again (Fix ms links) h =
      let ls = in_order is_link_before links in
      let given : GivenLinkFault = GivenLinkFault.Fix (pos ms) in
      let right : link_fault_of given ≡ Some (LinkFault.Fix ms) = ap (option_map LinkFault.Fix) (within 0 60000 ms (omega arith) h.is_fault.0) in (
        Links given (map (edn_of_link names) ls),
        ap (option_map (Links given)) (links_are names ls),
        ap (λ kind. parsed_links names kind (map (edn_of_link names) ls)) right ∙ links_parsed (LinkFault.Fix ms) links h.fits h.others h.is_fault.1,
      )
  fault_again (Pause nodes) h =
      let ns = in_order is_node_before nodes in (
        Nodes NodeFault.Pause (map (edn_of_name names) ns),
        ap (option_map (Nodes NodeFault.Pause)) (nodes_are names ns),
        nodes_parsed NodeFault.Pause nodes h.fits h.is_fault,
      )
  fault_again (Kill nodes) h =
      let ns = in_order is_node_before nodes in (
        Nodes NodeFault.Kill (map (edn_of_name names) ns),
        ap (option_map (Nodes NodeFault.Kill)) (nodes_are names ns),
        nodes_parsed NodeFault.Kill nodes h.fits h.is_fault,
      )
  fault_again (Bump bumps) h =
      let bs = in_order is_bump_before bumps in (
        Bumps (map (edn_of_bump names) bs),
        ap (option_map Bumps) (bumps_are names bs),
        bumps_again names named bs (known_bumps (length names) bumps h.fits) (are_bumps_again bs (right_bumps bumps h.is_fault.0) (apart_bumps bumps h.is_fault.1)),
      )
