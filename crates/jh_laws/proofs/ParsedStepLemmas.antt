-- A step that is a value's can be written.
use Rattle.std.proofs.Common.{◌≡◌, ℕ, ◌+◌, ◌*◌, ◌/◌, ◌%◌, ◌-◌, ◌^◌, ◌<◌, ◌≤◌, inl, inr, Bool, true, false, List, [], length, get_or, codes, filter_map, Option, Some, None, Ok, Err, refl, sym, ap, subst, ◌∙◌, arith}
use Rattle.std.specs.Prelude.{◌≢◌, ℤ, pos, negsuc, is_none, ◌&&◌, ◌||◌, ◌==◌, nat_le, nat_lt, slice_get, ok_or, option_map, option_and_then, if◌then◌else◌, IfSome, IfOk, Result}
use Rattle.std.specs.List.{All, AllPairs, list_any, range_with_len}
use Rattle.std.specs.Str.{bytes_eq}
use Rattle.std.proofs.lemmas.Bool.{and_parts, or_cases, eqb-true, leb-true, ltb-true, ne_eqb, cases_lt, cases_order}
use Rattle.std.proofs.lemmas.List.Elements.{All-from_recursion, All-nil, All-weaker, Contains-get_or}
use Rattle.std.proofs.lemmas.List.Folds.{list_any_none}
use Rattle.std.proofs.lemmas.List.Quantifiers.{position-Some}
use Rattle.std.proofs.lemmas.Nat.{mod-mul-add}
use Rattle.std.proofs.lemmas.Option.{slice_get_within, get_or_from_slice_get}
use Rattle.jh_edn.specs.Edn.{Edn, int, keyword, list, vector, Items, no_items, item, list_of}
use Rattle.jh_env.specs.Faults.{FaultValue, AreApart, kept_links, kept_nodes, is_self_link, is_same_link, is_same_node}
use Rattle.jh_env.specs.Faults.{Bump}
use Rattle.jh_env.specs.declared.faults.FaultError.TheVariants as FaultError
use Rattle.jh_env.specs.Amounts.{IsLinkAmount, amount_within, link_fault_of}
use Rattle.jh_env.specs.declared.amounts.GivenLinkFault.{GivenLinkFault}
use Rattle.jh_env.specs.Names.{node_places}
use Rattle.jh_tables.specs.Plain.{fault_on_links, fault_on_nodes}
use Rattle.jh_tables.specs.declared.faults.LinkFault.{LinkFault}
use Rattle.jh_tables.specs.declared.faults.NodeFault.{NodeFault}
use Rattle.jh_env.proofs.FaultLemmas.{kept_apart, kept_all, none_apart}
use Rattle.jh_env.specs.TextErrors.{place_of}
use Rattle.jh_env.specs.Naming.{link_names, node_name, bump_spelled, known_pair, ends_of, named_node, bump_of, are_bumps}
use Rattle.jh_step_texts.specs.FaultText.{FaultSpelling, Links, Nodes, Bumps, SplitOne, Grudge, IsRingOverAll, fault_or_refusal, result_or_refusal, parsed_links, parsed_nodes, parsed_bumps, cut_of, parsed_split, parsed_named, parsed_fault, fault_spelling}
use Rattle.jh_step_texts.specs.NamedFaults.{AreLinksAmong, links_that, crosses, crosses_halves, crosses_bridge, touches, leaves_majority, is_at, is_option_of, ring_links, seeded_order}
use Rattle.jh_step_texts.specs.StepText.{id_of, begin_of_fault, parsed_begin, parsed_withdraw, parsed_keyword, step_of_elements, parsed_step, fault_of_begin}
use Rattle.jh_nemesis.specs.declared.steps.Step.{Step}
use Rattle.jh_nemesis.specs.declared.steps.Step.TheVariants.{Withdraw, WithdrawAll, Undo, Redo}
use Rattle.jh_step_texts.specs.declared.steps.StepTextError.{StepTextError}
use Rattle.jh_step_texts.specs.declared.steps.StepTextError.TheVariants.{BadStep, BadId, UnknownNode}
use Rattle.jh_step_texts.specs.declared.spelling.NamedGrudge.{NamedGrudge}
use Rattle.jh_env.proofs.BumpLemmas.{bumps_right}
use Rattle.jh_step_texts.proofs.GrudgeLemmas.{made_crossing, places_apart, order_distinct}
use Rattle.jh_step_texts.proofs.LinkLemmas.{some_of_any, in_range, in_links}
use Rattle.jh_laws.specs.StepLines.{IsFaultOn, IsStepOver}
use Rattle.jh_laws.proofs.EnvironmentLemmas.{all_kept}
use Rattle.jh_laws.proofs.OrderLemmas.{none_each}

-- ---- names that are known

below_place : (names : List (List ℕ)) (name : List ℕ) → IfSome (place_of names name) (λ i. i < length names)
below_place names name =
    elim (place_of names name) as (λ o. place_of names name ≡ o → IfSome o (λ i. i < length names)) [
      | None ↦ λ is. tt
      | Some i ↦ λ is. (position-Some (bytes_eq name) names i [] is).0
    ] refl

abbrev Joins : ℕ → ℕ × ℕ → Type 0
Joins n l = (l.0 < n) × (l.1 < n)

both_below : (n : ℕ) (a b : Option ℕ) → IfSome a (λ i. i < n) → IfSome b (λ i. i < n) → IfSome (known_pair a b) (Joins n)
both_below n (Some i) (Some j) h k = (h, k)
both_below n (Some i) None h k = tt
both_below n None b h k = tt

ends_below : (names : List (List ℕ)) (value : Edn) → IfSome (ends_of names value) (Joins (length names))
ends_below names value =
    elim (link_names value) as (λ o. IfSome (option_and_then (λ l. known_pair (place_of names l.0) (place_of names l.1)) o) (Joins (length names))) [
      | None ↦ tt
      | Some l ↦ both_below (length names) (place_of names l.0) (place_of names l.1) (below_place names l.0) (below_place names l.1)
    ]

node_below : (names : List (List ℕ)) (value : Edn) → IfSome (named_node names value) (λ n. n < length names)
node_below names value =
    elim (node_name value) as (λ o. IfSome (option_and_then (place_of names) o) (λ n. n < length names)) [
      | None ↦ tt
      | Some name ↦ below_place names name
    ]

moved_below : (n : ℕ) (ms : ℤ) (o : Option ℕ) → IfSome o (λ i. i < n) → IfSome {T = ℕ × ℤ} (option_map (λ node. (node, ms)) o) (λ b. b.0 < n)
moved_below n ms None h = tt
moved_below n ms (Some i) h = h

bump_below : (names : List (List ℕ)) (value : Edn × Edn) → IfSome (bump_of names value) (λ b. b.0 < length names)
bump_below names value =
    elim (bump_spelled value) as (λ o. IfSome {T = ℕ × ℤ} (option_and_then (λ written. option_map (λ node. (node, written.1)) (place_of names written.0)) o) (λ b. b.0 < length names)) [
      | None ↦ tt
      | Some written ↦ moved_below (length names) written.1 (place_of names written.0) (below_place names written.0)
    ]

-- ---- faults of links

kept_known : (n : ℕ) (links : List (ℕ × ℕ)) → All (Joins n) links → All (Joins n) (kept_links links)
kept_known n links known = kept_all (Joins n) is_same_link links [] (All-nil (Joins n)) known

kept_others : (links : List (ℕ × ℕ)) → list_any is_self_link links ≡ false → list_any is_self_link (kept_links links) ≡ false
kept_others links others =
    list_any_none is_self_link (kept_links links)
    (kept_all (λ l. is_self_link l ≡ false) is_same_link links [] (All-nil (λ l. is_self_link l ≡ false))
    (All-from_recursion (λ l. is_self_link l ≡ false) links (none_each is_self_link links others)))

kept_once : (links : List (ℕ × ℕ)) → AreApart is_same_link (kept_links links)
kept_once links = kept_apart is_same_link links [] (none_apart is_same_link)

amount_is : (least most : ℕ) (z : ℤ) → IfSome (amount_within least most z) (λ n. (least ≤ n) × (n ≤ most))
amount_is least most (pos n) =
    elim (nat_le least n && nat_le n most) as (λ t. (nat_le least n && nat_le n most) ≡ t → IfSome (if t then Some n else None) (λ n. (least ≤ n) × (n ≤ most))) [
      | true ↦ λ is. let parts = and_parts (nat_le least n) (nat_le n most) is in (leb-true least n parts.0, leb-true n most parts.1)
      | false ↦ λ is. tt
    ] refl
amount_is least most (negsuc n) = tt

if_mapped : {A B : Type 0} (o : Option A) (f : A → B) (P : A → Type 0) (Q : B → Type 0) → IfSome o P → ((x : A) → P x → Q (f x)) → IfSome (option_map f o) Q
if_mapped None f P Q h each = tt
if_mapped (Some x) f P Q h each = each x h

links_made : (n : ℕ) (kind : LinkFault) (links : List (ℕ × ℕ)) → IsLinkAmount kind → All (Joins n) links → list_any is_self_link links ≡ false
    → IsFaultOn n (fault_on_links kind (kept_links links))
links_made n LinkFault.Cut links right known others = record { fits = kept_known n links known; is_fault = kept_once links; others = kept_others links others }
links_made n (LinkFault.Slow ms) links right known others = record { fits = kept_known n links known; is_fault = (right, kept_once links); others = kept_others links others }
links_made n (LinkFault.Loss level) links right known others = record { fits = kept_known n links known; is_fault = (right, kept_once links); others = kept_others links others }
links_made n (LinkFault.Fix ms) links right known others = record { fits = kept_known n links known; is_fault = (right, kept_once links); others = kept_others links others }

if_needed : {A B : Type 0} (o : Option A) (refusal : StepTextError) (made : A → Result B StepTextError) (P : A → Type 0) (Q : B → Type 0) → IfSome o P
    → ((x : A) → P x → IfOk (made x) Q) → IfOk (result_or_refusal o refusal made) Q
if_needed None refusal made P Q h each = tt
if_needed (Some x) refusal made P Q h each = each x h

if_judged : (o : Option LinkFault) (made : LinkFault → FaultValue) (P : LinkFault → Type 0) (Q : FaultValue → Type 0) → IfSome o P
    → ((x : LinkFault) → P x → Q (made x)) → IfOk (fault_or_refusal (ok_or (option_map made o) FaultError.BadAmount)) Q
if_judged None made P Q h each = tt
if_judged (Some x) made P Q h each = each x h

links_parsed : (names : List (List ℕ)) (kind : Option LinkFault) (values : List Edn) → IfSome kind IsLinkAmount → IfOk (parsed_links names kind values) (IsFaultOn (length names))
links_parsed names kind values right =
    let n = length names in
    let ends = filter_map (ends_of names) values in
    let made : LinkFault → FaultValue = λ kind. fault_on_links kind (kept_links ends) in
    let known = All-from_recursion (Joins n) ends (all_kept (ends_of names) (Joins n) (ends_below names) values) in
    elim (list_any (λ l. is_none (ends_of names l)) values)
    as (λ t. IfOk (fault_or_refusal (if t then Err FaultError.UnknownNode else if list_any is_self_link ends then Err FaultError.SelfLink else ok_or (option_map made kind) FaultError.BadAmount)) (IsFaultOn n)) [
      | true ↦ tt
      | false ↦ elim (list_any is_self_link ends)
          as (λ t. list_any is_self_link ends ≡ t → IfOk (fault_or_refusal (if t then Err FaultError.SelfLink else ok_or (option_map made kind) FaultError.BadAmount)) (IsFaultOn n)) [
            | true ↦ λ is. tt
            | false ↦ λ is. if_judged kind made IsLinkAmount (IsFaultOn n) right (λ kind right. links_made n kind ends right known is)
          ] refl
    ]

-- ---- faults of nodes, and bumps

nodes_made : (n : ℕ) (kind : NodeFault) (nodes : List ℕ) → All (λ a. a < n) nodes → IsFaultOn n (fault_on_nodes kind (kept_nodes nodes))
nodes_made n NodeFault.Pause nodes known =
    record { fits = kept_all (λ a. a < n) is_same_node nodes [] (All-nil (λ a. a < n)) known; is_fault = kept_apart is_same_node nodes [] (none_apart is_same_node); others = refl }
nodes_made n NodeFault.Kill nodes known =
    record { fits = kept_all (λ a. a < n) is_same_node nodes [] (All-nil (λ a. a < n)) known; is_fault = kept_apart is_same_node nodes [] (none_apart is_same_node); others = refl }

nodes_parsed : (names : List (List ℕ)) (kind : NodeFault) (values : List Edn) → IfOk (parsed_nodes names kind values) (IsFaultOn (length names))
nodes_parsed names kind values =
    let n = length names in
    let nodes = filter_map (named_node names) values in
    let known = All-from_recursion (λ a. a < n) nodes (all_kept (named_node names) (λ a. a < n) (node_below names) values) in
    elim (list_any (λ v. is_none (named_node names v)) values) as (λ t. IfOk (fault_or_refusal (if t then Err FaultError.UnknownNode else Ok (fault_on_nodes kind (kept_nodes nodes)))) (IsFaultOn n)) [
      | true ↦ tt
      | false ↦ nodes_made n kind nodes known
    ]

bumps_parsed : (names : List (List ℕ)) (values : List (Edn × Edn)) → IfOk (parsed_bumps names values) (IsFaultOn (length names))
bumps_parsed names values =
    let n = length names in
    let bumps = filter_map (bump_of names) values in
    let known = All-from_recursion (λ b. b.0 < n) bumps (all_kept (bump_of names) (λ b. b.0 < n) (bump_below names) values) in
    elim (list_any (λ b. is_none (bump_of names b)) values)
    as (λ t. IfOk (fault_or_refusal (if t then Err FaultError.UnknownNode else if are_bumps bumps then Ok (Bump bumps) else Err FaultError.BadAmount)) (IsFaultOn n)) [
      | true ↦ tt
      | false ↦ elim (are_bumps bumps) as (λ t. are_bumps bumps ≡ t → IfOk (fault_or_refusal (if t then Ok (Bump bumps) else Err FaultError.BadAmount)) (IsFaultOn n)) [
        | true ↦ λ is. record { fits = known; is_fault = bumps_right bumps is; others = refl }
        | false ↦ λ is. tt
      ] refl
    ]

-- ---- faults that are named by a grudge

cut_made : (n : ℕ) (links : List (ℕ × ℕ)) → AreLinksAmong n links → IsFaultOn n (cut_of links)
cut_made n links among =
    let known = All-weaker (λ l. (l.0 < n) × (l.1 < n) × (l.0 ≢ l.1)) (Joins n) (λ l h. (h.0, h.1)) links among in
    let others = list_any_none is_self_link links (All-weaker (λ l. (l.0 < n) × (l.1 < n) × (l.0 ≢ l.1)) (λ l. is_self_link l ≡ false) (λ l h. ne_eqb l.0 l.1 h.2) links among) in
    record { fits = kept_known n links known; is_fault = kept_once links; others = kept_others links others }

crossing : (is : ℕ → Bool) (n : ℕ) → AreLinksAmong n (links_that (crosses is) n)
crossing is n = made_crossing {E = StepTextError} (Ok (links_that (crosses is) n)) is n refl

off_bridge : (h a b : ℕ) → ((nat_lt a h && nat_lt h b) || (nat_lt h a && nat_lt b h)) ≡ true → a ≢ b
off_bridge h a b hit same =
    elim (or_cases (nat_lt a h && nat_lt h b) (nat_lt h a && nat_lt b h) hit) [
      | inl low ↦ (let parts = and_parts (nat_lt a h) (nat_lt h b) low in omega (arith, ltb-true a h parts.0, ltb-true h b parts.1, same))
      | inr high ↦ (let parts = and_parts (nat_lt h a) (nat_lt b h) high in omega (arith, ltb-true h a parts.0, ltb-true b h parts.1, same))
    ]

bridging : (n : ℕ) → AreLinksAmong n (links_that (crosses_bridge n) n)
bridging n k d within =
    let link = get_or (links_that (crosses_bridge n) n) k d in
    let ends = in_links (crosses_bridge n) n link (Contains-get_or (links_that (crosses_bridge n) n) k d within) in
    (ends.0, ends.1, off_bridge (n / 2) link.0 link.1 ends.2)

at_place : (order : List ℕ) (place node : ℕ) → is_at order place node ≡ true → slice_get order place ≡ Some node
at_place order place node hit = go (slice_get order place) hit where
  go : (o : Option ℕ) → is_option_of node o ≡ true → o ≡ Some node
  go None hit = absurd cc
  go (Some b) hit = ap Some (eqb-true b node hit)

-- a node stands at one place of different nodes
one_place : (order : List ℕ) → AllPairs (λ a b. a ≢ b) order → (i j a : ℕ) → slice_get order i ≡ Some a → slice_get order j ≡ Some a → i ≡ j
one_place order apart i j a at there =
    elim (cases_order i j) [
      | inl same ↦ same
      | inr other ↦ elim other [
        | inl less ↦ absurd (apart i j a less (slice_get_within order j a there) (get_or_from_slice_get order i a a at ∙ sym (get_or_from_slice_get order j a a there)))
        | inr more ↦ absurd (apart j i a more (slice_get_within order i a at) (get_or_from_slice_get order j a a there ∙ sym (get_or_from_slice_get order i a a at)))
      ]
    ]

-- going on around by less than all leads elsewhere
elsewhere : (i k m : ℕ) → i < m → 0 < k → k < m → i ≡ (i + k) % m → ⊥
elsewhere i k m within some less same =
    elim (cases_lt (i + k) m) [
      | inl low ↦ (let near : 0 * m + (i + k) ≡ i + k = omega arith in
          let stays : (i + k) % m ≡ i + k = ap (λ x. x % m) (sym near) ∙ mod-mul-add 0 m (i + k) low in
          omega (arith, same, stays))
      | inr high ↦ (let rest : i + k - m < m = omega (arith, within, less, high) in
          let far : 1 * m + (i + k - m) ≡ i + k = omega (arith, high) in
          let turns : (i + k) % m ≡ i + k - m = ap (λ x. x % m) (sym far) ∙ mod-mul-add 1 m (i + k - m) rest in
          omega (arith, same, turns, high))
    ]

ringing : (order : List ℕ) (n : ℕ) → AllPairs (λ a b. a ≢ b) order → AreLinksAmong n (ring_links order n)
ringing order n apart k d within =
    let link = get_or (ring_links order n) k d in
    let ends = in_links (leaves_majority order) n link (Contains-get_or (ring_links order n) k d within) in
    (ends.0, ends.1, λ same. leaves link.0 link.1 same ends.2)
  where
    leaves : (src dst : ℕ) → src ≡ dst → leaves_majority order (src, dst) ≡ true → ⊥
    leaves src dst same hit =
        let m = length order in
        let seen = some_of_any (λ i. is_at order i dst && list_any (λ k. is_at order ((i + k) % m) src) (range_with_len (m / 2 + 1) (m - (m / 2 + 1)))) (range_with_len 0 m) hit in
        let parts = and_parts (is_at order seen.0 dst) (list_any (λ k. is_at order ((seen.0 + k) % m) src) (range_with_len (m / 2 + 1) (m - (m / 2 + 1)))) seen.2 in
        let dropped = some_of_any (λ k. is_at order ((seen.0 + k) % m) src) (range_with_len (m / 2 + 1) (m - (m / 2 + 1))) parts.1 in
        let steps = in_range (m / 2 + 1) (m - (m / 2 + 1)) dropped.0 dropped.1 in
        let to = at_place order seen.0 dst parts.0 in
        let from = at_place order ((seen.0 + dropped.0) % m) src dropped.2 in
        elsewhere seen.0 dropped.0 m (slice_get_within order seen.0 dst to) (omega (arith, steps.0)) (omega (arith, steps.0, steps.1))
        (one_place order apart seen.0 ((seen.0 + dropped.0) % m) dst to (subst (λ a. slice_get order ((seen.0 + dropped.0) % m) ≡ Some a) same from))

named_parsed : (n : ℕ) (named : NamedGrudge) → IsRingOverAll n (Some (Grudge named)) → IfOk (parsed_named n named) (IsFaultOn n)
named_parsed n NamedGrudge.Halves ring = cut_made n (links_that (crosses_halves n) n) (crossing (λ a. nat_lt a (n / 2)) n)
named_parsed n NamedGrudge.Bridge ring = cut_made n (links_that (crosses_bridge n) n) (bridging n)
named_parsed n NamedGrudge.Ring ring = cut_made n (ring_links (node_places n) n) (ringing (node_places n) n (places_apart n))
named_parsed n (NamedGrudge.ShuffledRing (pos seed)) ring = cut_made n (ring_links (seeded_order seed n) n) (ringing (seeded_order seed n) n (order_distinct n (seeded_order seed n) ring))
named_parsed n (NamedGrudge.ShuffledRing (negsuc z)) ring = tt

split_parsed : (names : List (List ℕ)) (loner : List ℕ) → IfOk (parsed_split names loner) (IsFaultOn (length names))
split_parsed names loner =
    if_needed (place_of names loner) UnknownNode (λ place. Ok (cut_of (links_that (touches place) (length names)))) (λ place. place < length names) (IsFaultOn (length names))
    (below_place names loner) (λ place below. cut_made (length names) (links_that (touches place) (length names)) (crossing (λ a. a == place) (length names)))

-- ---- amounts

given_right : (given : GivenLinkFault) → IfSome (link_fault_of given) IsLinkAmount
given_right GivenLinkFault.Cut = tt
given_right (GivenLinkFault.Slow z) = if_mapped (amount_within 1 60000 z) LinkFault.Slow (λ ms. (1 ≤ ms) × (ms ≤ 60000)) IsLinkAmount (amount_is 1 60000 z) (λ ms h. (omega (arith, h.0), h.1))
given_right (GivenLinkFault.Loss z) = if_mapped (amount_within 1 20 z) LinkFault.Loss (λ level. (1 ≤ level) × (level ≤ 20)) IsLinkAmount (amount_is 1 20 z) (λ level h. (omega (arith, h.0), h.1))
given_right (GivenLinkFault.Fix z) = if_mapped (amount_within 0 60000 z) LinkFault.Fix (λ ms. (0 ≤ ms) × (ms ≤ 60000)) IsLinkAmount (amount_is 0 60000 z) (λ ms h. h.1)

-- ---- steps

fault_parsed : (names : List (List ℕ)) (parts : FaultSpelling) → IsRingOverAll (length names) (Some parts)
    → IfOk (parsed_fault names parts) (IsFaultOn (length names))
fault_parsed names (Links given links) ring = links_parsed names (link_fault_of given) links (given_right given)
fault_parsed names (Nodes kind nodes) ring = nodes_parsed names kind nodes
fault_parsed names (Bumps bumps) ring = bumps_parsed names bumps
fault_parsed names (SplitOne loner) ring = split_parsed names loner
fault_parsed names (Grudge named) ring = named_parsed (length names) named ring

id_below : (z : ℤ) → IfSome (id_of z) (λ id. id < 2 ^ 32)
id_below (pos n) =
    elim (nat_lt n (2 ^ 32)) as (λ t. nat_lt n (2 ^ 32) ≡ t → IfSome (if t then Some n else None) (λ id. id < 2 ^ 32)) [
      | true ↦ λ is. ltb-true n (2 ^ 32) is
      | false ↦ λ is. tt
    ] refl
id_below (negsuc n) = tt

begun_is : (n id : ℕ) (answer : Result FaultValue StepTextError) → id < 2 ^ 32 → IfOk answer (IsFaultOn n) → IfOk (begin_of_fault id answer) (IsStepOver n)
begun_is n id (Ok fault) less h = (less, h)
begun_is n id (Err refusal) less h = tt

begin_parsed : (names : List (List ℕ)) (z : ℤ) (fault : Edn) → IsRingOverAll (length names) (fault_spelling fault) → IfOk (parsed_begin names z fault) (IsStepOver (length names))
begin_parsed names z fault ring =
    elim (fault_spelling fault)
    as (λ o. IsRingOverAll (length names) o
    → IfOk (result_or_refusal o BadStep (λ parts. result_or_refusal (id_of z) BadId (λ id. begin_of_fault id (parsed_fault names parts)))) (IsStepOver (length names))) [
      | None ↦ λ h. tt
      | Some parts ↦ λ h.
          if_needed (id_of z) BadId (λ id. begin_of_fault id (parsed_fault names parts)) (λ id. id < 2 ^ 32) (IsStepOver (length names)) (id_below z)
          (λ id less. begun_is (length names) id (parsed_fault names parts) less (fault_parsed names parts h))
    ] ring

withdraw_parsed : (n : ℕ) (z : ℤ) → IfOk (parsed_withdraw z) (IsStepOver n)
withdraw_parsed n z = if_needed (id_of z) BadId (λ id. Ok (Withdraw id)) (λ id. id < 2 ^ 32) (IsStepOver n) (id_below z) (λ id less. less)

keyword_parsed : (n : ℕ) (name : List ℕ) → IfOk (parsed_keyword name) (IsStepOver n)
keyword_parsed n name =
    elim (bytes_eq name (codes "withdraw-all"))
    as (λ t. IfOk (if t then Ok WithdrawAll else if bytes_eq name (codes "undo") then Ok Undo else if bytes_eq name (codes "redo") then Ok Redo else Err BadStep) (IsStepOver n)) [
      | true ↦ tt
      | false ↦ elim (bytes_eq name (codes "undo")) as (λ t. IfOk (if t then Ok Undo else if bytes_eq name (codes "redo") then Ok Redo else Err BadStep) (IsStepOver n)) [
        | true ↦ tt
        | false ↦ elim (bytes_eq name (codes "redo")) as (λ t. IfOk (if t then Ok Redo else Err BadStep) (IsStepOver n)) [ true ↦ tt | false ↦ tt ]
      ]
    ]

if_chosen : (t : Bool) (answer : Result Step StepTextError) (P : Step → Type 0) → IfOk answer P → IfOk (if t then answer else Err BadStep) P
if_chosen true answer P h = h
if_chosen false answer P h = tt

items_parsed : (names : List (List ℕ)) (xs : Items) → IsRingOverAll (length names) (option_and_then fault_spelling (fault_of_begin (vector xs)))
    → IfOk (step_of_elements names (list_of xs)) (IsStepOver (length names))
items_parsed names (item (keyword name) no_items) ring = keyword_parsed (length names) name
items_parsed names (item (keyword name) (item (int z) no_items)) ring =
    if_chosen (bytes_eq name (codes "withdraw")) (parsed_withdraw z) (IsStepOver (length names)) (withdraw_parsed (length names) z)
items_parsed names (item (keyword name) (item (int z) (item fault no_items))) ring =
    if_chosen (bytes_eq name (codes "begin")) (parsed_begin names z fault) (IsStepOver (length names)) (begin_parsed names z fault ring)
items_parsed names xs ring = tt

value_parsed : (names : List (List ℕ)) (value : Edn) → IsRingOverAll (length names) (option_and_then fault_spelling (fault_of_begin value))
    → IfOk (parsed_step names value) (IsStepOver (length names))
value_parsed names (list xs) ring = items_parsed names xs ring
value_parsed names (vector xs) ring = items_parsed names xs ring
value_parsed names value ring = tt

pub step_parsed : (names : List (List ℕ)) (value : Edn) (step : Step) → parsed_step names value ≡ Ok step
    → IsRingOverAll (length names) (option_and_then fault_spelling (fault_of_begin value)) → IsStepOver (length names) step
step_parsed names value step parsed ring = subst (λ answer. IfOk answer (IsStepOver (length names))) parsed (value_parsed names value ring)
