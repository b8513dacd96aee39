-- The links between two sides of an order, and why a fault of links or nodes that are there is refused.
use Rattle.std.proofs.Common.{◌≡◌, ℕ, ◌<◌, ◌≤◌, true, false, List, [], ◌∷◌, ◌++◌, get_or, length, take, drop, refl, sym, ap, subst, ◌∙◌, inl, inr, arith}
use Rattle.std.specs.Prelude.{◌≢◌, if◌then◌else◌, ℤ, Bool, map, IsPermutation, IsSome, Option, IfErr, IfOk, MatchResult, Result, Ok, Err}
use lib.Seq.{length-take-le}
use Rattle.std.specs.List.{All, AllPairs, Contains, list_any}
use Rattle.std.proofs.lemmas.Bool.{eqb-true, or_from, or_parts}
use Rattle.std.proofs.lemmas.List.{get_or-map, get_or-take, length-map, take-append-drop}
use Rattle.std.proofs.lemmas.List.Elements.{All-nil, All-cons, All-append, All-map, All-take, All-contains, Contains-append_left, Contains-append_right}
use Rattle.std.proofs.lemmas.List.Folds.{list_any-append}
use Rattle.jh_env.specs.Faults.{FaultValue, AreApart, kept_list, kept_links, is_self_link, is_same_link, IsBumpAmount, is_same_bumped}
use Rattle.jh_env.specs.Naming.{RefusesFault, judged_bumps, judged_links, judged_nodes, known_bump, known_link, known_node}
use Rattle.jh_tables.specs.declared.faults.LinkFault.{LinkFault}
use Rattle.jh_tables.specs.declared.faults.NodeFault.{NodeFault}
use Rattle.jh_env.specs.declared.faults.FaultError.TheVariants as FaultError
use Rattle.jh_env.proofs.NamingLemmas.{bumps_known_right, memory_alone, nodes_right}
use Rattle.jh_grudge.specs.Grudges.{JoinsTwoOf}
use Rattle.jh_grudge.specs.Lists.{AreDistinct}
use Rattle.jh_env.specs.Names.{node_places}
use Rattle.jh_step_texts.specs.NamedFaults.{AreLinksAmong}
use Rattle.jh_step_texts.proofs.LinkLemmas.{all_pairs_head, all_pairs_tail, contains_cons, contains_head, contains_none, contains_tail, some_of_any}
use Rattle.jh_step_texts.proofs.FaultTextLemmas.{links_memory}
use Rattle.jh_step_texts.proofs.GrudgeLemmas.{made_among, order_below, order_distinct, order_long}
use Rattle.jh_laws.specs.StepLines.{HasNoSelfLink, links_of}
use Rattle.jh_random_faults.specs.Named.{AreNodesOf}
use Rattle.jh_random_faults.specs.RandomFaults.{links_both_ways, links_between, links_apart, first_link}

-- a link joins two different nodes of n
abbrev Joins : ℕ → ℕ × ℕ → Type 0
Joins n l = (l.0 < n) × (l.1 < n) × (l.0 ≢ l.1)

flips : {a b : ℕ} → a ≢ b → b ≢ a
flips apart same = apart (sym same)

both_among : (n node : ℕ) (others : List ℕ) → ((b : ℕ) → Contains others b → Joins n (node, b)) → AreLinksAmong n (links_both_ways node others)
both_among n node [] each = All-nil (Joins n)
both_among n node (b ∷ others) each =
    let joins = each b (contains_head b others) in
    All-cons (Joins n) (node, b) ((b, node) ∷ links_both_ways node others) joins
    (All-cons (Joins n) (b, node) (links_both_ways node others) (joins.1, joins.0, flips joins.2)
    (both_among n node others (λ c has. each c (contains_tail b others c has))))

between_among : (n : ℕ) (side rest : List ℕ) → ((a b : ℕ) → Contains side a → Contains rest b → Joins n (a, b)) → AreLinksAmong n (links_between side rest)
between_among n [] rest each = All-nil (Joins n)
between_among n (a ∷ side) rest each =
    All-append (Joins n) (links_both_ways a rest) (links_between side rest)
    (both_among n a rest (λ b has. each a b (contains_head a side) has))
    (between_among n side rest (λ c b has other. each c b (contains_tail a side c has) other))

-- nodes of two sides differ
sides_differ : (side rest : List ℕ) → AllPairs (λ x y. x ≢ y) (side ++ rest) → (a b : ℕ) → Contains side a → Contains rest b → a ≢ b
sides_differ [] rest all a b has other = absurd (contains_none a has)
sides_differ (x ∷ side) rest all a b has other =
    elim (contains_cons x side a has) [
      | inl same ↦ (λ is. All-contains (λ y. x ≢ y) (side ++ rest) b (all_pairs_head (λ x y. x ≢ y) x (side ++ rest) all)
          (Contains-append_right side rest b other) (same ∙ is))
      | inr later ↦ sides_differ side rest (all_pairs_tail (λ x y. x ≢ y) x (side ++ rest) all) a b later other
    ]

pub apart_among : (n k : ℕ) (order : List ℕ) → IsPermutation (node_places n) order → AreLinksAmong n (links_apart k order)
apart_among n k order shuffled =
    let whole : take k order ++ drop k order ≡ order = take-append-drop k order in
    let below = order_below n order shuffled in
    between_among n (take k order) (drop k order) (λ a b has other. (
      All-contains (λ x. x < n) order a below (subst (λ xs. Contains xs a) whole (Contains-append_left (take k order) (drop k order) a has)),
      All-contains (λ x. x < n) order b below (subst (λ xs. Contains xs b) whole (Contains-append_right (take k order) (drop k order) b other)),
      sides_differ (take k order) (drop k order) (subst (AllPairs (λ x y. x ≢ y)) (sym whole) (order_distinct n order shuffled)) a b has other,
    ))

pub first_among : (n : ℕ) (order : List ℕ) → IsPermutation (node_places n) order → AreLinksAmong n (first_link order)
first_among n [] shuffled = All-nil (Joins n)
first_among n (a ∷ []) shuffled = All-nil (Joins n)
first_among n (a ∷ b ∷ rest) shuffled =
    let below = order_below n (a ∷ b ∷ rest) shuffled in
    All-cons (Joins n) (a, b) [] (
      below 0 a (omega arith),
      below 1 b (omega arith),
      (order_distinct n (a ∷ b ∷ rest) shuffled) 0 1 a (omega arith) (omega arith),
    ) (All-nil (Joins n))

-- the links of a grudge over an order
pub joined_among : (order : List ℕ) (n : ℕ) → All (λ a. a < n) order → (links : List (ℕ × ℕ)) → All (JoinsTwoOf order) links → AreLinksAmong n links
joined_among order n below links joins = made_among {E = ℕ} (Ok links) order n below joins

-- ---- refusals

pub links_refused : (names : List (List ℕ)) (links : List (ℕ × ℕ)) (kind : Option LinkFault) (e : FaultError.the_data) → AreLinksAmong (length names) links → IsSome kind
    → RefusesFault (judged_links (known_link names) kind links) links e → e ≡ FaultError.OutOfMemory
links_refused names links kind e among right refused = links_memory names kind links e among right refused

pub nodes_refused : (names : List (List ℕ)) (kind : NodeFault) (nodes : List ℕ) (e : FaultError.the_data) → All (λ a. a < length names) nodes
    → RefusesFault (judged_nodes (known_node names) kind nodes) nodes e → e ≡ FaultError.OutOfMemory
nodes_refused names kind nodes e below refused = memory_alone (judged_nodes (known_node names) kind nodes) nodes e (nodes_right names kind nodes below) refused

-- the first of distinct nodes are distinct
pub taken_distinct : (k : ℕ) (nodes : List ℕ) → k ≤ length nodes → AreDistinct nodes → AreDistinct (take k nodes)
taken_distinct k nodes few distinct i j d less below =
    let long = length-take-le k nodes few in
    λ same. distinct i j d less (omega (arith, long, below, few))
    (sym (get_or-take k nodes i d (omega (arith, long, below, less))) ∙ same ∙ get_or-take k nodes j d (omega (arith, long, below)))

-- the clocks of nodes, each moved by so much
abbrev bumped : ℤ → List ℕ → List (ℕ × ℤ)
bumped ms nodes = map (λ node. (node, ms)) nodes

-- no bump has the node of an earlier one
bump_alone : (nodes : List ℕ) (ms : ℤ) (i j : ℕ) (d x : ℕ × ℤ) → AreDistinct nodes → i < length (bumped ms nodes)
    → j < length (take i (bumped ms nodes)) → get_or (take i (bumped ms nodes)) j x ≡ x
    → is_same_bumped x (get_or (bumped ms nodes) i d) ≡ true → ⊥
bump_alone nodes ms i j d x distinct below low at hit =
    let bumps = bumped ms nodes in
    let f : ℕ → ℕ × ℤ = λ node. (node, ms) in
    let long : length bumps ≡ length nodes = length-map nodes f in
    let taken = length-take-le i bumps (omega (arith, below)) in
    let less : j < i = omega (arith, low, taken, below) in
    let here : get_or bumps i d ≡ f (get_or nodes i 0) = get_or-map f nodes i 0 d (omega (arith, below, long)) in
    let there : get_or bumps j x ≡ f (get_or nodes j 0) = get_or-map f nodes j 0 x (omega (arith, below, long, less)) in
    let this : get_or bumps j x ≡ x = sym (get_or-take i bumps j x less) ∙ at in
    distinct j i 0 less (omega (arith, below, long))
    (ap (λ (b : ℕ × ℤ). b.0) (sym there ∙ this) ∙ eqb-true x.0 (get_or bumps i d).0 hit ∙ ap (λ (b : ℕ × ℤ). b.0) here)

-- bumps of distinct nodes are apart
bumps_apart : (nodes : List ℕ) (ms : ℤ) → AreDistinct nodes → AreApart is_same_bumped (bumped ms nodes)
bumps_apart nodes ms distinct i d below =
    let bumps = bumped ms nodes in
    let p : ℕ × ℤ → Bool = λ x. is_same_bumped x (get_or bumps i d) in
    elim (list_any p (take i bumps)) as (λ b. list_any p (take i bumps) ≡ b → b ≡ false) [
      | false ↦ λ is. refl
      | true ↦ λ is. (let (x, has, hit) = some_of_any p (take i bumps) is in absurd (bump_alone nodes ms i has.0 d x distinct below has.1 has.2 hit))
    ] refl

pub bumps_refused : (names : List (List ℕ)) (nodes : List ℕ) (ms : ℤ) (e : FaultError.the_data) → All (λ a. a < length names) nodes → AreDistinct nodes
    → All (λ b. IsBumpAmount b.1) (bumped ms nodes) → RefusesFault (judged_bumps (known_bump names) (bumped ms nodes)) (bumped ms nodes) e → e ≡ FaultError.OutOfMemory
bumps_refused names nodes ms e below distinct right refused =
    let f : ℕ → ℕ × ℤ = λ node. (node, ms) in
    memory_alone (judged_bumps (known_bump names) (bumped ms nodes)) (bumped ms nodes) e
    (bumps_known_right names (bumped ms nodes) (All-map (λ b. b.0 < length names) f nodes below) (right, bumps_apart nodes ms distinct)) refused

-- what is true of a fault is true of it where it is made
pub made_so : {X E F : Type 0} (P : X → Type 0) (answer : Result X E) (made : Result X F) → IfOk made (λ fault. answer ≡ Ok fault) → IfOk answer P
    → IfOk made P
made_so P answer (Ok fault) is holds = subst (λ a. IfOk a P) is holds
made_so P answer (Err e) is holds = tt

pub where_ok : {X E : Type 0} (P : X → Type 0) (F : E → Type 0) (answer : Result X E) → MatchResult answer P F → IfOk answer P
where_ok P F (Ok fault) given = given
where_ok P F (Err e) given = tt

-- where no other refusal comes than that of memory
pub only_memory : {X E : Type 0} {memory : E} (P : X → Type 0) (F : E → Type 0) (answer : Result X E)
    → ((e : E) → F e → e ≡ memory) → MatchResult answer P F → IfErr answer (λ e. e ≡ memory)
only_memory P F (Ok fault) only given = tt
only_memory P F (Err e) only given = only e given

-- the nodes that are taken from an order
pub taken_nodes : (n k : ℕ) (order : List ℕ) → IsPermutation (node_places n) order → k ≤ n → AreNodesOf n (take k order)
taken_nodes n k order shuffled few =
    let long = order_long n order shuffled in
    record {
      below = All-take (λ a. a < n) k order (order_below n order shuffled);
      distinct = taken_distinct k order (omega (arith, long, few)) (order_distinct n order shuffled);
    }

-- what no link is, none of those that are kept is
any_kept : {X : Type 0} (p : X → Bool) (same : X → X → Bool) (kept xs : List X) → list_any p kept ≡ false → list_any p xs ≡ false
    → list_any p (kept_list same kept xs) ≡ false
any_kept p same kept [] none more = none
any_kept p same kept (x ∷ xs) none more =
    let parts = or_parts (p x) (list_any p xs) more in
    let last = or_from (p x) false parts.0 refl in
    elim (list_any (λ k. same k x) kept) as (λ b. list_any p (kept_list same (if b then kept else kept ++ x ∷ []) xs) ≡ false) [
      | true ↦ any_kept p same kept xs none parts.1
      | false ↦ any_kept p same (kept ++ x ∷ []) xs (list_any-append p kept (x ∷ []) ∙ or_from (list_any p kept) (list_any p (x ∷ [])) none last) parts.1
    ]

-- a fault of links of which none leads from a node to itself
pub none_to_itself : (links : List (ℕ × ℕ)) (fault : FaultValue) → links_of fault ≡ kept_links links → list_any is_self_link links ≡ false → HasNoSelfLink fault
none_to_itself links fault is none = ap (list_any is_self_link) is ∙ any_kept is_self_link is_same_link [] links refl none
