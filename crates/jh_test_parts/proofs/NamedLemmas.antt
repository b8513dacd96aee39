-- What the code finds of the links and nodes that faults name is what the rule says.
use Rattle.std.proofs.Common.{◌≡◌, ℕ, ◌≤◌, Bool, ◌&&◌, List, [], ◌∷◌, length, map}
use Rattle.std.proofs.Common.{refl, sym, ap, ap₂, ◌∙◌, arith}
use Rattle.std.specs.Prelude.{◌==◌, ◌||◌, ℤ, None, filter_map, option_map, if◌then◌else◌}
use Rattle.std.specs.declared.cmp.Ordering.{Ordering}
use Rattle.std.specs.declared.cmp.Ordering.TheVariants.{Less, Equal, Greater}
use Rattle.std.specs.Ordering.{nat_cmp, ordering_then, is_eq}
use Rattle.std.specs.BTreeMap.{is_at}
use Rattle.std.specs.List.{flat_map, list_any}
use Rattle.std.specs.List.Sorted.{IsStrictlySortedBy}
use Rattle.std.proofs.lemmas.Bool.Decides.{nat_tests}
use Rattle.std.proofs.lemmas.Cmp.{nat_eq_equiv}
use Rattle.std.proofs.lemmas.List.Folds.{list_any-append}
use Rattle.std.proofs.lemmas.Option.{slice_get_past}
use Rattle.jh_env.specs.Cells.{Table, Link, NodeCell, link_at}
use Rattle.jh_env.specs.Faults.{FaultValue, is_same_link, names_link, names_node}
use Rattle.jh_env.specs.Faults.FaultValue.{Cut, Slow, Loss, Fix, Pause, Kill, Bump}
use Rattle.jh_env.specs.Overlay.{EnvValue, cells_of}
use Rattle.jh_nemesis.specs.Changed.{fault_names_link, fault_names_node}
use Rattle.jh_test_parts.specs.NamedCells.{placed_link, link_named, all_links_named, node_named, all_nodes_named, placed_node}
use Rattle.jh_test_parts.specs.Changes.{places_of_nodes}
use Rattle.jh_test_parts.specs.ChangesInside.{AreNamedLinks, AreNamedNodes, link_cmp, links_of_fault, nodes_of_fault}
use Rattle.jh_test_parts.proofs.PlaceLemmas.{filter_same, flat_same, found_at_numbers, found_at_pairs, has}

any_same : {X : Type 0} (p q : X → Bool) → ((x : X) → p x ≡ q x) → (xs : List X) → list_any p xs ≡ list_any q xs
any_same p q same [] = refl
any_same p q same (x ∷ xs) = ap₂ (λ a b. a || b) (same x) (any_same p q same xs)

any_map : {X Y : Type 0} (p : Y → Bool) (f : X → Y) (xs : List X) → list_any p (map f xs) ≡ list_any (λ x. p (f x)) xs
any_map p f [] = refl
any_map p f (x ∷ xs) = ap (λ b. p (f x) || b) (any_map p f xs)

-- what a fault names

one_names_link : (a b : ℕ) (f : FaultValue) → names_link (links_of_fault f) a b ≡ fault_names_link a b f
one_names_link a b (Cut links) = refl
one_names_link a b (Slow ms links) = refl
one_names_link a b (Loss level links) = refl
one_names_link a b (Fix ms links) = refl
one_names_link a b (Pause nodes) = refl
one_names_link a b (Kill nodes) = refl
one_names_link a b (Bump bumps) = refl

one_names_node : (a : ℕ) (f : FaultValue) → names_node (nodes_of_fault f) a ≡ fault_names_node a f
one_names_node a (Cut links) = refl
one_names_node a (Slow ms links) = refl
one_names_node a (Loss level links) = refl
one_names_node a (Fix ms links) = refl
one_names_node a (Pause nodes) = refl
one_names_node a (Kill nodes) = refl
one_names_node a (Bump bumps) = any_map (λ n. n == a) (λ (b : ℕ × ℤ). b.0) bumps

-- what some faults name

module _ {B : Type 0} (now : B → FaultValue) where
  some_name_link : (a b : ℕ) (fs : List B) → names_link (flat_map (λ f. links_of_fault (now f)) fs) a b ≡ list_any (fault_names_link a b) (map now fs)
  some_name_link a b [] = refl
  some_name_link a b (f ∷ fs) =
      list_any-append (λ l. is_same_link l (a, b)) (links_of_fault (now f)) (flat_map (λ f. links_of_fault (now f)) fs)
      ∙ ap₂ (λ x y. x || y) (one_names_link a b (now f)) (some_name_link a b fs)

  some_name_node : (a : ℕ) (fs : List B) → names_node (flat_map (λ f. nodes_of_fault (now f)) fs) a ≡ list_any (fault_names_node a) (map now fs)
  some_name_node a [] = refl
  some_name_node a (f ∷ fs) =
      list_any-append (λ n. n == a) (nodes_of_fault (now f)) (flat_map (λ f. nodes_of_fault (now f)) fs)
      ∙ ap₂ (λ x y. x || y) (one_names_node a (now f)) (some_name_node a fs)

  -- in order and each once it is still that

  pub are_links : (fs : List B) (pushed sorted : List (ℕ × ℕ)) → pushed ≡ flat_map (λ f. links_of_fault (now f)) fs → IsStrictlySortedBy link_cmp sorted
      → ((l : ℕ × ℕ) → list_any (is_same_link l) sorted ≡ list_any (is_same_link l) pushed) → AreNamedLinks (map now fs) sorted
  are_links fs pushed sorted is order same = record { order = order; named = named }
    where
      turned : (l : ℕ × ℕ) (links : List (ℕ × ℕ)) → list_any (λ k. is_same_link k l) links ≡ list_any (is_same_link l) links
      turned l links = any_same (λ k. is_same_link k l) (is_same_link l) (λ k. ap₂ (λ x y. x && y) (nat_eq_equiv.symm k.0 l.0) (nat_eq_equiv.symm k.1 l.1)) links

      named : (a b : ℕ) → names_link sorted a b ≡ list_any (fault_names_link a b) (map now fs)
      named a b =
          turned (a, b) sorted ∙ same (a, b) ∙ sym (turned (a, b) pushed)
          ∙ ap (λ links. names_link links a b) is ∙ some_name_link a b fs

  pub are_nodes : (fs : List B) (pushed sorted : List ℕ) → pushed ≡ flat_map (λ f. nodes_of_fault (now f)) fs → IsStrictlySortedBy nat_cmp sorted
      → ((a : ℕ) → list_any (λ n. a == n) sorted ≡ list_any (λ n. a == n) pushed) → AreNamedNodes (map now fs) sorted
  are_nodes fs pushed sorted is order same = record { order = order; named = named }
    where
      turned : (a : ℕ) (nodes : List ℕ) → list_any (λ n. n == a) nodes ≡ list_any (λ n. a == n) nodes
      turned a nodes = any_same (λ n. n == a) (λ n. a == n) (λ n. nat_eq_equiv.symm n a) nodes

      named : (a : ℕ) → names_node sorted a ≡ list_any (fault_names_node a) (map now fs)
      named a = turned a sorted ∙ same a ∙ sym (turned a pushed) ∙ ap (λ nodes. names_node nodes a) is ∙ some_name_node a fs

-- an order that says that two are one

same_number : (a b : ℕ) → is_eq (nat_cmp a b) ≡ (b == a)
same_number a b = grind (arith, nat_tests)

same_then : (o p : Ordering) → is_eq (ordering_then o p) ≡ (is_eq o && is_eq p)
same_then Less p = refl
same_then Equal p = refl
same_then Greater p = refl

has_link : (links : List (ℕ × ℕ)) (a b : ℕ) → has link_cmp links (a, b) ≡ names_link links a b
has_link links a b =
    any_same (is_at (link_cmp (a, b))) (λ l. is_same_link l (a, b))
    (λ l. same_then (nat_cmp a l.0) (nat_cmp b l.1) ∙ ap₂ (λ x y. x && y) (same_number a l.0) (same_number b l.1)) links

has_node : (nodes : List ℕ) (a : ℕ) → has nat_cmp nodes a ≡ names_node nodes a
has_node nodes a = any_same (is_at (nat_cmp a)) (λ n. n == a) (λ n. same_number a n) nodes

-- there is nothing past the last node

no_source : (t : Table) (a b : ℕ) → length t.nodes ≤ a → link_at t a b ≡ None
no_source t a b past = grind (arith, nat_tests)

no_destination : (t : Table) (a b : ℕ) → length t.nodes ≤ b → link_at t a b ≡ None
no_destination t a b past = grind (arith, nat_tests)

-- so what is found at the named ones is what is found by going through all

pub links_are : (env : EnvValue) (faults : List FaultValue) (links : List (ℕ × ℕ)) → AreNamedLinks faults links → filter_map (placed_link env) links ≡ all_links_named env faults
links_are env faults links are =
    let all = places_of_nodes (cells_of env) in
    found_at_pairs (placed_link env) (length (cells_of env).nodes) links are.order
    (λ a b past. ap (option_map (λ (l : Link). (a, b, l))) (no_source (cells_of env) a b past))
    (λ a b past. ap (option_map (λ (l : Link). (a, b, l))) (no_destination (cells_of env) a b past))
    ∙ flat_same (λ a. filter_map (λ b. if has link_cmp links (a, b) then placed_link env (a, b) else None) all) (λ a. filter_map (link_named env faults a) all)
    (λ a. filter_same (λ b. if has link_cmp links (a, b) then placed_link env (a, b) else None) (link_named env faults a)
    (λ b. ap (λ w. if w then placed_link env (a, b) else None) (has_link links a b ∙ are.named a b)) all) all

pub nodes_are : (env : EnvValue) (faults : List FaultValue) (nodes : List ℕ) → AreNamedNodes faults nodes → filter_map (placed_node env) nodes ≡ all_nodes_named env faults
nodes_are env faults nodes are =
    let all = places_of_nodes (cells_of env) in
    found_at_numbers (placed_node env) (length (cells_of env).nodes) nodes are.order
    (λ a past. ap (option_map (λ (n : NodeCell). (a, n))) (slice_get_past (cells_of env).nodes a past))
    ∙ filter_same (λ a. if has nat_cmp nodes a then placed_node env a else None) (node_named env faults)
    (λ a. ap (λ w. if w then placed_node env a else None) (has_node nodes a ∙ are.named a)) all
