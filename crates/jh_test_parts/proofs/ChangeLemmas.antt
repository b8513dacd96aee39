-- Which of the named cells the code finds changed is what the rule says of all.
use Rattle.std.proofs.Common.{◌≡◌, ℕ, ◌+◌, ◌<◌, ◌≤◌, Bool, true, false, List, [], ◌∷◌, ◌++◌, length, get_or, take}
use Rattle.std.proofs.Common.{refl, sym, ap, ap₂, ◌∙◌, arith, subst, All}
use mathlib.Core.Logic.{◌⊎◌, inl, inr}
use Rattle.std.specs.Prelude.{◌==◌, ◌&&◌, Option, None, Some, filter_map, option_and_then, option_map}
use Rattle.std.specs.Prelude.{slice_get, IfSome, if◌then◌else◌}
use Rattle.std.specs.Bool.{beq}
use Rattle.std.specs.List.{cons_option, flat_map, list_any, range_with_len}
use Rattle.std.specs.Ordering.{int_eq}
use Rattle.std.proofs.lemmas.Cmp.{int_eq_equiv, nat_eq_equiv}
use Rattle.std.proofs.lemmas.Bool.{cases_lt}
use Rattle.std.proofs.lemmas.List.{append-nil, take_more}
use Rattle.std.proofs.lemmas.List.Elements.{All-push, filter_map-append}
use Rattle.std.proofs.lemmas.Option.{slice_get-get_or, slice_get_past}
use Rattle.jh_env.specs.Cells.{Life, Link, NodeCell, Running, Paused, Killed, link_at, node_at, running_node}
use Rattle.jh_env.specs.Faults.{FaultValue}
use Rattle.jh_env.specs.Overlay.{EnvValue, StandsFor, cells_of, link_of, link_over, node_of, node_over}
use Rattle.jh_nemesis.specs.Changed.{AgreeElsewhere, fault_names_link, fault_names_node}
use Rattle.jh_test_parts.specs.NamedCells.{NamedCellsValue, cells_named, link_named, all_links_named}
use Rattle.jh_test_parts.specs.NamedCells.{node_named, all_nodes_named}
use Rattle.jh_test_parts.specs.Changes.{ChangedCells, changed_cells, are_same_links, are_same_nodes, is_same_life, places_of_nodes}
use Rattle.jh_test_parts.specs.Changes.{link_if_other, node_if_other, changed_link, changed_links, changed_node}
use Rattle.jh_test_parts.specs.Changes.{changed_nodes}
use Rattle.jh_test_parts.specs.ChangesInside.{link_if_changed, node_if_changed}
use Rattle.jh_test_parts.specs.declared.records.ChangedLink.{ChangedLink}
use Rattle.jh_test_parts.specs.declared.records.ChangedNode.{ChangedNode}
use Rattle.jh_test_parts.proofs.PlaceLemmas.{filter_same, flat_same, found_flat}

-- what the code tells of these cells
abbrev pub changes_among : EnvValue → NamedCellsValue → ChangedCells
changes_among after cells =
    record { links = filter_map (link_if_changed after) cells.links; nodes = filter_map (node_if_changed after) cells.nodes }

-- what is found of one more element, if anything, comes behind what was found
pub found_more : {K A : Type 0} (h : K → Option A) (ks : List K) (i : ℕ) (k : K) (now next : List A) (o : Option A) → i < length ks → k ≡ get_or ks i k → o ≡ h k
    → now ≡ filter_map h (take i ks) → next ≡ now ++ cons_option o [] → next ≡ filter_map h (take (i + 1) ks)
found_more {K} {A} h ks i k now next o less item is so_far added =
    added ∙ ap₂ (λ l (p : Option A). l ++ cons_option p []) so_far (is ∙ ap h item)
    ∙ sym (filter_map-append h (take i ks) (get_or ks i k ∷ [])) ∙ ap (filter_map h) (sym (take_more ks i k less))

pub within_more : {A : Type 0} (P : A → Type 0) (now next : List A) (o : Option A) → All P now → IfSome o P → next ≡ now ++ cons_option o [] → All P next
within_more P now next None all one added = subst (All P) (sym (added ∙ append-nil now)) all
within_more P now next (Some x) all one added = subst (All P) (sym added) (All-push P now x all one)

-- what is found of what was found

found_twice : {K X Y : Type 0} (h : K → Option X) (g : X → Option Y) (ks : List K) → filter_map g (filter_map h ks) ≡ filter_map (λ k. option_and_then g (h k)) ks
found_twice h g [] = refl
found_twice {K} {X} {Y} h g (k ∷ ks) = go (h k) ∙ ap (cons_option (option_and_then g (h k))) (found_twice h g ks)
  where
    go : (o : Option X) → filter_map g (cons_option o (filter_map h ks)) ≡ cons_option (option_and_then g o) (filter_map g (filter_map h ks))
    go None = refl
    go (Some x) = refl

-- the cells have as many nodes as the start

none-some : {A : Type 0} (x : A) → None ≡ Some x → ⊥
none-some x e = cc

some-none : {A : Type 0} (x : A) → Some x ≡ None → ⊥
some-none x e = cc

as_many : (xs ys : List NodeCell) (f : ℕ → NodeCell → NodeCell) (d : NodeCell) → ((a : ℕ) → slice_get xs a ≡ option_map (f a) (slice_get ys a)) → length xs ≡ length ys
as_many xs ys f d same = go (cases_lt (length xs) (length ys)) (cases_lt (length ys) (length xs))
  where
    go : (length xs < length ys) ⊎ (length ys ≤ length xs) → (length ys < length xs) ⊎ (length xs ≤ length ys) → length xs ≡ length ys
    go (inl less) more =
        absurd (none-some (f (length xs) (get_or ys (length xs) d)) (sym (slice_get_past xs (length xs) (omega arith)) ∙ same (length xs) ∙ ap (option_map (f (length xs))) (slice_get-get_or ys (length xs) d less)))
    go (inr le) (inl less) =
        absurd (some-none (get_or xs (length ys) d) (sym (slice_get-get_or xs (length ys) d less) ∙ same (length ys) ∙ ap (option_map (f (length ys))) (slice_get_past ys (length ys) (omega arith))))
    go (inr le) (inr ge) = omega (arith, le, ge)

-- a cell is like itself, so it has not changed

both_true : (a b : Bool) → a ≡ true → b ≡ true → (a && b) ≡ true
both_true a b one other = ap₂ (λ v w. v && w) one other

same_bool : (b : Bool) → beq b b ≡ true
same_bool true = refl
same_bool false = refl

same_life : (l : Life) → is_same_life l l ≡ true
same_life Running = refl
same_life Paused = refl
same_life Killed = refl

same_link : (l : Link) → are_same_links l l ≡ true
same_link l =
    both_true (beq l.cut l.cut) (l.delay == l.delay && l.loss == l.loss) (same_bool l.cut)
    (both_true (l.delay == l.delay) (l.loss == l.loss) (nat_eq_equiv.refl l.delay) (nat_eq_equiv.refl l.loss))

same_node : (n : NodeCell) → are_same_nodes n n ≡ true
same_node n = both_true (is_same_life n.process n.process) (int_eq n.clock n.clock) (same_life n.process) (int_eq_equiv.refl n.clock)

link_unchanged : (a b : ℕ) (was is : Link) → was ≡ is → None ≡ link_if_other a b was is
link_unchanged a b was is same =
    let alike : are_same_links was is ≡ true = ap (λ l. are_same_links was l) (sym same) ∙ same_link was in
    sym (ap (λ w. if w then None else Some (let t : ChangedLink = record { source = a; destination = b; link = is } in t)) alike)

node_unchanged : (a : ℕ) (was is : NodeCell) → was ≡ is → None ≡ node_if_other a was is
node_unchanged a was is same =
    let alike : are_same_nodes was is ≡ true = ap (λ n. are_same_nodes was n) (sym same) ∙ same_node was in
    sym (ap (λ w. if w then None else Some (let t : ChangedNode = record { node = a; cell = is } in t)) alike)

module _ (before after : EnvValue) (named earlier later : List FaultValue) (first : StandsFor before earlier) (second : StandsFor after later)
    (same : after.start ≡ before.start) (elsewhere : AgreeElsewhere named earlier later) where
  link_is : (a b : ℕ) → option_and_then (link_if_changed after) (link_named before named a b) ≡ changed_link before.start earlier later a b
  link_is a b = go (list_any (fault_names_link a b) named) refl
    where
      here : (was : Option Link) → option_and_then (link_if_changed after) (option_map (λ k. (a, b, k)) was) ≡ option_and_then (λ w. option_and_then (link_if_other a b w) (link_of after a b)) was
      here None = refl
      here (Some l) = refl

      there : (l : Option Link) → option_and_then (λ w. option_and_then (link_if_other a b w) (option_map (link_over later a b) l)) (option_map (link_over earlier a b) l)
          ≡ option_and_then (λ l. link_if_other a b (link_over earlier a b l) (link_over later a b l)) l
      there None = refl
      there (Some l) = refl

      apart : list_any (fault_names_link a b) named ≡ false → (l : Option Link) → None ≡ option_and_then (λ l. link_if_other a b (link_over earlier a b l) (link_over later a b l)) l
      apart out None = refl
      apart out (Some l) = link_unchanged a b (link_over earlier a b l) (link_over later a b l) (elsewhere.links a b l out)

      go : (w : Bool) → list_any (fault_names_link a b) named ≡ w
          → option_and_then (link_if_changed after) (if w then option_map (λ k. (a, b, k)) (link_of before a b) else None) ≡ changed_link before.start earlier later a b
      go true is =
          here (link_of before a b)
          ∙ ap₂ (λ (was is : Option Link). option_and_then (λ w. option_and_then (link_if_other a b w) is) was) (first.cells.links a b)
          (second.cells.links a b ∙ ap (λ s. option_map (link_over later a b) (link_at s a b)) same)
          ∙ there (link_at before.start a b)
      go false is = apart is (link_at before.start a b)

  node_is : (a : ℕ) → option_and_then (node_if_changed after) (node_named before named a) ≡ changed_node before.start earlier later a
  node_is a = go (list_any (fault_names_node a) named) refl
    where
      here : (was : Option NodeCell) → option_and_then (node_if_changed after) (option_map (λ k. (a, k)) was) ≡ option_and_then (λ w. option_and_then (node_if_other a w) (node_of after a)) was
      here None = refl
      here (Some n) = refl

      there : (n : Option NodeCell) → option_and_then (λ w. option_and_then (node_if_other a w) (option_map (node_over later a) n)) (option_map (node_over earlier a) n)
          ≡ option_and_then (λ n. node_if_other a (node_over earlier a n) (node_over later a n)) n
      there None = refl
      there (Some n) = refl

      apart : list_any (fault_names_node a) named ≡ false → (n : Option NodeCell) → None ≡ option_and_then (λ n. node_if_other a (node_over earlier a n) (node_over later a n)) n
      apart out None = refl
      apart out (Some n) = node_unchanged a (node_over earlier a n) (node_over later a n) (elsewhere.nodes a n out)

      go : (w : Bool) → list_any (fault_names_node a) named ≡ w
          → option_and_then (node_if_changed after) (if w then option_map (λ k. (a, k)) (node_of before a) else None) ≡ changed_node before.start earlier later a
      go true is =
          here (node_of before a)
          ∙ ap₂ (λ (was is : Option NodeCell). option_and_then (λ w. option_and_then (node_if_other a w) is) was) (first.cells.nodes a)
          (second.cells.nodes a ∙ ap (λ s. option_map (node_over later a) (node_at s a)) same)
          ∙ there (node_at before.start a)
      go false is = apart is (node_at before.start a)

  places_are : places_of_nodes (cells_of before) ≡ places_of_nodes before.start
  places_are = ap (range_with_len 0) (as_many (cells_of before).nodes before.start.nodes (node_over earlier) running_node first.cells.nodes)

  row_is : (a : ℕ) (places : List ℕ) → filter_map (link_if_changed after) (filter_map (link_named before named a) places) ≡ filter_map (changed_link before.start earlier later a) places
  row_is a places =
      found_twice (link_named before named a) (link_if_changed after) places
      ∙ filter_same (λ b. option_and_then (link_if_changed after) (link_named before named a b)) (changed_link before.start earlier later a) (link_is a) places

  links_are_changed : filter_map (link_if_changed after) (all_links_named before named) ≡ changed_links before.start earlier later
  links_are_changed =
      ap (λ places. filter_map (link_if_changed after) (flat_map (λ a. filter_map (link_named before named a) places) places)) places_are
      ∙ found_flat (λ a. filter_map (link_named before named a) (places_of_nodes before.start)) (link_if_changed after) (places_of_nodes before.start)
      ∙ flat_same (λ a. filter_map (link_if_changed after) (filter_map (link_named before named a) (places_of_nodes before.start)))
      (λ a. filter_map (changed_link before.start earlier later a) (places_of_nodes before.start)) (λ a. row_is a (places_of_nodes before.start)) (places_of_nodes before.start)

  nodes_are_changed : filter_map (node_if_changed after) (all_nodes_named before named) ≡ changed_nodes before.start earlier later
  nodes_are_changed =
      ap (λ places. filter_map (node_if_changed after) (filter_map (node_named before named) places)) places_are
      ∙ found_twice (node_named before named) (node_if_changed after) (places_of_nodes before.start)
      ∙ filter_same (λ a. option_and_then (node_if_changed after) (node_named before named a)) (changed_node before.start earlier later) node_is (places_of_nodes before.start)

  pub cells_are_changed : (cells : NamedCellsValue) → cells ≡ cells_named before named → changes_among after cells ≡ changed_cells before.start earlier later
  cells_are_changed cells is =
      ap (changes_among after) is ∙ ap₂ (λ l n. let c : ChangedCells = record { links = l; nodes = n } in c) links_are_changed nodes_are_changed
