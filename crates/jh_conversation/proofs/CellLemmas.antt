-- The changes of the cells, in order, add up to the environment.
use Rattle.std.proofs.Common.{◌≡◌, ◌≢◌, ℕ, zero, suc, ◌+◌, ◌<◌, ◌≤◌, ◌==◌, nat_lt, Bool, true}
use Rattle.std.proofs.Common.{false, ◌&&◌, ◌||◌, not, ℤ, List, [], ◌∷◌, ◌++◌, length, slice_get}
use Rattle.std.proofs.Common.{refl, sym, ap, ◌∙◌, arith, eq-eqb}
use mathlib.Core.Logic.{◌⊎◌, inl, inr}
use Rattle.std.specs.Prelude.{Option, None, Some, flat_map, filter_map, option_and_then}
use Rattle.std.specs.Prelude.{if◌then◌else◌}
use Rattle.std.specs.List.{cons_option, range_with_len}
use Rattle.std.specs.Cmp.{booleans_Decides}
use Rattle.std.proofs.lemmas.Bool.{and_parts, eqb-true, ltb-true, false≢true, true≢false}
use Rattle.std.proofs.lemmas.Bool.{cases_Bool}
use Rattle.std.proofs.lemmas.Bool.Decides.{Decides-int_eq}
use Rattle.jh_env.specs.Cells.{Table, Life, Link, NodeCell, Running, Paused, Killed, link_at}
use Rattle.jh_env.specs.Cells.{node_at}
use Rattle.jh_env.specs.Faults.{FaultValue}
use Rattle.jh_env.specs.Overlay.{link_over, node_over}
use Rattle.jh_nemesis.specs.State.{Active, State, faults_in, state_back_to, state_forth_to}
use Rattle.jh_nemesis.specs.Steps.{answer_of, is_ok, moved_state, state_after}
use Rattle.jh_nemesis.specs.declared.steps.Step.{Step}
use Rattle.jh_nemesis.specs.declared.steps.Step.TheVariants.{Begin, Withdraw, WithdrawAll, Undo}
use Rattle.jh_nemesis.specs.declared.steps.Step.TheVariants.{Redo}
use Rattle.jh_conversation.specs.Laws.{Drivers, link_after_changes, node_after_changes, run, link_after_steps}
use Rattle.jh_conversation.specs.Laws.{node_after_steps}
use Rattle.jh_conversation.specs.Machine.{Machine}
use Rattle.jh_test_parts.specs.Test.{TestValue}
use Rattle.jh_edn.specs.Edn.{is_empty}
use Rattle.jh_conversation.specs.Laws.{IsPastHeal}
use Rattle.jh_test_parts.specs.declared.records.ChangedLink.{ChangedLink}
use Rattle.jh_test_parts.specs.declared.records.ChangedNode.{ChangedNode}
use Rattle.jh_conversation.proofs.KeptLemmas.{IsKeptByLine, IsKeptInTurn, by_answers, kept_run}
use Rattle.jh_conversation.proofs.QuietLemmas.{rest_is_quiet}
use Rattle.jh_test_parts.specs.Changes.{is_same_life, are_same_links, are_same_nodes, places_of_nodes}
use Rattle.jh_test_parts.specs.Changes.{link_if_other, node_if_other, changed_link, changed_links}
use Rattle.jh_test_parts.specs.Changes.{changed_node, changed_nodes}

-- cells that are the same are equal

link_by : (c d : Bool) (x y u v : ℕ) → c ≡ d → x ≡ y → u ≡ v → ◌≡◌ {A = Link} (record { cut = c; delay = x; loss = u }) (record { cut = d; delay = y; loss = v })
link_by c d x y u v p q r =
    ap (λ z. record { cut = z; delay = x; loss = u }) p ∙ ap (λ z. record { cut = d; delay = z; loss = u }) q ∙ ap (λ z. record { cut = d; delay = y; loss = z }) r

same_link : (l k : Link) → are_same_links l k ≡ true → l ≡ k
same_link l k e =
    let both = and_parts _ _ e in
    let rest = and_parts _ _ both.1 in
    link_by l.cut k.cut l.delay k.delay l.loss k.loss ((booleans_Decides l.cut k.cut).0 both.0) (eqb-true _ _ rest.0) (eqb-true _ _ rest.1)

same_life : (l k : Life) → is_same_life l k ≡ true → l ≡ k
same_life Running Running e = refl
same_life Paused Paused e = refl
same_life Killed Killed e = refl
same_life Running Paused e = absurd (false≢true e)
same_life Running Killed e = absurd (false≢true e)
same_life Paused Running e = absurd (false≢true e)
same_life Paused Killed e = absurd (false≢true e)
same_life Killed Running e = absurd (false≢true e)
same_life Killed Paused e = absurd (false≢true e)

node_by : (p q : Life) (x y : ℤ) → p ≡ q → x ≡ y → ◌≡◌ {A = NodeCell} (record { process = p; clock = x }) (record { process = q; clock = y })
node_by p q x y e f = ap (λ z. record { process = z; clock = x }) e ∙ ap (λ z. record { process = q; clock = z }) f

same_node : (n m : NodeCell) → are_same_nodes n m ≡ true → n ≡ m
same_node n m e =
    let both = and_parts _ _ e in
    node_by n.process m.process n.clock m.clock (same_life _ _ both.0) ((Decides-int_eq n.clock m.clock).0 both.1)

-- a place is one of these

abbrev HasPlace : List ℕ → ℕ → Type 0
HasPlace [] place = ⊥
HasPlace (x ∷ xs) place = (x ≡ place) ⊎ HasPlace xs place

has_place : (n from place : ℕ) → from ≤ place → place < from + n → HasPlace (range_with_len from n) place
has_place zero from place le lt = absurd (omega arith)
has_place (suc n) from place le lt = elim (cases_Bool (from == place)) as (λ _. HasPlace (range_with_len from (suc n)) place) [
  | inl e ↦ inl (eqb-true _ _ e)
  | inr e ↦ inr (has_place n (from + 1) place (let apart : from ≢ place = (λ p. true≢false (sym (eq-eqb _ _ p) ∙ e)) in omega (arith, apart)) (omega arith))
]

other_place : (m n : ℕ) → m ≢ n → (m == n) ≡ false
other_place m n h = grind (arith, h)

-- Nodes.

module _ (start : Table) (before after : List FaultValue) (a : ℕ) (n : NodeCell) (there : node_at start a ≡ Some n) where
  -- a change of another node changes nothing here
  other_node : (x : ℕ) (more : List ChangedNode) (v : NodeCell) → (x == a) ≡ false → node_after_changes (cons_option (changed_node start before after x) more) a v ≡ node_after_changes more a v
  other_node x more v other = go (node_at start x)
    where
      go : (cell : Option NodeCell) → node_after_changes (cons_option (option_and_then (λ n. node_if_other x (node_over before x n) (node_over after x n)) cell) more) a v ≡ node_after_changes more a v
      go None = refl
      go (Some n) = elim (are_same_nodes (node_over before x n) (node_over after x n)) as (λ b. node_after_changes (cons_option (if b then None else Some (record { node = x; cell = node_over after x n })) more) a v ≡ node_after_changes more a v) [
        | true ↦ refl
        | false ↦ ap (λ b. node_after_changes more a (if b then node_over after x n else v)) other
      ]

  -- a change of this one makes it what it is, from what it was and from what it is
  this_node : (x : ℕ) (more : List ChangedNode) (v : NodeCell) → x ≡ a → (v ≡ node_over before a n) ⊎ (v ≡ node_over after a n) → node_after_changes (cons_option (changed_node start before after x) more) a v ≡ node_after_changes more a (node_over after a n)
  this_node x more v here v_is =
      ap (λ place. node_after_changes (cons_option (changed_node start before after place) more) a v) here
      ∙ ap (λ cell. node_after_changes (cons_option (option_and_then (λ n. node_if_other a (node_over before a n) (node_over after a n)) cell) more) a v) there
      ∙ go (are_same_nodes (node_over before a n) (node_over after a n)) refl v_is
    where
      go : (b : Bool) → are_same_nodes (node_over before a n) (node_over after a n) ≡ b → (v ≡ node_over before a n) ⊎ (v ≡ node_over after a n)
          → node_after_changes (cons_option (if b then None else Some (record { node = a; cell = node_over after a n })) more) a v ≡ node_after_changes more a (node_over after a n)
      go true e (inl was) = ap (node_after_changes more a) (was ∙ same_node _ _ e)
      go true e (inr is) = ap (node_after_changes more a) is
      go false e _ = ap (λ b. node_after_changes more a (if b then node_over after a n else v)) (eq-eqb a a refl)

  node_stays : (xs : List ℕ) → node_after_changes (filter_map (changed_node start before after) xs) a (node_over after a n) ≡ node_over after a n
  node_stays [] = refl
  node_stays (x ∷ xs) = elim (cases_Bool (x == a)) as (λ _. node_after_changes (filter_map (changed_node start before after) (x ∷ xs)) a (node_over after a n) ≡ node_over after a n) [
    | inl e ↦ this_node x (filter_map (changed_node start before after) xs) (node_over after a n) (eqb-true _ _ e) (inr refl) ∙ node_stays xs
    | inr e ↦ other_node x (filter_map (changed_node start before after) xs) (node_over after a n) e ∙ node_stays xs
  ]

  node_comes : (xs : List ℕ) → HasPlace xs a → node_after_changes (filter_map (changed_node start before after) xs) a (node_over before a n) ≡ node_over after a n
  node_comes [] h = absurd h
  node_comes (x ∷ xs) (inl here) = this_node x (filter_map (changed_node start before after) xs) (node_over before a n) here (inl refl) ∙ node_stays xs
  node_comes (x ∷ xs) (inr h) = elim (cases_Bool (x == a)) as (λ _. node_after_changes (filter_map (changed_node start before after) (x ∷ xs)) a (node_over before a n) ≡ node_over after a n) [
    | inl e ↦ this_node x (filter_map (changed_node start before after) xs) (node_over before a n) (eqb-true _ _ e) (inl refl) ∙ node_stays xs
    | inr e ↦ other_node x (filter_map (changed_node start before after) xs) (node_over before a n) e ∙ node_comes xs h
  ]

some_place : {A : Type 0} (xs : List A) (n : ℕ) (x : A) → slice_get xs n ≡ Some x → n < length xs
some_place [] n x e = absurd (cc e)
some_place (y ∷ xs) zero x e = omega arith
some_place (y ∷ xs) (suc n) x e = let k = some_place xs n x e in omega (arith, k)

-- the changes of a step make each node what it is then
pub node_changes_add : (start : Table) (before after : List FaultValue) (a : ℕ) (n : NodeCell) → node_at start a ≡ Some n
    → node_after_changes (changed_nodes start before after) a (node_over before a n) ≡ node_over after a n
node_changes_add start before after a n there =
    let low = some_place start.nodes a n there in
    node_comes start before after a n there (places_of_nodes start) (has_place (length start.nodes) 0 a (omega arith) (omega (arith, low)))

-- Links.

after_both : (xs ys : List ChangedLink) (a b : ℕ) (l : Link) → link_after_changes (xs ++ ys) a b l ≡ link_after_changes ys a b (link_after_changes xs a b l)
after_both [] ys a b l = refl
after_both (x ∷ xs) ys a b l = after_both xs ys a b (if x.source == a && x.destination == b then x.link else l)

module _ (start : Table) (before after : List FaultValue) (a b : ℕ) (l : Link) (there : link_at start a b ≡ Some l) where
  other_link : (x y : ℕ) (more : List ChangedLink) (v : Link) → (x == a && y == b) ≡ false → link_after_changes (cons_option (changed_link start before after x y) more) a b v ≡ link_after_changes more a b v
  other_link x y more v other = go (link_at start x y)
    where
      go : (cell : Option Link) → link_after_changes (cons_option (option_and_then (λ l. link_if_other x y (link_over before x y l) (link_over after x y l)) cell) more) a b v ≡ link_after_changes more a b v
      go None = refl
      go (Some l) = elim (are_same_links (link_over before x y l) (link_over after x y l)) as (λ c. link_after_changes (cons_option (if c then None else Some (record { source = x; destination = y; link = link_over after x y l })) more) a b v ≡ link_after_changes more a b v) [
        | true ↦ refl
        | false ↦ ap (λ c. link_after_changes more a b (if c then link_over after x y l else v)) other
      ]

  this_link : (y : ℕ) (more : List ChangedLink) (v : Link) → y ≡ b → (v ≡ link_over before a b l) ⊎ (v ≡ link_over after a b l) → link_after_changes (cons_option (changed_link start before after a y) more) a b v ≡ link_after_changes more a b (link_over after a b l)
  this_link y more v here v_is =
      ap (λ place. link_after_changes (cons_option (changed_link start before after a place) more) a b v) here
      ∙ ap (λ cell. link_after_changes (cons_option (option_and_then (λ l. link_if_other a b (link_over before a b l) (link_over after a b l)) cell) more) a b v) there
      ∙ go (are_same_links (link_over before a b l) (link_over after a b l)) refl v_is
    where
      itself : (a == a && b == b) ≡ true
      itself = ap (λ c. c && (b == b)) (eq-eqb a a refl) ∙ eq-eqb b b refl

      go : (c : Bool) → are_same_links (link_over before a b l) (link_over after a b l) ≡ c → (v ≡ link_over before a b l) ⊎ (v ≡ link_over after a b l)
          → link_after_changes (cons_option (if c then None else Some (record { source = a; destination = b; link = link_over after a b l })) more) a b v ≡ link_after_changes more a b (link_over after a b l)
      go true e (inl was) = ap (link_after_changes more a b) (was ∙ same_link _ _ e)
      go true e (inr is) = ap (link_after_changes more a b) is
      go false e _ = ap (λ c. link_after_changes more a b (if c then link_over after a b l else v)) itself

  apart_source : (x y : ℕ) → (x == a) ≡ false → (x == a && y == b) ≡ false
  apart_source x y e = ap (λ c. c && (y == b)) e

  apart_both : (x y : ℕ) → (y == b) ≡ false → (x == a && y == b) ≡ false
  apart_both x y e = go (x == a)
    where
      go : (c : Bool) → (c && (y == b)) ≡ false
      go true = e
      go false = refl

  -- a row of another source changes nothing
  other_row : (x : ℕ) (ys : List ℕ) (v : Link) → (x == a) ≡ false → link_after_changes (filter_map (changed_link start before after x) ys) a b v ≡ v
  other_row x [] v e = refl
  other_row x (y ∷ ys) v e = other_link x y (filter_map (changed_link start before after x) ys) v (apart_source x y e) ∙ other_row x ys v e

  row_stays : (ys : List ℕ) → link_after_changes (filter_map (changed_link start before after a) ys) a b (link_over after a b l) ≡ link_over after a b l
  row_stays [] = refl
  row_stays (y ∷ ys) = elim (cases_Bool (y == b)) as (λ _. link_after_changes (filter_map (changed_link start before after a) (y ∷ ys)) a b (link_over after a b l) ≡ link_over after a b l) [
    | inl e ↦ this_link y (filter_map (changed_link start before after a) ys) (link_over after a b l) (eqb-true _ _ e) (inr refl) ∙ row_stays ys
    | inr e ↦ other_link a y (filter_map (changed_link start before after a) ys) (link_over after a b l) (apart_both a y e) ∙ row_stays ys
  ]

  row_comes : (ys : List ℕ) → HasPlace ys b → link_after_changes (filter_map (changed_link start before after a) ys) a b (link_over before a b l) ≡ link_over after a b l
  row_comes [] h = absurd h
  row_comes (y ∷ ys) (inl here) = this_link y (filter_map (changed_link start before after a) ys) (link_over before a b l) here (inl refl) ∙ row_stays ys
  row_comes (y ∷ ys) (inr h) = elim (cases_Bool (y == b)) as (λ _. link_after_changes (filter_map (changed_link start before after a) (y ∷ ys)) a b (link_over before a b l) ≡ link_over after a b l) [
    | inl e ↦ this_link y (filter_map (changed_link start before after a) ys) (link_over before a b l) (eqb-true _ _ e) (inl refl) ∙ row_stays ys
    | inr e ↦ other_link a y (filter_map (changed_link start before after a) ys) (link_over before a b l) (apart_both a y e) ∙ row_comes ys h
  ]

  rows_stay : (ys xs : List ℕ) → link_after_changes (flat_map (λ x. filter_map (changed_link start before after x) ys) xs) a b (link_over after a b l) ≡ link_over after a b l
  rows_stay ys [] = refl
  rows_stay ys (x ∷ xs) =
      after_both (filter_map (changed_link start before after x) ys) (flat_map (λ x. filter_map (changed_link start before after x) ys) xs) a b (link_over after a b l)
      ∙ ap (link_after_changes (flat_map (λ x. filter_map (changed_link start before after x) ys) xs) a b) (elim (cases_Bool (x == a)) as (λ _. link_after_changes (filter_map (changed_link start before after x) ys) a b (link_over after a b l) ≡ link_over after a b l) [
        | inl e ↦ ap (λ x. link_after_changes (filter_map (changed_link start before after x) ys) a b (link_over after a b l)) (eqb-true _ _ e) ∙ row_stays ys
        | inr e ↦ other_row x ys (link_over after a b l) e
      ])
      ∙ rows_stay ys xs

  row_of_this : (ys : List ℕ) (x : ℕ) → HasPlace ys b → x ≡ a → link_after_changes (filter_map (changed_link start before after x) ys) a b (link_over before a b l) ≡ link_over after a b l
  row_of_this ys x h e = ap (λ x. link_after_changes (filter_map (changed_link start before after x) ys) a b (link_over before a b l)) e ∙ row_comes ys h

  rows_come : (ys xs : List ℕ) → HasPlace ys b → HasPlace xs a → link_after_changes (flat_map (λ x. filter_map (changed_link start before after x) ys) xs) a b (link_over before a b l) ≡ link_over after a b l
  rows_come ys [] h k = absurd k
  rows_come ys (x ∷ xs) h (inl here) =
      after_both (filter_map (changed_link start before after x) ys) (flat_map (λ x. filter_map (changed_link start before after x) ys) xs) a b (link_over before a b l)
      ∙ ap (link_after_changes (flat_map (λ x. filter_map (changed_link start before after x) ys) xs) a b) (row_of_this ys x h here)
      ∙ rows_stay ys xs
  rows_come ys (x ∷ xs) h (inr k) =
      after_both (filter_map (changed_link start before after x) ys) (flat_map (λ x. filter_map (changed_link start before after x) ys) xs) a b (link_over before a b l)
      ∙ (elim (cases_Bool (x == a)) as (λ _. link_after_changes (flat_map (λ x. filter_map (changed_link start before after x) ys) xs) a b (link_after_changes (filter_map (changed_link start before after x) ys) a b (link_over before a b l)) ≡ link_over after a b l) [
        | inl e ↦ ap (link_after_changes (flat_map (λ x. filter_map (changed_link start before after x) ys) xs) a b) (row_of_this ys x h (eqb-true _ _ e)) ∙ rows_stay ys xs
        | inr e ↦ ap (link_after_changes (flat_map (λ x. filter_map (changed_link start before after x) ys) xs) a b) (other_row x ys (link_over before a b l) e) ∙ rows_come ys xs h k
      ])

-- a link that is there is between two of the nodes
if_some : {A : Type 0} (c : Bool) (x y : A) → (if c then Some x else None) ≡ Some y → c ≡ true
if_some true x y e = refl
if_some false x y e = absurd (cc e)

link_places : (start : Table) (a b : ℕ) (l : Link) → link_at start a b ≡ Some l → (a < length start.nodes) × (b < length start.nodes)
link_places start a b l e =
    let all = and_parts (nat_lt a (length start.nodes)) (nat_lt b (length start.nodes) && not (a == b)) (if_some _ _ _ e) in
    let rest = and_parts (nat_lt b (length start.nodes)) (not (a == b)) all.1 in
    (ltb-true a (length start.nodes) all.0, ltb-true b (length start.nodes) rest.0)

-- the changes of a step make each link what it is then
pub link_changes_add : (start : Table) (before after : List FaultValue) (a b : ℕ) (l : Link) → link_at start a b ≡ Some l
    → link_after_changes (changed_links start before after) a b (link_over before a b l) ≡ link_over after a b l
link_changes_add start before after a b l there =
    let low = link_places start a b l there in
    rows_come start before after a b l there (places_of_nodes start) (places_of_nodes start)
    (has_place (length start.nodes) 0 b (omega arith) (omega (arith, low.1)))
    (has_place (length start.nodes) 0 a (omega arith) (omega (arith, low.0)))

-- What a node was at the start is, behind all its changes, what the active faults make of it.
abbrev NodeAddsUp : Table → ℕ → NodeCell → Machine → Type 0
NodeAddsUp start a n m =
    (m.nemesis.start ≡ start) × (node_after_steps m.history a n ≡ node_over (faults_in m.nemesis.active) a n)

abbrev LinkAddsUp : Table → ℕ → ℕ → Link → Machine → Type 0
LinkAddsUp start a b l m =
    (m.nemesis.start ≡ start) × (link_after_steps m.history a b l ≡ link_over (faults_in m.nemesis.active) a b l)

-- a step keeps the start
back_keeps : (s : State) (moments : List Active) → (state_back_to s moments).start ≡ s.start
back_keeps s [] = refl
back_keeps s (x ∷ moments) = refl

forth_keeps : (s : State) (moments : List Active) → (state_forth_to s moments).start ≡ s.start
forth_keeps s [] = refl
forth_keeps s (x ∷ moments) = refl

moved_keeps : (s : State) (step : Step) → (moved_state s step).start ≡ s.start
moved_keeps s (Begin id f) = refl
moved_keeps s (Withdraw id) = refl
moved_keeps s WithdrawAll = refl
moved_keeps s Undo = back_keeps s s.past
moved_keeps s Redo = forth_keeps s s.future

pub start_stays : (s : State) (step : Step) → (state_after s step).start ≡ s.start
start_stays s step = elim (is_ok (answer_of s step)) as (λ b. (if b then moved_state s step else s).start ≡ s.start) [
  | true ↦ moved_keeps s step
  | false ↦ refl
]

node_in_turn : (t : TestValue) (start : Table) (a : ℕ) (n : NodeCell) → node_at start a ≡ Some n → IsKeptInTurn t (NodeAddsUp start a n)
node_in_turn t start a n there = record {
  calls = by_answers _ _ (record { asks = λ m d w h. h; spends = λ m h. h; invokes = λ m thread request w i y h. h });
  begins = λ m due w d h.
      let before = faults_in m.nemesis.active in
      let after = faults_in (state_after m.nemesis due.step).active in (
        start_stays m.nemesis due.step ∙ h.0,
        ap (λ s. node_after_changes (changed_nodes s before after) a (node_after_steps m.history a n)) h.0
            ∙ ap (node_after_changes (changed_nodes start before after) a) h.1 ∙ node_changes_add start before after a n there,
      );
  heals = λ m is e h. h;
  rests = λ m is w q h. h;
  ends_rest = λ m is h. h;
  finals = λ m d is f h. h;
  ends_final = λ m is e h. h;
}

node_by_line : (t : TestValue) (start : Table) (a : ℕ) (n : NodeCell) → IsKeptByLine t (NodeAddsUp start a n)
node_by_line t start a n = record {
  counts_line = λ m h. h;
  clocks = λ m time h. h;
  stops = λ m h. h;
  refuses = λ m why h. h;
  step_ends = λ m w op e h. h;
  finishes = λ m thread c op e no fits h. h;
}

link_in_turn : (t : TestValue) (start : Table) (a b : ℕ) (l : Link) → link_at start a b ≡ Some l → IsKeptInTurn t (LinkAddsUp start a b l)
link_in_turn t start a b l there = record {
  calls = by_answers _ _ (record { asks = λ m d w h. h; spends = λ m h. h; invokes = λ m thread request w i y h. h });
  begins = λ m due w d h.
      let before = faults_in m.nemesis.active in
      let after = faults_in (state_after m.nemesis due.step).active in (
        start_stays m.nemesis due.step ∙ h.0,
        ap (λ s. link_after_changes (changed_links s before after) a b (link_after_steps m.history a b l)) h.0
            ∙ ap (link_after_changes (changed_links start before after) a b) h.1 ∙ link_changes_add start before after a b l there,
      );
  heals = λ m is e h. h;
  rests = λ m is w q h. h;
  ends_rest = λ m is h. h;
  finals = λ m d is f h. h;
  ends_final = λ m is e h. h;
}

link_by_line : (t : TestValue) (start : Table) (a b : ℕ) (l : Link) → IsKeptByLine t (LinkAddsUp start a b l)
link_by_line t start a b l = record {
  counts_line = λ m h. h;
  clocks = λ m time h. h;
  stops = λ m h. h;
  refuses = λ m why h. h;
  step_ends = λ m w op e h. h;
  finishes = λ m thread c op e no fits h. h;
}

-- no fault makes anything of a cell
no_fault_node : (a : ℕ) (n : NodeCell) → n ≡ node_over [] a n
no_fault_node a n = go n.process n.clock
  where
    go : (p : Life) (z : ℤ) → ◌≡◌ {A = NodeCell} (record { process = p; clock = z }) (node_over [] a (record { process = p; clock = z }))
    go Running z = refl
    go Paused z = refl
    go Killed z = refl

no_fault_link : (a b : ℕ) (l : Link) → l ≡ link_over [] a b l
no_fault_link a b l = link_by l.cut (l.cut || false) l.delay (l.delay + 0) l.loss l.loss (uncut l.cut) (omega arith) refl
  where
    uncut : (c : Bool) → c ≡ (c || false)
    uncut true = refl
    uncut false = refl

pub nodes_add_up : (t : TestValue) (d : Drivers t) (lines : List (List ℕ)) (a : ℕ) (n : NodeCell) → node_at t.start.start a ≡ Some n
    → node_after_steps (run t d lines).history a n ≡ node_over (faults_in (run t d lines).nemesis.active) a n
nodes_add_up t d lines a n there =
    (kept_run t d (NodeAddsUp t.start.start a n) (node_in_turn t t.start.start a n there) (node_by_line t t.start.start a n) lines (refl, no_fault_node a n)).1

pub links_add_up : (t : TestValue) (d : Drivers t) (lines : List (List ℕ)) (a b : ℕ) (l : Link) → link_at t.start.start a b ≡ Some l
    → link_after_steps (run t d lines).history a b l ≡ link_over (faults_in (run t d lines).nemesis.active) a b l
links_add_up t d lines a b l there =
    (kept_run t d (LinkAddsUp t.start.start a b l) (link_in_turn t t.start.start a b l there) (link_by_line t t.start.start a b l) lines (refl, no_fault_link a b l)).1

pub cells_are_environment : (t : TestValue) (d : Drivers t) (lines : List (List ℕ)) (a b : ℕ) (l : Link) (n : NodeCell)
    → (link_at t.start.start a b ≡ Some l → link_after_steps (run t d lines).history a b l ≡ link_over (faults_in (run t d lines).nemesis.active) a b l)
    × (node_at t.start.start a ≡ Some n → node_after_steps (run t d lines).history a n ≡ node_over (faults_in (run t d lines).nemesis.active) a n)
cells_are_environment t d lines a b l n = (links_add_up t d lines a b l, nodes_add_up t d lines a n)

none_active : (active : Active) → is_empty active ≡ true → active ≡ []
none_active [] e = refl
none_active (f ∷ active) e = absurd (false≢true e)

pub rest_is_start : (t : TestValue) (d : Drivers t) (lines : List (List ℕ)) (a b : ℕ) (l : Link) (n : NodeCell) → IsPastHeal (run t d lines).phase
    → (link_at t.start.start a b ≡ Some l → link_after_steps (run t d lines).history a b l ≡ l)
    × (node_at t.start.start a ≡ Some n → node_after_steps (run t d lines).history a n ≡ n)
rest_is_start t d lines a b l n later =
    let none = none_active (run t d lines).nemesis.active (rest_is_quiet t d lines later) in (
      λ there. links_add_up t d lines a b l there ∙ ap (λ active. link_over (faults_in active) a b l) none ∙ sym (no_fault_link a b l),
      λ there. nodes_add_up t d lines a n there ∙ ap (λ active. node_over (faults_in active) a n) none ∙ sym (no_fault_node a n),
    )
