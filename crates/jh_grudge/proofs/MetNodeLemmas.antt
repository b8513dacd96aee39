-- Marks node by node.
use Rattle.std.specs.Prelude.{◌↔◌, MatchBool, Vec}
use Rattle.std.proofs.Common.{◌≡◌, ℕ, zero, suc, ◌+◌, ◌<◌, Bool, true, false, List, [], ◌∷◌, ◌++◌, length, get_or, set, take, drop, replicate, refl, sym, ap, subst, ◌∙◌, inl, inr, append_assoc}
use Rattle.std.proofs.lemmas.Bool.{cases_eq, both_ways}
use Rattle.std.proofs.lemmas.List.{get_or-set_same, get_or-set_other, take_more, take-append-drop, drop_more}
use Rattle.std.proofs.lemmas.List.Elements.{Contains-append_left, Contains-push, Contains-push_cases}
use Rattle.std.specs.declared.alloc.Global.{Global}
use Rattle.std.proofs.lemmas.List.Concat.{flat_map-append}
use Rattle.jh_grudge.specs.Lists.{AreDistinct, nodes_end_to_end}
use Rattle.jh_grudge.specs.Marks.{AreMetNodes}
use Rattle.jh_grudge.proofs.ListLemmas.{contains_none, distinct_none, distinct_push, repeated, not_distinct_left}

unmarked : (n node : ℕ) → get_or (replicate n false) node false ≡ false
unmarked zero node = refl
unmarked (suc n) zero = refl
unmarked (suc n) (suc node) = unmarked n node

pub marks_none : (n : ℕ) → AreMetNodes (replicate n false) []
marks_none n = record {
  exact = λ node. ((λ marked. absurd (both_ways _ (unmarked n node) marked)), (λ has. absurd (contains_none node has)));
  distinct = distinct_none;
}

pub marks_more : (seen : List Bool) (nodes : List ℕ) (a : ℕ) → AreMetNodes seen nodes → a < length seen → get_or seen a false ≡ false → AreMetNodes (set seen a true) (nodes ++ a ∷ [])
marks_more seen nodes a marks below new = record {
  exact = λ node. elim (cases_eq node a) [
    | inl same ↦ ((λ marked. rw same (Contains-push nodes a)), (λ has. rw same (get_or-set_same seen a true false below)))
    | inr apart ↦ (
      (λ marked. Contains-append_left nodes (a ∷ []) node ((marks.exact node).0 (sym (get_or-set_other seen a node true false apart) ∙ marked))),
      (λ has. get_or-set_other seen a node true false apart ∙ elim (Contains-push_cases nodes a node has) [
        | inl old ↦ (marks.exact node).1 old
        | inr same ↦ absurd (apart (sym same))
      ]),
    )
  ];
  distinct = distinct_push nodes a marks.distinct (λ has. both_ways _ new ((marks.exact a).1 has));
}

-- the next of a list of nodes, behind others
pub next_of : (before nodes : List ℕ) (i a : ℕ) → i < length nodes → get_or nodes i 0 ≡ a → before ++ take (i + 1) nodes ≡ (before ++ take i nodes) ++ a ∷ []
next_of before nodes i a below is =
    ap (λ xs. before ++ xs) (take_more nodes i 0 below ∙ ap (λ x. take i nodes ++ x ∷ []) is) ∙ sym (append_assoc before (take i nodes) (a ∷ []))

pub split_at : (before nodes : List ℕ) (i a : ℕ) → i < length nodes → get_or nodes i 0 ≡ a → before ++ nodes ≡ (before ++ take i nodes) ++ a ∷ drop (i + 1) nodes
split_at before nodes i a below is =
    ap (λ xs. before ++ xs) (sym (take-append-drop i nodes) ∙ ap (λ xs. take i nodes ++ xs) (drop_more nodes i 0 below ∙ ap (λ x. x ∷ drop (i + 1) nodes) is))
    ∙ sym (append_assoc before (take i nodes) (a ∷ drop (i + 1) nodes))

pub marks_step : (seen : List Bool) (before nodes : List ℕ) (i a : ℕ) → i < length nodes → get_or nodes i 0 ≡ a → a < length seen → get_or seen a false ≡ false
    → AreMetNodes seen (before ++ take i nodes) → AreMetNodes (set seen a true) (before ++ take (i + 1) nodes)
marks_step seen before nodes i a below is within new marks =
    subst (λ (xs : List ℕ). AreMetNodes (set seen a true) xs) (sym (next_of before nodes i a below is)) (marks_more seen (before ++ take i nodes) a marks within new)

pub marks_stop : (seen : List Bool) (before nodes : List ℕ) (i a : ℕ) → i < length nodes → get_or nodes i 0 ≡ a → get_or seen a false ≡ true
    → AreMetNodes seen (before ++ take i nodes) → ¬ AreDistinct (before ++ nodes)
marks_stop seen before nodes i a below is met marks distinct =
    repeated (before ++ take i nodes) (drop (i + 1) nodes) a ((marks.exact a).0 met) (subst (λ (xs : List ℕ). AreDistinct xs) (split_at before nodes i a below is) distinct)

-- the answer of marking tells whether the list is distinct
pub given : (answer : Bool) (seen : List Bool) (nodes : List ℕ) → MatchBool answer (AreMetNodes seen nodes) (¬ AreDistinct nodes) → (answer ≡ true) ↔ AreDistinct nodes
given true seen nodes marks = ((λ _. marks.distinct), (λ _. refl))
given false seen nodes not_distinct = ((λ e. absurd (both_ways false refl e)), (λ distinct. absurd (not_distinct distinct)))

-- ---- components one by one

joined_at : (components : List (Vec ℕ Global)) (i : ℕ) (component : Vec ℕ Global) → i < length components → component ≡ get_or components i component
    → nodes_end_to_end components ≡ (nodes_end_to_end (take i components) ++ component.items) ++ nodes_end_to_end (drop (i + 1) components)
joined_at components i component below is =
    ap nodes_end_to_end (sym (take-append-drop i components) ∙ ap (λ xs. take i components ++ xs) (drop_more components i component below ∙ ap (λ x. x ∷ drop (i + 1) components) (sym is)))
    ∙ flat_map-append (λ v. v.items) (take i components) (component ∷ drop (i + 1) components)
    ∙ sym (append_assoc (nodes_end_to_end (take i components)) component.items (nodes_end_to_end (drop (i + 1) components)))

-- what is marked again stands twice in all components together
pub joined_stop : (components : List (Vec ℕ Global)) (i : ℕ) (component : Vec ℕ Global) → i < length components → component ≡ get_or components i component
    → ¬ AreDistinct (nodes_end_to_end (take i components) ++ component.items) → ¬ AreDistinct (nodes_end_to_end components)
joined_stop components i component below is fails distinct =
    not_distinct_left (nodes_end_to_end (take i components) ++ component.items) (nodes_end_to_end (drop (i + 1) components)) fails
    (subst (λ (xs : List ℕ). AreDistinct xs) (joined_at components i component below is) distinct)
