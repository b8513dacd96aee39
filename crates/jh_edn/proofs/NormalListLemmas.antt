-- Normal forms, built one by one and put in order.
use Rattle.std.proofs.Common.{◌≡◌, ℕ, ◌+◌, ◌<◌, Bool, List, [], ◌∷◌, ◌++◌, length, take, get_or, refl, ap, ◌∙◌}
use Rattle.std.specs.List.Sorted.{IsSortedBy, IsStableBy}
use Rattle.std.proofs.lemmas.List.MinMax.{ranks_by}
use Rattle.jh_edn.specs.Edn.{items_of, members_of}
use Rattle.jh_edn.specs.Normal.{normal, normal_list, normal_pairs}
use Rattle.jh_edn.specs.Order.{in_order, is_below, has_key_below}
use Rattle.jh_edn.specs.View.{view, views, view_pair, view_pairs}
use Rattle.jh_edn.specs.declared.value.Value.{Value}
use Rattle.jh_edn.proofs.OrderLemmas.{edn_total}
use Rattle.jh_edn.proofs.PushLemmas.{push_from_clauses}
use Rattle.jh_edn.proofs.SortLemmas.{sorted_is, map_in_order}

-- one element more
pub normal_list_push : (vs : List Value) (i : ℕ) (d : Value) → i < length vs
    → normal_list (items_of (views (take (i + 1) vs))) ≡ normal_list (items_of (views (take i vs))) ++ normal (view (get_or vs i d)) ∷ []
normal_list_push = push_from_clauses (λ vs. normal_list (items_of (views vs))) (λ v. normal (view v)) refl (λ v vs. refl)

-- one pair more
pub normal_pairs_push : (ps : List (Value × Value)) (i : ℕ) (d : Value × Value) → i < length ps
    → normal_pairs (members_of (view_pairs (take (i + 1) ps))) ≡ normal_pairs (members_of (view_pairs (take i ps))) ++ (normal (view (get_or ps i d).0), normal (view (get_or ps i d).1)) ∷ []
normal_pairs_push = push_from_clauses (λ ps. normal_pairs (members_of (view_pairs ps))) (λ p. (normal (view p.0), normal (view p.1))) refl (λ p ps. refl)

-- the first is below the second, of values and of pairs that a program holds
abbrev pub held_below : Value → Value → Bool
held_below v w = is_below (view v) (view w)

abbrev pub held_key_below : Value × Value → Value × Value → Bool
held_key_below p q = has_key_below (view_pair p) (view_pair q)

pub sorted_items : (vs ws : List Value) → IsSortedBy held_below ws → IsStableBy held_below vs ws → views ws ≡ in_order is_below (views vs)
sorted_items vs ws up still = ap views (sorted_is held_below (ranks_by edn_total view) vs ws up still) ∙ map_in_order view is_below vs

pub sorted_pairs : (ps qs : List (Value × Value)) → IsSortedBy held_key_below qs → IsStableBy held_key_below ps qs → view_pairs qs ≡ in_order has_key_below (view_pairs ps)
sorted_pairs ps qs up still = ap view_pairs (sorted_is held_key_below (ranks_by edn_total (λ (p : Value × Value). view p.0)) ps qs up still) ∙ map_in_order view_pair has_key_below ps
