-- Keys, built one by one.
use Rattle.std.proofs.Common.{◌≡◌, ℕ, ◌+◌, ◌<◌, List, [], ◌∷◌, ◌++◌, length, take, get_or, map, refl, ap}
use Rattle.jh_edn.specs.Edn.{Edn, items_of, members_of}
use Rattle.jh_edn.specs.Key.{key_of, item_keys, pair_keys}
use Rattle.jh_edn.specs.View.{view, views, view_pairs}
use Rattle.jh_edn.specs.declared.value.Value.{Value}
use Rattle.jh_edn.proofs.PushLemmas.{push_from_clauses}

-- one element more
pub item_keys_push : (vs : List Value) (i : ℕ) (d : Value) → i < length vs
    → item_keys (items_of (views (take (i + 1) vs))) ≡ item_keys (items_of (views (take i vs))) ++ key_of (view (get_or vs i d)) ∷ []
item_keys_push = push_from_clauses (λ vs. item_keys (items_of (views vs))) (λ v. key_of (view v)) refl (λ v vs. refl)

-- one pair more
pub pair_keys_push : (ps : List (Value × Value)) (i : ℕ) (d : Value × Value) → i < length ps
    → pair_keys (members_of (view_pairs (take (i + 1) ps))) ≡ pair_keys (members_of (view_pairs (take i ps))) ++ (key_of (view (get_or ps i d).0) ++ key_of (view (get_or ps i d).1)) ∷ []
pair_keys_push = push_from_clauses (λ ps. pair_keys (members_of (view_pairs ps))) (λ p. key_of (view p.0) ++ key_of (view p.1)) refl (λ p ps. refl)

-- what is made of the key of each pair that a program holds
pub keys_seen : {X : Type 0} (f : Edn → X) (ps : List (Value × Value)) → map (λ p. f (view p.0)) ps ≡ map (λ m. f m.0) (view_pairs ps)
keys_seen f [] = refl
keys_seen {X} f (p ∷ ps) = ap (λ (w : List X). f (view p.0) ∷ w) (keys_seen f ps)
