-- Facts about the values of a text.
use Rattle.std.proofs.Common.{◌≡◌, ℕ, ◌+◌, ◌<◌, if◌then◌else◌, List, [], ◌∷◌, ◌++◌, length, get_or, drop, map, Option, Some, None, option_map, option_and_then, ok_or, Err, ap, refl, sym, ◌∙◌, append_assoc, flat_map}
use Rattle.std.proofs.lemmas.List.{at_drop_more}
use Rattle.std.proofs.lemmas.List.Folds.{list_all-map}
use Rattle.std.specs.List.{list_all}
use Rattle.jh_edn.specs.Edn.{mapping, members_of, value_under}
use Rattle.jh_edn.proofs.CitedLemmas.{pairs_in-members_of}
use Rattle.jh_edn.specs.View.{view_pair, view_pairs}
use Rattle.jh_edn.specs.declared.value.Value.{Value}
use Rattle.jh_env.specs.Text.{has_known_key, nodes_keyword, text_keys, Keys, each_of}
use Rattle.jh_env.specs.TextInside.{list_with_front, RefusesShape}
use Rattle.jh_env.specs.declared.texts.EnvTextError.TheVariants.{UnknownKey, MissingNodes, BadEntry, OutOfMemory}
use Rattle.jh_env.specs.declared.texts.EnvTextError.{EnvTextError}

-- the keys of a map that a program holds
pub text_keys-map : (ps : List (Value × Value)) → text_keys (mapping (members_of (view_pairs ps)))
    ≡ (if list_all (λ pair. has_known_key (view_pair pair)) ps
    then ok_or (option_map (λ nodes. let k : Keys = record { nodes = nodes; pairs = view_pairs ps } in k) (value_under nodes_keyword (view_pairs ps))) MissingNodes
    else Err UnknownKey)
text_keys-map ps = simp (pairs_in-members_of, list_all-map has_known_key view_pair ps)

-- what is parsed of images is parsed of what they are images of
pub each_of-map : {A B C : Type 0} (f : B → Option C) (v : A → B) (xs : List A) → each_of f (map v xs) ≡ each_of (λ x. f (v x)) xs
each_of-map f v [] = refl
each_of-map f v (x ∷ xs) = ap (λ o. option_and_then (λ y. option_map (λ ys. y ∷ ys) o) (f (v x))) (each_of-map f v xs)

list_with_front-nothing : {B : Type 0} (o : Option (List B)) → list_with_front [] o ≡ o
list_with_front-nothing None = refl
list_with_front-nothing (Some ys) = refl

-- at its start nothing is parsed
pub each_none : {A B : Type 0} (f : A → Option B) (xs : List A) → list_with_front [] (each_of f xs) ≡ each_of f xs
each_none f xs = list_with_front-nothing (each_of f xs)

-- where the next value means nothing, nothing is parsed at all
pub each_stops : {A B : Type 0} (f : A → Option B) (xs : List A) (i : ℕ) (d : A)
    → i < length xs → f (get_or xs i d) ≡ None → each_of f (drop i xs) ≡ None
each_stops f xs i d below parsed =
    at_drop_more (λ rest. each_of f rest) xs i d below
    ∙ ap (λ o. option_and_then (λ y. option_map (λ ys. y ∷ ys) (each_of f (drop (i + 1) xs))) o) parsed

-- lists that are parsed, joined
abbrev pub joined : {B : Type 0} → Option (List (List B)) → Option (List B)
joined o = option_map (flat_map (λ ys. ys)) o

joined-cons : {B : Type 0} (front new : List B) (parsed : Option (List B)) (rest : Option (List (List B)))
    → list_with_front front parsed ≡ Some new
    → list_with_front front (joined (option_and_then (λ y. option_map (λ ys. y ∷ ys) rest) parsed)) ≡ list_with_front new (joined rest)
joined-cons front new None rest is = cc
joined-cons front new (Some ys) None is = refl
joined-cons front new (Some ys) (Some yss) is =
    let whole : front ++ ys ≡ new = cc in
    ap Some (sym (append_assoc front ys (flat_map (λ zs. zs) yss)) ∙ ap (λ zs. zs ++ flat_map (λ zs. zs) yss) whole)

-- where the next value means a list, its elements follow
pub joined_more : {A B : Type 0} (f : A → Option (List B)) (xs : List A) (i : ℕ) (d : A) (front new : List B)
    → i < length xs → list_with_front front (f (get_or xs i d)) ≡ Some new
    → list_with_front front (joined (each_of f (drop i xs))) ≡ list_with_front new (joined (each_of f (drop (i + 1) xs)))
joined_more f xs i d front new below parsed =
    at_drop_more (λ rest. list_with_front front (joined (each_of f rest))) xs i d below
    ∙ joined-cons front new (f (get_or xs i d)) (each_of f (drop (i + 1) xs)) parsed

-- what is refused for its shape makes the whole refused
pub refuses_whole : {A B : Type 0} (part : Option A) (whole : Option B) (e : EnvTextError)
    → (part ≡ None → whole ≡ None) → RefusesShape part e → RefusesShape whole e
refuses_whole part whole BadEntry carries refused = carries refused
refuses_whole part whole OutOfMemory carries refused = tt
refuses_whole part whole _ carries refused = absurd refused
