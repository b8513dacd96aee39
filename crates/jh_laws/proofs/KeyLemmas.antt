-- Keywords of different names are different keys.
use Rattle.std.proofs.Common.{◌≡◌, ℕ, Bool, true, false, List, [], ◌∷◌, map, sym, ap, ◌∙◌}
use Rattle.std.specs.Prelude.{not, ◌&&◌}
use Rattle.std.specs.List.{AllByRecursion, list_any}
use Rattle.std.specs.Str.{bytes_eq}
use Rattle.std.proofs.lemmas.Bool.{true≢false, and_parts, or_parts, not-true}
use Rattle.std.proofs.lemmas.Slice.Eq.{bytes_eq-Decides}
use Rattle.jh_edn.specs.Edn.{Edn, keyword, Items, item, items_of}
use Rattle.jh_edn.specs.Equality.{IsNew, Differ}

-- the name of a keyword
abbrev name_in : Edn → List ℕ
name_in (keyword name) = name
name_in _ = []

-- no name stands twice
abbrev pub are_different : List (List ℕ) → Bool
are_different [] = true
are_different (name ∷ names) = not (list_any (bytes_eq name) names) && are_different names

-- a keyword whose name is none of these is none of their keywords
keyword_new : (name : List ℕ) (names : List (List ℕ)) → list_any (bytes_eq name) names ≡ false → IsNew (keyword name) (items_of (map keyword names))
keyword_new name [] none = tt
keyword_new name (other ∷ names) none =
    let parts = or_parts (bytes_eq name other) (list_any (bytes_eq name) names) none in
    (λ same. true≢false (sym ((bytes_eq-Decides name other).1 (sym (ap name_in same))) ∙ parts.0), keyword_new name names parts.1)

pub keywords_differ : (names : List (List ℕ)) → are_different names ≡ true → Differ (items_of (map keyword names))
keywords_differ [] different = tt
keywords_differ (name ∷ names) different =
    let parts = and_parts (not (list_any (bytes_eq name) names)) (are_different names) different in
    (keyword_new name names (not-true (list_any (bytes_eq name) names) parts.0), keywords_differ names parts.1)

-- keywords of these names, and then these keys
abbrev pub with_keywords : List (List ℕ) → Items → Items
with_keywords [] keys = keys
with_keywords (name ∷ names) keys = item (keyword name) (with_keywords names keys)

new_with : (name : List ℕ) (names : List (List ℕ)) (keys : Items) → list_any (bytes_eq name) names ≡ false → IsNew (keyword name) keys
    → IsNew (keyword name) (with_keywords names keys)
new_with name [] keys none new = new
new_with name (other ∷ names) keys none new =
    let parts = or_parts (bytes_eq name other) (list_any (bytes_eq name) names) none in
    (λ same. true≢false (sym ((bytes_eq-Decides name other).1 (sym (ap name_in same))) ∙ parts.0), new_with name names keys parts.1 new)

-- different keywords stand before keys that are none of them and differ
pub keywords_before : (names : List (List ℕ)) (keys : Items) → are_different names ≡ true → AllByRecursion (λ name. IsNew (keyword name) keys) names
    → Differ keys → Differ (with_keywords names keys)
keywords_before [] keys different new differ = differ
keywords_before (name ∷ names) keys different new differ =
    let parts = and_parts (not (list_any (bytes_eq name) names)) (are_different names) different in (
      new_with name names keys (not-true (list_any (bytes_eq name) names) parts.0) new.0,
      keywords_before names keys parts.1 new.1 differ,
    )
