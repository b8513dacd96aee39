-- The keys of a table, as names, and the first of them that is unknown.
use Rattle.std.proofs.Common.{◌≡◌, ℕ, ◌<◌, Bool, true, false, List, [], ◌∷◌, ◌++◌, map, length, get_or, String, Global, Ordering, Less, Greater, refl, sym, ap, subst, ◌∙◌, append_assoc, append-nil, inl, inr, length-append, arith}
use Rattle.std.proofs.lemmas.Bool.{cases_order, true≢false, and_from}
use Rattle.std.proofs.lemmas.List.{get_or-map, get_or_append_left, get_or-append-add, length-map}
use Rattle.std.proofs.lemmas.List.Folds.{list_all-append, list_all_at}
use Rattle.std.proofs.lemmas.Map.Keys.{Less-from_sorted}
use Rattle.std.proofs.lemmas.Cmp.{nat_list_cmp_total}
use Rattle.std.specs.Cmp.Lexicographic.{slice_cmp}
use Rattle.std.specs.List.{list_all}
use Rattle.std.specs.List.Sorted.{IsStrictlySortedBy}
use Rattle.std.specs.Map.{keys_of}
use Rattle.std.specs.Ordering.{nat_cmp, ordering_reverse, is_lt}
use Rattle.std.specs.String.{string_bytes, string_cmp}
use Rattle.toml.proofs.Views.{Entry}
use Rattle.toml.specs.View.{members_view}
use Rattle.jh_settings.specs.Keys.{key_names_in, is_key_name, IsFirstUnknown}
use Rattle.jh_settings.specs.declared.keys.Key.{Key}

abbrev pub Text : Type 0
Text = String Global

abbrev pub known_text : List Key → Text → Bool
known_text some k = is_key_name some (string_bytes k)

-- these keys are left, and those before them are known
abbrev pub Passed : List Key → List Text → List Text → Type 0
Passed some all rest = (front : List Text) × (all ≡ front ++ rest) × (list_all (known_text some) front ≡ true)

pub none_passed : (some : List Key) (all : List Text) → Passed some all all
none_passed some all = ([], refl, refl)

pub one_passed : (some : List Key) (all : List Text) (k : Text) (rest : List Text) → Passed some all (k ∷ rest) → known_text some k ≡ true → Passed some all rest
one_passed some all k rest p known = (
  p.0 ++ k ∷ [],
  p.1 ∙ sym (append_assoc p.0 (k ∷ []) rest),
  list_all-append (known_text some) p.0 (k ∷ []) ∙ and_from (list_all (known_text some) p.0) (list_all (known_text some) (k ∷ [])) p.2 (rw known refl),
)

pub names_are : (es : List Entry) → key_names_in (members_view es) ≡ map string_bytes (keys_of es)
names_are [] = refl
names_are (e ∷ es) = ap (λ (ws : List (List ℕ)). string_bytes e.0 ∷ ws) (names_are es)

all_text_known : (some : List Key) (ks : List Text) → list_all (known_text some) ks ≡ list_all (is_key_name some) (map string_bytes ks)
all_text_known some [] = refl
all_text_known some (k ∷ ks) = rw (all_text_known some ks) refl

pub all_known : (some : List Key) (es : List Entry) → Passed some (keys_of es) [] → list_all (is_key_name some) (key_names_in (members_view es)) ≡ true
all_known some es p =
    let all : keys_of es ≡ p.0 = p.1 ∙ append-nil p.0 in
    ap (list_all (is_key_name some)) (names_are es) ∙ sym (all_text_known some (keys_of es)) ∙ ap (list_all (known_text some)) all ∙ p.2

not_both : (o : Ordering) → o ≡ Less → o ≡ Greater → ⊥
not_both o less greater = true≢false (ap is_lt (sym less ∙ greater))

less_once : (x y : List ℕ) → slice_cmp nat_cmp x y ≡ Less → slice_cmp nat_cmp y x ≡ Less → ⊥
less_once x y h k = not_both (slice_cmp nat_cmp x y) h (nat_list_cmp_total.antisymm x y ∙ ap ordering_reverse k)

less_itself : (x : List ℕ) → slice_cmp nat_cmp x x ≡ Less → ⊥
less_itself x h = less_once x x h h

-- the key at a place is known, or it is this one or comes behind it
at_place : (some : List Key) (front : List Text) (k : Text) (rest : List Text) → list_all (known_text some) front ≡ true → IsStrictlySortedBy string_cmp (front ++ k ∷ rest) → (i : ℕ) → i < length (front ++ k ∷ rest)
    → known_text some (get_or (front ++ k ∷ rest) i k) ≡ false → string_cmp (get_or (front ++ k ∷ rest) i k) k ≡ Less → ⊥
at_place some front k rest known ordered i within unknown less =
    let all = front ++ k ∷ rest in
    let here : get_or all (length front) k ≡ k = ap (λ n. get_or all n k) (omega arith) ∙ get_or-append-add front (k ∷ rest) 0 k in
    elim (cases_order i (length front)) [
      | inl same ↦ less_itself (string_bytes k) (subst (λ t. string_cmp t k ≡ Less) (ap (λ n. get_or all n k) same ∙ here) less)
      | inr apart ↦ elim apart [
        | inl before ↦
            let at : get_or all i k ≡ get_or front i k = get_or_append_left front (k ∷ rest) k i before in
            true≢false (sym known ∙ list_all_at (known_text some) front i k before (sym (ap (known_text some) at) ∙ unknown))
        | inr behind ↦
            let more = Less-from_sorted string_cmp all (length front) i k ordered behind within in
            less_once (string_bytes k) (string_bytes (get_or all i k)) (subst (λ t. string_cmp t (get_or all i k) ≡ Less) here more) less
      ]
    ]

pub first_unknown : (some : List Key) (es : List Entry) (k : Text) (rest : List Text) → Passed some (keys_of es) (k ∷ rest) → IsStrictlySortedBy string_cmp (keys_of es) → is_key_name some (string_bytes k) ≡ false → IsFirstUnknown some (members_view es) (string_bytes k)
first_unknown some es k rest p ordered unknown =
    let all = p.0 ++ k ∷ rest in
    let names : key_names_in (members_view es) ≡ map string_bytes all = names_are es ∙ ap (map string_bytes) p.1 in
    let ordered : IsStrictlySortedBy string_cmp all = subst (IsStrictlySortedBy string_cmp) p.1 ordered in
    let count : length (key_names_in (members_view es)) ≡ length all = ap length names ∙ length-map all (string_bytes {Z = Global}) in
    let at : (i : ℕ) (d : List ℕ) → i < length all → get_or (key_names_in (members_view es)) i d ≡ string_bytes (get_or all i k) =
    λ i d h. ap (λ ws. get_or ws i d) names ∙ get_or-map string_bytes all i k d h in
    let within : length p.0 < length all = omega (arith, length-append p.0 (k ∷ rest)) in
    let here : get_or all (length p.0) k ≡ k = ap (λ n. get_or all n k) (omega arith) ∙ get_or-append-add p.0 (k ∷ rest) 0 k in
    record {
      stands = (length p.0, omega (arith, count), at (length p.0) (string_bytes k) within ∙ ap string_bytes here);
      unknown = unknown;
      first = λ other c not_known less.
          let is : string_bytes (get_or all c.0 k) ≡ other = sym (at c.0 other (omega (arith, count))) ∙ c.2 in
          at_place some p.0 k rest p.2 ordered c.0 (omega (arith, count)) (ap (is_key_name some) is ∙ not_known) (subst (λ w. slice_cmp nat_cmp w (string_bytes k) ≡ Less) (sym is) less);
    }
