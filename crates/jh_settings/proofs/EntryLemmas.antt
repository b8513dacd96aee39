-- Entries parsed one after another, each as it is meant.
use Rattle.std.proofs.Common.{◌≡◌, ℕ, ◌+◌, ◌<◌, ◌≤◌, List, [], ◌∷◌, ◌++◌, length, get_or, drop, suc, refl, sym, ap, subst, ◌∙◌, append_assoc, append-nil, arith}
use Rattle.std.proofs.lemmas.List.{drop_all}
use Rattle.toml.specs.Data.{Data, Items, no_items, item}
use Rattle.toml.specs.View.{view, items_view}
use Rattle.toml.specs.declared.value.Value.{Value}
use Rattle.toml.proofs.Views.{items_view-drop}
use Rattle.jh_settings.specs.Parsed.{AreEach, AreFewEach}

-- so many values are parsed, by these entries
pub record Parsed {E : Type 0} (Means : Data → E → Type 0) (values : List Value) (count : ℕ) (entries : List E) : Type 0 where
  pub before : (rest : List E) → AreEach Means (items_view (drop count values)) rest → AreEach Means (items_view values) (entries ++ rest)
  pub behind : (all : List E) → AreEach Means (items_view values) all → (rest : List E) × AreEach Means (items_view (drop count values)) rest

pub none_parsed : {E : Type 0} (Means : Data → E → Type 0) (values : List Value) → Parsed Means values 0 []
none_parsed Means values = record { before = λ rest h. h; behind = λ all h. (all, h) }

first_parsed : {E : Type 0} (Means : Data → E → Type 0) (value : Data) (values : Items) (entries : List E) → AreEach Means (item value values) entries → (entry : E) × (rest : List E) × Means value entry × AreEach Means values rest
first_parsed Means value values [] h = absurd h
first_parsed Means value values (entry ∷ rest) h = (entry, rest, h.0, h.1)

pub one_parsed : {E : Type 0} (Means : Data → E → Type 0) (values : List Value) (count : ℕ) (entries : List E) (value : Value) (entry : E) → Parsed Means values count entries
    → count < length values → value ≡ get_or values count value → Means (view value) entry → Parsed Means values (count + 1) (entries ++ entry ∷ [])
one_parsed Means values count entries value entry parsed within at is =
    let here : items_view (drop count values) ≡ item (view value) (items_view (drop (count + 1) values)) =
    items_view-drop values count value within ∙ ap (λ v. item (view v) (items_view (drop (count + 1) values))) (sym at) in
    record {
      before = λ rest h.
          subst (AreEach Means (items_view values)) (sym (append_assoc entries (entry ∷ []) rest))
          (parsed.before (entry ∷ rest) (subst (λ items. AreEach Means items (entry ∷ rest)) (sym here) (is, h)));
      behind = λ all h.
          let left = parsed.behind all h in
          let first = first_parsed Means (view value) (items_view (drop (count + 1) values)) left.0 (subst (λ items. AreEach Means items left.0) here left.1) in
          (first.1, first.3);
    }

-- no entries are those of all values where one means none
pub not_parsed : {E : Type 0} (Means : Data → E → Type 0) (values : List Value) (count : ℕ) (entries : List E) (value : Value) → Parsed Means values count entries
    → count < length values → value ≡ get_or values count value → ((entry : E) → Means (view value) entry → ⊥) → ((all : List E) × AreFewEach Means (items_view values) all) → ⊥
not_parsed Means values count entries value parsed within at none all =
    let here : items_view (drop count values) ≡ item (view value) (items_view (drop (count + 1) values)) =
    items_view-drop values count value within ∙ ap (λ v. item (view v) (items_view (drop (count + 1) values))) (sym at) in
    let left = parsed.behind all.0 all.1.0 in
    let first = first_parsed Means (view value) (items_view (drop (count + 1) values)) left.0 (subst (λ items. AreEach Means items left.0) here left.1) in
    none first.0 first.2

-- there are as many as values
count_parsed : {E : Type 0} (Means : Data → E → Type 0) (values : List Value) (entries : List E) → AreEach Means (items_view values) entries → length entries ≡ length values
count_parsed Means [] [] h = refl
count_parsed Means [] (entry ∷ entries) h = absurd h
count_parsed Means (value ∷ values) [] h = absurd h
count_parsed Means (value ∷ values) (entry ∷ entries) h = ap suc (count_parsed Means values entries h.1)

pub all_parsed : {E : Type 0} (Means : Data → E → Type 0) (values : List Value) (count : ℕ) (entries : List E) → Parsed Means values count entries → length values ≤ count → length values ≤ 1024 → AreFewEach Means (items_view values) entries
all_parsed Means values count entries parsed over few =
    let none : items_view (drop count values) ≡ no_items = ap items_view (drop_all count values over) in
    let all : AreEach Means (items_view values) (entries ++ []) = parsed.before [] (subst (λ items. AreEach Means items []) (sym none) tt) in
    let is = subst (AreEach Means (items_view values)) (append-nil entries) all in
    (is, omega (arith, count_parsed Means values entries is))

pub too_many : {E : Type 0} (Means : Data → E → Type 0) (values : List Value) → 1024 < length values → ((all : List E) × AreFewEach Means (items_view values) all) → ⊥
too_many Means values many all = omega (arith, count_parsed Means values all.0 all.1.0, all.1.1)
