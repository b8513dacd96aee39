-- The members of a table are plain where each value is that a look-up finds: no more than an array deep, and
-- with no date that cannot be written.
use Rattle.std.proofs.Common.{◌≡◌, ℕ, ◌≤◌, Bool, true, false, List, [], ◌∷◌, Some, String, Global, Ordering, Less, Equal, Greater, string_bytes, is_eq, nat_cmp, inl, inr, refl, sym, ap, ◌∙◌, arith}
use Rattle.std.proofs.lemmas.Bool.{false≢true, and_parts, cases_Bool}
use Rattle.std.proofs.lemmas.Cmp.{nat_list_cmp_total}
use Rattle.std.proofs.lemmas.Map.Lookups.{exact_bytes}
use Rattle.std.specs.Cmp.{tied_itself}
use Rattle.std.specs.Cmp.Lexicographic.{slice_cmp}
use Rattle.std.specs.List.{AllByRecursion, list_all}
use Rattle.std.specs.List.Sorted.{IsStrictlySortedBy}
use Rattle.std.specs.Map.{keys_of}
use Rattle.std.specs.Ordering.{ordering_reverse}
use Rattle.std.specs.String.{string_cmp}
use Rattle.toml.proofs.Views.{Entry}
use Rattle.toml.specs.Data.{Data, get_member, same_key, depth, has_valid_dates, members_depth, members_have_valid_dates}
use Rattle.toml.specs.View.{view, members_view}
use Rattle.jh_settings.specs.Keys.{key_names_in}
use Rattle.jh_settings.proofs.ElementLemmas.{none_not}
use Rattle.jh_test_settings_texts.proofs.PutLemmas.{skipped}

abbrev pub IsPlain : Data → Type 0
IsPlain value = (depth value ≤ 1) × (has_valid_dates value ≡ true)

equal_is : (o : Ordering) → is_eq o ≡ true → o ≡ Equal
equal_is Less h = absurd (false≢true h)
equal_is Equal h = refl
equal_is Greater h = absurd (false≢true h)

above_is_other : (k : List ℕ) (x y : String Global) → k ≡ string_bytes y → string_cmp x y ≡ Less → same_key k (string_bytes x) ≡ false
above_is_other k x y is above =
    ap is_eq (ap (λ (w : List ℕ). slice_cmp nat_cmp w (string_bytes x)) is ∙ (nat_list_cmp_total.antisymm (string_bytes y) (string_bytes x) ∙ ap ordering_reverse above))

-- a key that is found behind another one is not that one
behind_is_other : (k : List ℕ) (d : Data) (x : String Global) (es : List Entry) → AllByRecursion (λ y. string_cmp x y ≡ Less) (keys_of es) → get_member k (members_view es) ≡ Some d → same_key k (string_bytes x) ≡ false
behind_is_other k d x [] above is = absurd (none_not d is)
behind_is_other k d x (e ∷ es) above is =
    elim (cases_Bool (same_key k (string_bytes e.0))) [
      | inl same ↦ above_is_other k x e.0 (exact_bytes k (string_bytes e.0) (equal_is (slice_cmp nat_cmp k (string_bytes e.0)) same)) above.0
      | inr other ↦
          behind_is_other k d x es above.1 (sym (skipped (slice_cmp nat_cmp k (string_bytes e.0)) (get_member k (members_view es)) (Some (view e.1)) other) ∙ is)
    ]

pub plain_members : (test : List ℕ → Bool) (es : List Entry) → IsStrictlySortedBy string_cmp (keys_of es) → list_all test (key_names_in (members_view es)) ≡ true
    → ((k : List ℕ) (d : Data) → test k ≡ true → get_member k (members_view es) ≡ Some d → IsPlain d) → (members_depth (members_view es) ≤ 1) × (members_have_valid_dates (members_view es) ≡ true)
unfolding IsStrictlySortedBy
plain_members test [] ordered known each = (omega arith, refl)
plain_members test (e ∷ es) ordered known each =
    let parts = and_parts (test (string_bytes e.0)) (list_all test (key_names_in (members_view es))) known in
    let here = each (string_bytes e.0) (view e.1) parts.0 (rw (tied_itself nat_list_cmp_total (string_bytes e.0)) refl) in
    let behind = plain_members test es ordered.1 parts.1 (λ k d passes is.
    each k d passes (skipped (slice_cmp nat_cmp k (string_bytes e.0)) (get_member k (members_view es)) (Some (view e.1)) (behind_is_other k d e.0 es ordered.0 is) ∙ is)) in
    (omega (arith, here.0, behind.0), rw (here.1, behind.1) refl)
