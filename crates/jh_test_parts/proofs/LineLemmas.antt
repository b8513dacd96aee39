-- What the code finds of a line is what the rule says of it.
use Rattle.std.proofs.Common.{◌≡◌, ℕ, Bool, true, false, ◌||◌, List, [], ◌∷◌, filter, refl, sym, ap, ◌∙◌}
use Rattle.std.proofs.Common.{subst}
use mathlib.Core.Logic.{◌⊎◌, inl, inr}
use Rattle.std.specs.Prelude.{Result, Ok, Err, cond, if◌then◌else◌}
use Rattle.std.specs.List.{list_any}
use Rattle.std.specs.Str.{IsUtf8, is_utf8}
use Rattle.std.proofs.lemmas.Bool.{cases_Bool, false≢true}
use Rattle.std.proofs.lemmas.Str.{IsUtf8-from_is_utf8, is_utf8-from_IsUtf8}
use Rattle.jh_edn.specs.Edn.{Edn}
use Rattle.jh_edn.specs.Lines.{IsFirstErrorIn, values_in}
use Rattle.jh_edn.specs.View.{view_pair, view_pairs}
use Rattle.jh_edn.specs.declared.error.EdnError.{EdnError}
use Rattle.jh_edn.specs.declared.error.EdnError.TheVariants as edn
use Rattle.jh_edn.specs.declared.error.EdnError.TheVariants.{OutOfMemory}
use Rattle.jh_edn.specs.declared.value.Value.{Value}
use Rattle.jh_test_parts.specs.LineMeanings.{Bad, line_meaning, meaning_of_read, meaning_of_values}
use Rattle.jh_test_parts.specs.declared.complaints.Complaint.TheVariants as complaint

-- a test of pairs as a contract sees them
pub any_viewed : (test : Edn × Edn → Bool) (pairs : List (Value × Value)) → list_any (λ pair. test (view_pair pair)) pairs ≡ list_any test (view_pairs pairs)
any_viewed test [] = refl
any_viewed test (p ∷ ps) = ap (λ b. test (view_pair p) || b) (any_viewed test ps)

-- the pairs that pass a test, as a contract sees them
pub filter_viewed : (test : Edn × Edn → Bool) (pairs : List (Value × Value)) → view_pairs (filter (λ pair. test (view_pair pair)) pairs) ≡ filter test (view_pairs pairs)
filter_viewed test [] = refl
filter_viewed test (p ∷ ps) =
    elim (test (view_pair p))
    as (λ b. view_pairs (cond b (p ∷ filter (λ pair. test (view_pair pair)) ps) (filter (λ pair. test (view_pair pair)) ps)) ≡ cond b (view_pair p ∷ filter test (view_pairs ps)) (filter test (view_pairs ps)))
    [ true ↦ ap (λ qs. view_pair p ∷ qs) (filter_viewed test ps) | false ↦ filter_viewed test ps ]

-- The bytes of a line.

no_text : {E : Type 0} (error : E → EdnError) (r : Result (List Edn) E) (b : Bool) → b ≡ false → Bad (complaint.Edn edn.Utf8) ≡ (if b then meaning_of_read error r else Bad (complaint.Edn edn.Utf8))
no_text error r b is = sym (ap (λ v. if v then meaning_of_read error r else Bad (complaint.Edn edn.Utf8)) is)

pub no_utf8 : (line : List ℕ) → (IsUtf8 line → ⊥) → Bad (complaint.Edn edn.Utf8) ≡ line_meaning line
no_utf8 line differs = go (cases_Bool (is_utf8 line))
  where
    go : (is_utf8 line ≡ true) ⊎ (is_utf8 line ≡ false) → Bad (complaint.Edn edn.Utf8) ≡ line_meaning line
    go (inl is) = absurd (differs (IsUtf8-from_is_utf8 line is))
    go (inr is) = no_text _ (values_in line) (is_utf8 line) is

by_values : {E : Type 0} (error : E → EdnError) (r : Result (List Edn) E) (values : List Edn) (b : Bool) → b ≡ true → r ≡ Ok values
    → meaning_of_values values ≡ (if b then meaning_of_read error r else Bad (complaint.Edn edn.Utf8))
by_values error r values b is e = sym (ap (λ v. if v then meaning_of_read error r else Bad (complaint.Edn edn.Utf8)) is ∙ ap (meaning_of_read error) e)

by_error : {E : Type 0} (error : E → EdnError) (r : Result (List Edn) E) (x : E) (b : Bool) → b ≡ true → r ≡ Err x
    → Bad (complaint.Edn (error x)) ≡ (if b then meaning_of_read error r else Bad (complaint.Edn edn.Utf8))
by_error error r x b is e = sym (ap (λ v. if v then meaning_of_read error r else Bad (complaint.Edn edn.Utf8)) is ∙ ap (meaning_of_read error) e)

pub said_values : (line : List ℕ) (values : List Edn) → IsUtf8 line → values_in line ≡ Ok values → meaning_of_values values ≡ line_meaning line
said_values line values h e = by_values _ (values_in line) values (is_utf8 line) (is_utf8-from_IsUtf8 line h) e

pub said_error : (line : List ℕ) (e : EdnError) → IsUtf8 line → IsFirstErrorIn line e → Bad (complaint.Edn e) ≡ line_meaning line
said_error line e h first = ap (λ x. Bad (complaint.Edn x)) first.is ∙ by_error _ (values_in line) first.found (is_utf8 line) (is_utf8-from_IsUtf8 line h) first.is_first

pub said_refused : (line text : List ℕ) (e : EdnError) (b : Bool) → text ≡ line → IsUtf8 line → (e ≡ OutOfMemory) ⊎ IsFirstErrorIn text e → (e ≡ OutOfMemory → b ≡ true) → b ≡ false → Bad (complaint.Edn e) ≡ line_meaning line
said_refused line text e b same utf8 (inl memory) told not_told = absurd (false≢true (sym not_told ∙ told memory))
said_refused line text e b same utf8 (inr first) told not_told = said_error text e (subst IsUtf8 (sym same) utf8) first ∙ ap line_meaning same
