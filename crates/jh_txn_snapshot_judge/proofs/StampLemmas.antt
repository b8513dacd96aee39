-- Tables by key of which micro-operations set entries to one place, and what one of them appends.
use Rattle.std.proofs.Common.{◌≡◌, ℕ, ◌<◌, Bool, true, false, cond, eqb, eq-eqb, Option, Some, None, List, ◌++◌, length, get_or, set, refl, sym, ap, ◌∙◌, inl, inr}
use Rattle.std.specs.Prelude.{◌||◌}
use Rattle.std.specs.List.{list_any}
use Rattle.std.proofs.lemmas.Bool.{cases_eq, ne_eqb}
use Rattle.std.proofs.lemmas.List.{get_or-set_other, get_or-set_same}
use Rattle.std.proofs.lemmas.List.Folds.{list_any-append}
use Rattle.jh_txn.specs.declared.txn.MicroOp.{MicroOp}

cond_or : (a b : Bool) (x y : Option ℕ) → cond b x (cond a x y) ≡ cond (a || b) x y
cond_or true true x y = refl
cond_or true false x y = refl
cond_or false true x y = refl
cond_or false false x y = refl

-- The entries of some keys are those of one place, and the others are as they were.
abbrev pub Stamped : (ℕ → Bool) → ℕ → List (Option ℕ) → List (Option ℕ) → Type 0
Stamped keys place old new = (key : ℕ) → get_or new key None ≡ cond (keys key) (Some place) (get_or old key None)

-- the keys for which one of some micro-operations passes the test
abbrev pub KeysOf : (ℕ → MicroOp → Bool) → List MicroOp → ℕ → Bool
KeysOf test ops key = list_any (test key) ops

module _ (test : ℕ → MicroOp → Bool) (place : ℕ) where
  pub stamped_then : (ops more : List MicroOp) (old mid new : List (Option ℕ)) → Stamped (KeysOf test ops) place old mid → Stamped (KeysOf test more) place mid new → Stamped (KeysOf test (ops ++ more)) place old new
  stamped_then ops more old mid new a b key =
      b key ∙ ap (λ o. cond (KeysOf test more key) (Some place) o) (a key) ∙ cond_or (KeysOf test ops key) (KeysOf test more key) (Some place) (get_or old key None) ∙ ap (λ t. cond t (Some place) (get_or old key None)) (sym (list_any-append (test key) ops more))

-- one entry set
pub stamped_one : (old : List (Option ℕ)) (k place : ℕ) → k < length old → Stamped (λ key. eqb k key) place old (set old k (Some place))
stamped_one old k place low key = elim (cases_eq key k) as (λ _. get_or (set old k (Some place)) key None ≡ cond (eqb k key) (Some place) (get_or old key None)) [
  | inl same ↦ ap (λ n. get_or (set old k (Some place)) n None) same ∙ get_or-set_same old k (Some place) None low ∙ sym (ap (λ b. cond b (Some place) (get_or old key None)) (eq-eqb k key (sym same)))
  | inr other ↦ get_or-set_other old k key (Some place) None other ∙ sym (ap (λ b. cond b (Some place) (get_or old key None)) (ne_eqb k key (λ e. other (sym e))))
]

pub stamped_as : (P Q : ℕ → Bool) (place : ℕ) (old new : List (Option ℕ)) → ((key : ℕ) → P key ≡ Q key) → Stamped P place old new → Stamped Q place old new
stamped_as P Q place old new same a key = a key ∙ ap (λ b. cond b (Some place) (get_or old key None)) (same key)
