-- A read by the list that its transaction has.
use Rattle.std.proofs.Common.{◌≡◌, ℕ, Bool, false, List, ◌++◌, refl, sym, ap, subst, ◌∙◌, inl, inr}
use Rattle.std.specs.Prelude.{◌≢◌}
use Rattle.jh_txn.specs.declared.anomaly.BadRead.{BadRead}
use Rattle.jh_txn.specs.declared.anomaly.BadRead.TheVariants.{Internal}
use Rattle.jh_txn.specs.declared.txn.Txn.{Txn}
use Rattle.jh_txn_reads.specs.Inside.{IsSoundRead, IsSoundBase, IsWrongBase, IsWrongRead}

-- no read showed the list yet
module _ (txns : List Txn) (place key : ℕ) (known : Bool) (own list seen : List ℕ) (unknown : known ≡ false) (is : own ≡ list) where
  pub wrong_end : ((base : List ℕ) → seen ≢ base ++ own) → IsWrongRead txns place key known list seen Internal
  wrong_end none = subst (λ b. IsWrongRead txns place key b list seen Internal) (sym unknown) (inl (refl, λ base h. none base (h ∙ ap (λ xs. base ++ xs) (sym is))))

  pub wrong_base : (base : List ℕ) → seen ≡ base ++ own → (kind : BadRead) → IsWrongBase txns place key base kind → IsWrongRead txns place key known list seen kind
  wrong_base base cut kind wrong = subst (λ b. IsWrongRead txns place key b list seen kind) (sym unknown) (inr (base, cut ∙ ap (λ xs. base ++ xs) is, wrong))

  pub sound_base : (base : List ℕ) → seen ≡ base ++ own → IsSoundBase txns place key base → IsSoundRead txns place key known list seen
  sound_base base cut sound = subst (λ b. IsSoundRead txns place key b list seen) (sym unknown) (base, cut ∙ ap (λ xs. base ++ xs) is, sound)
