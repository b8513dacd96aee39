-- Which owners with values are one: an equivalence, whose equals are hashed alike.
use Rattle.std.proofs.Common.{◌≡◌, ◌∙◌, ℕ, List, true, ◌==◌, ◌++◌, ap}
use Rattle.std.proofs.lemmas.Bool.{eqb-true}
use Rattle.std.proofs.lemmas.Cmp.{on_equiv, and_equiv, nat_eq_equiv, eq_by_cmp_equiv}
use Rattle.std.specs.Cmp.{IsEquivalence, Equal-is, first_so, second_so}
use Rattle.std.specs.Hash as fed
use Rattle.std.specs.Ordering.{is_eq}
use Rattle.jh_edn.proofs.CitedLemmas.{edn_total, tied_equal, same_fingerprint}
use Rattle.jh_edn.specs.Edn.{Edn}
use Rattle.jh_edn.specs.Fingerprint.{fingerprint}
use Rattle.jh_edn.specs.Order.{edn_cmp}
use Rattle.jh_numbers.specs.declared.owned.OwnedValue.{OwnedValue}
use Rattle.jh_numbers.specs.declared.sought.Sought.{Sought}
use Rattle.jh_numbers.specs.Numbers.{is_same_owned}
use Rattle.jh_numbers.specs.View.{view_owned, view_sought}

pub same_equiv : IsEquivalence is_same_owned
same_equiv = and_equiv (on_equiv (λ x. x.0) nat_eq_equiv) (on_equiv (λ x. x.1) (eq_by_cmp_equiv edn_total))

pub owned_equiv : IsEquivalence {K = OwnedValue} (λ a b. is_same_owned (view_owned a) (view_owned b))
owned_equiv = on_equiv view_owned same_equiv

pub sought_equiv : IsEquivalence {K = Sought} (λ a b. is_same_owned (view_sought a) (view_sought b))
sought_equiv = on_equiv view_sought same_equiv

-- what an owner with a value writes into a hash
abbrev pub owned_input : ℕ × Edn → List (List ℕ)
owned_input one = fed.usize one.0 ++ fed.u64 (fingerprint one.1)

-- what is one writes the same
pub input_alike : (a b : ℕ × Edn) → is_same_owned a b ≡ true → owned_input a ≡ owned_input b
input_alike a b h =
    let owners = eqb-true a.0 b.0 (first_so (a.0 == b.0) (is_eq (edn_cmp a.1 b.1)) h) in
    let tied = (Equal-is (edn_cmp a.1 b.1)).0 (second_so (a.0 == b.0) (is_eq (edn_cmp a.1 b.1)) h) in
    let prints = same_fingerprint a.1 b.1 (tied_equal a.1 b.1 tied) in
    ap (λ owner. fed.usize owner ++ fed.u64 (fingerprint a.1)) owners ∙ ap (λ print. fed.usize b.0 ++ fed.u64 print) prints
