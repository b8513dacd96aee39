-- Reads of the maps that a seat knows.
use Rattle.std.proofs.Common.{◌≡◌, ◌≢◌, ◌⊎◌, ℕ, List, [], ◌∷◌, ◌++◌, true, false, cond, Some, None, refl, sym, ap, ◌∙◌, inl, inr, eq-eqb}
use Rattle.std.specs.Prelude.{Option}
use Rattle.std.specs.FinMap as map
use Rattle.std.specs.Ordering.{nat_cmp, eq_by_cmp}
use Rattle.std.specs.Cmp.{nat_cmp_total, unsigned_tied}
use Rattle.std.proofs.Common.{◌*◌, replicate, set}
use Rattle.std.specs.Option.{unwrap_or}
use Rattle.jh_slots.specs.Seats.{gathered_map, Claim, Knowledge, HoldsClaim, knowledge_after_claim, knowledge_after_write, written_claim, claim_at, no_claim}
use mathlib.Core.Logic.{dite}
use native.Mathlib.Decide.{ℕ_discrete}
use Rattle.std.proofs.Common.{ne_eqb}

abbrev Map : Type 0 → Type 0
Map X = map.FinMap nat_cmp X

tied : (q k : ℕ) → q ≡ k → eq_by_cmp nat_cmp q k ≡ true
tied q k e = unsigned_tied q k ∙ eq-eqb q k e

loose : (q k : ℕ) → q ≢ k → eq_by_cmp nat_cmp q k ≡ false
loose q k e = unsigned_tied q k ∙ ne_eqb q k e

module _ {X : Type 0} where
  pub get_new : (m : Map X) (k : ℕ) (x : X) → map.get (map.insert m k x) k ≡ Some x
  get_new m k x = map.get-insert nat_cmp_total m k x k ∙ ap (λ b. cond b (Some x) (map.get m k)) (tied k k refl)

  pub get_else : (m : Map X) (k q : ℕ) (x : X) → q ≢ k → map.get (map.insert m k x) q ≡ map.get m q
  get_else m k q x ne = map.get-insert nat_cmp_total m k x q ∙ ap (λ b. cond b (Some x) (map.get m q)) (loose q k ne)

  pub gone : (m : Map X) (k : ℕ) → map.get (map.remove m k) k ≡ None
  gone m k = map.get-remove nat_cmp_total m k k ∙ ap (λ b. cond b None (map.get m k)) (tied k k refl)

  pub left : (m : Map X) (k q : ℕ) → q ≢ k → map.get (map.remove m k) q ≡ map.get m q
  left m k q ne = map.get-remove nat_cmp_total m k q ∙ ap (λ b. cond b None (map.get m q)) (loose q k ne)

  -- an entry after an `insert`, and after a `remove`
  pub inserted : (m : Map X) (k q : ℕ) (x y : X) → map.get (map.insert m k x) q ≡ Some y → ((q ≡ k) × (x ≡ y)) ⊎ ((q ≢ k) × (map.get m q ≡ Some y))
  inserted m k q x y e =
      dite (ℕ_discrete q k)
      (λ is. let h : Some x ≡ Some y = sym (get_new m k x) ∙ (ap (map.get (map.insert m k x)) (sym is) ∙ e) in let same : x ≡ y = cc in inl (is, same))
      (λ ne. inr (ne, sym (get_else m k q x ne) ∙ e))

  pub removed : (m : Map X) (k q : ℕ) (y : X) → map.get (map.remove m k) q ≡ Some y → (q ≢ k) × (map.get m q ≡ Some y)
  removed m k q y e =
      dite (ℕ_discrete q k)
      (λ is. let h : None ≡ Some y = sym (gone m k) ∙ (ap (map.get (map.remove m k)) (sym is) ∙ e) in absurd (cc))
      (λ ne. (ne, sym (left m k q ne) ∙ e))

  -- to insert what is there changes nothing
  pub insert_same : (m : Map X) (k : ℕ) (x : X) → map.get m k ≡ Some x → map.insert m k x ≡ m
  insert_same m k x e =
      map.same_map nat_cmp_total map.nat_cmp-IsAntisymmetric (map.insert m k x) m
      (λ q. dite (ℕ_discrete q k) (λ is. ap (map.get (map.insert m k x)) is ∙ (get_new m k x ∙ (sym e ∙ ap (map.get m) (sym is)))) (λ ne. get_else m k q x ne))

abbrev pub either_of : {X : Type 0} → Option X → Option X → Option X
either_of (Some x) o = Some x
either_of None o = o

module _ {X : Type 0} where
  find_both : (q : ℕ) (xs ys : List (ℕ × X)) → map.find nat_cmp q (xs ++ ys) ≡ either_of (map.find nat_cmp q xs) (map.find nat_cmp q ys)
  find_both q [] ys = refl
  find_both q (e ∷ xs) ys =
      ap (cond (eq_by_cmp nat_cmp q e.0) (Some e.1)) (find_both q xs ys)
      ∙ elim (eq_by_cmp nat_cmp q e.0) as (λ b. cond b (Some e.1) (either_of (map.find nat_cmp q xs) (map.find nat_cmp q ys)) ≡ either_of (cond b (Some e.1) (map.find nat_cmp q xs)) (map.find nat_cmp q ys)) [ true ↦ refl | false ↦ refl ]

  pub get_gather : (a b : Map X) (q : ℕ) → map.get (gathered_map a b) q ≡ either_of (map.get a q) (map.get b q)
  get_gather a b q = map.get-from_entries nat_cmp_total (map.entries a ++ map.entries b) q ∙ (find_both q (map.entries a) (map.entries b) ∙ λ i. either_of (sym (map.get-entries a q) i) (sym (map.get-entries b q) i))

  from_either : (o p : Option X) (x : X) → either_of o p ≡ Some x → (o ≡ Some x) ⊎ (p ≡ Some x)
  from_either (Some y) p x e = inl e
  from_either None p x e = inr e

  -- what is in the gathered map was in one of the two
  pub of_gather : (a b : Map X) (q : ℕ) (x : X) → map.get (gathered_map a b) q ≡ Some x → (map.get a q ≡ Some x) ⊎ (map.get b q ≡ Some x)
  of_gather a b q x e = from_either (map.get a q) (map.get b q) x (sym (get_gather a b q) ∙ e)

pub nothing_at : {X : Type 0} (q : ℕ) (x : X) → map.get (map.empty {X = X} {R = nat_cmp}) q ≡ Some x → ⊥
nothing_at {X} q x e = let n : map.get (map.empty {X = X} {R = nat_cmp}) q ≡ None = map.get-empty nat_cmp q in let h : None ≡ Some x = sym n ∙ e in absurd (cc)

-- a claim is held once it is taken, and stays held when it is written
pub holds_took : (v w : Knowledge) (f rows : ℕ) → w ≡ knowledge_after_claim f rows v → HoldsClaim w f rows
holds_took v w f rows e = (replicate (5 * rows) 0, ap (λ (x : Knowledge). map.get x.claims f) e ∙ get_new v.claims f (record { rows = rows; words = replicate (5 * rows) 0 }))

pub holds_wrote : (v w : Knowledge) (f rows p x : ℕ) → w ≡ knowledge_after_write f p x v → HoldsClaim v f rows → HoldsClaim w f rows
holds_wrote v w f rows p x e (ws, is) =
    let c : Claim = record { rows = rows; words = ws } in
    let at : claim_at v f ≡ c = ap (λ o. unwrap_or o no_claim) is in
    (set ws p x, ap (λ (y : Knowledge). map.get y.claims f) e ∙ (get_new v.claims f (written_claim (claim_at v f) p x) ∙ ap (λ (y : Claim). Some (written_claim y p x)) at))
