-- The steps of a walk.
use Rattle.std.proofs.Common.{◌≡◌, ℕ, zero, suc, ◌<◌, ◌≤◌, ℤ, true, eqb, Option, Some, None, List, [], ◌∷◌, ◌++◌, length, refl, sym, ap, subst, ◌∙◌, inl, inr, arith, eq-eqb}
use Rattle.std.specs.Prelude.{◌⊎◌, ◌||◌}
use Rattle.std.specs.Set.{is_member}
use Rattle.std.proofs.lemmas.Bool.{false≢true, eqb-true, cases_eq, cases_Bool, or_right}
use Rattle.std.proofs.lemmas.List.{length-append}
use Rattle.std.proofs.lemmas.Cmp.{nat_eq_equiv}
use Rattle.std.proofs.lemmas.Map.Made.{length-le_from_is_member}
use Rattle.jh_linear.specs.declared.register.RegCall.{RegCall}
use Rattle.jh_linear.specs.declared.register.RegCall.TheVariants.{Write, Cas}
use Rattle.jh_linear.specs.declared.register.RegOp.{RegOp}
use Rattle.jh_linear.specs.Order.{IsPossible, has, HasNoneTwice, Allows}
use Rattle.jh_unique.specs.Unique.{NeedsValue, GivesValue, reg_call_at, WritesAt, WriteOnce, MustStand, ClusterBegins, IsChainTo, IsOfCluster}
use Rattle.jh_unique.specs.Reasons.{HandsOnBy}
use Rattle.jh_unique.specs.Clusters.{AreInStep, IsRunOf}
use Rattle.jh_unique.specs.Walk.{RunsTo, IsReachedValue, HasComeTo, HasReads, IsWalked}
use Rattle.jh_unique.specs.Steps.{IsClusterList}
use Rattle.jh_unique.proofs.ListLemmas.{none_twice, has_cases, has_head, one_is, once_push}
use Rattle.jh_unique.proofs.RunLemmas.{some_same}
use Rattle.jh_unique.proofs.PartLemmas.{possible_there}
use Rattle.jh_unique.proofs.WalkLemmas.{must_possible, must_writer, read_or_write}
use Rattle.jh_unique.proofs.ClusterLemmas.{write_writes, cas_writes, cas_needs}

-- Numbers below a bound that stand apart are no more than it.
pub flips : (x y : ℕ) → eqb x y ≡ eqb y x
flips x y = elim (cases_eq x y) as (λ _. eqb x y ≡ eqb y x) [
  | inl same ↦ eq-eqb x y same ∙ sym (eq-eqb y x (sym same))
  | inr differ ↦ elim (cases_Bool (eqb x y)) as (λ _. eqb x y ≡ eqb y x) [
    | inl e ↦ absurd (differ (eqb-true x y e))
    | inr e ↦ elim (cases_Bool (eqb y x)) as (λ _. eqb x y ≡ eqb y x) [ inl d ↦ absurd (differ (sym (eqb-true y x d))) | inr d ↦ e ∙ sym d ]
  ]
]

member_is : (xs : List ℕ) (q : ℕ) → is_member eqb xs q ≡ has xs q
member_is [] q = refl
member_is (x ∷ xs) q = ap (λ b. b || is_member eqb xs q) (flips q x) ∙ ap (λ b. eqb x q || b) (member_is xs q)

abbrev below : ℕ → List ℕ
below zero = []
below (suc n) = n ∷ below n

has_below : (n p : ℕ) → p < n → has (below n) p ≡ true
has_below zero p low = absurd (omega (arith, low))
has_below (suc n) p low = elim (cases_eq n p) as (λ _. has (n ∷ below n) p ≡ true) [
  | inl same ↦ subst (λ z. has (n ∷ below n) z ≡ true) same (has_head n (below n))
  | inr differ ↦ or_right (eqb n p) _ (has_below n p (omega (arith, low, differ)))
]

length_below : (n : ℕ) → length (below n) ≤ n
length_below zero = omega arith
length_below (suc n) = let h = length_below n in omega (arith, h)

pub few : (n : ℕ) (xs : List ℕ) → HasNoneTwice xs → ((p : ℕ) → has xs p ≡ true → p < n) → length xs ≤ n
few n xs once low =
    let all = length-le_from_is_member nat_eq_equiv xs (below n) once (λ q h. member_is (below n) q ∙ has_below n q (low q (sym (member_is xs q) ∙ h))) in
    let short = length_below n in
    omega (arith, all, short)

module _ (ops : List RegOp) (initial : Option ℤ) (once : WriteOnce ops initial) (cluster : ℕ) where
  pub room : (value : ℤ) (numbers : List ℕ) (q : ℕ) (new : ℤ) → HasReads ops initial cluster value numbers → MustStand ops q → reg_call_at ops q ≡ Cas value new → length numbers < length ops
  room value numbers q new have must cas =
      let all = few (length ops) (numbers ++ q ∷ []) (once_push numbers q have.walk.once (λ h. have.fresh q h (new, cas)))
      (λ p h. possible_there ops p (must_possible ops p (elim (has_cases numbers (q ∷ []) p h) as (λ _. MustStand ops p) [ inl old ↦ have.walk.each_there p old | inr here ↦ subst (MustStand ops) (one_is q p here) must ]))) in
      let long = length-append numbers (q ∷ []) in
      omega (arith, all, long)

  run_of : (c : ℕ) (xs : List ℕ) (value : ℤ) → RunsTo ops initial c xs value → IsRunOf ops initial c xs
  run_of zero xs value runs = (Some value, runs)
  run_of (suc w) xs value runs = λ held. (Some value, runs held)

  pub list_of_walked : (numbers : List ℕ) → IsWalked ops initial cluster numbers → IsClusterList ops initial cluster numbers
  list_of_walked numbers walked = record {
    once = walked.walk.once;
    each_of = walked.walk.each_of;
    each_there = walked.walk.each_there;
    runs = run_of cluster numbers walked.value walked.walk.runs;
    in_turn = walked.walk.in_turn;
    whole = walked.whole;
  }

  -- a cluster has a beginning that must be there, where one of its operations must
  pub root : (ps : List ℕ) (v : ℤ) → IsChainTo ops initial cluster ps v → (p : ℕ) → MustStand ops p → GivesValue (reg_call_at ops p) v ⊎ NeedsValue (reg_call_at ops p) v
      → (u : ℤ) × ClusterBegins ops initial cluster u × ((w : ℕ) → cluster ≡ suc w → MustStand ops w)
  root [] v comes p must touches = (v, comes, (λ w is. begun w (subst (λ c. ClusterBegins ops initial c v) is comes))) where
    begun : (w : ℕ) → IsPossible ops w × (reg_call_at ops w ≡ Write v) → MustStand ops w
    begun w h =
        let writes = write_writes ops initial once w v h.0 h.1 in
        elim touches as (λ _. MustStand ops w) [
          | inl leaves ↦ elim (read_or_write (reg_call_at ops p) v leaves) as (λ _. MustStand ops w) [
            | inl read ↦ must_writer ops w p v writes (subst (λ c. NeedsValue c v) (sym read) refl) must
            | inr wrote ↦ subst (MustStand ops) (once.apart v p w (must_possible ops p must, wrote) writes) must
          ]
          | inr needs ↦ must_writer ops w p v writes needs must
        ]
  root (x ∷ ps) v comes p must touches =
      let writes : WritesAt ops x v = cas_writes ops initial once x comes.0 v comes.1 comes.2 in
      let also : MustStand ops x = elim touches as (λ _. MustStand ops x) [
        | inl leaves ↦ elim (read_or_write (reg_call_at ops p) v leaves) as (λ _. MustStand ops x) [
          | inl read ↦ must_writer ops x p v writes (subst (λ c. NeedsValue c v) (sym read) refl) must
          | inr wrote ↦ subst (MustStand ops) (once.apart v p x (must_possible ops p must, wrote) writes) must
        ]
        | inr needs ↦ must_writer ops x p v writes needs must
      ] in
      root ps comes.0 comes.3 x also (inr (cas_needs ops initial once x comes.0 v comes.2))

  -- where a cluster does not begin with what must be there, nothing of it must
  pub no_list : ((u : ℤ) → ClusterBegins ops initial cluster u → ((w : ℕ) → cluster ≡ suc w → MustStand ops w) → ⊥) → IsRunOf ops initial cluster [] → IsClusterList ops initial cluster []
  no_list none runs = record {
    once = none_twice;
    each_of = λ p h. absurd (false≢true h);
    each_there = λ p h. absurd (false≢true h);
    runs = runs;
    in_turn = λ p q h. absurd h;
    whole = λ p v inside must leaves. let r = root inside.0 v inside.1 p must (inl leaves) in absurd (none r.0 r.1 r.2);
  }

-- The beginnings.
write_same : (u v : ℤ) → ◌≡◌ {A = RegCall} (Write u) (Write v) → u ≡ v
write_same u v h = cc

module _ (ops : List RegOp) (initial : Option ℤ) (once : WriteOnce ops initial) where
  pub come_start : (v : ℤ) → initial ≡ Some v → HasComeTo ops initial 0 v []
  come_start v is =
      let here : (u : ℤ) → IsReachedValue ops initial 0 [] u → u ≡ v = λ u h. elim h as (λ _. u ≡ v) [ inl begun ↦ some_same u v (sym begun ∙ is) | inr by ↦ absurd (false≢true by.2) ] in
      record {
        walk = record {
          once = none_twice;
          has_value = ([], is);
          each_of = λ p h. absurd (false≢true h);
          each_there = λ p h. absurd (false≢true h);
          begins = λ w e. absurd (omega (arith, e));
          runs = sym is;
          in_turn = λ p q h. absurd h;
          went_on = λ p old h must cas. inr (here old h);
        };
        fresh = λ p h needs. absurd (false≢true h);
        leads = λ p q h must needs. absurd (false≢true h);
        whole = λ p u h must leaves. inr (here u h);
      }

  pub none_start : initial ≡ None → IsClusterList ops initial 0 []
  none_start none = no_list ops initial once 0 (λ u begun must. let bad : ◌≡◌ {A = Option ℤ} None (Some u) = sym none ∙ begun in cc) (initial, refl)

  pub come_write : (w : ℕ) (v : ℤ) → MustStand ops w → reg_call_at ops w ≡ Write v → HasComeTo ops initial (suc w) v (w ∷ [])
  come_write w v must is =
      let possible = must_possible ops w must in
      let writes = write_writes ops initial once w v possible is in
      let same : (u : ℤ) → ClusterBegins ops initial (suc w) u → u ≡ v = λ u h. write_same u v (sym h.1 ∙ is) in
      let none : (p : ℕ) (u : ℤ) → has (w ∷ []) p ≡ true → NeedsValue (reg_call_at ops p) u → ⊥ = λ p u h needs. let mine : NeedsValue (reg_call_at ops w) u = subst (λ z. NeedsValue (reg_call_at ops z) u) (sym (one_is w p h)) needs in subst (λ c. NeedsValue c u) is mine in
      let here : (u : ℤ) → IsReachedValue ops initial (suc w) (w ∷ []) u → u ≡ v = λ u h. elim h as (λ _. u ≡ v) [ inl begun ↦ same u begun | inr by ↦ absurd (none by.0 by.1 by.2 (cas_needs ops initial once by.0 by.1 u by.3)) ] in
      record {
        walk = record {
          once = once_push [] w none_twice (λ h. false≢true h);
          has_value = ([], (possible, is));
          each_of = λ p h. subst (IsOfCluster ops initial (suc w)) (one_is w p h) (v, subst (λ c. GivesValue c v) (sym is) refl, ([], (possible, is)));
          each_there = λ p h. subst (MustStand ops) (one_is w p h) must;
          begins = λ b e. let at : w ≡ b = omega (arith, e) in subst (λ z. has (w ∷ []) z ≡ true) at (has_head w []);
          runs = λ held. (Some v, subst (λ c. Allows c held (Some v)) (sym is) refl, refl);
          in_turn = λ p q h. elim h as (λ _. AreInStep ops p q) [ inl now ↦ absurd (false≢true now.1) | inr later ↦ absurd later ];
          went_on = λ p old h also cas. inr (here old h);
        };
        fresh = λ p h needs. none p v h needs;
        leads = λ p q h also needs. subst (λ z. (between : List ℕ) × HandsOnBy ops z between q) (one_is w p h) ([], (must, also, inl (v, writes, needs)));
        whole = λ p u h also leaves. inr (here u h);
      }

  pub none_write : (w : ℕ) → ((v : ℤ) → MustStand ops w → reg_call_at ops w ≡ Write v → ⊥) → IsClusterList ops initial (suc w) []
  none_write w none = no_list ops initial once (suc w) (λ u begun must. none u (must w refl) begun.1) (λ held. (held, refl))
