-- The judge: clusters in their order, one after another, are an order or show a reason.
use Rattle.std.proofs.Common.{◌≡◌, ℕ, zero, suc, ◌<◌, ◌≤◌, ℤ, true, eqb, Option, Some, None, List, [], ◌∷◌, length, get_or, map, refl, sym, subst, inl, inr, arith}
use Rattle.std.specs.Prelude.{◌≢◌}
use Rattle.std.specs.List.{All, flat_map}
use Rattle.std.proofs.lemmas.List.Elements.{All-cons, All-map, All-from_get_or}
use Rattle.jh_unique.specs.Keys.{HasClusterKey}
use Rattle.jh_unique.specs.Sorted.{AreKeyedNumbers}
use Rattle.std.proofs.lemmas.Bool.{or_right}
use Rattle.jh_linear.specs.declared.register.RegCall.{RegCall}
use Rattle.jh_linear.specs.declared.register.RegCall.TheVariants.{Read, Write, Cas}
use Rattle.jh_linear.specs.declared.register.RegOp.{RegOp}
use Rattle.jh_linear.specs.Order.{op_at, Precedes, EndAfterInvoked, has, StandBefore, HasNoneTwice}
use Rattle.jh_unique.specs.Unique.{NeedsValue, GivesValue, reg_call_at, WriteOnce, MustStand, HasValue}
use Rattle.jh_unique.specs.Reasons.{HasNoOrigin, ClusterComesBefore}
use Rattle.jh_unique.specs.Clusters.{ReadsNil, IsPart}
use Rattle.jh_unique.specs.Steps.{IsClusterList}
use Rattle.jh_unique.specs.LayoutInside.{AreLaidOut}
use Rattle.jh_unique.specs.Reasons.{AreTurnedRound}
use Rattle.jh_unique.proofs.ListLemmas.{has_left, before_total, before_itself, once_if, in_flat, flat_has, before_flat, flat_once, place_has}
use Rattle.jh_unique.proofs.RunLemmas.{one_value}
use Rattle.jh_unique.proofs.ClusterLemmas.{one_cluster}
use Rattle.jh_unique.proofs.PartLemmas.{possible_there, never_over, legal_later, legal_append}
use Rattle.jh_unique.proofs.WalkLemmas.{must_possible}

once_cons : (x : ℕ) (xs : List ℕ) → HasNoneTwice xs → (has xs x ≡ true → ⊥) → HasNoneTwice (x ∷ xs)
once_cons x xs once new = once_if (x ∷ xs) (λ a h. elim h as (λ _. ⊥) [
  | inl now ↦ new (subst (λ z. has xs z ≡ true) (sym now.0) now.1)
  | inr later ↦ before_itself xs a once later
])

module _ (ops : List RegOp) (initial : Option ℤ) (once : WriteOnce ops initial) (ends : EndAfterInvoked ops) (members : ℕ → List ℕ) (lists : (c : ℕ) → IsClusterList ops initial c (members c)) (rest : List ℕ) (laid : AreLaidOut ops initial members rest) where
  abbrev pub clusters : List ℕ
  clusters = 0 ∷ rest

  abbrev pub flat : List ℕ
  flat = flat_map members clusters

  no_start : has rest 0 ≡ true → ⊥
  no_start h = let lt = laid.later 0 h in absurd (omega (arith, lt))

  clusters_once : HasNoneTwice clusters
  clusters_once = once_cons 0 rest laid.distinct no_start

  one_of : (x p q : ℕ) → has (members p) x ≡ true → has (members q) x ≡ true → p ≡ q
  one_of x p q h k =
      let a = (lists p).each_of x h in
      let b = (lists q).each_of x k in
      one_cluster ops initial once p q a.0 a.2 (subst (HasValue ops initial q) (one_value (reg_call_at ops x) b.0 a.0 b.1 a.1) b.2)

  flat_distinct : HasNoneTwice flat
  flat_distinct = flat_once members clusters clusters_once (λ c. (lists c).once) one_of

  flat_must : (p : ℕ) → has flat p ≡ true → MustStand ops p
  flat_must p h = let r = in_flat members clusters p h in (lists r.0).each_there p r.2

  pub flat_low : All (λ p. p < length ops) flat
  flat_low = All-from_get_or (λ p. p < length ops) flat 0 (λ i low. possible_there ops (get_or flat i 0) (must_possible ops (get_or flat i 0) (flat_must (get_or flat i 0) (place_has flat i low))))

  -- with none late it is a part
  pub in_time : ((first second : ℕ) → StandBefore flat first second → Precedes ops second first → ⊥) → IsPart ops initial flat
  in_time none =
      let start = (lists 0).runs in
      let later = legal_later ops initial members (λ c. (lists c).runs) rest no_start start.0 in
      record {
        distinct = flat_distinct;
        possible = λ p h. must_possible ops p (flat_must p h);
        times = λ a b over here also. elim (before_total flat a b here also) as (λ _. StandBefore flat a b) [
          | inl same ↦ absurd (never_over ops ends a (op_at ops b).invoked (subst (λ z. (op_at ops z).invoked ≤ (op_at ops a).invoked) same (omega arith)) over.1)
          | inr two ↦ elim two as (λ _. StandBefore flat a b) [ inl right ↦ right | inr wrong ↦ absurd (none b a wrong over) ]
        ];
        last = later.0;
        runs = legal_append ops (members 0) (flat_map members rest) initial start.0 later.0 start.1 later.1;
      }

  -- one that is late is a reason
  pub behind : (first second : ℕ) → StandBefore flat first second → Precedes ops second first → AreTurnedRound ops initial first second
  behind first second h over =
      let d = before_flat members clusters first second h in
      let one = d.0 in
      let other = d.1 in
      let must : MustStand ops first = (lists one).each_there first d.2 in
      let back : ClusterComesBefore ops initial other one = inr (second, first, (lists other).each_of second d.3, (lists one).each_of first d.2, over, must) in
      elim d.4 as (λ _. AreTurnedRound ops initial first second) [
        | inl two ↦
            let differ : one ≢ other = λ same. before_itself clusters other clusters_once (subst (λ z. StandBefore clusters z other) same two) in
            let on : ClusterComesBefore ops initial one other = elim two as (λ _. ClusterComesBefore ops initial one other) [
              | inl now ↦ inl (sym now.0)
              | inr later ↦ laid.crossing one other first second later d.2 d.3 over
            ] in
            (over, inr (one, other, (lists one).each_of first d.2, (lists other).each_of second d.3, (differ, on, back)))
        | inr same ↦ elim ((lists one).in_turn first second same.2) as (λ _. AreTurnedRound ops initial first second) [
          | inl path ↦ (over, inl path)
          | inr low ↦ absurd (never_over ops ends second (op_at ops first).invoked low over.1)
        ]
      ]

  listed : (c p : ℕ) → has (members c) p ≡ true → has flat p ≡ true
  listed zero p h = has_left (members 0) (flat_map members rest) p h
  listed (suc w) p h = flat_has members clusters (suc w) p (or_right (eqb 0 (suc w)) _ (laid.whole (suc w) p (omega arith) h)) h

  -- what is missing comes from nowhere
  pub missing : (p : ℕ) → MustStand ops p → (has flat p ≡ true → ⊥) → (reg_call_at ops p ≡ Read None → ⊥) → (value : ℤ) × HasNoOrigin ops initial p value
  missing p must out nil = by_call (reg_call_at ops p) refl where
    by_call : (call : RegCall) → reg_call_at ops p ≡ call → (value : ℤ) × HasNoOrigin ops initial p value
    by_call (Read None) is = absurd (nil is)
    by_call (Read (Some v)) is = (v, (must, subst (λ c. NeedsValue c v) (sym is) refl, (λ c inside. out (listed c p ((lists c).whole p v inside must (subst (λ k. GivesValue k v) (sym is) refl))))))
    by_call (Write v) is = absurd (out (listed (suc p) p ((lists (suc p)).whole p v ([], (must_possible ops p must, is)) must (subst (λ k. GivesValue k v) (sym is) refl))))
    by_call (Cas old new) is = (
      old,
      (
        must,
        subst (λ c. NeedsValue c old) (sym is) refl,
        (λ c inside.
            out (listed c p ((lists c).whole p new (p ∷ inside.0, (old, must_possible ops p must, is, inside.1)) must (subst (λ k. GivesValue k new) (sym is) refl)))),
      ),
    )

  pub no_nil : (p : ℕ) → has flat p ≡ true → ReadsNil ops p → ⊥
  no_nil p h nil = let r = in_flat members clusters p h in let of = (lists r.0).each_of p r.2 in subst (λ c. GivesValue c of.0) nil of.1

pub clusters_low : (ops : List RegOp) (members : ℕ → List ℕ) (bound : ℕ) → 0 < bound → (entries : List (ℕ × ℕ)) → AreKeyedNumbers (HasClusterKey ops members) 1 bound entries → All (λ c. c < bound) (0 ∷ map (λ x. x.1) entries)
clusters_low ops members bound pos entries are = All-cons (λ c. c < bound) 0 (map (λ x. x.1) entries) pos (All-map (λ c. c < bound) (λ x. x.1) entries (λ k d lt. (are.each k d lt).1))
