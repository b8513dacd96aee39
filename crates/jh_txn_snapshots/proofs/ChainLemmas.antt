-- From writer to writer along a list that a read saw, where neighbours are in turn.
use Rattle.std.proofs.Common.{◌≡◌, ℕ, true, List, [], ◌∷◌, ◌++◌, refl, sym, ap, subst, ◌∙◌, inl, inr}
use Rattle.std.specs.Prelude.{◌⊎◌, ◌≢◌}
use Rattle.std.proofs.lemmas.Bool.{cases_eq}
use Rattle.jh_txn.specs.declared.anomaly.BadRead.TheVariants.{GarbageRead}
use Rattle.jh_txn.specs.declared.txn.Point.{Point}
use Rattle.jh_txn.specs.declared.txn.Point.TheVariants.{Commit, Start}
use Rattle.jh_txn.specs.declared.txn.Txn.{Txn}
use Rattle.jh_txn.specs.BadReads.{HasNoBadRead}
use Rattle.jh_txn.specs.Dependencies.{MustBeThere}
use Rattle.jh_txn.specs.SnapshotOrders.{IsEarlier}
use Rattle.jh_txn.specs.Transactions.{AppendOnce, Appends, ComesBefore, Saw, includes}
use Rattle.jh_txn.proofs.ExplainedLemmas.{writer_cases}
use Rattle.jh_txn.proofs.ListLemmas.{includes_cons, includes_middle, includes_right, middle_shift, one_is}
use Rattle.jh_txn.proofs.SnapshotOrderLemmas.{points_trans}
use Rattle.jh_txn_snapshots.specs.KeptPoints.{ArePointsOfAll}

-- whoever appended what some read shows
pub writer_of : (txns : List Txn) → HasNoBadRead txns → (place m key element : ℕ) (seen : List ℕ) → Saw txns place m key seen → includes seen element ≡ true → (writer : ℕ) × Appends txns key element writer
writer_of txns good place m key element seen saw shown = elim (writer_cases txns key element) as (λ _. (writer : ℕ) × Appends txns key element writer) [
  | inl w ↦ w
  | inr nobody ↦ absurd (good place m GarbageRead (key, seen, saw, (element, shown, nobody)))
]

-- the same one, or over before the other one starts
abbrev pub UpTo : List Point → ℕ → ℕ → Type 0
UpTo points p q = (p ≡ q) ⊎ IsEarlier points (Commit p) (Start q)

pub strict : (points : List Point) (p q : ℕ) → UpTo points p q → p ≢ q → IsEarlier points (Commit p) (Start q)
strict points p q h differ = elim h as (λ _. IsEarlier points (Commit p) (Start q)) [ inl same ↦ absurd (differ same) | inr before ↦ before ]

module _ (txns : List Txn) (points : List Point) (all : ArePointsOfAll txns points) where
  pub then' : (a b c : Point) → IsEarlier points a b → IsEarlier points b c → IsEarlier points a c
  then' a b c = points_trans points a b c all.distinct

  pub opens : (p : ℕ) → MustBeThere txns p → IsEarlier points (Start p) (Commit p)
  opens p must = all.paired p (inl ((all.there p).1 must))

  -- from a commit, by one that must be there
  pub upto_then : (p q : ℕ) (x : Point) → MustBeThere txns q → UpTo points p q → IsEarlier points (Commit q) x → IsEarlier points (Commit p) x
  upto_then p q x must h k = elim h as (λ _. IsEarlier points (Commit p) x) [
    | inl same ↦ subst (λ z. IsEarlier points (Commit z) x) (sym same) k
    | inr before ↦ then' (Commit p) (Start q) x before (then' (Start q) (Commit q) x (opens q must) k)
  ]

  -- to a commit, and to a start
  pub then_commit : (x : Point) (p q : ℕ) → MustBeThere txns q → IsEarlier points x (Commit p) → UpTo points p q → IsEarlier points x (Commit q)
  then_commit x p q must h k = elim k as (λ _. IsEarlier points x (Commit q)) [
    | inl same ↦ subst (λ z. IsEarlier points x (Commit z)) same h
    | inr before ↦ then' x (Start q) (Commit q) (then' x (Commit p) (Start q) h before) (opens q must)
  ]

  pub then_start : (x : Point) (p q : ℕ) → MustBeThere txns p → IsEarlier points x (Start p) → UpTo points p q → IsEarlier points x (Start q)
  then_start x p q must h k = elim k as (λ _. IsEarlier points x (Start q)) [
    | inl same ↦ subst (λ z. IsEarlier points x (Start z)) same h
    | inr before ↦ then' x (Start p) (Start q) h (then' (Start p) (Commit p) (Start q) (opens p must) before)
  ]

  pub then : (p q r : ℕ) → MustBeThere txns q → UpTo points p q → UpTo points q r → UpTo points p r
  then p q r must h k = elim h as (λ _. UpTo points p r) [
    | inl same ↦ subst (λ z. UpTo points z r) (sym same) k
    | inr before ↦ inr (then_start (Commit p) q r must before k)
  ]

  module _ (once : AppendOnce txns) (good : HasNoBadRead txns) (key reader n : ℕ) (xs : List ℕ) (saw : Saw txns reader n key xs)
      (next : (front back : List ℕ) (one other first second : ℕ) → xs ≡ front ++ one ∷ other ∷ back → Appends txns key one first → Appends txns key other second → first ≢ second → IsEarlier points (Commit first) (Start second)) where
    -- from one element to a later one
    pub chain : (front back : List ℕ) (one other first second : ℕ) → xs ≡ front ++ one ∷ back → includes (one ∷ back) other ≡ true → Appends txns key one first → Appends txns key other second → UpTo points first second
    chain front [] one other first second is h appends others =
        inl (once.apart key one first second appends (subst (λ e. Appends txns key e second) (sym (one_is one other h)) others))
    chain front (more ∷ back) one other first second is h appends others = elim (includes_cons one (more ∷ back) other h) as (λ _. UpTo points first second) [
      | inl same ↦ inl (once.apart key one first second appends (subst (λ e. Appends txns key e second) (sym same) others))
      | inr later ↦
          let shown : includes xs more ≡ true = subst (λ ys. includes ys more ≡ true) (sym (is ∙ middle_shift front (more ∷ back) one)) (includes_middle (front ++ one ∷ []) back more) in
          let w = writer_of txns good reader n key more xs saw shown in
          let must : MustBeThere txns w.0 = inr (key, more, reader, w.1, (n, xs, saw, shown)) in
          let step : UpTo points first w.0 = elim (cases_eq first w.0) as (λ _. UpTo points first w.0) [
            | inl same ↦ inl same
            | inr differ ↦ inr (next front back one more first w.0 is appends w.1 differ)
          ] in
          then first w.0 second must step (chain (front ++ one ∷ []) back more other w.0 second (is ∙ middle_shift front (more ∷ back) one) later w.1 others)
    ]

    -- where one stands before the other
    pub along : (one other first second : ℕ) → ComesBefore xs one other → Appends txns key one first → Appends txns key other second → UpTo points first second
    along one other first second h appends others = from [] xs refl h where
      from : (front ys : List ℕ) → xs ≡ front ++ ys → ComesBefore ys one other → UpTo points first second
      from front [] is k = absurd k
      from front (y ∷ ys) is k = elim k as (λ _. UpTo points first second) [
        | inl now ↦ chain front ys one other first second (is ∙ ap (λ z. front ++ z ∷ ys) now.0) (includes_right (one ∷ []) ys other now.1) appends others
        | inr later ↦ from (front ++ y ∷ []) ys (is ∙ middle_shift front ys y) later
      ]
