-- What stands side by side in a list.
use Rattle.std.proofs.Common.{◌≡◌, ℕ, true, List, [], ◌∷◌, ◌++◌, refl, sym, ap, subst, ◌∙◌, inl, inr}
use Rattle.std.proofs.lemmas.Bool.{false≢true}
use Rattle.jh_txn.specs.Transactions.{ComesBefore, HasNoRepeat, includes}
use Rattle.jh_txn.proofs.KeepingLemmas.{stands_in_front}
use Rattle.jh_txn.proofs.ListLemmas.{before_across, before_cases, before_first, before_itself, before_push, before_right, before_second, before_total, before_trans, head_once, includes_cases, includes_cons, includes_head, middle_shift, not_in_front, one_is, split_at}
use Rattle.jh_txn_writers.specs.Writers.{AreNeighbours, BeginsWith, EndsWith}

pub neighbours_before : (xs : List ℕ) (a b : ℕ) → AreNeighbours xs a b → ComesBefore xs a b
neighbours_before xs a b h = subst (λ ys. ComesBefore ys a b) (sym h.2) (before_right h.0 (a ∷ b ∷ h.1) a b (inl (refl, includes_head b h.1)))

-- what comes behind an element that stands there once
pub behind : (front back : List ℕ) (a b : ℕ) → HasNoRepeat (front ++ a ∷ back) → ComesBefore (front ++ a ∷ back) a b → includes back b ≡ true
behind front back a b once h = elim (before_cases front (a ∷ back) a b h) as (λ _. includes back b ≡ true) [
  | inl inside ↦ absurd (not_in_front front back a once (before_first front a b inside))
  | inr more ↦ elim more as (λ _. includes back b ≡ true) [
    | inl across ↦ absurd (not_in_front front back a once across.0)
    | inr rest ↦ elim rest as (λ _. includes back b ≡ true) [ inl now ↦ now.1 | inr later ↦ before_second back a b later ]
  ]
]

module _ (xs : List ℕ) (once : HasNoRepeat xs) where
  nothing_between : (a b z : ℕ) → AreNeighbours xs a b → ComesBefore xs a z → ComesBefore xs z b → ⊥
  nothing_between a b z h after before =
      let cut : xs ≡ (h.0 ++ a ∷ []) ++ b ∷ h.1 = h.2 ∙ middle_shift h.0 (b ∷ h.1) a in
      let in_front : includes (h.0 ++ a ∷ []) z ≡ true = stands_in_front (h.0 ++ a ∷ []) h.1 b z (subst HasNoRepeat cut once) (subst (λ ys. ComesBefore ys z b) cut before) in
      elim (includes_cases h.0 (a ∷ []) z in_front) as (λ _. ⊥) [
        | inl front ↦ before_itself xs a once (before_trans xs a z a once after (subst (λ ys. ComesBefore ys z a) (sym h.2) (before_across h.0 (a ∷ b ∷ h.1) z a front (includes_head a (b ∷ h.1)))))
        | inr own ↦ before_itself xs a once (subst (λ y. ComesBefore xs a y) (sym (one_is a z own)) after)
      ]

  pub same_previous : (a c b : ℕ) → AreNeighbours xs a b → AreNeighbours xs c b → a ≡ c
  same_previous a c b h k =
      let ab = neighbours_before xs a b h in
      let cb = neighbours_before xs c b k in
      elim (before_total xs a c (before_first xs a b ab) (before_first xs c b cb)) as (λ _. a ≡ c) [
        | inl e ↦ e
        | inr more ↦ elim more as (λ _. a ≡ c) [ inl ac ↦ absurd (nothing_between a b c h ac cb) | inr ca ↦ absurd (nothing_between c b a k ca ab) ]
      ]

  pub same_next : (a b c : ℕ) → AreNeighbours xs a b → AreNeighbours xs a c → b ≡ c
  same_next a b c h k =
      let ab = neighbours_before xs a b h in
      let ac = neighbours_before xs a c k in
      elim (before_total xs b c (before_second xs a b ab) (before_second xs a c ac)) as (λ _. b ≡ c) [
        | inl e ↦ e
        | inr more ↦ elim more as (λ _. b ≡ c) [ inl bc ↦ absurd (nothing_between a c b k ab bc) | inr cb ↦ absurd (nothing_between a b c h ac cb) ]
      ]

  -- nothing is just before the first one, and nothing just behind the last one
  pub none_before_first : (x y : ℕ) → BeginsWith xs x → AreNeighbours xs y x → ⊥
  none_before_first x y h k =
      let here : ComesBefore (x ∷ h.0) y x = subst (λ ys. ComesBefore ys y x) h.1 (neighbours_before xs y x k) in
      let again : includes h.0 x ≡ true = elim here as (λ _. includes h.0 x ≡ true) [ inl now ↦ now.1 | inr later ↦ before_second h.0 y x later ] in
      head_once x h.0 (subst HasNoRepeat h.1 once) again

  pub none_behind_last : (x y : ℕ) → EndsWith xs x → AreNeighbours xs x y → ⊥
  none_behind_last x y h k =
      let again : includes h.0 x ≡ true = elim (before_push h.0 x x y (subst (λ ys. ComesBefore ys x y) h.1 (neighbours_before xs x y k))) as (λ _. includes h.0 x ≡ true) [
        | inl inside ↦ before_first h.0 x y inside
        | inr last ↦ last.0
      ] in
      not_in_front h.0 [] x (subst HasNoRepeat h.1 once) again

-- what comes behind an element, at a cut
split_before : (xs : List ℕ) (a b : ℕ) → ComesBefore xs a b → (front back : List ℕ) × (xs ≡ front ++ a ∷ back) × (includes back b ≡ true)
split_before [] a b h = absurd h
split_before (x ∷ xs) a b h = elim h as (λ _. (front back : List ℕ) × (x ∷ xs ≡ front ++ a ∷ back) × (includes back b ≡ true)) [
  | inl now ↦ ([], xs, ap (λ y. y ∷ xs) now.0, now.1)
  | inr later ↦ let r = split_before xs a b later in (x ∷ r.0, r.1, ap (λ ys. x ∷ ys) r.2, r.3)
]

-- Of a list, of which another one has each neighbour of what it has, in turn.
module _ (xs base : List ℕ) (once : HasNoRepeat base)
    (next : (a b : ℕ) → AreNeighbours xs a b → includes base a ≡ true → includes base b ≡ true)
    (previous : (a b : ℕ) → AreNeighbours xs a b → includes base b ≡ true → includes base a ≡ true)
    (turn : (a b : ℕ) → AreNeighbours xs a b → includes base a ≡ true → ComesBefore base a b) where
  forward : (front : List ℕ) (a : ℕ) (rest : List ℕ) → xs ≡ front ++ a ∷ rest → includes base a ≡ true → (z : ℕ) → includes rest z ≡ true → ComesBefore base a z
  forward front a [] is there z h = absurd (false≢true h)
  forward front a (r ∷ rest) is there z h =
      let pair : AreNeighbours xs a r = (front, rest, is) in
      let step : ComesBefore base a r = turn a r pair there in
      elim (includes_cons r rest z h) as (λ _. ComesBefore base a z) [
        | inl e ↦ subst (λ y. ComesBefore base a y) e step
        | inr later ↦ before_trans base a r z once step (forward (front ++ a ∷ []) r rest (is ∙ middle_shift front (r ∷ rest) a) (next a r pair there) z later)
      ]

  first : (front : List ℕ) (m : ℕ) (mid : List ℕ) (a : ℕ) (rest : List ℕ) → xs ≡ front ++ m ∷ (mid ++ a ∷ rest) → includes base a ≡ true → ((z : ℕ) → includes mid z ≡ true → includes base z ≡ true) → includes base m ≡ true
  first front m [] a rest is there all = previous m a (front, rest, is) there
  first front m (n ∷ mid) a rest is there all = previous m n (front, mid ++ a ∷ rest, is) (all n (includes_head n mid))

  backward : (mid front : List ℕ) (a : ℕ) (rest : List ℕ) → xs ≡ front ++ (mid ++ a ∷ rest) → includes base a ≡ true → (z : ℕ) → includes mid z ≡ true → includes base z ≡ true
  backward [] front a rest is there z h = absurd (false≢true h)
  backward (m ∷ mid) front a rest is there z h =
      let all : (y : ℕ) → includes mid y ≡ true → includes base y ≡ true = backward mid (front ++ m ∷ []) a rest (is ∙ middle_shift front (mid ++ a ∷ rest) m) there in
      elim (includes_cons m mid z h) as (λ _. includes base z ≡ true) [
        | inl e ↦ subst (λ y. includes base y ≡ true) e (first front m mid a rest is there all)
        | inr later ↦ all z later
      ]

  pub all_there : (a z : ℕ) → includes xs a ≡ true → includes base a ≡ true → includes xs z ≡ true → includes base z ≡ true
  all_there a z h there k =
      let r = split_at xs a h in
      elim (includes_cases r.0 (a ∷ r.1) z (subst (λ ys. includes ys z ≡ true) r.2 k)) as (λ _. includes base z ≡ true) [
        | inl front ↦ backward r.0 [] a r.1 r.2 there z front
        | inr rest ↦ elim (includes_cons a r.1 z rest) as (λ _. includes base z ≡ true) [
          | inl e ↦ subst (λ y. includes base y ≡ true) e there
          | inr later ↦ before_second base a z (forward r.0 a r.1 r.2 there z later)
        ]
      ]

  pub all_in_turn : (a z : ℕ) → ComesBefore xs a z → includes base a ≡ true → ComesBefore base a z
  all_in_turn a z h there = let r = split_before xs a z h in forward r.0 a r.1 r.2 there z r.3
