-- That dependencies order the points of snapshot orders, and that cycles exclude.
use Rattle.std.proofs.Common.{◌≡◌, ℕ, Bool, true, false, List, [], ◌∷◌, ◌++◌, refl, sym, ap, subst, ◌∙◌, inl, inr, cond}
use Rattle.std.specs.Prelude.{◌⊎◌, ◌≢◌}
use Rattle.std.proofs.lemmas.Bool.{false≢true, or_right}
use Rattle.jh_txn.specs.declared.dependency.Step.{Step}
use Rattle.jh_txn.specs.declared.dependency.Why.{Why}
use Rattle.jh_txn.specs.declared.dependency.Why.TheVariants.{FirstCommitter, ReadWrite, RealTime, WriteRead, WriteWrite}
use Rattle.jh_txn.specs.declared.model.ConsistencyModel.{ConsistencyModel}
use Rattle.jh_txn.specs.declared.txn.Point.{Point}
use Rattle.jh_txn.specs.declared.txn.Point.TheVariants.{Commit, Start}
use Rattle.jh_txn.specs.declared.txn.Txn.{Txn}
use Rattle.jh_txn.specs.Cycles.{AreReadWritesApart, IsSnapshotCycle, LeadTo, is_read_write}
use Rattle.jh_txn.specs.Dependencies.{IsDependency, IsReadBefore, IsReason, MustBeThere, ReadsWith, ReadsWithout}
use Rattle.jh_txn.specs.Keeping.{arrives_at, leaves_at}
use Rattle.jh_txn.specs.Models.{keeps_real_time}
use Rattle.jh_txn.specs.SnapshotOrders.{HasPoint, IsEarlier, IsSnapshotOrder, IsSnapshotOrderFor, commits}
use Rattle.jh_txn.specs.Transactions.{AppendOnce, Appends, ComesBefore, IsDoneAt, Saw, appends_at, appends_before, includes, list_after}
use Rattle.jh_txn.proofs.ListLemmas.{not_both, includes_left, includes_cases, includes_cons, includes_head, before_cases, before_first, before_second, in_flat, flat_includes, before_flat}
use Rattle.jh_txn.proofs.TransactionLemmas.{appends_from_before}

-- Points.

pub stands_left : (xs ys : List Point) (p : Point) → HasPoint xs p → HasPoint (xs ++ ys) p
stands_left [] ys p h = absurd h
stands_left (x ∷ xs) ys p h = elim h as (λ _. HasPoint (x ∷ xs ++ ys) p) [ inl here ↦ inl here | inr there ↦ inr (stands_left xs ys p there) ]

pub stands_right : (xs ys : List Point) (p : Point) → HasPoint ys p → HasPoint (xs ++ ys) p
stands_right [] ys p h = h
stands_right (x ∷ xs) ys p h = inr (stands_right xs ys p h)

pub stands_cases : (xs ys : List Point) (p : Point) → HasPoint (xs ++ ys) p → HasPoint xs p ⊎ HasPoint ys p
stands_cases [] ys p h = inr h
stands_cases (x ∷ xs) ys p h = elim h as (λ _. HasPoint (x ∷ xs) p ⊎ HasPoint ys p) [
  | inl here ↦ inl (inl here)
  | inr there ↦ elim (stands_cases xs ys p there) as (λ _. HasPoint (x ∷ xs) p ⊎ HasPoint ys p) [ inl e ↦ inl (inr e) | inr e ↦ inr e ]
]

pub first_stands : (xs : List Point) (p q : Point) → IsEarlier xs p q → HasPoint xs p
first_stands [] p q h = absurd h
first_stands (x ∷ xs) p q h = elim h as (λ _. HasPoint (x ∷ xs) p) [ inl here ↦ inl here.0 | inr there ↦ inr (first_stands xs p q there) ]

pub second_stands : (xs : List Point) (p q : Point) → IsEarlier xs p q → HasPoint xs q
second_stands [] p q h = absurd h
second_stands (x ∷ xs) p q h = elim h as (λ _. HasPoint (x ∷ xs) q) [ inl here ↦ inr here.1 | inr there ↦ inr (second_stands xs p q there) ]

pub points_across : (xs ys : List Point) (p q : Point) → HasPoint xs p → HasPoint ys q → IsEarlier (xs ++ ys) p q
points_across [] ys p q h k = absurd h
points_across (x ∷ xs) ys p q h k = elim h as (λ _. IsEarlier (x ∷ xs ++ ys) p q) [ inl here ↦ inl (here, stands_right xs ys q k) | inr there ↦ inr (points_across xs ys p q there k) ]

pub points_left : (xs ys : List Point) (p q : Point) → IsEarlier xs p q → IsEarlier (xs ++ ys) p q
points_left [] ys p q h = absurd h
points_left (x ∷ xs) ys p q h = elim h as (λ _. IsEarlier (x ∷ xs ++ ys) p q) [ inl here ↦ inl (here.0, stands_left xs ys q here.1) | inr there ↦ inr (points_left xs ys p q there) ]

split_point : (xs : List Point) (p : Point) → HasPoint xs p → (front back : List Point) × (xs ≡ front ++ p ∷ back)
split_point [] p h = absurd h
split_point (x ∷ xs) p h = elim h as (λ _. (front back : List Point) × (x ∷ xs ≡ front ++ p ∷ back)) [
  | inl e ↦ ([], xs, ap (λ z. z ∷ xs) e)
  | inr there ↦ let r = split_point xs p there in (x ∷ r.0, r.1, ap (λ zs. x ∷ zs) r.2)
]

behind_point : (front back : List Point) (p q : Point) → HasPoint back q → IsEarlier (front ++ p ∷ back) p q
behind_point [] back p q h = inl (refl, h)
behind_point (x ∷ front) back p q h = inr (behind_point front back p q h)

pub points_trans : (xs : List Point) (a b c : Point) → ((p : Point) → IsEarlier xs p p → ⊥) → IsEarlier xs a b → IsEarlier xs b c → IsEarlier xs a c
points_trans [] a b c once h k = absurd h
points_trans (x ∷ xs) a b c once h k = elim h as (λ _. IsEarlier (x ∷ xs) a c) [
  | inl here ↦ elim k as (λ _. IsEarlier (x ∷ xs) a c) [
    | inl now ↦ absurd (once x (inl (refl, subst (HasPoint xs) (sym now.0) here.1)))
    | inr later ↦ inl (here.0, second_stands xs b c later)
  ]
  | inr there ↦ elim k as (λ _. IsEarlier (x ∷ xs) a c) [
    | inl now ↦ absurd (once x (inl (refl, subst (HasPoint xs) (sym now.0) (second_stands xs a b there))))
    | inr later ↦ inr (points_trans xs a b c (λ p h. once p (inr h)) there later)
  ]
]

-- who commits, and in which order
pub commit_stands : (xs : List Point) (p : ℕ) → includes (commits xs) p ≡ true → HasPoint xs (Commit p)
commit_stands [] p h = absurd (false≢true h)
commit_stands (Start q ∷ xs) p h = inr (commit_stands xs p h)
commit_stands (Commit q ∷ xs) p h = elim (includes_cons q (commits xs) p h) as (λ _. HasPoint (Commit q ∷ xs) (Commit p)) [ inl e ↦ inl (ap (λ z. Commit z) e) | inr there ↦ inr (commit_stands xs p there) ]

pub stands_commits : (xs : List Point) (p : ℕ) → HasPoint xs (Commit p) → includes (commits xs) p ≡ true
stands_commits [] p h = absurd h
stands_commits (Start q ∷ xs) p h = elim h as (λ _. includes (commits xs) p ≡ true) [ inl e ↦ cc | inr there ↦ stands_commits xs p there ]
stands_commits (Commit q ∷ xs) p h = elim h as (λ _. includes (q ∷ commits xs) p ≡ true) [ inl e ↦ subst (λ z. includes (q ∷ commits xs) z ≡ true) (let same : q ≡ p = cc in same) (includes_head q (commits xs)) | inr there ↦ or_right _ _ (stands_commits xs p there) ]

pub commits_before : (xs : List Point) (p q : ℕ) → ComesBefore (commits xs) p q → IsEarlier xs (Commit p) (Commit q)
commits_before [] p q h = absurd h
commits_before (Start r ∷ xs) p q h = inr (commits_before xs p q h)
commits_before (Commit r ∷ xs) p q h = elim h as (λ _. IsEarlier (Commit r ∷ xs) (Commit p) (Commit q)) [ inl now ↦ inl (ap (λ z. Commit z) now.0, commit_stands xs q now.1) | inr later ↦ inr (commits_before xs p q later) ]

module _ (txns : List Txn) (points : List Point) (once : AppendOnce txns) (order : IsSnapshotOrder txns points) where
  -- a read, where its transaction starts
  pub record IsSeen (place m key : ℕ) (seen : List ℕ) : Type 0 where
    pub front : List Point
    pub back : List Point
    pub stands : points ≡ front ++ Start place ∷ back
    pub is : seen ≡ list_after txns key (commits front) ++ appends_before txns key place m

  pub saw : (place m key : ℕ) (seen : List ℕ) → Saw txns place m key seen → IsSeen place m key seen
  saw place m key seen s =
      let r = split_point points (Start place) (order.whole place s.0) in
      record { front = r.0; back = r.1; stands = r.2; is = order.reads r.0 r.1 place r.2 m key seen s }

  -- before the start of a reader, or the reader itself
  pub writer_cases' : (place m key element writer : ℕ) (seen : List ℕ) → Saw txns place m key seen → includes seen element ≡ true → Appends txns key element writer → IsEarlier points (Commit writer) (Start place) ⊎ (writer ≡ place)
  writer_cases' place m key element writer seen s shown appends =
      let r = saw place m key seen s in
      elim (includes_cases (list_after txns key (commits r.front)) (appends_before txns key place m) element (subst (λ xs. includes xs element ≡ true) r.is shown)) as (λ _. IsEarlier points (Commit writer) (Start place) ⊎ (writer ≡ place)) [
        | inl listed ↦
            let w = in_flat (appends_at txns key) (commits r.front) element listed in
            let same : w.0 ≡ writer = once.apart key element w.0 writer w.2 appends in
            inl (subst (λ xs. IsEarlier xs (Commit writer) (Start place)) (sym r.stands) (points_across r.front (Start place ∷ r.back) (Commit writer) (Start place) (commit_stands r.front writer (subst (λ p. includes (commits r.front) p ≡ true) same w.1)) (inl refl)))
        | inr own ↦ inr (once.apart key element writer place appends (appends_from_before txns key place m element own))
      ]

  commit_of : (place : ℕ) → HasPoint points (Start place) → HasPoint points (Commit place)
  commit_of place h = second_stands points (Start place) (Commit place) (order.paired place (inl h))

  pub start_of : (place : ℕ) → HasPoint points (Commit place) → HasPoint points (Start place)
  start_of place h = first_stands points (Start place) (Commit place) (order.paired place (inr h))

  pub starts : (place : ℕ) → MustBeThere txns place → HasPoint points (Start place)
  starts place must = elim must as (λ _. HasPoint points (Start place)) [
    | inl done ↦ order.whole place done
    | inr shown ↦ elim (writer_cases' shown.2 shown.4.0 shown.0 shown.1 place shown.4.1 shown.4.2 shown.4.3 shown.3) as (λ _. HasPoint points (Start place)) [
      | inl before ↦ start_of place (first_stands points (Commit place) (Start shown.2) before)
      | inr same ↦ order.whole place (subst (IsDoneAt txns) (sym same) shown.4.2.0)
    ]
  ]

  write_read : (key element first second : ℕ) → first ≢ second → Appends txns key element first → ReadsWith txns key element second → IsEarlier points (Commit first) (Start second)
  write_read key element first second differ appends shows = elim (writer_cases' second shows.0 key element first shows.1 shows.2 shows.3 appends) as (λ _. IsEarlier points (Commit first) (Start second)) [
    | inl before ↦ before
    | inr same ↦ absurd (differ same)
  ]

  read_write : (key element first second : ℕ) → MustBeThere txns second → ReadsWithout txns key element first → Appends txns key element second → IsEarlier points (Start first) (Commit second)
  read_write key element first second must lacks appends =
      let r = saw first lacks.0 key lacks.1 lacks.2 in
      subst (λ xs. IsEarlier xs (Start first) (Commit second)) (sym r.stands)
      (elim (stands_cases r.front (Start first ∷ r.back) (Commit second) (subst (λ xs. HasPoint xs (Commit second)) r.stands (commit_of second (starts second must)))) as (λ _. IsEarlier (r.front ++ Start first ∷ r.back) (Start first) (Commit second)) [
        | inl front ↦ absurd (not_both (includes lacks.1 element) (subst (λ xs. includes xs element ≡ true) (sym r.is) (includes_left (list_after txns key (commits r.front)) (appends_before txns key first lacks.0) element (flat_includes (appends_at txns key) (commits r.front) second element (stands_commits r.front second front) appends))) lacks.3)
        | inr behind ↦ elim behind as (λ _. IsEarlier (r.front ++ Start first ∷ r.back) (Start first) (Commit second)) [
          | inl same ↦ cc
          | inr back ↦ behind_point r.front r.back (Start first) (Commit second) back
        ]
      ])

  -- of two that append to one key, where the second does not commit before the first starts
  not_behind : (key one other first second : ℕ) → first ≢ second → Appends txns key one first → Appends txns key other second → MustBeThere txns first → MustBeThere txns second → (IsEarlier points (Commit second) (Start first) → ⊥) → IsEarlier points (Commit first) (Start second)
  not_behind key one other first second differ appends others must also none = elim (order.apart key one other first second differ appends others (starts first must) (starts second also)) as (λ _. IsEarlier points (Commit first) (Start second)) [
    | inl before ↦ before
    | inr behind ↦ absurd (none behind)
  ]

  shown_before : (key one other first second : ℕ) → first ≢ second → Appends txns key one first → Appends txns key other second → MustBeThere txns first → MustBeThere txns second → IsReadBefore txns key one other → IsEarlier points (Commit first) (Start second)
  shown_before key one other first second differ appends others must also shown =
      let place = shown.0 in
      let r = saw place shown.1 key shown.2 shown.3 in
      let own = appends_before txns key place shown.1 in
      let Goal : Type 0 = IsEarlier points (Commit first) (Start second) in
      elim (before_cases (list_after txns key (commits r.front)) own one other (subst (λ xs. ComesBefore xs one other) r.is shown.4)) as (λ _. Goal) [
        | inl listed ↦
            let d = before_flat (appends_at txns key) (commits r.front) one other listed in
            let is_first : d.0 ≡ first = once.apart key one d.0 first d.2 appends in
            let is_second : d.1 ≡ second = once.apart key other d.1 second d.3 others in
            elim d.4 as (λ _. Goal) [
              | inl two ↦
                  let turn : ComesBefore (commits r.front) first second = subst (λ p. ComesBefore (commits r.front) p second) is_first (subst (λ q. ComesBefore (commits r.front) d.0 q) is_second two) in
                  let late : IsEarlier points (Commit first) (Commit second) = subst (λ xs. IsEarlier xs (Commit first) (Commit second)) (sym r.stands) (points_left r.front (Start place ∷ r.back) (Commit first) (Commit second) (commits_before r.front first second turn)) in
                  not_behind key one other first second differ appends others must also (λ behind.
                  let start : IsEarlier points (Start first) (Commit first) = order.paired first (inl (starts first must)) in
                  order.distinct (Commit second) (points_trans points (Commit second) (Start first) (Commit second) order.distinct behind (points_trans points (Start first) (Commit first) (Commit second) order.distinct start late)))
              | inr one' ↦ absurd (differ (sym is_first ∙ one'.1 ∙ is_second))
            ]
        | inr more ↦ elim more as (λ _. Goal) [
          | inl across ↦
              let reader : second ≡ place = once.apart key other second place others (appends_from_before txns key place shown.1 other across.1) in
              let seen_one : includes shown.2 one ≡ true = before_first shown.2 one other shown.4 in
              elim (writer_cases' place shown.1 key one first shown.2 shown.3 seen_one appends) as (λ _. Goal) [
                | inl before ↦ subst (λ p. IsEarlier points (Commit first) (Start p)) (sym reader) before
                | inr same ↦ absurd (differ (same ∙ sym reader))
              ]
          | inr both ↦
              let a : first ≡ place = once.apart key one first place appends (appends_from_before txns key place shown.1 one (before_first own one other both)) in
              let b : second ≡ place = once.apart key other second place others (appends_from_before txns key place shown.1 other (before_second own one other both)) in
              absurd (differ (a ∙ sym b))
        ]
      ]

  pub ordered : (model : ConsistencyModel) → IsSnapshotOrderFor txns (keeps_real_time model) points → (why : Why) (first second : ℕ) → IsDependency txns model why first second → IsEarlier points (leaves_at why first) (arrives_at why second)
  ordered model orders why first second needs = by_kind why needs.reason where
    by_kind : (kind : Why) → IsReason txns model kind first second → IsEarlier points (leaves_at kind first) (arrives_at kind second)
    by_kind (WriteRead key element) reason = write_read key element first second needs.differ reason.0 reason.1
    by_kind (WriteWrite key element) reason = elim reason.3 as (λ _. IsEarlier points (Commit first) (Start second)) [
      | inl shown ↦ shown_before key element reason.1 first second needs.differ reason.0 reason.2 needs.first_there needs.second_there shown
      | inr without ↦ not_behind key element reason.1 first second needs.differ reason.0 reason.2 needs.first_there needs.second_there (λ behind.
          let r = without.0 in
          let late : IsEarlier points (Start r) (Commit second) = read_write key reason.1 r second needs.second_there (without.1, without.2, without.4, without.6) reason.2 in
          let early : IsEarlier points (Start r) (Start first) = points_trans points (Start r) (Commit second) (Start first) order.distinct late behind in
          elim (writer_cases' r without.1 key element first without.2 without.4 without.5 reason.0) as (λ _. ⊥) [
            | inl before ↦ order.distinct (Start r) (points_trans points (Start r) (Start first) (Start r) order.distinct early (points_trans points (Start first) (Commit first) (Start r) order.distinct (order.paired first (inl (starts first needs.first_there))) before))
            | inr same ↦ without.3 (sym same)
          ])
    ]
    by_kind (FirstCommitter key element) reason = not_behind key element reason.2 first second needs.differ reason.1 reason.3 needs.first_there needs.second_there (λ behind.
        order.distinct (Commit second) (points_trans points (Commit second) (Start first) (Commit second) order.distinct behind (read_write key reason.2 first second needs.second_there reason.4 reason.3)))
    by_kind (ReadWrite key element) reason = read_write key element first second needs.second_there reason.0 reason.1
    by_kind RealTime reason = orders.timely reason.0 first second reason.1 (starts second needs.second_there)

  -- where one step arrives, and where the next one leaves
  goes_on : (why next : Why) (place : ℕ) → HasPoint points (Start place) → (is_read_write why ≡ true → is_read_write next ≡ true → ⊥) → (arrives_at why place ≡ leaves_at next place) ⊎ IsEarlier points (arrives_at why place) (leaves_at next place)
  goes_on why next place stands apart = by (is_read_write why) (is_read_write next) apart where
    by : (a b : Bool) → (a ≡ true → b ≡ true → ⊥) → (cond a (Commit place) (Start place) ≡ cond b (Start place) (Commit place)) ⊎ IsEarlier points (cond a (Commit place) (Start place)) (cond b (Start place) (Commit place))
    by true true both = absurd (both refl refl)
    by true false both = inl refl
    by false true both = inl refl
    by false false both = inr (order.paired place (inl stands))

  then_on : (a b c : Point) → IsEarlier points a b → (b ≡ c) ⊎ IsEarlier points b c → IsEarlier points a c
  then_on a b c h k = elim k as (λ _. IsEarlier points a c) [ inl same ↦ subst (λ z. IsEarlier points a z) same h | inr later ↦ points_trans points a b c order.distinct h later ]

  path : (model : ConsistencyModel) → IsSnapshotOrderFor txns (keeps_real_time model) points → (step : Step) (steps : List Step) (last : ℕ) (why : Why) → HasPoint points (Start last) → LeadTo txns model (step ∷ steps) last → AreReadWritesApart (step ∷ steps) why → IsEarlier points (leaves_at step.why step.place) (leaves_at why last)
  path model orders step [] last why stands reason apart =
      then_on (leaves_at step.why step.place) (arrives_at step.why last) (leaves_at why last) (ordered model orders step.why step.place last reason.0) (goes_on step.why why last stands apart.0)
  path model orders step (next ∷ steps) last why stands reason apart =
      let here : IsEarlier points (leaves_at step.why step.place) (leaves_at next.why next.place) = then_on (leaves_at step.why step.place) (arrives_at step.why next.place) (leaves_at next.why next.place) (ordered model orders step.why step.place next.place reason.0) (goes_on step.why next.why next.place (starts next.place reason.0.second_there) apart.0) in
      points_trans points (leaves_at step.why step.place) (leaves_at next.why next.place) (leaves_at why last) order.distinct here (path model orders next steps last why stands reason.1 apart.1)

  pub no_cycle : (model : ConsistencyModel) → IsSnapshotOrderFor txns (keeps_real_time model) points → (steps : List Step) → IsSnapshotCycle txns model steps → ⊥
  no_cycle model orders [] cycle = cycle
  no_cycle model orders (step ∷ steps) cycle = order.distinct (leaves_at step.why step.place) (path model orders step steps step.place step.why (starts step.place cycle.0.0.first_there) cycle.0 cycle.1)
