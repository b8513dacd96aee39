-- That the last writer of each key tells whether transactions that append to one key overlap.
use Rattle.std.proofs.Common.{◌≡◌, ◌<◌, ◌+◌, ℕ, Bool, true, false, eqb, cond, Option, Some, None, List, [], ◌∷◌, ◌++◌, length, take, drop, get_or, set, refl, sym, ap, subst, ◌∙◌, inl, inr, arith}
use Rattle.std.specs.Prelude.{◌⊎◌, ◌≢◌}
use Rattle.std.proofs.lemmas.Bool.{false≢true, eqb-true, cases_Bool, cases_eq}
use Rattle.std.proofs.lemmas.List.{take_more, take-append-drop, get_or-set_same, get_or-set_other, length-set, append-nil}
use Rattle.jh_txn.specs.declared.txn.MicroOp.{MicroOp}
use Rattle.jh_txn.specs.declared.txn.MicroOp.TheVariants.{Append, Read}
use Rattle.jh_txn.specs.declared.txn.Point.{Point}
use Rattle.jh_txn.specs.declared.txn.Point.TheVariants.{Commit, Start}
use Rattle.jh_txn.specs.declared.txn.Txn.{Txn}
use Rattle.jh_txn.specs.OrderCheckInside.{AreMarks}
use Rattle.jh_txn.specs.SnapshotCheckInside.{AreLastWriters, ArePlaced, AreWritersAfter, AreWritersBehind, IsFreeOf, MayDo, MayDoAll, MayPass, last_writer, over_behind, place_of_point, writers_behind}
use Rattle.jh_txn.specs.SnapshotOrders.{AreWritersApart, HasPoint, IsEarlier, commits}
use Rattle.jh_txn.specs.Transactions.{Appends, IsKeyBelow, appended, appends_at, includes, ops_at}
use Rattle.jh_txn.proofs.ListLemmas.{eqb_self, includes_head, includes_cases, includes_left, includes_right}
use Rattle.jh_txn.proofs.TransactionLemmas.{appended_append}
use Rattle.jh_txn.proofs.OrderCheckLemmas.{marks_push, possible_place}
use Rattle.jh_txn.proofs.PhaseLemmas.{stands_push, last_stands}
use Rattle.jh_txn.proofs.SnapshotKeepingLemmas.{in_front}
use Rattle.jh_txn.proofs.SnapshotOrderLemmas.{stands_left, stands_right, stands_commits, commit_stands, points_across, points_left, points_trans}
use Rattle.jh_txn.proofs.StartLemmas.{commits_append}

-- Lists.

nothing_or_some : (xs : List ℕ) → (xs ≡ []) ⊎ ((x : ℕ) × (includes xs x ≡ true))
nothing_or_some [] = inl refl
nothing_or_some (x ∷ xs) = inr (x, includes_head x xs)

nothing_left : (xs ys : List ℕ) → xs ++ ys ≡ [] → xs ≡ []
nothing_left [] ys h = refl
nothing_left (x ∷ xs) ys h = cc

nothing_right : (xs ys : List ℕ) → xs ++ ys ≡ [] → ys ≡ []
nothing_right [] ys h = h
nothing_right (x ∷ xs) ys h = cc

not_nothing : (xs : List ℕ) (x : ℕ) → xs ≡ [] → includes xs x ≡ true → ⊥
not_nothing xs x none h = false≢true (subst (λ ys. includes ys x ≡ true) none h)

-- An append.

key_of_append : (key other element x : ℕ) → includes (appended key (Append other element ∷ [])) x ≡ true → other ≡ key
key_of_append key other element x h = elim (cases_Bool (eqb other key)) as (λ _. other ≡ key) [
  | inl same ↦ eqb-true other key same
  | inr differ ↦ absurd (false≢true (subst (λ b. includes (cond b (element ∷ []) []) x ≡ true) differ h))
]

own_append : (key element : ℕ) → includes (appended key (Append key element ∷ [])) element ≡ true
own_append key element = subst (λ b. includes (cond b (element ∷ []) []) element ≡ true) (sym (eqb_self key)) (includes_head element [])

-- One micro-operation more.
module _ (place : ℕ) (over : List Bool) (ops : List MicroOp) (i : ℕ) (old last : List (Option ℕ)) (after : AreWritersAfter place (take i ops) old last) where
  -- with what is appended up to it
  abbrev pub UpTo : MicroOp → Type 0
  UpTo op = (key : ℕ) → appended key (take (i + 1) ops) ≡ appended key (take i ops) ++ appended key (op ∷ [])

  pub up_to : (op : MicroOp) → i < length ops → op ≡ get_or ops i op → UpTo op
  up_to op low is key = ap (appended key) (take_more ops i op low ∙ ap (λ o. take i ops ++ o ∷ []) (sym is)) ∙ appended_append key (take i ops) (op ∷ [])

  pub may_if : (op : MicroOp) → UpTo op → MayDoAll old over place ops → MayDo last over place op
  may_if (Read key seen) upto all = tt
  may_if (Append key element) upto all = elim (nothing_or_some (appended key (take i ops))) as (λ _. IsFreeOf over place (last_writer last key)) [
    | inl none ↦ subst (IsFreeOf over place) (sym (after.others key none)) (all key element listed)
    | inr some ↦ subst (IsFreeOf over place) (sym (after.mine key some.0 some.1)) (inl refl)
  ] where
    here : includes (appended key (take (i + 1) ops)) element ≡ true
    here = subst (λ xs. includes xs element ≡ true) (sym (upto key)) (right (appended key (take i ops)) (own_append key element)) where
      right : (xs : List ℕ) → includes (appended key (Append key element ∷ [])) element ≡ true → includes (xs ++ appended key (Append key element ∷ [])) element ≡ true
      right xs h = includes_right xs (appended key (Append key element ∷ [])) element h

    listed : includes (appended key ops) element ≡ true
    listed =
        subst (λ xs. includes xs element ≡ true) (sym (ap (appended key) (sym (take-append-drop (i + 1) ops)) ∙ appended_append key (take (i + 1) ops) (drop (i + 1) ops)))
        (includes_left (appended key (take (i + 1) ops)) (appended key (drop (i + 1) ops)) element here)

  pub may_more : (op : MicroOp) → UpTo op → MayDoAll old over place (take i ops) → MayDo last over place op → MayDoAll old over place (take (i + 1) ops)
  may_more op upto so_far may key element h = elim (includes_cases (appended key (take i ops)) (appended key (op ∷ [])) element (subst (λ xs. includes xs element ≡ true) (upto key) h)) as (λ _. IsFreeOf over place (last_writer old key)) [
    | inl before ↦ so_far key element before
    | inr here ↦ by_op op may here
  ] where
    by_op : (o : MicroOp) → MayDo last over place o → includes (appended key (o ∷ [])) element ≡ true → IsFreeOf over place (last_writer old key)
    by_op (Read k seen) free inside = absurd (false≢true inside)
    by_op (Append k e) free inside = elim (nothing_or_some (appended key (take i ops))) as (λ _. IsFreeOf over place (last_writer old key)) [
      | inl none ↦ subst (IsFreeOf over place) (after.others key none) (subst (λ n. IsFreeOf over place (last_writer last n)) (key_of_append key k e element inside) free)
      | inr some ↦ so_far key some.0 some.1
    ]

  pub writers_more : (op : MicroOp) → UpTo op → IsKeyBelow (length old) op → AreWritersAfter place (take (i + 1) ops) old (writers_behind last place op)
  writers_more (Read key seen) upto low = record {
    count = after.count;
    mine = λ k element h. elim (includes_cases (appended k (take i ops)) [] element (subst (λ xs. includes xs element ≡ true) (upto k) h)) as (λ _. last_writer last k ≡ Some place) [
      | inl before ↦ after.mine k element before
      | inr none ↦ absurd (false≢true none)
    ];
    others = λ k none. after.others k (nothing_left (appended k (take i ops)) [] (sym (upto k) ∙ none));
  }
  writers_more (Append key element) upto low = record {
    count = length-set last key (Some place) ∙ after.count;
    mine = λ k x h. elim (cases_eq k key) as (λ _. last_writer (set last key (Some place)) k ≡ Some place) [
      | inl same ↦ subst (λ n. last_writer (set last key (Some place)) n ≡ Some place) (sym same) (get_or-set_same last key (Some place) None (omega (arith, low, after.count)))
      | inr differ ↦ elim (includes_cases (appended k (take i ops)) (appended k (Append key element ∷ [])) x (subst (λ xs. includes xs x ≡ true) (upto k) h)) as (λ _. last_writer (set last key (Some place)) k ≡ Some place) [
        | inl before ↦ get_or-set_other last key k (Some place) None differ ∙ after.mine k x before
        | inr here ↦ absurd (differ (sym (key_of_append k key element x here)))
      ]
    ];
    others = λ k none.
        let both : appended k (take i ops) ++ appended k (Append key element ∷ []) ≡ [] = sym (upto k) ∙ none in
        elim (cases_eq k key) as (λ _. last_writer (set last key (Some place)) k ≡ last_writer old k) [
          | inl same ↦ absurd (not_nothing (appended k (Append key element ∷ [])) element (nothing_right (appended k (take i ops)) (appended k (Append key element ∷ [])) both) (subst (λ n. includes (appended n (Append key element ∷ [])) element ≡ true) (sym same) (own_append key element)))
          | inr differ ↦ get_or-set_other last key k (Some place) None differ ∙ after.others k (nothing_left (appended k (take i ops)) (appended k (Append key element ∷ [])) both)
        ];
  }

-- Points.

pub count_behind : (txns : List Txn) (point : Point) (old new : List (Option ℕ)) → AreWritersBehind txns point old new → length new ≡ length old
count_behind txns (Start p) old new h = h.count
count_behind txns (Commit p) old new h = ap length h

pub marks_behind : (count : ℕ) (front : List Point) (point : Point) (over : List Bool) → place_of_point point < count → AreMarks count (commits front) over → AreMarks count (commits (front ++ point ∷ [])) (over_behind over point)
marks_behind count front (Start p) over low marks = subst (λ xs. AreMarks count xs over) (sym (commits_append front (Start p ∷ []) ∙ append-nil (commits front))) marks
marks_behind count front (Commit p) over low marks = subst (λ xs. AreMarks count xs (set over p true)) (sym (commits_append front (Commit p ∷ []))) (marks_push count (commits front) over p low marks)

-- behind some points, with who is over and the last writers
module _ (txns : List Txn) (points : List Point) (placed : ArePlaced txns points) (front : List Point) (over : List Bool) (last : List (Option ℕ)) (marks : AreMarks (length txns) (commits front) over) (writers : AreLastWriters txns front last) where
  low_in_front : (q : ℕ) (back : List Point) → points ≡ front ++ back → HasPoint front (Start q) → q < length txns
  low_in_front q back cut h = possible_place txns q (placed.possible q (subst (λ xs. HasPoint xs (Start q)) (sym cut) (stands_left front back (Start q) h)))

  is_over : (q : ℕ) → q < length txns → HasPoint front (Commit q) → get_or over q false ≡ true
  is_over q low h = marks.1 q low ∙ stands_commits front q h

  over_is : (q : ℕ) → q < length txns → get_or over q false ≡ true → HasPoint front (Commit q)
  over_is q low h = commit_stands front q (sym (marks.1 q low) ∙ h)

  pub may_pass_if : (point : Point) (back : List Point) → points ≡ front ++ point ∷ back → AreWritersApart txns points → MayPass txns last over point
  may_pass_if (Commit p) back cut apart = tt
  may_pass_if (Start p) back cut apart = λ key element appends. by_writer key element appends (last_writer last key) refl where
    once : (x : Point) → IsEarlier (front ++ Start p ∷ back) x x → ⊥
    once x h = placed.distinct x (subst (λ xs. IsEarlier xs x x) (sym cut) h)

    here : HasPoint points (Start p)
    here = subst (λ xs. HasPoint xs (Start p)) (sym cut) (stands_right front (Start p ∷ back) (Start p) (inl refl))

    by_writer : (key element : ℕ) → Appends txns key element p → (found : Option ℕ) → last_writer last key ≡ found → IsFreeOf over p found
    by_writer key element appends None is = tt
    by_writer key element appends (Some w) is =
        let known = writers.known key w is in
        let started : HasPoint points (Start w) = subst (λ xs. HasPoint xs (Start w)) (sym cut) (stands_left front (Start p ∷ back) (Start w) known.0) in
        let early : IsEarlier points (Start w) (Start p) = subst (λ xs. IsEarlier xs (Start w) (Start p)) (sym cut) (points_across front (Start p ∷ back) (Start w) (Start p) known.0 (inl refl)) in
        elim (cases_eq w p) as (λ _. IsFreeOf over p (Some w)) [
          | inl same ↦ inl same
          | inr differ ↦ elim (apart key known.1.0 element w p differ known.1.1 appends started here) as (λ _. IsFreeOf over p (Some w)) [
            | inl before ↦ inr (is_over w (low_in_front w (Start p ∷ back) cut known.0) (in_front front back (Start p) (Commit w) once (subst (λ xs. IsEarlier xs (Commit w) (Start p)) cut before)))
            | inr behind ↦
                let around : IsEarlier points (Start w) (Commit p) = points_trans points (Start w) (Start p) (Commit p) placed.distinct early (placed.paired p (inl here)) in
                absurd (placed.distinct (Commit p) (points_trans points (Commit p) (Start w) (Commit p) placed.distinct behind around))
          ]
        ]

  -- a writer that started is over where another one may append to its key
  over_before : (p key one other q : ℕ) (back : List Point) → points ≡ front ++ back → MayDoAll last over p (ops_at txns p) → Appends txns key one p → HasPoint front (Start q) → Appends txns key other q → q ≢ p → HasPoint front (Commit q)
  over_before p key one other q back cut may appends started others differ = elim (writers.open_one key other q started others) as (λ _. HasPoint front (Commit q)) [
    | inr done ↦ done
    | inl is ↦ elim (subst (IsFreeOf over p) is (may key one appends)) as (λ _. HasPoint front (Commit q)) [
      | inl same ↦ absurd (differ same)
      | inr done ↦ over_is q (low_in_front q back cut started) done
    ]
  ]

  pub apart_more : (point : Point) (back : List Point) → points ≡ front ++ point ∷ back → MayPass txns last over point → AreWritersApart txns front → AreWritersApart txns (front ++ point ∷ [])
  apart_more (Commit p) back cut may apart key one other first second differ appends others h k =
      let Goal : Type 0 = IsEarlier (front ++ Commit p ∷ []) (Commit first) (Start second) ⊎ IsEarlier (front ++ Commit p ∷ []) (Commit second) (Start first) in
      elim (stands_push front (Commit p) (Start first) h) as (λ _. Goal) [
        | inr is ↦ cc
        | inl in_first ↦ elim (stands_push front (Commit p) (Start second) k) as (λ _. Goal) [
          | inr is ↦ cc
          | inl in_second ↦ elim (apart key one other first second differ appends others in_first in_second) as (λ _. Goal) [
            | inl e ↦ inl (points_left front (Commit p ∷ []) (Commit first) (Start second) e)
            | inr e ↦ inr (points_left front (Commit p ∷ []) (Commit second) (Start first) e)
          ]
        ]
      ]
  apart_more (Start p) back cut may apart key one other first second differ appends others h k =
      let Goal : Type 0 = IsEarlier (front ++ Start p ∷ []) (Commit first) (Start second) ⊎ IsEarlier (front ++ Start p ∷ []) (Commit second) (Start first) in
      elim (stands_push front (Start p) (Start first) h) as (λ _. Goal) [
        | inl in_first ↦ elim (stands_push front (Start p) (Start second) k) as (λ _. Goal) [
          | inl in_second ↦ elim (apart key one other first second differ appends others in_first in_second) as (λ _. Goal) [
            | inl e ↦ inl (points_left front (Start p ∷ []) (Commit first) (Start second) e)
            | inr e ↦ inr (points_left front (Start p ∷ []) (Commit second) (Start first) e)
          ]
          | inr is ↦
              let same : p ≡ second = ap place_of_point is in
              let done = over_before p key other one first (Start p ∷ back) cut may (subst (λ q. Appends txns key other q) (sym same) others) in_first appends (λ e. differ (e ∙ same)) in
              inl (points_across front (Start p ∷ []) (Commit first) (Start second) done (inl is))
        ]
        | inr is ↦
            let same : p ≡ first = ap place_of_point is in
            elim (stands_push front (Start p) (Start second) k) as (λ _. Goal) [
              | inl in_second ↦
                  let done = over_before p key one other second (Start p ∷ back) cut may (subst (λ q. Appends txns key one q) (sym same) appends) in_second others (λ e. differ (sym (e ∙ same))) in
                  inr (points_across front (Start p ∷ []) (Commit second) (Start first) done (inl is))
              | inr also ↦ absurd (differ (sym same ∙ ap place_of_point also))
            ]
      ]

  pub last_more : (point : Point) (back : List Point) (new : List (Option ℕ)) → points ≡ front ++ point ∷ back → MayPass txns last over point → AreWritersBehind txns point last new → AreLastWriters txns (front ++ point ∷ []) new
  last_more (Commit p) back new cut may same = subst (AreLastWriters txns (front ++ Commit p ∷ [])) (sym same) (record {
    known = λ key w is. let k = writers.known key w is in (stands_left front (Commit p ∷ []) (Start w) k.0, k.1);
    open_one = λ key element w h appends. elim (stands_push front (Commit p) (Start w) h) as (λ _. (last_writer last key ≡ Some w) ⊎ HasPoint (front ++ Commit p ∷ []) (Commit w)) [
      | inr is ↦ cc
      | inl inside ↦ elim (writers.open_one key element w inside appends) as (λ _. (last_writer last key ≡ Some w) ⊎ HasPoint (front ++ Commit p ∷ []) (Commit w)) [
        | inl e ↦ inl e
        | inr e ↦ inr (stands_left front (Commit p ∷ []) (Commit w) e)
      ]
    ];
  })
  last_more (Start p) back new cut may after = record {
    known = λ key w is. elim (nothing_or_some (appends_at txns key p)) as (λ _. HasPoint (front ++ Start p ∷ []) (Start w) × ((element : ℕ) × Appends txns key element w)) [
      | inl none ↦ let k = writers.known key w (sym (after.others key none) ∙ is) in (stands_left front (Start p ∷ []) (Start w) k.0, k.1)
      | inr some ↦
          let both : Some p ≡ Some w = sym (after.mine key some.0 some.1) ∙ is in
          let same : p ≡ w = cc in
          subst (λ q. HasPoint (front ++ Start p ∷ []) (Start q) × ((element : ℕ) × Appends txns key element q)) same (last_stands front (Start p), (some.0, some.1))
    ];
    open_one = λ key element w h appends.
        let Goal : Type 0 = (last_writer new key ≡ Some w) ⊎ HasPoint (front ++ Start p ∷ []) (Commit w) in
        elim (stands_push front (Start p) (Start w) h) as (λ _. Goal) [
          | inr is ↦ let same : p ≡ w = ap place_of_point is in inl (after.mine key element (subst (λ q. Appends txns key element q) (sym same) appends) ∙ ap (λ q. Some q) same)
          | inl inside ↦ elim (nothing_or_some (appends_at txns key p)) as (λ _. Goal) [
            | inl none ↦ elim (writers.open_one key element w inside appends) as (λ _. Goal) [
              | inl e ↦ inl (after.others key none ∙ e)
              | inr e ↦ inr (stands_left front (Start p ∷ []) (Commit w) e)
            ]
            | inr some ↦ elim (cases_eq w p) as (λ _. Goal) [
              | inl same ↦ inl (after.mine key some.0 some.1 ∙ ap (λ q. Some q) (sym same))
              | inr differ ↦ inr (stands_left front (Start p ∷ []) (Commit w) (over_before p key some.0 element w (Start p ∷ back) cut may some.1 inside appends differ))
            ]
          ]
        ];
  }
