-- That points which keep what a read says explain it, and that of two such reads one begins the
-- other.
use Rattle.std.proofs.Common.{◌≡◌, ℕ, true, false, List, [], ◌∷◌, ◌++◌, drop, refl, sym, ap, subst, ◌∙◌, inl, inr, append_assoc}
use Rattle.std.specs.Prelude.{◌⊎◌, ◌≢◌}
use Rattle.std.proofs.lemmas.Bool.{false≢true, cases_Bool}
use Rattle.std.proofs.lemmas.List.Concat.{flat_map-append}
use Rattle.jh_txn.specs.declared.txn.Point.{Point}
use Rattle.jh_txn.specs.declared.txn.Point.TheVariants.{Commit, Start}
use Rattle.jh_txn.specs.declared.txn.Txn.{Txn}
use Rattle.jh_txn.specs.BadReads.{HasNoBadRead}
use Rattle.jh_txn.specs.Dependencies.{MustBeThere}
use Rattle.jh_txn.specs.Keeping.{BeginOneAnother}
use Rattle.jh_txn.specs.SnapshotOrders.{HasPoint, IsEarlier, commits}
use Rattle.jh_txn.specs.Transactions.{AppendOnce, Appends, ComesBefore, Saw, appended, appends_at, appends_before, includes, list_after, ops_at}
use Rattle.jh_txn.proofs.ExplainedLemmas.{IsFront, explained_by}
use Rattle.jh_txn.proofs.KeepingLemmas.{both_begin}
use Rattle.jh_txn.proofs.ListLemmas.{append_nil_right, before_across, in_flat, includes_head, includes_left, once_if, split_at}
use Rattle.jh_txn.proofs.SnapshotKeepingLemmas.{in_front}
use Rattle.jh_txn.proofs.SnapshotOrderLemmas.{commit_stands, commits_before, first_stands, points_across, points_left, second_stands, stands_cases, stands_commits}
use Rattle.jh_txn.proofs.StartLemmas.{commits_append}
use Rattle.jh_txn.proofs.TransactionLemmas.{appends_from_before, appends_split}
use Rattle.jh_txn_snapshots.specs.KeptPoints.{ArePointsOfAll, KeepsReadPoints}
use Rattle.jh_txn_snapshots.proofs.ChainLemmas.{along, opens, strict, then'}
use Rattle.jh_txn_snapshots.proofs.PointLemmas.{cut_at_point, earlier_total, stands_middle}

-- Points.

-- the order of two commits, the second one in front of a cut
commits_in_front : (front rest : List Point) (p q : ℕ) → ((x : Point) → IsEarlier (front ++ rest) x x → ⊥) → IsEarlier (front ++ rest) (Commit p) (Commit q) → HasPoint front (Commit q) → ComesBefore (commits front) p q
commits_in_front [] rest p q distinct h k = absurd k
commits_in_front (Start r ∷ front) rest p q distinct h k = commits_in_front front rest p q (λ x twice. distinct x (inr twice)) (elim h as (λ _. IsEarlier (front ++ rest) (Commit p) (Commit q)) [ inl now ↦ absurd (let bad : Start r ≡ Commit p = now.0 in cc) | inr later ↦ later ]) (elim k as (λ _. HasPoint front (Commit q)) [ inl now ↦ absurd (let bad : Start r ≡ Commit q = now in cc) | inr later ↦ later ])
commits_in_front (Commit r ∷ front) rest p q distinct h k = elim k as (λ _. ComesBefore (r ∷ commits front) p q) [
  | inl same ↦ absurd (distinct (Commit r) (inl (refl, subst (HasPoint (front ++ rest)) (sym same) (elim h as (λ _. HasPoint (front ++ rest) (Commit q)) [ inl now ↦ now.1 | inr later ↦ second_stands (front ++ rest) (Commit p) (Commit q) later ]))))
  | inr there ↦ elim h as (λ _. ComesBefore (r ∷ commits front) p q) [
    | inl now ↦ inl (let same : r ≡ p = (let e : Commit r ≡ Commit p = now.0 in cc) in same, stands_commits front q there)
    | inr later ↦ inr (commits_in_front front rest p q (λ x twice. distinct x (inr twice)) later there)
  ]
]

-- Lists.

nothing_or_some : (xs : List ℕ) → (xs ≡ []) ⊎ ((x : ℕ) × (includes xs x ≡ true))
nothing_or_some [] = inl refl
nothing_or_some (x ∷ xs) = inr (x, includes_head x xs)

nothing_if : (xs : List ℕ) → ((x : ℕ) → includes xs x ≡ true → ⊥) → xs ≡ []
nothing_if [] none = refl
nothing_if (x ∷ xs) none = absurd (none x (includes_head x xs))

flip : (xs ys : List ℕ) → BeginOneAnother xs ys → BeginOneAnother ys xs
flip xs ys h = elim h as (λ _. BeginOneAnother ys xs) [ inl r ↦ inr r | inr r ↦ inl r ]

module _ (txns : List Txn) (points : List Point) (once : AppendOnce txns) (good : HasNoBadRead txns) (all : ArePointsOfAll txns points) where
  must_of : (p : ℕ) → HasPoint points (Commit p) → MustBeThere txns p
  must_of p h = (all.there p).0 (first_stands points (Start p) (Commit p) (all.paired p (inr h)))

  module _ (front back : List Point) (p m key : ℕ) (seen : List ℕ) (cut : points ≡ front ++ Start p ∷ back) (saw : Saw txns p m key seen) (kept : KeepsReadPoints txns points p key seen) where
    once_here : (x : Point) → IsEarlier (front ++ Start p ∷ back) x x → ⊥
    once_here x h = all.distinct x (subst (λ xs. IsEarlier xs x x) (sym cut) h)

    early : (q : ℕ) → includes (commits front) q ≡ true → IsEarlier points (Commit q) (Start p)
    early q h = subst (λ xs. IsEarlier xs (Commit q) (Start p)) (sym cut) (points_across front (Start p ∷ back) (Commit q) (Start p) (commit_stands front q h) (inl refl))

    must_front : (q : ℕ) → includes (commits front) q ≡ true → MustBeThere txns q
    must_front q h = must_of q (first_stands points (Commit q) (Start p) (early q h))

    neighbours : (before after : List ℕ) (one other first second : ℕ) → seen ≡ before ++ one ∷ other ∷ after → Appends txns key one first → Appends txns key other second → first ≢ second → IsEarlier points (Commit first) (Start second)
    neighbours before after one other first second is appends others differ = kept.in_turn one other first second before after is appends others differ

    fits : IsFront txns (commits front) p key seen
    fits = record {
      distinct = once_if (commits front) (λ q h. all.distinct (Commit q) (subst (λ xs. IsEarlier xs (Commit q) (Commit q)) (sym cut) (points_left front (Start p ∷ back) (Commit q) (Commit q) (commits_before front q q h))));
      outside = λ h. all.distinct (Commit p) (then' txns points all (Commit p) (Start p) (Commit p) (early p h) (opens txns points all p (inl saw.0)));
      shown = λ element writer shown appends differ.
          stands_commits front writer (in_front front back (Start p) (Commit writer) once_here (subst (λ xs. IsEarlier xs (Commit writer) (Start p)) cut (kept.shown element writer shown appends differ)));
      lacked = λ element writer lacks appends h.
          let differ : writer ≢ p = λ same. all.distinct (Commit p) (then' txns points all (Commit p) (Start p) (Commit p) (subst (λ q. IsEarlier points (Commit q) (Start p)) same (early writer h)) (opens txns points all p (inl saw.0))) in
          all.distinct (Start p) (then' txns points all (Start p) (Commit writer) (Start p) (kept.lacked element writer lacks appends (must_front writer h) differ) (early writer h));
      in_turn = λ one other first second turn appends others differ h k.
          let before : IsEarlier points (Commit first) (Start second) = strict points first second (along txns points all once good key p m seen saw neighbours one other first second turn appends others) differ in
          let commits' : IsEarlier points (Commit first) (Commit second) = then' txns points all (Commit first) (Start second) (Commit second) before (opens txns points all second (must_front second k)) in
          commits_in_front front (Start p ∷ back) first second once_here (subst (λ xs. IsEarlier xs (Commit first) (Commit second)) cut commits') (commit_stands front second k);
    }

    pub explained_read : seen ≡ list_after txns key (commits front) ++ appends_before txns key p m
    explained_read = explained_by txns once good (commits front) p m key seen saw fits

  -- two reads of a key by one transaction
  same_begin : (p m n key : ℕ) (seen other : List ℕ) → Saw txns p m key seen → KeepsReadPoints txns points p key seen → Saw txns p n key other → KeepsReadPoints txns points p key other → BeginOneAnother seen other
  same_begin p m n key seen other saw kept saw' kept' =
      let r = cut_at_point points (Start p) ((all.there p).1 (inl saw.0)) in
      let base : List ℕ = list_after txns key (commits r.0) in
      let a : base ++ appends_at txns key p ≡ seen ++ appended key (drop m (ops_at txns p)) = whole base m seen (explained_read r.0 r.1 p m key seen r.2 saw kept) in
      let b : base ++ appends_at txns key p ≡ other ++ appended key (drop n (ops_at txns p)) = whole base n other (explained_read r.0 r.1 p n key other r.2 saw' kept') in
      both_begin seen other (appended key (drop m (ops_at txns p))) (appended key (drop n (ops_at txns p))) (sym a ∙ b)
    where
      whole : (base : List ℕ) (k : ℕ) (xs : List ℕ) → xs ≡ base ++ appends_before txns key p k → base ++ appends_at txns key p ≡ xs ++ appended key (drop k (ops_at txns p))
      whole base k xs is =
          ap (λ ys. base ++ ys) (appends_split txns key p k)
          ∙ sym (append_assoc base (appends_before txns key p k) (appended key (drop k (ops_at txns p))))
          ∙ ap (λ ys. ys ++ appended key (drop k (ops_at txns p))) (sym is)

  -- of two readers, where the first one starts before the second one
  module _ (p m q n key : ℕ) (seen other : List ℕ) (saw : Saw txns p m key seen) (kept : KeepsReadPoints txns points p key seen) (saw' : Saw txns q n key other) (kept' : KeepsReadPoints txns points q key other)
      (front middle back : List Point) (cut : points ≡ (front ++ Start p ∷ middle) ++ Start q ∷ back) where
    abbrev base : List ℕ
    base = list_after txns key (commits front)

    abbrev between : List ℕ
    between = list_after txns key (commits middle)

    abbrev own : List ℕ
    own = appends_before txns key p m

    cut_first : points ≡ front ++ Start p ∷ (middle ++ Start q ∷ back)
    cut_first = cut ∙ append_assoc front (Start p ∷ middle) (Start q ∷ back)

    first_is : seen ≡ base ++ own
    first_is = explained_read front (middle ++ Start q ∷ back) p m key seen cut_first saw kept

    second_is : other ≡ (base ++ between) ++ appends_before txns key q n
    second_is =
        explained_read (front ++ Start p ∷ middle) back q n key other cut saw' kept'
        ∙ ap (λ xs. xs ++ appends_before txns key q n) (ap (list_after txns key) (commits_append front (Start p ∷ middle)) ∙ flat_map-append (appends_at txns key) (commits front) (commits middle))

    starts : IsEarlier points (Start p) (Start q)
    starts = subst (λ xs. IsEarlier xs (Start p) (Start q)) (sym cut) (points_across (front ++ Start p ∷ middle) (Start q ∷ back) (Start p) (Start q) (stands_middle front middle (Start p)) (inl refl))

    -- whoever commits between the two starts
    behind : (w : ℕ) → includes (commits middle) w ≡ true → IsEarlier points (Start p) (Commit w)
    behind w h = subst (λ xs. IsEarlier xs (Start p) (Commit w)) (sym cut_first) (in_back front) where
      in_back : (xs : List Point) → IsEarlier (xs ++ Start p ∷ (middle ++ Start q ∷ back)) (Start p) (Commit w)
      in_back [] = inl (refl, first_stands (middle ++ Start q ∷ back) (Commit w) (Start q) (points_across middle (Start q ∷ back) (Commit w) (Start q) (commit_stands middle w h) (inl refl)))
      in_back (x ∷ xs) = inr (in_back xs)

    ahead : (w : ℕ) → includes (commits middle) w ≡ true → IsEarlier points (Commit w) (Start q)
    ahead w h = subst (λ xs. IsEarlier xs (Commit w) (Start q)) (sym cut) (points_across (front ++ Start p ∷ middle) (Start q ∷ back) (Commit w) (Start q) (there front) (inl refl)) where
      there : (xs : List Point) → HasPoint (xs ++ Start p ∷ middle) (Commit w)
      there [] = inr (commit_stands middle w h)
      there (x ∷ xs) = inr (there xs)

    distinct_cut : (x : Point) → IsEarlier ((front ++ Start p ∷ middle) ++ Start q ∷ back) x x → ⊥
    distinct_cut x h = all.distinct x (subst (λ xs. IsEarlier xs x x) (sym cut) h)

    -- the first one commits there if it commits before the second one starts
    first_between : IsEarlier points (Commit p) (Start q) → includes (commits middle) p ≡ true
    first_between h =
        elim (stands_cases front (Start p ∷ middle) (Commit p) (in_front (front ++ Start p ∷ middle) back (Start q) (Commit p) distinct_cut (subst (λ xs. IsEarlier xs (Commit p) (Start q)) cut h))) as (λ _. includes (commits middle) p ≡ true) [
          | inl before ↦ absurd (all.distinct (Commit p) (then' txns points all (Commit p) (Start p) (Commit p) (subst (λ xs. IsEarlier xs (Commit p) (Start p)) (sym cut_first) (points_across front (Start p ∷ (middle ++ Start q ∷ back)) (Commit p) (Start p) before (inl refl))) (opens txns points all p (inl saw.0))))
          | inr more ↦ elim more as (λ _. includes (commits middle) p ≡ true) [
            | inl bad ↦ absurd (let no : Start p ≡ Commit p = bad in cc)
            | inr inside ↦ stands_commits middle p inside
          ]
        ]

    -- where the first one appends to the key
    module _ (mine : ℕ) (wrote : Appends txns key mine p) where
      -- of a writer that commits behind its start it shows nothing
      not_shown : (element w : ℕ) → Appends txns key element w → w ≢ p → IsEarlier points (Start p) (Commit w) → includes seen element ≡ false
      not_shown element w appends differ late = elim (cases_Bool (includes seen element)) as (λ _. includes seen element ≡ false) [
        | inr none ↦ none
        | inl some ↦ absurd (all.distinct (Start p) (then' txns points all (Start p) (Commit w) (Start p) late (kept.shown element w some appends differ)))
      ]

      -- so it commits before that one starts
      before_others : (element w : ℕ) → Appends txns key element w → MustBeThere txns w → w ≢ p → IsEarlier points (Start p) (Commit w) → IsEarlier points (Commit p) (Start w)
      before_others element w appends must differ late = kept.wins mine element w wrote (not_shown element w appends differ late) appends must differ

      must_between : (w : ℕ) → includes (commits middle) w ≡ true → MustBeThere txns w
      must_between w h = must_of w (first_stands points (Commit w) (Start q) (ahead w h))

      -- with its commit between the starts, it is the first writer of the key there
      shows_more : (before after : List ℕ) → commits middle ≡ before ++ p ∷ after → BeginOneAnother seen other
      shows_more before after split = inl (rest, second_is ∙ is) where
        none_before : (x : ℕ) → includes (list_after txns key before) x ≡ true → ⊥
        none_before x h =
            let d = in_flat (appends_at txns key) before x h in
            let inside : includes (commits middle) d.0 ≡ true = subst (λ xs. includes xs d.0 ≡ true) (sym split) (includes_left before (p ∷ after) d.0 d.1) in
            let turn : ComesBefore (commits middle) d.0 p = subst (λ xs. ComesBefore xs d.0 p) (sym split) (before_across before (p ∷ after) d.0 p d.1 (includes_head p after)) in
            let middle_turn : IsEarlier middle (Commit d.0) (Commit p) = commits_before middle d.0 p turn in
            let earlier : IsEarlier points (Commit d.0) (Commit p) = subst (λ xs. IsEarlier xs (Commit d.0) (Commit p)) (sym cut_first) (in_back front (Commit d.0) (Commit p) (points_left middle (Start q ∷ back) (Commit d.0) (Commit p) middle_turn)) in
            let differ : d.0 ≢ p = λ same. all.distinct (Commit p) (subst (λ w. IsEarlier points (Commit w) (Commit p)) same earlier) in
            let over : IsEarlier points (Commit p) (Start d.0) = before_others x d.0 d.2 (must_between d.0 inside) differ (behind d.0 inside) in
            all.distinct (Commit p) (then' txns points all (Commit p) (Start d.0) (Commit p) over (then' txns points all (Start d.0) (Commit d.0) (Commit p) (opens txns points all d.0 (must_between d.0 inside)) earlier))
          where
            in_back : (xs : List Point) (a b : Point) → IsEarlier (middle ++ Start q ∷ back) a b → IsEarlier (xs ++ Start p ∷ (middle ++ Start q ∷ back)) a b
            in_back [] a b h' = inr h'
            in_back (x' ∷ xs) a b h' = inr (in_back xs a b h')

        more : List ℕ
        more = appended key (drop m (ops_at txns p))

        rest : List ℕ
        rest = (more ++ list_after txns key after) ++ appends_before txns key q n

        between_is : between ≡ own ++ (more ++ list_after txns key after)
        between_is =
            ap (list_after txns key) split
            ∙ flat_map-append (appends_at txns key) before (p ∷ after)
            ∙ ap (λ xs. xs ++ (appends_at txns key p ++ list_after txns key after)) (nothing_if (list_after txns key before) none_before)
            ∙ ap (λ xs. xs ++ list_after txns key after) (appends_split txns key p m)
            ∙ append_assoc (appends_before txns key p m) (appended key (drop m (ops_at txns p))) (list_after txns key after)

        is : (base ++ between) ++ appends_before txns key q n ≡ seen ++ rest
        is =
            ap (λ xs. (base ++ xs) ++ appends_before txns key q n) between_is
            ∙ ap (λ xs. xs ++ appends_before txns key q n) (sym (append_assoc base own (more ++ list_after txns key after)))
            ∙ append_assoc (base ++ own) (more ++ list_after txns key after) (appends_before txns key q n)
            ∙ ap (λ xs. xs ++ rest) (sym first_is)

      -- with its commit behind both, nobody else writes the key in between
      shows_less : (includes (commits middle) p ≡ true → ⊥) → BeginOneAnother seen other
      shows_less outside = inr (own, first_is ∙ ap (λ xs. xs ++ own) (sym is)) where
        none_between : (x : ℕ) → includes between x ≡ true → ⊥
        none_between x h =
            let d = in_flat (appends_at txns key) (commits middle) x h in
            let differ : d.0 ≢ p = λ same. outside (subst (λ w. includes (commits middle) w ≡ true) same d.1) in
            let over : IsEarlier points (Commit p) (Start d.0) = before_others x d.0 d.2 (must_between d.0 d.1) differ (behind d.0 d.1) in
            outside (first_between (then' txns points all (Commit p) (Start d.0) (Start q) over (then' txns points all (Start d.0) (Commit d.0) (Start q) (opens txns points all d.0 (must_between d.0 d.1)) (ahead d.0 d.1))))

        none_own : (x : ℕ) → includes (appends_before txns key q n) x ≡ true → ⊥
        none_own x h =
            let must : MustBeThere txns q = inl saw'.0 in
            let late : IsEarlier points (Start p) (Commit q) = then' txns points all (Start p) (Start q) (Commit q) starts (opens txns points all q must) in
            let differ : q ≢ p = λ same. all.distinct (Start p) (subst (λ w. IsEarlier points (Start p) (Start w)) same starts) in
            outside (first_between (before_others x q (appends_from_before txns key q n x h) must differ late))

        is : other ≡ base
        is = second_is
            ∙ ap (λ xs. (base ++ xs) ++ appends_before txns key q n) (nothing_if between none_between)
            ∙ ap (λ xs. (base ++ []) ++ xs) (nothing_if (appends_before txns key q n) none_own)
            ∙ append_nil_right (base ++ [])
            ∙ append_nil_right base

    begin_in_turn : BeginOneAnother seen other
    begin_in_turn = elim (nothing_or_some own) as (λ _. BeginOneAnother seen other) [
      | inl none ↦ inl (between ++ appends_before txns key q n, second_is ∙ append_assoc base between (appends_before txns key q n) ∙ ap (λ xs. xs ++ (between ++ appends_before txns key q n)) (sym (first_is ∙ ap (λ xs. base ++ xs) none ∙ append_nil_right base)))
      | inr some ↦ writes some.0 (subst_own some.0 some.1)
    ] where
      subst_own : (x : ℕ) → includes own x ≡ true → Appends txns key x p
      subst_own x h = appends_from_before txns key p m x h

      writes : (x : ℕ) → Appends txns key x p → BeginOneAnother seen other
      writes x wrote = elim (cases_Bool (includes (commits middle) p)) as (λ _. BeginOneAnother seen other) [
        | inl inside ↦ let r = split_at (commits middle) p inside in shows_more x wrote r.0 r.1 r.2
        | inr outside ↦ shows_less x wrote (λ h. false≢true (sym outside ∙ h))
      ]

  in_turn : (p m q n key : ℕ) (seen other : List ℕ) → Saw txns p m key seen → KeepsReadPoints txns points p key seen → Saw txns q n key other → KeepsReadPoints txns points q key other → IsEarlier points (Start p) (Start q) → BeginOneAnother seen other
  in_turn p m q n key seen other saw kept saw' kept' first =
      let a = cut_at_point points (Start q) ((all.there q).1 (inl saw'.0)) in
      let distinct : (x : Point) → IsEarlier (a.0 ++ Start q ∷ a.1) x x → ⊥ = λ x h. all.distinct x (subst (λ xs. IsEarlier xs x x) (sym a.2) h) in
      let b = cut_at_point a.0 (Start p) (in_front a.0 a.1 (Start q) (Start p) distinct (subst (λ xs. IsEarlier xs (Start p) (Start q)) a.2 first)) in
      begin_in_turn p m q n key seen other saw kept saw' kept' b.0 b.1 a.1 (a.2 ∙ ap (λ xs. xs ++ Start q ∷ a.1) b.2)

  pub begin_one_another : (p m q n key : ℕ) (seen other : List ℕ) → Saw txns p m key seen → KeepsReadPoints txns points p key seen → Saw txns q n key other → KeepsReadPoints txns points q key other → BeginOneAnother seen other
  begin_one_another p m q n key seen other saw kept saw' kept' =
      elim (earlier_total points (Start p) (Start q) ((all.there p).1 (inl saw.0)) ((all.there q).1 (inl saw'.0))) as (λ _. BeginOneAnother seen other) [
        | inl same ↦
            let is : q ≡ p = (let e : Start p ≡ Start q = same in cc) in
            same_begin p m n key seen other saw kept (subst (λ r. Saw txns r n key other) is saw') (subst (λ r. KeepsReadPoints txns points r key other) is kept')
        | inr apart ↦ elim apart as (λ _. BeginOneAnother seen other) [
          | inl first ↦ in_turn p m q n key seen other saw kept saw' kept' first
          | inr second ↦ flip other seen (in_turn q n p m key other seen saw' kept' saw kept second)
        ]
      ]
