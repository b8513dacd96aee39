-- That an order which keeps each dependency is a serial order, where no read is bad.
use Rattle.std.proofs.Common.{◌≡◌, ℕ, true, List, [], ◌∷◌, ◌++◌, drop, get_or, append_assoc, refl, sym, ap, subst, ◌∙◌, inl, inr}
use Rattle.std.specs.Prelude.{◌≢◌}
use Rattle.std.proofs.lemmas.Bool.{cases_eq}
use Rattle.std.proofs.lemmas.List.Concat.{flat_map-append}
use Rattle.std.proofs.lemmas.List.Elements.{All-from_get_or}
use Rattle.jh_txn.specs.declared.anomaly.BadRead.TheVariants.{AbortedRead}
use Rattle.jh_txn.specs.declared.dependency.Why.TheVariants.{ReadWrite, RealTime, WriteRead, WriteWrite}
use Rattle.jh_txn.specs.declared.model.ConsistencyModel.{ConsistencyModel}
use Rattle.jh_txn.specs.declared.txn.Outcome.TheVariants.{Done, Failed}
use Rattle.jh_txn.specs.declared.txn.Txn.{Txn}
use Rattle.jh_txn.specs.BadReads.{HasNoBadRead}
use Rattle.jh_txn.specs.Keeping.{BeginOneAnother, IsOfAll, KeepsDependencies, KeepsRead}
use Rattle.jh_txn.specs.Models.{keeps_real_time}
use Rattle.jh_txn.specs.RealTime.{CompleteAfterInvocation, PrecedesInTime}
use Rattle.jh_txn.specs.SerialOrders.{IsExplainedBy, IsSerialOrderFor}
use Rattle.jh_txn.specs.Transactions.{AppendOnce, ComesBefore, HasNoRepeat, IsFailedAt, IsPossibleAt, Saw, appended, appends_at, appends_before, includes, list_after, ops_at}
use Rattle.jh_txn.proofs.ExplainedLemmas.{IsFront, explained_by}
use Rattle.jh_txn.proofs.ListLemmas.{before_across, before_cases, before_first, before_itself, before_second, before_trans, includes_head, includes_left, not_in_front, once_left, place_included, split_at}
use Rattle.jh_txn.proofs.TransactionLemmas.{appends_split, not_before_itself}

-- in front of a place, in a list with none twice
pub stands_in_front : (front back : List ℕ) (p q : ℕ) → HasNoRepeat (front ++ p ∷ back) → ComesBefore (front ++ p ∷ back) q p → includes front q ≡ true
stands_in_front front back p q once h = elim (before_cases front (p ∷ back) q p h) as (λ _. includes front q ≡ true) [
  | inl inside ↦ before_first front q p inside
  | inr more ↦ elim more as (λ _. includes front q ≡ true) [
    | inl across ↦ across.0
    | inr behind ↦ absurd (twice (before_second' behind))
  ]
] where
  before_second' : ComesBefore (p ∷ back) q p → includes back p ≡ true
  before_second' behind = elim behind as (λ _. includes back p ≡ true) [ inl now ↦ now.1 | inr later ↦ before_second back q p later ]

  twice : includes back p ≡ true → ⊥
  twice later = before_itself (front ++ p ∷ back) p once (subst (λ xs. ComesBefore xs p p) refl (in_back front later)) where
    in_back : (xs : List ℕ) → includes back p ≡ true → ComesBefore (xs ++ p ∷ back) p p
    in_back [] k = inl (refl, k)
    in_back (x ∷ xs) k = inr (in_back xs k)

pub front_before : (front rest : List ℕ) (a b : ℕ) → HasNoRepeat (front ++ rest) → ComesBefore (front ++ rest) a b → includes front b ≡ true → ComesBefore front a b
front_before front rest a b once h here = elim (before_cases front rest a b h) as (λ _. ComesBefore front a b) [
  | inl inside ↦ inside
  | inr more ↦ elim more as (λ _. ComesBefore front a b) [
    | inl across ↦ absurd (before_itself (front ++ rest) b once (before_across front rest b b here across.1))
    | inr behind ↦ absurd (before_itself (front ++ rest) b once (before_across front rest b b here (before_second rest a b behind)))
  ]
]

-- Two lists that begin one list begin one another.
pub both_begin : (xs ys rest others : List ℕ) → xs ++ rest ≡ ys ++ others → BeginOneAnother xs ys
both_begin [] ys rest others is = inl (ys, refl)
both_begin (x ∷ xs) [] rest others is = inr (x ∷ xs, refl)
both_begin (x ∷ xs) (y ∷ ys) rest others is =
    let first : x ≡ y = cc in
    let later : xs ++ rest ≡ ys ++ others = cc in
    elim (both_begin xs ys rest others later) as (λ _. BeginOneAnother (x ∷ xs) (y ∷ ys)) [
      | inl r ↦ inl (r.0, ap (λ zs. y ∷ zs) r.1 ∙ ap (λ z. z ∷ (xs ++ r.0)) (sym first))
      | inr r ↦ inr (r.0, ap (λ zs. x ∷ zs) r.1 ∙ ap (λ z. z ∷ (ys ++ r.0)) first)
    ]

module _ (txns : List Txn) (order : List ℕ) (once : AppendOnce txns) (good : HasNoBadRead txns) (all : IsOfAll txns order) where
  -- a read that the order keeps fits those in front of its transaction
  fits : (front back : List ℕ) (p m key : ℕ) (seen : List ℕ) → order ≡ front ++ p ∷ back → Saw txns p m key seen → KeepsRead txns order p key seen → IsFront txns front p key seen
  fits front back p m key seen cut saw kept = record {
    distinct = once_left front (p ∷ back) once_here;
    outside = not_in_front front back p once_here;
    shown = λ element writer shown appends differ. stands_in_front front back p writer once_here (cut_too writer p (kept.shown element writer shown appends differ));
    lacked = λ element writer lacks appends here.
        let there : includes order writer ≡ true = subst (λ xs. includes xs writer ≡ true) (sym cut) (includes_left front (p ∷ back) writer here) in
        let differ : writer ≢ p = λ same. not_in_front front back p once_here (subst (λ q. includes front q ≡ true) same here) in
        let behind : ComesBefore order p writer = kept.lacked element writer lacks appends ((all.there writer).0 there) differ in
        before_itself (front ++ p ∷ back) p once_here (before_trans (front ++ p ∷ back) p writer p once_here (cut_too p writer behind) (before_across front (p ∷ back) writer p here (includes_head p back)));
    in_turn = λ one other first second turn appends others differ here there.
        front_before front (p ∷ back) first second once_here (cut_too first second (kept.in_turn one other first second turn appends others differ)) there;
  } where
    once_here : HasNoRepeat (front ++ p ∷ back)
    once_here = subst HasNoRepeat cut all.distinct

    cut_too : (q r : ℕ) → ComesBefore order q r → ComesBefore (front ++ p ∷ back) q r
    cut_too q r h = subst (λ xs. ComesBefore xs q r) cut h

  pub explained_read : (front back : List ℕ) (p m key : ℕ) (seen : List ℕ) → order ≡ front ++ p ∷ back → Saw txns p m key seen → KeepsRead txns order p key seen → seen ≡ list_after txns key front ++ appends_before txns key p m
  explained_read front back p m key seen cut saw kept = explained_by txns once good front p m key seen saw (fits front back p m key seen cut saw kept)

  -- what a read that is kept saw begins the list behind all
  pub begins_all : (p m key : ℕ) (seen : List ℕ) → Saw txns p m key seen → KeepsRead txns order p key seen → (rest : List ℕ) × (list_after txns key order ≡ seen ++ rest)
  begins_all p m key seen saw kept =
      let r = split_at order p ((all.there p).1 (inl saw.0)) in
      let is = explained_read r.0 r.1 p m key seen r.2 saw kept in
      let more : List ℕ = appended key (drop m (ops_at txns p)) in (
        more ++ list_after txns key r.1,
        ap (list_after txns key) r.2 ∙ flat_map-append (appends_at txns key) r.0 (p ∷ r.1)
            ∙ ap (λ xs. list_after txns key r.0 ++ (xs ++ list_after txns key r.1)) (appends_split txns key p m)
            ∙ ap (λ xs. list_after txns key r.0 ++ xs) (append_assoc (appends_before txns key p m) more (list_after txns key r.1))
            ∙ sym (append_assoc (list_after txns key r.0) (appends_before txns key p m) (more ++ list_after txns key r.1))
            ∙ ap (λ xs. xs ++ (more ++ list_after txns key r.1)) (sym is),
      )

  pub begin_one_another : (p m q n key : ℕ) (seen other : List ℕ) → Saw txns p m key seen → KeepsRead txns order p key seen → Saw txns q n key other → KeepsRead txns order q key other → BeginOneAnother seen other
  begin_one_another p m q n key seen other saw kept saw' kept' =
      let a = begins_all p m key seen saw kept in
      let b = begins_all q n key other saw' kept' in
      both_begin seen other a.0 b.0 (sym a.1 ∙ b.1)

module _ (txns : List Txn) (model : ConsistencyModel) (order : List ℕ) (once : AppendOnce txns) (ends : CompleteAfterInvocation txns) (good : HasNoBadRead txns) (all : IsOfAll txns order) (keeps : KeepsDependencies txns model order) where
  kept_read : (p m key : ℕ) (seen : List ℕ) → Saw txns p m key seen → KeepsRead txns order p key seen
  kept_read p m key seen saw = record {
    shown = λ element writer shown appends differ. keeps (WriteRead key element) writer p (record { differ = differ; first_there = inr (key, element, p, appends, (m, seen, saw, shown)); second_there = inl saw.0; reason = (appends, (m, seen, saw, shown)) });
    lacked = λ element writer lacks appends must differ. keeps (ReadWrite key element) p writer (record { differ = λ same. differ (sym same); first_there = inl saw.0; second_there = must; reason = ((m, seen, saw, lacks), appends) });
    in_turn = λ one other first second turn appends others differ. keeps (WriteWrite key one) first second (record {
      differ = differ;
      first_there = inr (key, one, p, appends, (m, seen, saw, before_first seen one other turn));
      second_there = inr (key, other, p, others, (m, seen, saw, before_second seen one other turn));
      reason = (appends, other, others, inl (p, m, seen, saw, turn));
    });
  }

  explained : (front back : List ℕ) (p : ℕ) → order ≡ front ++ p ∷ back → IsExplainedBy txns front p
  explained front back p cut m key seen saw = explained_read txns order once good all front back p m key seen cut saw (kept_read p m key seen saw)

  not_failed : (place : ℕ) → includes order place ≡ true → IsFailedAt txns place → ⊥
  not_failed place there failed = elim ((all.there place).0 there) as (λ _. ⊥) [
    | inl done ↦ let bad : Done ≡ Failed = sym done ∙ failed in cc
    | inr shown ↦ good shown.2 shown.4.0 AbortedRead (shown.0, shown.4.1, shown.4.2, (shown.1, place, shown.4.3, shown.3, failed))
  ]

  in_time : keeps_real_time model ≡ true → (first second : ℕ) → PrecedesInTime txns first second → includes order second ≡ true → ComesBefore order first second
  in_time asked first second late there = elim (cases_eq first second) as (λ _. ComesBefore order first second) [
    | inl same ↦ absurd (not_before_itself txns ends first (subst (λ q. PrecedesInTime txns first q) (sym same) late))
    | inr differ ↦ keeps RealTime first second (record { differ = differ; first_there = inl late.0; second_there = (all.there second).0 there; reason = (asked, late) })
  ]

  pub suffices_for : IsSerialOrderFor txns (keeps_real_time model) order
  suffices_for = record {
    serial = record {
      distinct = all.distinct;
      possible = All-from_get_or (IsPossibleAt txns) order 0 (λ i low. not_failed (get_or order i 0) (place_included order i low));
      whole = λ place done. (all.there place).1 (inl done);
      reads = explained;
    };
    timely = in_time;
  }
