-- Times of histories that grow at their end.
use Rattle.std.proofs.Common.{◌≡◌, ◌∙◌, ℕ, ◌+◌, ◌<◌, ◌≤◌, ◌^◌, List, [], ◌∷◌, ◌++◌, length, get_or, take, map, max, Some, None, refl, sym, ap, subst, arith, inl, inr}
use Rattle.std.specs.Prelude.{IsSome, option_map}
use Rattle.std.proofs.lemmas.List.{get_or_at, get_or_append_left, get_or_past, length-map, length-append, map_more, map_push, take-map, take_all}
use Rattle.std.proofs.lemmas.Bool.{cases_eq, cases_lt}
use Rattle.std.proofs.lemmas.List.Elements.{All-push}
use Rattle.std.proofs.lemmas.List.Sums.{fold_push}
use Rattle.std.proofs.lemmas.Option.{slice_get-map, slice_get_read}
use Rattle.jh_ops.specs.Operation.{Operation, operation, operations}
use Rattle.jh_ops.specs.declared.operation.Op.{Op}
use Rattle.jh_plots.specs.Times.{HaveTimes, IsFirstTimeless, greatest, latest, record_moment, nanoseconds}
use Rattle.jh_plots.specs.MomentsInside.{AreTimesOf}
use Rattle.jh_plots.specs.declared.moments.Times.{Times}

-- one operation more
pub one_more : (history : List Op) (i : ℕ) (op : Op) → i < length history → op ≡ get_or history i op → take (i + 1) (operations history) ≡ take i (operations history) ++ operation op ∷ []
one_more history i op less at =
    take-map operation (i + 1) history ∙ map_more operation history i op less ∙ (λ k. sym (take-map operation i history) k ++ operation (sym at k) ∷ [])

pub greatest_push : (xs : List ℕ) (x : ℕ) → greatest (xs ++ x ∷ []) ≡ max (greatest xs) x
greatest_push xs x = fold_push max 0 xs x

latest_push : (records : List Operation) (op : Operation) → latest (records ++ op ∷ []) ≡ max (latest records) (nanoseconds op.time)
latest_push records op = ap greatest (map_push (λ (o : Operation). nanoseconds o.time) records op) ∙ greatest_push (map (λ (o : Operation). nanoseconds o.time) records) (nanoseconds op.time)

-- ---- times that are there

pub have_more : (history : List Op) (i : ℕ) (op : Op) → i < length history → op ≡ get_or history i op → IsSome op.time → HaveTimes (take i (operations history)) → HaveTimes (take (i + 1) (operations history))
have_more history i op less at some have =
    subst HaveTimes (sym (one_more history i op less at)) (All-push (λ (o : Operation). IsSome o.time) (take i (operations history)) (operation op) have some)

pub timeless_at : (history : List Op) (i : ℕ) (op : Op) → i < length history → op ≡ get_or history i op → op.time ≡ None → HaveTimes (take i (operations history)) → IsFirstTimeless (operations history) i
timeless_at history i op less at none have = record {
  timeless = ap (option_map (λ (o : Operation). o.time)) (slice_get-map operation history i ∙ ap (option_map operation) (slice_get_read history (length history) i op refl less at)) ∙ ap Some none;
  before = have;
}

pub have_all : (history : List Op) (i : ℕ) → length history ≤ i → HaveTimes (take i (operations history)) → HaveTimes (operations history)
have_all history i past have = subst HaveTimes (take_all i (operations history) (let long = length-map history operation in omega (arith, long, past))) have

-- ---- moments

-- the moments of the records so far, and the latest of them
pub record Timed (history : List Operation) (i latest_time : ℕ) (moments : List ℕ) : Type 0 where
  pub long : length moments ≡ i
  pub latest : latest_time ≡ latest (take i history)
  pub each : (index : ℕ) → index < i → get_or moments index 0 ≡ record_moment history index
  pub fits : latest_time < 2 ^ 63
  pub within : (index : ℕ) → get_or moments index 0 ≤ latest_time

pub timed_none : (history : List Operation) → Timed history 0 0 []
timed_none history = record { long = refl; latest = refl; each = λ index low. absurd (omega arith); fits = omega arith; within = λ index. omega arith }

pub timed_more : (history : List Op) (i last next : ℕ) (moments longer : List ℕ) (op : Op) → i < length history → op ≡ get_or history i op → next ≡ max last (nanoseconds op.time) → nanoseconds op.time < 2 ^ 63 → longer ≡ moments ++ next ∷ []
    → Timed (operations history) i last moments → Timed (operations history) (i + 1) next longer
timed_more history i last next moments longer op less at is fits pushed timed =
    let here : next ≡ latest (take (i + 1) (operations history)) =
    is ∙ ap (λ m. max m (nanoseconds op.time)) timed.latest ∙ sym (latest_push (take i (operations history)) (operation op)) ∙ ap latest (sym (one_more history i op less at)) in
    let from : last ≤ next = omega (arith, is) in
    subst (Timed (operations history) (i + 1) next) (sym pushed) (record {
      long = length-append moments (next ∷ []) ∙ ap (λ n. n + 1) timed.long;
      latest = here;
      each = λ index low. elim (cases_lt index i) as (λ _. get_or (moments ++ next ∷ []) index 0 ≡ record_moment (operations history) index) [
        | inl before ↦ get_or_append_left moments (next ∷ []) 0 index (omega (arith, timed.long, before)) ∙ timed.each index before
        | inr behind ↦
            let same : index ≡ i = omega (arith, low, behind) in
            get_or_at moments next [] 0 index (timed.long ∙ sym same) ∙ here ∙ ap (λ k. latest (take (k + 1) (operations history))) (sym same)
      ];
      fits = omega (arith, is, fits, timed.fits);
      within = λ index. elim (cases_lt index i) as (λ _. get_or (moments ++ next ∷ []) index 0 ≤ next) [
        | inl before ↦ let left = get_or_append_left moments (next ∷ []) 0 index (omega (arith, timed.long, before)) in let low = timed.within index in omega (arith, left, low, from)
        | inr behind ↦ elim (cases_eq index i) as (λ _. get_or (moments ++ next ∷ []) index 0 ≤ next) [
          | inl same ↦ let there = get_or_at moments next [] 0 index (timed.long ∙ sym same) in omega (arith, there)
          | inr apart ↦ let past = get_or_past (moments ++ next ∷ []) index 0 (let long = length-append moments (next ∷ []) in omega (arith, long, timed.long, behind, apart)) in omega (arith, past)
        ]
      ];
    })

pub times_all : (history : List Op) (i last : ℕ) (times : Times) → length history ≤ i → i ≤ length history → times.end ≡ max 1 last → Timed (operations history) i last times.moments.items → AreTimesOf (operations history) times
times_all history i last times past within is timed =
    let long : length (operations history) ≡ length history = length-map history operation in
    let all : i ≡ length (operations history) = omega (arith, past, within, long) in
    let whole : latest (take i (operations history)) ≡ latest (operations history) = ap latest (take_all i (operations history) (omega (arith, all))) in
    record {
      long = timed.long ∙ all;
      each = λ index low. timed.each index (omega (arith, all, low));
      end = is ∙ ap (max 1) (timed.latest ∙ whole);
      some = omega (arith, is);
      fits = omega (arith, is, timed.fits);
      within = λ index. (let low = timed.within index in omega (arith, is, low));
    }
