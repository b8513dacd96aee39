-- The first passage that has none, one after another, and what it says of the history.
use Rattle.std.proofs.Common.{◌≡◌, ℕ, ◌+◌, ◌<◌, ◌≤◌, Bool, true, false, cond, nat_le, List, [], ◌∷◌, ◌++◌, length, take, get_or, refl, sym, ap, subst, ◌∙◌, arith}
use Rattle.std.specs.Prelude.{Option, Some, None, IfSome, option_map, slice_get, All, IsPermutation}
use Rattle.std.specs.List.{filter_map, cons_option}
use Rattle.std.proofs.lemmas.Bool.{leb-true, leb-false}
use Rattle.std.proofs.lemmas.List.Elements.{All-nil, All-cons, All-push, All-weaker, All-contains, Contains-push, Contains-append_left, filter_map-append}
use Rattle.std.proofs.lemmas.List.{length-map, take_more}
use Rattle.std.proofs.lemmas.Option.{slice_get_within}
use Rattle.std.proofs.lemmas.List.Sorted.{All-permutation, Contains-permutation, IsPermutation-sym, length_permutation}
use Rattle.jh_edn.specs.Edn.{Edn}
use Rattle.jh_edn.specs.Normal.{normal}
use Rattle.jh_ops.specs.Operation.{Operation}
use Rattle.jh_ops.specs.declared.pairs.Pair.{Pair}
use Rattle.jh_check.specs.CounterResults.{end_place}
use Rattle.jh_queue.specs.Queue.{Passage, passage_at, is_ok_dequeue, dequeue_of, passages_out, passages_in, finds_none, EachFinds, IsFirstWithout}
use Rattle.jh_queue.specs.QueueInside.{IsFirstWithNone, first_with, passage, passages}
use Rattle.jh_queue.specs.declared.passages.ValueAt.{ValueAt}
use Rattle.jh_queue.proofs.CountLemmas.{none_alike, passages_permuted}

-- ---- one operation more, or one passage

pub passages_more : (of : Pair → Option Passage) (pairs : List Pair) (i : ℕ) (d : Pair) → i < length pairs
    → filter_map of (take (i + 1) pairs) ≡ filter_map of (take i pairs) ++ cons_option (of (get_or pairs i d)) []
passages_more of pairs i d less = ap (filter_map of) (take_more pairs i d less) ∙ filter_map-append of (take i pairs) (get_or pairs i d ∷ [])

pub first_more : (none : Passage → Bool) (xs : List Passage) (first : Option ℕ) (m : Passage) → IsFirstWithNone none xs first → (b : Bool) → none m ≡ b → IsFirstWithNone none (xs ++ m ∷ []) (first_with first b m.place)
first_more none xs None m h false e = All-push (λ other. none other ≡ false) xs m h e
first_more none xs None m h true e = (
  m,
  Contains-push xs m,
  refl,
  e,
  All-push (λ other. other.place < m.place → none other ≡ false) xs m (All-weaker (λ other. none other ≡ false) (λ other. other.place < m.place → none other ≡ false) (λ other is less. is) xs h) (λ less. absurd (omega arith)),
)
first_more none xs (Some known) m h false e =
    (h.0, Contains-append_left xs (m ∷ []) h.0 h.1, h.2, h.3, All-push (λ other. other.place < known → none other ≡ false) xs m h.4 (λ less. e))
first_more none xs (Some known) m h true e =
    elim (nat_le known m.place) as (λ t. nat_le known m.place ≡ t → IsFirstWithNone none (xs ++ m ∷ []) (cond t (Some known) (Some m.place))) [
      | true ↦ λ t.
          let le : known ≤ m.place = leb-true known m.place t in
          (h.0, Contains-append_left xs (m ∷ []) h.0 h.1, h.2, h.3, All-push (λ other. other.place < known → none other ≡ false) xs m h.4 (λ less. absurd (omega arith)))
      | false ↦ λ t.
          let low : m.place < known = leb-false known m.place t in (
            m,
            Contains-push xs m,
            refl,
            e,
            All-push (λ other. other.place < m.place → none other ≡ false) xs m (All-weaker (λ other. other.place < known → none other ≡ false) (λ other. other.place < m.place → none other ≡ false) (λ other is less. is (omega arith)) xs h.4) (λ less. absurd (omega arith)),
          )
    ] refl

-- ---- in another order

module _ (ins ins' outs outs' : List Passage) (p : IsPermutation ins ins') (q : IsPermutation outs outs') where
  alike : (out : Passage) → finds_none ins outs out ≡ finds_none ins' outs' out
  alike out = sym (none_alike ins ins' outs outs' p q out)

  pub each_finds : IsFirstWithNone (finds_none ins' outs') outs' None → EachFinds ins outs
  each_finds h =
      All-permutation (λ out. finds_none ins outs out ≡ false) outs' outs (IsPermutation-sym outs outs' q)
      (All-weaker (λ out. finds_none ins' outs' out ≡ false) (λ out. finds_none ins outs out ≡ false) (λ out e. alike out ∙ e) outs' h)

  pub first_is : (place : ℕ) → IsFirstWithNone (finds_none ins' outs') outs' (Some place) → (out : Passage) × IsFirstWithout ins outs out × (out.place ≡ place)
  first_is place h =
      let back = IsPermutation-sym outs outs' q in (
        h.0,
        record {
          there = Contains-permutation outs' outs h.0 back h.1;
          without = alike h.0 ∙ h.3;
          first = All-permutation (λ other. other.place < h.0.place → finds_none ins outs other ≡ false) outs' outs back
              (All-weaker (λ other. other.place < place → finds_none ins' outs' other ≡ false) (λ other. other.place < h.0.place → finds_none ins outs other ≡ false)
              (λ other is less. alike other ∙ is (omega (arith, h.2))) outs' h.4);
        },
        h.2,
      )

-- ---- a dequeue is within the history

within_at : (history : List Operation) (place : ℕ) → IfSome (passage_at history place) (λ m. m.place < length history)
within_at history place = go (slice_get history place) refl where
  go : (o : Option Operation) → slice_get history place ≡ o → IfSome {T = Passage} (option_map (λ (value : Edn). record { value = normal value; place = place }) (option_map (λ (op : Operation). op.value) o)) (λ m. m.place < length history)
  go None e = tt
  go (Some op) e = slice_get_within history place op e

within_of : (history : List Operation) (pair : Pair) → IfSome (dequeue_of history pair) (λ m. m.place < length history)
within_of history pair =
    elim (is_ok_dequeue history pair) as (λ b. IfSome (cond b (passage_at history (end_place pair)) None) (λ m. m.place < length history)) [
      | true ↦ within_at history (end_place pair)
      | false ↦ tt
    ]

more_within : (history : List Operation) (o : Option Passage) (ms : List Passage) → IfSome o (λ m. m.place < length history) → All (λ m. m.place < length history) ms → All (λ m. m.place < length history) (cons_option o ms)
more_within history None ms h all = all
more_within history (Some m) ms h all = All-cons (λ m. m.place < length history) m ms h all

all_within : (history : List Operation) (pairs : List Pair) → All (λ m. m.place < length history) (passages_out history pairs)
all_within history [] = All-nil (λ m. m.place < length history)
all_within history (pair ∷ pairs) = more_within history (dequeue_of history pair) (passages_out history pairs) (within_of history pair) (all_within history pairs)

-- the first that finds none is a record of the history
pub first_within : (history : List Operation) (pairs : List Pair) (outs : List Passage) (none : Passage → Bool) (place : ℕ)
    → IsPermutation (passages_out history pairs) outs → IsFirstWithNone none outs (Some place) → place < length history
first_within history pairs outs none place q h =
    let less : h.0.place < length history = All-contains (λ m. m.place < length history) outs h.0 (All-permutation (λ m. m.place < length history) (passages_out history pairs) outs q (all_within history pairs)) h.1 in
    omega (arith, less, h.2)

-- ---- what is found of a history, by its passages in order

module _ (history : List Operation) (pairs : List Pair) (ins ins' outs outs' : List ValueAt)
    (put : passages ins ≡ passages_in history pairs) (taken : passages outs ≡ passages_out history pairs) (p : IsPermutation ins ins') (q : IsPermutation outs outs') where
  ins_permuted : IsPermutation (passages_in history pairs) (passages ins')
  ins_permuted = subst (λ w. IsPermutation w (passages ins')) put (passages_permuted ins ins' p)

  outs_permuted : IsPermutation (passages_out history pairs) (passages outs')
  outs_permuted = subst (λ w. IsPermutation w (passages outs')) taken (passages_permuted outs outs' q)

  pub found_within : (place : ℕ) → IsFirstWithNone (finds_none (passages ins') (passages outs')) (passages outs') (Some place) → place < length history
  found_within place h = first_within history pairs (passages outs') (finds_none (passages ins') (passages outs')) place outs_permuted h

  pub found_first : (place : ℕ) → IsFirstWithNone (finds_none (passages ins') (passages outs')) (passages outs') (Some place)
      → (out : Passage) × IsFirstWithout (passages_in history pairs) (passages_out history pairs) out × (out.place ≡ place)
  found_first place h = first_is (passages_in history pairs) (passages ins') (passages_out history pairs) (passages outs') ins_permuted outs_permuted place h

  pub found_none : IsFirstWithNone (finds_none (passages ins') (passages outs')) (passages outs') None → EachFinds (passages_in history pairs) (passages_out history pairs)
  found_none h = each_finds (passages_in history pairs) (passages ins') (passages_out history pairs) (passages outs') ins_permuted outs_permuted h

  pub found_count : length outs' ≡ length (passages_out history pairs)
  found_count = sym (length-map outs' passage) ∙ length_permutation (passages_out history pairs) (passages outs') outs_permuted
