-- The graph as it is made.
use Rattle.std.proofs.Common.{◌≡◌, ℕ, ◌+◌, ◌<◌, Bool, true, Option, Some, List, [], length, subst, ◌∙◌, inl, inr, arith}
use Rattle.std.specs.Prelude.{◌⊎◌, ◌↔◌, Vec, slice_get}
use Rattle.std.specs.declared.alloc.Global.{Global}
use Rattle.std.proofs.lemmas.Option.{none-some, slice_get_within}
use Rattle.jh_txn.specs.declared.dependency.Step.{Step}
use Rattle.jh_txn.specs.declared.dependency.Why.{Why}
use Rattle.jh_txn.specs.declared.txn.Txn.{Txn}
use Rattle.jh_txn_graph.specs.Graphs.{HasStep, steps_to}
use Rattle.jh_txn_seen.specs.declared.done_reads.DoneRead.{DoneRead}
use Rattle.jh_txn_seen.specs.declared.middles.Middle.{Middle}
use Rattle.jh_txn_edges.specs.Graph.{IsGraphOf}
use Rattle.jh_txn_seen.specs.Marks.{IsMarked, IsReadElement}
use Rattle.jh_txn_seen.specs.Middles.{AreMiddlesOf}
use Rattle.jh_txn_edges.specs.MiddleSteps.{IsMiddleStep}
use Rattle.jh_txn_edges.specs.Moments.{AreMoments, IsTimeStep}
use Rattle.jh_txn_edges.specs.Steps.{IsAlongStep, IsReadStep}
use Rattle.jh_txn_edges.specs.Inside.{AddsSteps}
use Rattle.jh_txn_seen.proofs.KnownLemmas.{appends_below}
use Rattle.jh_txn_edges.proofs.StepLemmas.{EitherStep, adds_three}
use Rattle.jh_txn_writers.specs.declared.writer.Writer.{Writer}

-- what is added to a graph of no steps is all that there is
pub only_added : (P : ℕ → Why → ℕ → Type 0) (old new : List (Vec Step Global)) → ((node : ℕ) → steps_to old node ≡ []) → AddsSteps P old new → (p : ℕ) (w : Why) (t : ℕ) → HasStep new p w t ↔ P p w t
only_added P old new none a p w t = (
  λ h. elim (a.only p w t h) as (λ _. P p w t) [
    | inl before ↦ absurd (none-some before.0 (subst (λ row. slice_get row before.1.0 ≡ Some before.0) (none t) before.1.1))
    | inr here ↦ here
  ],
  a.added p w t,
)

pub middle_low : (txns : List Txn) (marks : List Bool) (longest : List (Option DoneRead)) (reads : List DoneRead) (upto : ℕ) (middles : List Middle) → AreMiddlesOf txns marks longest reads upto middles → (key : ℕ) (middle : Middle) → slice_get middles key ≡ Some middle → middle.node < length txns + length longest
middle_low txns marks longest reads upto middles are key middle is = elim (are.right key middle is) as (λ _. middle.node < length txns + length longest) [
  | inl both ↦ omega (arith, appends_below txns key both.0 middle.node both.3.0)
  | inr hub ↦ omega (arith, hub.0, slice_get_within middles key middle is, are.count)
]

module _ (txns : List Txn) (writers : List (Option Writer)) (there : List Bool) (reads : List DoneRead) (longest : List (Option DoneRead)) (real_time : Bool) (marks : List Bool) (middles : List Middle) (moments : List ℕ) (base one two graph : List (Vec Step Global)) where
  pub graph_made : ((e : ℕ) → IsMarked marks e ↔ IsReadElement longest e) → AreMiddlesOf txns marks longest reads (length reads) middles → (real_time ≡ true → AreMoments txns moments) → length base ≡ length txns + length longest + length moments → ((node : ℕ) → steps_to base node ≡ [])
      → AddsSteps (EitherStep (IsAlongStep writers longest) (IsReadStep writers longest reads)) base one → AddsSteps (IsMiddleStep writers there marks longest middles reads) one two → AddsSteps (IsTimeStep txns there moments (length txns + length longest) real_time) two graph → IsGraphOf txns writers there reads longest real_time graph
  graph_made read middle times count none a b d =
      let all = adds_three (EitherStep (IsAlongStep writers longest) (IsReadStep writers longest reads)) (IsMiddleStep writers there marks longest middles reads) (IsTimeStep txns there moments (length txns + length longest) real_time) base one two graph a b d in
      record {
        marks = marks;
        read = read;
        middles = middles;
        middle = middle;
        moments = moments;
        times = times;
        count = all.count ∙ count;
        steps = λ p w t.
            let both = only_added (EitherStep (EitherStep (IsAlongStep writers longest) (IsReadStep writers longest reads)) (EitherStep (IsMiddleStep writers there marks longest middles reads) (IsTimeStep txns there moments (length txns + length longest) real_time))) base graph none all p w t in (
              λ h. elim (both.0 h) as (λ _. IsAlongStep writers longest p w t ⊎ (IsReadStep writers longest reads p w t ⊎ (IsMiddleStep writers there marks longest middles reads p w t ⊎ IsTimeStep txns there moments (length txns + length longest) real_time p w t))) [
                | inl early ↦ elim early as (λ _. IsAlongStep writers longest p w t ⊎ (IsReadStep writers longest reads p w t ⊎ (IsMiddleStep writers there marks longest middles reads p w t ⊎ IsTimeStep txns there moments (length txns + length longest) real_time p w t))) [ inl x ↦ inl x | inr x ↦ inr (inl x) ]
                | inr late ↦ inr (inr late)
              ],
              λ h. both.1 (elim h as (λ _. EitherStep (EitherStep (IsAlongStep writers longest) (IsReadStep writers longest reads)) (EitherStep (IsMiddleStep writers there marks longest middles reads) (IsTimeStep txns there moments (length txns + length longest) real_time)) p w t) [
                | inl x ↦ inl (inl x)
                | inr more ↦ elim more as (λ _. EitherStep (EitherStep (IsAlongStep writers longest) (IsReadStep writers longest reads)) (EitherStep (IsMiddleStep writers there marks longest middles reads) (IsTimeStep txns there moments (length txns + length longest) real_time)) p w t) [ inl x ↦ inl (inr x) | inr x ↦ inr x ]
              ]),
            );
      }
