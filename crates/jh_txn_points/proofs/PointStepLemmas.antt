-- How the steps of points add up.
use Rattle.std.proofs.Common.{◌≡◌, ℕ, ◌+◌, ◌<◌, ◌≤◌, Bool, Option, Some, None, List, [], length, sym, ap, subst, ◌∙◌, inl, inr, arith, refl}
use Rattle.std.specs.Prelude.{◌≢◌, ◌⊎◌, ◌↔◌, Vec, slice_get, slice_index_or, unwrap_or, option_map}
use Rattle.std.specs.declared.alloc.Global.{Global}
use Rattle.std.proofs.lemmas.Option.{none-some, same_Some, slice_get_within}
use Rattle.jh_txn.specs.declared.dependency.Step.{Step}
use Rattle.jh_txn.specs.declared.dependency.Why.{Why}
use Rattle.jh_txn.specs.declared.dependency.Why.TheVariants.{FirstCommitter, ReadWrite, RealTime}
use Rattle.jh_txn_edges.specs.Inside.{AddsSteps, IsThis}
use Rattle.jh_txn_edges.proofs.GraphLemmas.{only_added}
use Rattle.jh_txn_edges.proofs.StepLemmas.{EitherStep, StepsBelow, adds_if, adds_more, adds_then, adds_three, at_last}
use Rattle.jh_txn_graph.specs.Graphs.{HasStep, IsStepTo, steps_to}
use Rattle.jh_txn_points.specs.Inside.{IsStepOfRow}
use Rattle.jh_txn_points.specs.Points.{IsArriving, IsLeaving}
use Rattle.jh_txn_points.specs.PointSteps.{IsAnyHubStep, IsBehindStep, IsFirstCommitterStep, IsHubStep, IsKeyHub, IsLastStep, IsStepOfPoints, IsUnreadPointStep, IsWriterStep, last_why}
use Rattle.jh_txn_seen.specs.declared.done_reads.DoneRead.{DoneRead}
use Rattle.jh_txn_seen.specs.declared.middles.Middle.{Middle}
use Rattle.jh_txn_seen.specs.Marks.{IsMarked}
use Rattle.jh_txn_seen.specs.Middles.{IsFullRead}
use Rattle.jh_txn_seen.specs.Places.{writer_place}
use Rattle.jh_txn_writers.specs.Writers.{EndsWith, writer_at}
use Rattle.jh_txn_writers.specs.declared.writer.Writer.{Writer}

-- Each step has one node where it leaves, and one where it arrives.
pub leaving_one : (count : ℕ) (why : Why) (from a b : ℕ) → IsLeaving count why from a → IsLeaving count why from b → a ≡ b
leaving_one count why from a b h k = elim h as (λ _. a ≡ b) [
  | inl low ↦ elim k as (λ _. a ≡ b) [ inl also ↦ low.1 ∙ sym also.1 | inr past ↦ absurd (omega (arith, low.0, past.0)) ]
  | inr past ↦ elim k as (λ _. a ≡ b) [ inl low ↦ absurd (omega (arith, low.0, past.0)) | inr also ↦ past.1 ∙ sym also.1 ]
]

pub arriving_one : (count : ℕ) (why : Why) (to a b : ℕ) → IsArriving count why to a → IsArriving count why to b → a ≡ b
arriving_one count why to a b h k = elim h as (λ _. a ≡ b) [
  | inl low ↦ elim k as (λ _. a ≡ b) [ inl also ↦ low.1 ∙ sym also.1 | inr past ↦ absurd (omega (arith, low.0, past.0)) ]
  | inr past ↦ elim k as (λ _. a ≡ b) [ inl low ↦ absurd (omega (arith, low.0, past.0)) | inr also ↦ past.1 ∙ sym also.1 ]
]

same_reason : (a b c d : ℕ) → ReadWrite a b ≡ ReadWrite c d → FirstCommitter a b ≡ FirstCommitter c d
same_reason a b c d e = cc

module _ (count : ℕ) (old new : List (Vec Step Global)) where
  pub step_added : (keys : ℕ) (step : Step) (to from node : ℕ) → (IsKeyHub count keys step.place → ⊥) → (IsKeyHub count keys to → ⊥) → IsLeaving count step.why step.place from → IsArriving count step.why to node → AddsSteps (IsThis (record { place = from; why = step.why }) node) old new → AddsSteps (IsStepOfPoints count keys step to) old new
  step_added keys step to from node out in_ leaves arrives = adds_if (IsThis (record { place = from; why = step.why }) node) (IsStepOfPoints count keys step to) old new
      (λ p w t h. (out, in_, h.1, subst (IsLeaving count step.why step.place) (sym h.0) leaves, subst (IsArriving count step.why to) (sym h.2) arrives))
      (λ p w t h. (leaving_one count step.why step.place p from h.3 leaves, h.2, arriving_one count step.why to t node h.4 arrives))

  pub hub_added : (longest : List (Option DoneRead)) (read : DoneRead) → IsFullRead longest read → AddsSteps (IsThis (record { place = read.place; why = RealTime }) (count + count + read.key)) old new → AddsSteps (IsHubStep count longest read) old new
  hub_added longest read full = adds_if (IsThis (record { place = read.place; why = RealTime }) (count + count + read.key)) (IsHubStep count longest read) old new
      (λ p w t h. (full, h.0, h.1, h.2)) (λ p w t h. (h.1, h.2, h.3))

  pub first_committer_added : (middles : List Middle) (writer : Writer) (middle : Middle) (key own : ℕ) → slice_get middles writer.key ≡ Some middle → middle.why ≡ ReadWrite key own → middle.node < count → middle.node ≢ writer.place → AddsSteps (IsThis (record { place = count + middle.node; why = FirstCommitter key own }) writer.place) old new → AddsSteps (IsFirstCommitterStep count middles writer) old new
  first_committer_added middles writer middle key own at is low differ = adds_if (IsThis (record { place = count + middle.node; why = FirstCommitter key own }) writer.place) (IsFirstCommitterStep count middles writer) old new
      (λ p w t h. (middle, key, own, at, is, low, differ, h.0, h.1, h.2))
      (λ p w t h.
      let it : h.0 ≡ middle = same_Some h.0 middle (sym h.3 ∙ at) in
      let reason : ReadWrite h.1 h.2 ≡ ReadWrite key own = sym h.4 ∙ ap (λ (m : Middle). m.why) it ∙ is in
      (h.7 ∙ ap (λ (m : Middle). count + m.node) it, h.8 ∙ same_reason h.1 h.2 key own reason, h.9))

  pub last_added : (writers : List (Option Writer)) (writer : Writer) (reader last first : ℕ) (why : Why) → Some first ≡ writer_place writers writer.key last → first ≢ writer.place → why ≡ last_why reader first writer.key last → AddsSteps (IsThis (record { place = count + first; why = why }) writer.place) old new → AddsSteps (IsLastStep count writers writer reader last) old new
  last_added writers writer reader last first why is differ reason = adds_if (IsThis (record { place = count + first; why = why }) writer.place) (IsLastStep count writers writer reader last) old new
      (λ p w t h. (first, sym is, differ, h.0, h.1 ∙ reason, h.2))
      (λ p w t h.
      let it : h.0 ≡ first = same_Some h.0 first (sym h.1 ∙ sym is) in
      (h.3 ∙ ap (λ k. count + k) it, h.4 ∙ ap (λ k. last_why reader k writer.key last) it ∙ sym reason, h.5))

  pub behind_added : (writers : List (Option Writer)) (longest : List (Option DoneRead)) (writer : Writer) (read : DoneRead) (last : ℕ) → slice_index_or longest writer.key None ≡ Some read → EndsWith read.seen.now last → AddsSteps (IsLastStep count writers writer read.place last) old new → AddsSteps (IsBehindStep count writers longest writer) old new
  behind_added writers longest writer read last at ends = adds_if (IsLastStep count writers writer read.place last) (IsBehindStep count writers longest writer) old new
      (λ p w t h. (read, last, at, ends, h))
      (λ p w t h.
      let it : h.0 ≡ read = same_Some h.0 read (sym h.2 ∙ at) in
      let also : EndsWith read.seen.now h.1 = subst (λ (r : DoneRead). EndsWith r.seen.now h.1) it h.3 in
      let same : h.1 ≡ last = same_Some h.1 last (sym (at_last read.seen.now h.1 also) ∙ at_last read.seen.now last ends) in
      subst (λ k. IsLastStep count writers writer read.place k p w t) same (subst (λ (r : DoneRead). IsLastStep count writers writer r.place h.1 p w t) it h.4))

  pub unread_added : (writers : List (Option Writer)) (there marks : List Bool) (longest : List (Option DoneRead)) (middles : List Middle) (element : ℕ) (writer : Writer) → writer_at writers element ≡ Some writer → IsMarked there writer.place → (IsMarked marks element → ⊥) → AddsSteps (IsWriterStep count writers longest middles writer element) old new → AddsSteps (IsUnreadPointStep count writers there marks longest middles element) old new
  unread_added writers there marks longest middles element writer at marked none = adds_if (IsWriterStep count writers longest middles writer element) (IsUnreadPointStep count writers there marks longest middles element) old new
      (λ p w t h. (writer, at, marked, none, h))
      (λ p w t h. subst (λ x. IsWriterStep count writers longest middles x element p w t) (same_Some h.0 writer (sym h.1 ∙ at)) h.4)

-- what becomes of the step at an index
abbrev pub RowAt : ℕ → ℕ → List Step → ℕ → ℕ → ℕ → Why → ℕ → Type 0
RowAt count keys row node index place why target = (step : Step) × (slice_get row index ≡ Some step) × IsStepOfPoints count keys step node place why target

module _ (count keys : ℕ) (row : List Step) (node : ℕ) where
  pub row_more : (i : ℕ) (step : Step) (old mid new : List (Vec Step Global)) → slice_get row i ≡ Some step → AddsSteps (StepsBelow (RowAt count keys row node) i) old mid → AddsSteps (IsStepOfPoints count keys step node) mid new → AddsSteps (StepsBelow (RowAt count keys row node) (i + 1)) old new
  row_more i step old mid new at a b = adds_more (RowAt count keys row node) i old mid new a
      (adds_if (IsStepOfPoints count keys step node) (RowAt count keys row node i) mid new (λ p w t h. (step, at, h)) (λ p w t h. subst (λ s. IsStepOfPoints count keys s node p w t) (same_Some h.0 step (sym h.1 ∙ at)) h.2) b)

  pub row_all : (i : ℕ) (old new : List (Vec Step Global)) → length row ≤ i → AddsSteps (StepsBelow (RowAt count keys row node) i) old new → AddsSteps (IsStepOfRow count keys row node) old new
  row_all i old new all a = adds_if (StepsBelow (RowAt count keys row node) i) (IsStepOfRow count keys row node) old new
      (λ p w t h. (h.0, h.2.0, h.2.1, h.2.2))
      (λ p w t h. (h.0, omega (arith, all, slice_get_within row h.0 h.1 h.2), (h.1, h.2, h.3))) a

-- what the read at an index asks for
abbrev pub HubAt : ℕ → List (Option DoneRead) → List DoneRead → ℕ → ℕ → Why → ℕ → Type 0
HubAt count longest reads index place why target = (read : DoneRead) × (slice_get reads index ≡ Some read) × IsHubStep count longest read place why target

module _ (count : ℕ) (longest : List (Option DoneRead)) (reads : List DoneRead) where
  pub hubs_more : (i : ℕ) (read : DoneRead) (old mid new : List (Vec Step Global)) → slice_get reads i ≡ Some read → AddsSteps (StepsBelow (HubAt count longest reads) i) old mid → AddsSteps (IsHubStep count longest read) mid new → AddsSteps (StepsBelow (HubAt count longest reads) (i + 1)) old new
  hubs_more i read old mid new at a b = adds_more (HubAt count longest reads) i old mid new a
      (adds_if (IsHubStep count longest read) (HubAt count longest reads i) mid new (λ p w t h. (read, at, h)) (λ p w t h. subst (λ r. IsHubStep count longest r p w t) (same_Some h.0 read (sym h.1 ∙ at)) h.2) b)

  pub hubs_all : (i : ℕ) (old new : List (Vec Step Global)) → length reads ≤ i → AddsSteps (StepsBelow (HubAt count longest reads) i) old new → AddsSteps (IsAnyHubStep count longest reads) old new
  hubs_all i old new all a = adds_if (StepsBelow (HubAt count longest reads) i) (IsAnyHubStep count longest reads) old new
      (λ p w t h. (h.2.0, (h.0, h.2.1), h.2.2))
      (λ p w t h. (h.1.0, omega (arith, all, slice_get_within reads h.1.0 h.0 h.1.1), (h.0, h.1.1, h.2))) a

-- the steps that lead to a node
pub row_of : (graph : List (Vec Step Global)) (node : ℕ) (row : Vec Step Global) → slice_get graph node ≡ Some row → steps_to graph node ≡ row.items
row_of graph node row is = ap (λ o. unwrap_or (option_map (λ (r : Vec Step Global). r.items) o) []) is

pub step_to_below : (graph : List (Vec Step Global)) (step : Step) (node : ℕ) → IsStepTo graph step node → node < length graph
step_to_below graph step node h = by (slice_get graph node) refl where
  by : (o : Option (Vec Step Global)) → slice_get graph node ≡ o → node < length graph
  by None none = absurd (none-some step (sym (ap (λ r. slice_get (unwrap_or (option_map (λ (row : Vec Step Global). row.items) r) []) h.0) none) ∙ h.1))
  by (Some row) is = slice_get_within graph node row is

-- what is added to a graph of no steps, of four kinds
pub four_added : (P Q R S : ℕ → Why → ℕ → Type 0) (base one two three new : List (Vec Step Global)) → ((node : ℕ) → steps_to base node ≡ []) → AddsSteps P base one → AddsSteps Q one two → AddsSteps R two three → AddsSteps S three new → (p : ℕ) (w : Why) (t : ℕ) → HasStep new p w t ↔ (P p w t ⊎ (Q p w t ⊎ (R p w t ⊎ S p w t)))
four_added P Q R S base one two three new none a b c d =
    only_added (EitherStep P (EitherStep Q (EitherStep R S))) base new none (adds_then P (EitherStep Q (EitherStep R S)) base one new a (adds_three Q R S one two three new b c d))
