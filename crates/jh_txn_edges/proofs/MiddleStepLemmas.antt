-- The steps to the middles and from them.
use Rattle.std.proofs.Common.{◌≡◌, ℕ, ◌+◌, ◌≤◌, Bool, Option, Some, List, length, sym, ap, subst, ◌∙◌, arith}
use Rattle.std.specs.Prelude.{Vec, slice_get}
use Rattle.std.specs.declared.alloc.Global.{Global}
use Rattle.std.proofs.lemmas.Option.{same_Some, slice_get_within}
use Rattle.jh_txn.specs.declared.dependency.Step.{Step}
use Rattle.jh_txn.specs.declared.dependency.Why.{Why}
use Rattle.jh_txn.specs.declared.dependency.Why.TheVariants.{ReadWrite}
use Rattle.jh_txn_seen.specs.declared.done_reads.DoneRead.{DoneRead}
use Rattle.jh_txn_seen.specs.declared.middles.Middle.{Middle}
use Rattle.jh_txn_seen.specs.Marks.{IsMarked}
use Rattle.jh_txn_seen.specs.Middles.{IsFullRead}
use Rattle.jh_txn_edges.specs.MiddleSteps.{IsFullStep, IsAnyFullStep, IsUnreadStep}
use Rattle.jh_txn_edges.specs.Inside.{AddsSteps, IsOther}
use Rattle.jh_txn_edges.proofs.StepLemmas.{StepsBelow, adds_if, adds_more, adds_none}
use Rattle.jh_txn_writers.specs.Writers.{writer_at}
use Rattle.jh_txn_writers.specs.declared.writer.Writer.{Writer}

-- The steps to the middles, by index.
abbrev pub FullAt : List (Option DoneRead) → List Middle → List DoneRead → ℕ → ℕ → Why → ℕ → Type 0
FullAt longest middles reads index place why target = (read : DoneRead) × (slice_get reads index ≡ Some read) × IsFullStep longest middles read place why target

module _ (longest : List (Option DoneRead)) (middles : List Middle) where
  pub full_more : (reads : List DoneRead) (i : ℕ) (read : DoneRead) (old mid new : List (Vec Step Global)) → slice_get reads i ≡ Some read → AddsSteps (StepsBelow (FullAt longest middles reads) i) old mid → AddsSteps (IsFullStep longest middles read) mid new → AddsSteps (StepsBelow (FullAt longest middles reads) (i + 1)) old new
  full_more reads i read old mid new at a b = adds_more (FullAt longest middles reads) i old mid new a
      (adds_if (IsFullStep longest middles read) (FullAt longest middles reads i) mid new (λ p w t h. (read, at, h)) (λ p w t h. subst (λ r. IsFullStep longest middles r p w t) (same_Some h.0 read (sym h.1 ∙ at)) h.2) b)

  pub full_all : (reads : List DoneRead) (i : ℕ) (old new : List (Vec Step Global)) → length reads ≤ i → AddsSteps (StepsBelow (FullAt longest middles reads) i) old new → AddsSteps (IsAnyFullStep longest middles reads) old new
  full_all reads i old new all a = adds_if (StepsBelow (FullAt longest middles reads) i) (IsAnyFullStep longest middles reads) old new
      (λ p w t h. (h.2.0, (h.0, h.2.1), h.2.2))
      (λ p w t h. (h.1.0, omega (arith, all, slice_get_within reads h.1.0 h.0 h.1.1), (h.0, h.1.1, h.2))) a

  pub full_added : (read : DoneRead) (middle : Middle) (old new : List (Vec Step Global)) → IsFullRead longest read → slice_get middles read.key ≡ Some middle → AddsSteps (IsOther (record { place = read.place; why = middle.why }) middle.node) old new → AddsSteps (IsFullStep longest middles read) old new
  full_added read middle old new full at = adds_if (IsOther (record { place = read.place; why = middle.why }) middle.node) (IsFullStep longest middles read) old new
      (λ p w t h. (middle, full, at, λ e. h.0 (sym h.1 ∙ e ∙ h.3), h.1, h.2, h.3))
      (λ p w t h.
      let it : h.0 ≡ middle = same_Some h.0 middle (sym h.2 ∙ at) in
      let to : t ≡ middle.node = h.6 ∙ ap (λ (m : Middle). m.node) it in
      (λ e. h.3 (h.4 ∙ e ∙ sym to), h.4, h.5 ∙ ap (λ (m : Middle). m.why) it, to))

-- The steps from the middles.
module _ (writers : List (Option Writer)) (there marks : List Bool) (middles : List Middle) where
  pub unread_added : (element : ℕ) (writer : Writer) (middle : Middle) (old new : List (Vec Step Global)) → writer_at writers element ≡ Some writer → IsMarked there writer.place → (IsMarked marks element → ⊥) → slice_get middles writer.key ≡ Some middle
      → AddsSteps (IsOther (record { place = middle.node; why = ReadWrite writer.key element }) writer.place) old new → AddsSteps (IsUnreadStep writers there marks middles element) old new
  unread_added element writer middle old new is marked unread at = adds_if (IsOther (record { place = middle.node; why = ReadWrite writer.key element }) writer.place) (IsUnreadStep writers there marks middles element) old new
      (λ p w t h. (writer, middle, is, marked, unread, at, λ e. h.0 (sym h.1 ∙ e ∙ h.3), h.1, h.2, h.3))
      (λ p w t h.
      let it : h.0 ≡ writer = same_Some h.0 writer (sym h.2 ∙ is) in
      let same : h.1 ≡ middle = same_Some h.1 middle (sym h.5 ∙ ap (λ (x : Writer). slice_get middles x.key) it ∙ at) in
      let from : p ≡ middle.node = h.7 ∙ ap (λ (m : Middle). m.node) same in
      let to : t ≡ writer.place = h.9 ∙ ap (λ (x : Writer). x.place) it in
      (λ e. h.6 (from ∙ e ∙ sym to), from, h.8 ∙ ap (λ (x : Writer). ReadWrite x.key element) it, to))

pub unread_none : (writers : List (Option Writer)) (there marks : List Bool) (middles : List Middle) (element : ℕ) (old : List (Vec Step Global)) → ((writer : Writer) → writer_at writers element ≡ Some writer → IsMarked there writer.place → (IsMarked marks element → ⊥) → ⊥) → AddsSteps (IsUnreadStep writers there marks middles element) old old
unread_none writers there marks middles element old none = adds_none (IsUnreadStep writers there marks middles element) old (λ p w t h. none h.0 h.2 h.3 h.4)
