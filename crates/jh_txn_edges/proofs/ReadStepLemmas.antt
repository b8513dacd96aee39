-- The steps that a read asks for.
use Rattle.std.proofs.Common.{◌≡◌, ℕ, ◌+◌, ◌<◌, ◌≤◌, Option, Some, List, length, get_or, sym, ap, subst, ◌∙◌, arith}
use Rattle.std.specs.Prelude.{Vec, slice_get}
use Rattle.std.specs.declared.alloc.Global.{Global}
use Rattle.std.proofs.lemmas.Option.{same_Some, slice_get_within, slice_get-get_or}
use Rattle.jh_txn.specs.declared.dependency.Step.{Step}
use Rattle.jh_txn.specs.declared.dependency.Why.{Why}
use Rattle.jh_txn_seen.specs.declared.done_reads.DoneRead.{DoneRead}
use Rattle.jh_txn_edges.specs.Steps.{IsToReader, IsFromReader, IsReadStep, IsLackedStep}
use Rattle.jh_txn_edges.specs.Inside.{AddsSteps}
use Rattle.jh_txn_seen.specs.Reads.{longest_of}
use Rattle.jh_txn_edges.proofs.StepLemmas.{EitherStep, StepsBelow, adds_if, adds_then, adds_more, adds_none}
use Rattle.jh_txn_writers.specs.declared.writer.Writer.{Writer}

-- those of the read at an index
abbrev pub ReadStepAt : List (Option Writer) → List (Option DoneRead) → List DoneRead → ℕ → ℕ → Why → ℕ → Type 0
ReadStepAt writers longest reads index place why target = (read : DoneRead) × (slice_get reads index ≡ Some read) × EitherStep (IsToReader writers read) (IsFromReader writers longest read) place why target

module _ (writers : List (Option Writer)) (longest : List (Option DoneRead)) (reads : List DoneRead) where
  pub read_more : (i : ℕ) (read : DoneRead) (old mid between new : List (Vec Step Global)) → slice_get reads i ≡ Some read → AddsSteps (StepsBelow (ReadStepAt writers longest reads) i) old mid → AddsSteps (IsToReader writers read) mid between → AddsSteps (IsFromReader writers longest read) between new → AddsSteps (StepsBelow (ReadStepAt writers longest reads) (i + 1)) old new
  read_more i read old mid between new at a b d = adds_more (ReadStepAt writers longest reads) i old mid new a
      (adds_if (EitherStep (IsToReader writers read) (IsFromReader writers longest read)) (ReadStepAt writers longest reads i) mid new
      (λ p w t h. (read, at, h))
      (λ p w t h. subst (λ r. EitherStep (IsToReader writers r) (IsFromReader writers longest r) p w t) (same_Some h.0 read (sym h.1 ∙ at)) h.2)
      (adds_then (IsToReader writers read) (IsFromReader writers longest read) mid between new b d))

  pub read_all : (i : ℕ) (old new : List (Vec Step Global)) → length reads ≤ i → AddsSteps (StepsBelow (ReadStepAt writers longest reads) i) old new → AddsSteps (IsReadStep writers longest reads) old new
  read_all i old new past = adds_if (StepsBelow (ReadStepAt writers longest reads) i) (IsReadStep writers longest reads) old new
      (λ p w t h. (h.2.0, (h.0, h.2.1), h.2.2))
      (λ p w t h. (h.1.0, omega (arith, past, slice_get_within reads h.1.0 h.0 h.1.1), (h.0, h.1.1, h.2)))

-- the first element behind a read
module _ (writers : List (Option Writer)) (longest : List (Option DoneRead)) (read : DoneRead) (xs : List ℕ) (is : xs ≡ longest_of longest read.key) (old new : List (Vec Step Global)) where
  pub from_added : length read.seen.now < length xs → AddsSteps (IsLackedStep writers read (get_or xs (length read.seen.now) 0)) old new → AddsSteps (IsFromReader writers longest read) old new
  from_added low =
      let n = length read.seen.now in
      let at : slice_get (longest_of longest read.key) n ≡ Some (get_or xs n 0) = subst (λ ys. slice_get ys n ≡ Some (get_or xs n 0)) is (slice_get-get_or xs n 0 low) in
      adds_if (IsLackedStep writers read (get_or xs n 0)) (IsFromReader writers longest read) old new
      (λ p w t h. (get_or xs n 0, at, h))
      (λ p w t h. subst (λ x. IsLackedStep writers read x p w t) (same_Some h.0 (get_or xs n 0) (sym h.1 ∙ at)) h.2)

  pub from_none : length xs ≤ length read.seen.now → AddsSteps (IsFromReader writers longest read) old old
  from_none past = adds_none (IsFromReader writers longest read) old (λ p w t h.
      let low : length read.seen.now < length (longest_of longest read.key) = slice_get_within (longest_of longest read.key) (length read.seen.now) h.0 h.1 in
      absurd (omega (arith, past, low, ap length is)))
