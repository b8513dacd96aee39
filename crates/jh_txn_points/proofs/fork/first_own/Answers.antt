use Rattle.std.proofs.Common.{◌≡◌, Some, None, inl, inr, sym, subst, ◌∙◌, arith}
use Rattle.std.proofs.lemmas.Bool.{cases_lt, false≢true}
use Rattle.std.proofs.lemmas.List.{get_or_past}
use Rattle.std.proofs.lemmas.Option.{none-some}
use Rattle.jh_txn_seen.specs.Places.{writer_place}
use Rattle.jh_txn_seen.proofs.PlaceLemmas.{place_writer}
use Rattle.jh_txn_points.proofs.fork.first_own.Goals as goal

pub loop-element-preserved : goal.loop-element-preserved
loop-element-preserved c = λ element low is.
    elim (cases_lt element c.loop-element.element) [
      | inl lt ↦ c.loop-element.invariant element lt is
      | inr ge ↦
          let same : element ≡ c.loop-element.element = omega (arith, low, ge) in
          false≢true (sym c.if-is_own.false ∙ c.is_own.ensures.1 (subst (λ k. writer_place c.args.writers.now c.args.read.now.key k ≡ Some c.args.read.now.place) same is))
    ]

pub returns : goal.returns
returns c = λ element is.
    let writers = c.args.writers.now in
    elim (cases_lt element c.loop-element.element) [
      | inl lt ↦ c.loop-element.invariant element lt is
      | inr ge ↦
          let found = place_writer writers c.args.read.now.key element c.args.read.now.place is in
          none-some found.0 (sym (get_or_past writers element None (omega (arith, ge, c.loop-element-test.false))) ∙ found.1)
    ]
