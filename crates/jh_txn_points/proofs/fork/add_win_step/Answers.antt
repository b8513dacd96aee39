use Rattle.std.proofs.Common.{◌≡◌, false, inl, inr}
use Rattle.std.proofs.lemmas.Bool.{cases_Bool}
use Rattle.jh_txn.specs.Transactions.{includes}
use Rattle.jh_txn_edges.proofs.StepLemmas.{on_ok_then}
use Rattle.jh_txn_points.proofs.ForkStepLemmas.{win_added}
use Rattle.jh_txn_points.proofs.fork.add_win_step.Goals as goal

pub returns-then-loses : goal.returns-then-loses
returns-then-loses c =
    let read = c.args.read.now in
    let element = c.args.element in
    let facts = c.loses.ensures.0 c.if-loses.true in
    let none : includes read.seen.now element ≡ false = elim (cases_Bool (includes read.seen.now element)) as (λ _. includes read.seen.now element ≡ false) [
      | inl seen ↦ absurd (facts.2 ((c.requires.marks element).1 seen))
      | inr lacks ↦ lacks
    ] in
    on_ok_then c.add.result _ _ (win_added c.args.count c.args.writers.now c.args.there.now read c.args.graph.now c.add.new.graph c.args.own element c.in-Some.writer none facts.1 facts.0 c.in-Some.ensures) c.add.ensures
