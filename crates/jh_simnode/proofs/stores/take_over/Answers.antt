use Rattle.std.proofs.Common.{◌<◌, length}
use Rattle.std.specs.Vec.Iter.{into_iter_items}
use Rattle.std.proofs.lemmas.List.{length-set}
use Rattle.std.proofs.lemmas.List.Elements.{All-tail}
use Rattle.jh_simnode.specs.declared.stores.Taken.{Taken}
use Rattle.jh_simnode.proofs.stores.take_over.Goals as goal

pub loop-one-preserved : goal.loop-one-preserved
loop-one-preserved c =
    let old = c.loop-one.replicas.items in
    let known = rw c.in-Some.ensures.steps.0 at c.loop-one.invariant.known in
    record {
      can = tt;
      ends = tt;
      rest = rw c.in-Some.ensures.steps.0 at c.loop-one.invariant.rest;
      known = rw (length-set old c.in-Some.one.place c.in-Some.one.replica)
          (All-tail (λ (t : Taken). t.place < length old) c.in-Some.one (into_iter_items c.next.new.self) known);
    }

pub loop-one-preserved-in-Some : goal.loop-one-preserved-in-Some
loop-one-preserved-in-Some c =
    let old = c.loop-one.replicas.items in
    let known = rw c.in-Some.ensures.steps.0 at c.loop-one.invariant.known in
    record {
      can = tt;
      ends = tt;
      rest = rw c.in-Some.ensures.steps.0 at c.loop-one.invariant.rest;
      known = rw (length-set old c.in-Some.one.place c.in-Some.one.replica)
          (All-tail (λ (t : Taken). t.place < length old) c.in-Some.one (into_iter_items c.next.new.self) known);
    }
