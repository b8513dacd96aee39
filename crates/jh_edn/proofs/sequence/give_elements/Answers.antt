use Rattle.std.proofs.Common.{◌-◌, ◌<◌, [], ◌∷◌, ◌++◌, length, arith}
use Rattle.std.proofs.lemmas.Result.{err_from_is_err_and}
use Rattle.jh_edn.specs.View.{view}
use Rattle.jh_edn.specs.Spelling.{depth_limit}
use Rattle.jh_edn.proofs.ElementLoopLemmas.{all_fail, all_read, goes, item_shorter}
use Rattle.jh_edn.proofs.SequenceReadLemmas.{takes_more}
use Rattle.jh_edn.proofs.sequence.give_elements.Goals as goal

pub returns-in_err-next-clause-fails : goal.returns-in_err-next-clause-fails
returns-in_err-next-clause-fails g c =
    let p = err_from_is_err_and c.from_residual.result c.from_residual.ensures.1 in
    let l = c.turns in
    rw (p.1, p.2) (all_fail c.args.close (depth_limit - 1) l.invariant.3 l.invariant.1 l.left.now _ l.invariant.2 l.invariant.4 c.in_err-next.field-0.0 c.in_err-next.ensures.gives)

pub returns-in_default-clause-taken : goal.returns-in_default-clause-taken
returns-in_default-clause-taken g c =
    let l = c.turns in
    (l.invariant.3, all_read c.args.close (depth_limit - 1) l.invariant.3 l.invariant.1 l.left.now _ l.invariant.2 l.invariant.4 c.in_ok-next.after.now (rw c.in_default.is at c.in_ok-next.ensures.gives), l.invariant.5)

pub turns-smaller : goal.turns-smaller
turns-smaller g c =
    item_shorter c.args.close (depth_limit - 1) c.turns.left.now (view c.in-Some.element) c.in_ok-next.after.now (rw c.in-Some.is at c.in_ok-next.ensures.gives)

pub turns-preserved : goal.turns-preserved
turns-preserved g c =
    let l = c.turns in
    let n = l.invariant.1 in
    let taken = l.invariant.3 in
    let x = view c.in-Some.element in
    let after = c.in_ok-next.after.now in
    let is = rw c.in-Some.is at c.in_ok-next.ensures.gives in
    let short : length after < n - 1 = omega (arith, l.invariant.2, item_shorter c.args.close (depth_limit - 1) l.left.now x after is) in
    let has = g.S.Sink.has_taken in (
      c.in_ok-next.ensures.text,
      n - 1,
      short,
      taken ++ x ∷ [],
      goes c.args.close (depth_limit - 1) taken n l.left.now _ l.invariant.2 l.invariant.4 x after is,
      takes_more (has c.args.sink.now) (has l.sink) (has c.take.new.self) taken (x ∷ []) l.invariant.5 c.in_ok-take.ensures,
    )
