use Rattle.std.proofs.Common.{◌≡◌, ◌<◌, Ok, Err, OnOk, Result, Some, None, [], ◌∷◌, length, set, sym, subst, ◌∙◌}
use Rattle.std.specs.Prelude.{slice_index_or}
use Rattle.std.specs.declared.alloc.AllocError.{AllocError}
use Rattle.jh_txn.specs.declared.txn.MicroOp.TheVariants.{Append}
use Rattle.jh_txn.specs.Transactions.{IsKeyBelow}
use Rattle.jh_txn_seen.specs.Marks.{IsMarked}
use Rattle.jh_txn_snapshot_judge.specs.TurnsInside.{AddsTurns, IsTurnBehind, TakesTurns}
use Rattle.jh_txn_snapshot_judge.proofs.TurnLemmas.{takes_one}
use Rattle.jh_txn_snapshot_judge.proofs.turns.take_turn_of.Goals as goal

both : (r : Result (Unit {0}) AllocError) (P Q R : Type 0) → (P → Q → R) → OnOk r P → OnOk r Q → OnOk r R
both (Ok u) P Q R f h k = f h k
both (Err e) P Q R f h k = h

pub returns-then-is_marked : goal.returns-then-is_marked
returns-then-is_marked c =
    let untold = c.args.untold.now in
    let place = c.args.place in
    let last = c.args.last.now in
    let old = c.args.turns.now.items in
    let new = c.take_turn.new.turns.items in
    let key = c.in-Append.key in
    let low : key < length last = subst (IsKeyBelow (length last)) c.in-Append.is c.requires in
    let marked : IsMarked untold c.in-Append.element = sym c.is_marked.ensures ∙ c.if-is_marked.true in
    both c.take_turn.result (c.take_turn.new.last ≡ set last key (Some place)) (AddsTurns (IsTurnBehind (slice_index_or last key None) place) old new) (TakesTurns untold place (c.args.op.now ∷ []) last c.take_turn.new.last old new)
    (λ is added. subst (λ op. TakesTurns untold place (op ∷ []) last c.take_turn.new.last old new) (sym c.in-Append.is) (subst (λ now. TakesTurns untold place (Append key c.in-Append.element ∷ []) last now old new) (sym is) (takes_one untold place key c.in-Append.element last old new low marked added)))
    c.take_turn.ensures.last c.take_turn.ensures.turns
