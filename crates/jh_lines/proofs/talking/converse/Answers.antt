use Rattle.std.proofs.Common.{[], refl, sym}
use Rattle.jh_lines.proofs.TalkLemmas.{exit_unwritten, exit_over, exit_unread, exit_end_memory, exit_untold}
use Rattle.jh_lines.proofs.TalkLemmas.{exit_told, exit_memory, stands_on}
use Rattle.jh_lines.proofs.talking.converse.Goals as goal
use Rattle.jh_lines.proofs.talking.converse.Goals.{in-Ok-tell, in-Err-tell}

pub returns-in-Err : goal.returns-in-Err
returns-in-Err g c =
    exit_unwritten _ _ _ _ _ _ _ _ _ _ g.M.Machine.has_finished _ _ _ _ _ _ _ _ c.loop-turn.invariant
    c.as_slice.ensures.value c.in-Err.ensures

pub returns-then-is_over : goal.returns-then-is_over
returns-then-is_over g c =
    exit_over _ _ _ _ _ _ _ _ _ _ g.M.Machine.has_finished _ _ _ _ _ _ _ c.loop-turn.invariant c.as_slice.ensures.value
    c.in_default-tell.ensures (sym c.if-is_over.ensures)

pub returns-in-Err-listen : goal.returns-in-Err-listen
returns-in-Err-listen g c =
    exit_unread _ _ _ _ _ _ _ _ _ _ g.M.Machine.has_finished _ _ _ _ _ _ _ _ _ c.loop-turn.invariant
    c.as_slice.ensures.value c.in_default-tell.ensures (sym c.if-is_over.ensures) c.in-Err-listen.ensures.bytes

pub returns-in_default-hear_end : goal.returns-in_default-hear_end
returns-in_default-hear_end g c =
    exit_end_memory _ _ _ _ _ _ _ _ _ _ g.M.Machine.has_finished _ _ _ _ _ _ _ _ c.hear_end.new.machine _ _
    c.loop-turn.invariant c.as_slice.ensures.value c.in_default-tell.ensures (sym c.if-is_over.ensures)
    c.in-Ok-listen.ensures.bytes c.if-count-eq0.true

pub returns-in_default-hear : goal.returns-in_default-hear
returns-in_default-hear g c =
    exit_memory _ _ _ _ _ _ _ _ _ _ g.M.Machine.has_finished _ _ _ _ _ _ _ _ c.hear.new.machine _ _
    c.loop-turn.invariant c.as_slice.ensures.value c.in_default-tell.ensures (sym c.if-is_over.ensures)
    c.in-Ok-listen.ensures.bytes c.if-count-eq0.false

pub loop-turn-preserved : goal.loop-turn-preserved
loop-turn-preserved g c =
    stands_on _ _ _ _ _ _ _ _ _ _ g.M.Machine.has_finished _ _ _ _ _ _ _ _ _ _ _ _ _ _ c.loop-turn.invariant
    c.as_slice.ensures.value c.in_default-tell.ensures (sym c.if-is_over.ensures)
    c.in-Ok-listen.ensures.bytes c.if-count-eq0.false c.clear.ensures.items c.in-Ok-hear.ensures.rest
    c.in-Ok-hear.ensures.machine c.in-Ok-hear.ensures.said

pub returns-then-count-eq0 : goal.returns-then-count-eq0
returns-then-count-eq0 g c = elim c.match-tell-2.branch [
  | in-Ok-tell w ↦
      exit_told _ _ _ _ _ _ _ _ _ _ g.M.Machine.has_finished _ _ _ _ _ _ _ _ _ _ _ _ _ _ _ c.loop-turn.invariant
      c.as_slice.ensures.value c.in_default-tell.ensures (sym c.if-is_over.ensures)
      c.in-Ok-listen.ensures.bytes c.if-count-eq0.true c.clear.ensures.items c.in-Ok-hear_end.ensures.machine
      c.in-Ok-hear_end.ensures.said
      c.as_slice-then-count-eq0.ensures.value w.in-Ok-tell.ensures _ w.result-is
  | in-Err-tell w ↦
      exit_untold _ _ _ _ _ _ _ _ _ _ g.M.Machine.has_finished _ _ _ _ _ _ _ _ _ _ _ _ _ _ _ _ c.loop-turn.invariant
      c.as_slice.ensures.value c.in_default-tell.ensures (sym c.if-is_over.ensures)
      c.in-Ok-listen.ensures.bytes c.if-count-eq0.true c.clear.ensures.items c.in-Ok-hear_end.ensures.machine
      c.in-Ok-hear_end.ensures.said
      c.as_slice-then-count-eq0.ensures.value w.in-Err-tell.ensures _ w.result-is
]

pub returns-in_default : goal.returns-in_default
returns-in_default g c = ([], refl, (tt, tt, tt))
