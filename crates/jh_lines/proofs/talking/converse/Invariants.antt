use Rattle.jh_lines.proofs.TalkLemmas.{Stands}
use Rattle.jh_lines.proofs.talking.converse.Given as goal

abbrev pub invariant-loop-turn : goal.invariant-loop-turn
invariant-loop-turn g l =
    Stands g.P.Peer.told g.P.Peer.heard g.P.Peer.ended g.P.Peer.tell_failed g.P.Peer.listen_failed g.M.Machine.opening
    g.M.Machine.after_line
    g.M.Machine.answer_to l.fn.peer l.fn.machine g.M.Machine.has_finished l._turn l.peer l.hearing l.machine l.out.items
