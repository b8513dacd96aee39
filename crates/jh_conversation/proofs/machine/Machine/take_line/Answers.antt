use Rattle.std.proofs.Common.{subst, sym}
use Rattle.jh_test_parts.specs.LineMeanings.{line_meaning_by}
use Rattle.jh_conversation.specs.Sound.{IsSoundMachine}
use Rattle.jh_conversation.proofs.KeptLemmas.{kept_take_in}
use Rattle.jh_conversation.proofs.SoundLemmas.{sound_by_line}
use Rattle.jh_conversation.proofs.machine.Machine.take_line.Goals as goal

pub turn-requires : goal.turn-requires
turn-requires c =
    let t = c.args.test.now in
    subst (IsSoundMachine t) (sym c.in_ok-take_in.ensures)
    (kept_take_in t (IsSoundMachine t) (sound_by_line t c.clients-clients.ensures.fit) c.count_line.new.self (line_meaning_by c.in_ok-meaning.meaning) (subst (IsSoundMachine t) (sym c.in_ok-count_line.ensures) c.requires))
