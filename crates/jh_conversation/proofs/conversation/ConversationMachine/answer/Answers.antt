use Rattle.std.proofs.Common.{subst, sym}
use Rattle.jh_conversation.specs.Sound.{IsSoundMachine}
use Rattle.jh_conversation.proofs.KeptLemmas.{kept_line}
use Rattle.jh_conversation.proofs.SoundLemmas.{sound_by_line, sound_in_turn}
use Rattle.jh_conversation.proofs.conversation.ConversationMachine.answer.Goals as goal

pub write_said-requires : goal.write_said-requires
write_said-requires c =
    let t = c.self.inside.test in
    let fit = c.clients-clients.ensures.fit in
    subst (IsSoundMachine t) (sym c.in_ok-take_line.ensures) (kept_line t (IsSoundMachine t) (sound_in_turn t fit) (sound_by_line t fit) c.self.inside.machine c.args.line.now (c.self.invariant c.if-self.false))

pub invariant_of-self-2 : goal.invariant_of-self-2
invariant_of-self-2 c = λ _.
    let t = c.self.inside.test in
    let fit = c.clients-clients.ensures.fit in
    subst (IsSoundMachine t) (sym c.in_ok-take_line.ensures) (kept_line t (IsSoundMachine t) (sound_in_turn t fit) (sound_by_line t fit) c.self.inside.machine c.args.line.now (c.self.invariant c.if-self.false))
