use Rattle.std.proofs.Common.{◌∙◌, ap, refl, subst, sym}
use Rattle.jh_nemesis.specs.State.{first_state}
use Rattle.jh_conversation.specs.Laws.{Drivers}
use Rattle.jh_conversation.specs.Lines.{at_first}
use Rattle.jh_conversation.specs.Sound.{IsSoundMachine}
use Rattle.jh_conversation.specs.Turn.{turn}
use Rattle.jh_conversation.proofs.KeptLemmas.{kept_turn}
use Rattle.jh_conversation.proofs.SoundLemmas.{sound_at_first, sound_in_turn}
use Rattle.jh_conversation.proofs.conversation.Conversation.begin.Goals as goal

pub turn-requires : goal.turn-requires
turn-requires c =
    let t = c.args.test in
    let d : Drivers t = record { first = c.in_ok-driver.driver; is_first = c.in_ok-driver.ensures; final_calls = c.in_ok-final_calls.final_calls; is_final = c.in_ok-final_calls.ensures } in
    subst (IsSoundMachine t) (sym c.in_ok-machine.ensures) (sound_at_first t d)

pub invariant_of-result : goal.invariant_of-result
invariant_of-result c = λ _.
    let t = c.args.test in
    let d : Drivers t = record { first = c.in_ok-driver.driver; is_first = c.in_ok-driver.ensures; final_calls = c.in_ok-final_calls.final_calls; is_final = c.in_ok-final_calls.ensures } in
    let first = at_first t d.first d.final_calls (first_state t.start) in
    subst (IsSoundMachine t) (sym (c.in_ok-turn.ensures ∙ ap (turn t) c.in_ok-machine.ensures)) (kept_turn t (IsSoundMachine t) (sound_in_turn t c.clients-clients.ensures.fit) first (sound_at_first t d))

pub returns : goal.returns
returns c =
    let t = c.args.test in
    let d : Drivers t = record { first = c.in_ok-driver.driver; is_first = c.in_ok-driver.ensures; final_calls = c.in_ok-final_calls.final_calls; is_final = c.in_ok-final_calls.ensures } in
    (refl, d, c.in_ok-turn.ensures ∙ ap (turn t) c.in_ok-machine.ensures)
