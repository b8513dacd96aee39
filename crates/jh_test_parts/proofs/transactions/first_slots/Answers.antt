use Rattle.std.proofs.Common.{◌∙◌, ◌++◌, ◌∷◌, [], ap}
use Rattle.jh_test_parts.proofs.ValueLemmas.{slots_next}
use Rattle.jh_test_parts.proofs.transactions.first_slots.Goals as goal

pub loop-key-preserved : goal.loop-key-preserved
loop-key-preserved c = c.in_ok-push.ensures.items ∙ ap (λ l. l ++ (record { key = c.loop-key.key; appends = 0 }) ∷ []) c.loop-key.invariant ∙ slots_next c.loop-key.key
