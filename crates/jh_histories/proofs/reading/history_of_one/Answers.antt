use Rattle.std.proofs.Common.{◌≡◌, ◌∷◌, ◌++◌, [], ap, ◌∙◌}
use Rattle.jh_edn.specs.View.{view, views}
use Rattle.jh_histories.proofs.ParsingLemmas.{one_answered}
use Rattle.jh_histories.proofs.reading.history_of_one.Goals as goal
use Rattle.jh_ops.specs.HistoryText.{AreParsed}
use Rattle.jh_ops.specs.Operation.{operations}

pub returns-clause-parsed : goal.returns-clause-parsed
returns-clause-parsed c =
    let only : views c.push.new.self.items ≡ view c.args.value ∷ [] = ap views (c.in_ok-push.ensures.items ∙ ap (λ vs. vs ++ c.args.value ∷ []) c.new-values.ensures.items) in
    one_answered (view c.args.value) (λ ops. AreParsed (view c.args.value ∷ []) (operations ops.items)) c.history_of.result (rw only at c.history_of.ensures.parsed)
