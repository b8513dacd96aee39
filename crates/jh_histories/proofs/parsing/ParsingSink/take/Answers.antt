use Rattle.std.proofs.Common.{◌≡◌, ◌∷◌, [], length, Some}
use Rattle.std.specs.Prelude.{◌≢◌}
use Rattle.std.proofs.lemmas.List.{length-map}
use Rattle.jh_edn.specs.Sequences.{Takes}
use Rattle.jh_edn.specs.View.{view}
use Rattle.jh_histories.specs.ParsingInside.{HasParsed}
use Rattle.jh_histories.proofs.ParsingLemmas.{answer_refused, on_ok}
use Rattle.jh_histories.proofs.parsing.ParsingSink.take.Goals as goal
use Rattle.jh_ops.specs.HistoryText.{history_error_at}
use Rattle.jh_ops.specs.Operation.{operation, operations}
use Rattle.jh_ops.specs.declared.op_text.OpError.TheVariants.{OutOfMemory}

pub returns-in-Err : goal.returns-in-Err
returns-in-Err c =
    let old = c.args.self.now in
    let element = view c.args.element in
    let refusal = c.in-Err.error in
    let Changed : Type 0 = c.refuse.new.self ≡ record old { refusal = Some (history_error_at (length old.ops.items) refusal) } in
    let Other : Type 0 = refusal ≢ OutOfMemory in
    let Parsed : Type 0 = Takes (HasParsed old) (HasParsed c.refuse.new.self) (element ∷ []) in
    on_ok Changed Other Parsed c.refuse.result (λ changed other elements so_far.
    let left = answer_refused elements (operations old.ops.items) element refusal (rw c.in-None.is at so_far.0) other c.in-Err.ensures.parsed in
    rw changed (rw (length-map old.ops.items operation) at left, so_far.1)
    ) c.refuse.ensures.refusal c.refuse.ensures.other
