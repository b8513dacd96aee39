-- The lines of a run's history mean that history.
use Rattle.std.proofs.Common.{◌≡◌, ℕ, ◌+◌, List, [], ◌∷◌, map, refl, ap, ◌∙◌}
use Rattle.std.specs.Prelude.{Ok}
use Rattle.jh_ops.specs.HistoryText.{AreParsed, elements_in}
use Rattle.jh_ops.specs.Operation.{Operation}
use Rattle.jh_ops.specs.OperationText.{parsed_op}
use Rattle.jh_ops.specs.OperationWritten.{value_written}
use Rattle.jh_ops.specs.declared.call.Request.{Request}
use Rattle.jh_simnode.specs.declared.replicas.Reply.{Reply}
use Rattle.jh_simnode.specs.declared.replicas.Reply.TheVariants as replied
use Rattle.jh_simnode.specs.declared.events.Event.{Event}
use Rattle.jh_simnode.specs.Histories.{indexed_completion, journal_history, operations_from}
use Rattle.jh_run_laws.proofs.PairLemmas.{Each}

-- what is written of the operation means it
abbrev IsParsedAgain : Operation → Type 0
IsParsedAgain op = parsed_op (value_written op) ≡ Ok op

completion_parsed : (place number process : ℕ) (request : Request) (reply : Reply) → IsParsedAgain (indexed_completion place number process request reply)
completion_parsed place number process request (replied.Ok got) = refl
completion_parsed place number process request replied.Fail = refl
completion_parsed place number process request replied.Info = refl

all_parsed : (place number entry : ℕ) (es : List Event) → Each IsParsedAgain (operations_from place number entry es)
all_parsed place number entry [] = tt
all_parsed place number entry (Event.Call process node request draw reply ∷ es) =
    (refl, (completion_parsed (place + 1) number process request reply, all_parsed (place + 2) (number + 1) entry es))
all_parsed place number entry (Event.Step step answer ∷ es) = (refl, (refl, all_parsed (place + 2) (number + 1) (entry + 1) es))
all_parsed place number entry (Event.Tick ∷ es) = all_parsed place (number + 1) entry es

parsed_again : (ops : List Operation) → Each IsParsedAgain ops → map parsed_op (map value_written ops) ≡ map Ok ops
parsed_again [] h = refl
parsed_again (op ∷ ops) h = let first = h.0 in let rest = parsed_again ops h.1 in λ i. first i ∷ rest i

-- a run's history is never one value alone, which would stand for what is in it
not_one : (place number entry : ℕ) (es : List Event) → elements_in (map value_written (operations_from place number entry es)) ≡ map value_written (operations_from place number entry es)
not_one place number entry [] = refl
not_one place number entry (Event.Call process node request draw reply ∷ es) = refl
not_one place number entry (Event.Step step answer ∷ es) = refl
not_one place number entry (Event.Tick ∷ es) = not_one place (number + 1) entry es

pub are_parsed : (journal : List Event) → AreParsed (map value_written (journal_history journal)) (journal_history journal)
are_parsed journal = ap (map parsed_op) (not_one 0 0 0 journal) ∙ parsed_again (journal_history journal) (all_parsed 0 0 0 journal)
