-- The last read of a run of a set shows elements.
use Rattle.std.proofs.Common.{◌≡◌, ℕ, zero, suc, ◌+◌, Bool, true, false, List, [], ◌∷◌, filter, refl, ap, ◌∙◌}
use Rattle.std.specs.Prelude.{if◌then◌else◌, slice_get, Some, None, codes}
use Rattle.std.specs.List.{enumerate_from}
use Rattle.std.proofs.lemmas.Option.{same_Some}
use Rattle.jh_ops.specs.Operation.{Operation, is_asked}
use Rattle.jh_ops.specs.declared.call.Request.{Request}
use Rattle.jh_ops.specs.declared.call.Request.TheVariants.{Read, Write, Cas, Add, Generate, Txn}
use Rattle.jh_ops.specs.declared.call.Workload.TheVariants.{Set}
use Rattle.jh_ops.specs.declared.operation.Kind.{Kind}
use Rattle.jh_check.specs.SetResults.{elements_shown, final_read}
use Rattle.jh_simnode.specs.declared.replicas.Got.{Got}
use Rattle.jh_simnode.specs.declared.replicas.Reply.{Reply}
use Rattle.jh_simnode.specs.declared.replicas.Reply.TheVariants as replied
use Rattle.jh_simnode.specs.declared.events.Event.{Event}
use Rattle.jh_simnode.specs.Histories.{indexed_completion, journal_history, operations_from}
use Rattle.jh_run_laws.specs.OwnHistory.{RepliesFit, ReplyFits}
use Rattle.jh_run_laws.proofs.PairLemmas.{Each}

-- a read that happened shows elements
abbrev Shows : Operation → Type 0
Shows op = is_asked Kind.Ok (codes "read") op ≡ true → elements_shown op.value ≡ None → ⊥

completion_shows : (place number process : ℕ) (request : Request) (reply : Reply) → ReplyFits Set request reply → Shows (indexed_completion place number process request reply)
completion_shows place number process Read (replied.Ok (Got.Many xs)) fits asked none = absurd cc
completion_shows place number process Read (replied.Ok (Got.One x)) fits asked none = absurd fits
completion_shows place number process Read (replied.Ok Got.Nothing) fits asked none = absurd fits
completion_shows place number process Read replied.Fail fits asked none = absurd cc
completion_shows place number process Read replied.Info fits asked none = absurd cc
completion_shows place number process (Write v) (replied.Ok got) fits asked none = absurd cc
completion_shows place number process (Write v) replied.Fail fits asked none = absurd cc
completion_shows place number process (Write v) replied.Info fits asked none = absurd cc
completion_shows place number process (Cas a b) (replied.Ok got) fits asked none = absurd cc
completion_shows place number process (Cas a b) replied.Fail fits asked none = absurd cc
completion_shows place number process (Cas a b) replied.Info fits asked none = absurd cc
completion_shows place number process (Add v) (replied.Ok got) fits asked none = absurd cc
completion_shows place number process (Add v) replied.Fail fits asked none = absurd cc
completion_shows place number process (Add v) replied.Info fits asked none = absurd cc
completion_shows place number process Generate (replied.Ok got) fits asked none = absurd cc
completion_shows place number process Generate replied.Fail fits asked none = absurd cc
completion_shows place number process Generate replied.Info fits asked none = absurd cc
completion_shows place number process Txn (replied.Ok got) fits asked none = absurd cc
completion_shows place number process Txn replied.Fail fits asked none = absurd cc
completion_shows place number process Txn replied.Info fits asked none = absurd cc

parsed_shows : (place number entry : ℕ) (es : List Event) → RepliesFit Set es → Each Shows (operations_from place number entry es)
parsed_shows place number entry [] h = tt
parsed_shows place number entry (Event.Call process node request draw reply ∷ es) h =
    ((λ asked none. absurd cc), (completion_shows (place + 1) number process request reply h.0, parsed_shows (place + 2) (number + 1) entry es h.1))
parsed_shows place number entry (Event.Step step answer ∷ es) h =
    ((λ asked none. absurd cc), ((λ asked none. absurd cc), parsed_shows (place + 2) (number + 1) (entry + 1) es h))
parsed_shows place number entry (Event.Tick ∷ es) h = parsed_shows place (number + 1) entry es h

abbrev is_read : ℕ × Operation → Bool
is_read read = is_asked Kind.Ok (codes "read") read.1

found_shows : (n : ℕ) (ops : List Operation) → Each Shows ops → (i place : ℕ) (op : Operation) → slice_get (filter is_read (enumerate_from n ops)) i ≡ Some (place, op) → elements_shown op.value ≡ None → ⊥
found_shows n [] h i place op = λ e none. absurd cc
found_shows n (x ∷ ops) h i place op =
    elim (is_asked Kind.Ok (codes "read") x) as (λ b. is_asked Kind.Ok (codes "read") x ≡ b → slice_get (if b then (n, x) ∷ filter is_read (enumerate_from (n + 1) ops) else filter is_read (enumerate_from (n + 1) ops)) i ≡ Some (place, op) → elements_shown op.value ≡ None → ⊥) [
      | true ↦ λ asked. at i asked (λ j e none. found_shows (n + 1) ops h.1 j place op e none)
      | false ↦ λ asked e none. found_shows (n + 1) ops h.1 i place op e none
    ] refl where
      at : (j : ℕ) → is_asked Kind.Ok (codes "read") x ≡ true
          → ((k : ℕ) → slice_get (filter is_read (enumerate_from (n + 1) ops)) k ≡ Some (place, op) → elements_shown op.value ≡ None → ⊥)
          → slice_get ((n, x) ∷ filter is_read (enumerate_from (n + 1) ops)) j ≡ Some (place, op) → elements_shown op.value ≡ None → ⊥
      at zero asked later e none = let same : x ≡ op = ap (λ (q : ℕ × Operation). q.1) (same_Some (n, x) (place, op) e) in h.0 asked (ap (λ (o : Operation). elements_shown o.value) same ∙ none)
      at (suc k) asked later e none = later k e none

pub last_shows : (journal : List Event) → RepliesFit Set journal → (place : ℕ) (op : Operation) → final_read (journal_history journal) ≡ Some (place, op) → elements_shown op.value ≡ None → ⊥
last_shows journal h place op = found_shows 0 (journal_history journal) (parsed_shows 0 0 0 journal h) _ place op
