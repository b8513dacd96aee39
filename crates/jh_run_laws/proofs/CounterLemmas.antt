-- No call of a run of a counter or of a set has a bad value.
use Rattle.std.proofs.Common.{◌≡◌, ℕ, List, [], ◌∷◌, refl, subst, arith}
use Rattle.std.specs.Prelude.{pos, negsuc, Some, None}
use Rattle.std.specs.List.{Contains}
use Rattle.jh_ops.specs.Operation.{Operation}
use Rattle.jh_ops.specs.Pairing.{history_pairs}
use Rattle.jh_ops.specs.declared.call.Request.TheVariants.{Read, Write, Cas, Add, Generate, Txn}
use Rattle.jh_ops.specs.declared.call.Workload.TheVariants.{Counter}
use Rattle.jh_ops.specs.declared.pairs.Pair.{Pair}
use Rattle.jh_check.specs.CounterResults.{value_error, errors_in, IsEarliest}
use Rattle.jh_check.specs.declared.error.CheckError.{CheckError}
use Rattle.jh_simnode.specs.declared.replicas.Got.{Got}
use Rattle.jh_simnode.specs.declared.replicas.Reply.TheVariants as replied
use Rattle.jh_simnode.specs.declared.events.Event.{Event}
use Rattle.jh_simnode.specs.Histories.{journal_history}
use Rattle.jh_run_laws.specs.OwnHistory.{CallsFit, RepliesFit}
use Rattle.jh_run_laws.proofs.PairLemmas.{Each, FromCall, each_pair}

-- the call at a place is not in error
abbrev NoError : List Operation → Pair → Type 0
NoError history pair = value_error history pair ≡ None

counted : FromCall Counter NoError
counted history place number process Read (replied.Ok (Got.One (Some z))) here there suits fits = rw (here, there) refl
counted history place number process Read (replied.Ok (Got.One None)) here there suits fits = absurd fits
counted history place number process Read (replied.Ok (Got.Many xs)) here there suits fits = absurd fits
counted history place number process Read (replied.Ok Got.Nothing) here there suits fits = absurd fits
counted history place number process Read replied.Fail here there suits fits = rw (here, there) refl
counted history place number process Read replied.Info here there suits fits = rw (here, there) refl
counted history place number process (Write v) reply here there suits fits = absurd cc
counted history place number process (Cas a b) reply here there suits fits = absurd cc
counted history place number process (Add (pos n)) reply here there suits fits = rw here refl
counted history place number process (Add (negsuc n)) reply here there suits fits = absurd cc
counted history place number process Generate reply here there suits fits = absurd cc
counted history place number process Txn reply here there suits fits = absurd cc

none_in : (history : List Operation) (pairs : List Pair) → Each (NoError history) pairs → errors_in history pairs ≡ []
none_in history [] h = refl
none_in history (p ∷ ps) h = rw h.0 (none_in history ps h.1)

not_there : {X : Type 0} (x : X) → Contains [] x → ⊥
not_there x h = absurd (omega (arith, h.1))

pub no_error : (c : ℕ) (journal : List Event) → CallsFit Counter c [] journal → RepliesFit Counter journal → (error : CheckError) → IsEarliest error (errors_in (journal_history journal) (history_pairs (journal_history journal))) → ⊥
no_error c journal a b error first =
    let none = none_in (journal_history journal) (history_pairs (journal_history journal)) (each_pair Counter NoError counted c journal a b) in
    not_there error (subst (λ (errors : List CheckError). Contains errors error) none first.0)
