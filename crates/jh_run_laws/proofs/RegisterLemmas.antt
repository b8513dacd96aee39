-- No call of a run of a register has a bad value.
use Rattle.std.proofs.Common.{◌≡◌, ℕ, zero, suc, ◌<◌, List, [], ◌∷◌, length, map, refl, sym, ◌∙◌, arith}
use Rattle.std.specs.Prelude.{slice_index_or, Some, None}
use Rattle.jh_ops.specs.Operation.{Operation}
use Rattle.jh_ops.specs.Pairing.{history_pairs}
use Rattle.jh_ops.specs.declared.call.Request.TheVariants.{Read, Write, Cas, Add, Generate, Txn}
use Rattle.jh_ops.specs.declared.call.Workload.TheVariants.{Register}
use Rattle.jh_ops.specs.declared.pairs.Pair.{Pair}
use Rattle.jh_linear.specs.Operations.{IsLeastBad, bad_place}
use Rattle.jh_linear.specs.declared.operations.Object.{Object}
use Rattle.jh_simnode.specs.declared.replicas.Got.{Got}
use Rattle.jh_simnode.specs.declared.replicas.Reply.TheVariants as replied
use Rattle.jh_simnode.specs.declared.events.Event.{Event}
use Rattle.jh_simnode.specs.Histories.{journal_history}
use Rattle.jh_run_laws.specs.OwnHistory.{CallsFit, RepliesFit}
use Rattle.jh_run_laws.proofs.PairLemmas.{Each, FromCall, each_pair}

abbrev NotBad : List Operation → Pair → Type 0
NotBad history pair = bad_place Object.Register history pair ≡ None

parsed : FromCall Register NotBad
parsed history place number process Read (replied.Ok (Got.One None)) here there suits fits = rw (here, there) refl
parsed history place number process Read (replied.Ok (Got.One (Some z))) here there suits fits = rw (here, there) refl
parsed history place number process Read (replied.Ok (Got.Many xs)) here there suits fits = absurd fits
parsed history place number process Read (replied.Ok Got.Nothing) here there suits fits = absurd fits
parsed history place number process Read replied.Fail here there suits fits = rw (here, there) refl
parsed history place number process Read replied.Info here there suits fits = rw (here, there) refl
parsed history place number process (Write v) reply here there suits fits = rw here refl
parsed history place number process (Cas a b) reply here there suits fits = rw here refl
parsed history place number process (Add v) reply here there suits fits = absurd cc
parsed history place number process Generate reply here there suits fits = absurd cc
parsed history place number process Txn reply here there suits fits = absurd cc

none_there : (history : List Operation) (pairs : List Pair) → Each (NotBad history) pairs → (k place : ℕ) → k < length (map (bad_place Object.Register history) pairs)
    → slice_index_or (map (bad_place Object.Register history) pairs) k (Some place) ≡ Some place → ⊥
none_there history [] h k place below e = absurd (omega (arith, below))
none_there history (p ∷ ps) h zero place below e = let clash : None ≡ Some place = sym h.0 ∙ e in cc
none_there history (p ∷ ps) h (suc k) place below e = none_there history ps h.1 k place (omega (arith, below)) e

pub not_bad : (c : ℕ) (journal : List Event) → CallsFit Register c [] journal → RepliesFit Register journal → (place : ℕ) → IsLeastBad Object.Register (journal_history journal) (history_pairs (journal_history journal)) (Some place) → ⊥
not_bad c journal a b place least =
    let found = least.0 in
    none_there (journal_history journal) (history_pairs (journal_history journal)) (each_pair Register NotBad parsed c journal a b) found.0 place found.1 found.2
