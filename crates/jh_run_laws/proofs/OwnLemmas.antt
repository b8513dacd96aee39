-- No checker refuses the history of a run.
use Rattle.std.proofs.Common.{◌≡◌, ℕ, ◌<◌, List, [], refl, sym, subst, arith}
use Rattle.jh_ops.specs.Operation.{Operation}
use Rattle.jh_ops.specs.Pairing.{IsWellFormed, RefusesPairing}
use Rattle.jh_ops.specs.declared.call.Workload.{Workload}
use Rattle.jh_ops.specs.declared.call.Workload.TheVariants.{Register, Counter, Set, Ids}
use Rattle.jh_ops.specs.declared.pairs.PairError.{PairError}
use Rattle.jh_ops.specs.declared.pairs.PairError.TheVariants as pairing
use Rattle.jh_ops.proofs.PlaceLemmas.{not_well_formed}
use Rattle.jh_check.specs.CounterResults.{error_of_pairing}
use Rattle.jh_check.specs.declared.error.CheckError.{CheckError}
use Rattle.jh_check.specs.declared.error.CheckError.TheVariants.{Pair, BadValue, NegativeAdd, RepeatedAppend, OutOfMemory}
use Rattle.jh_checkers.specs.Checkers.{checker_of}
use Rattle.jh_checkers.specs.Findings.{RefusesChecking}
use Rattle.jh_simnode.specs.declared.events.Event.{Event}
use Rattle.jh_simnode.specs.Histories.{journal_history}
use Rattle.jh_simnode.specs.Plans.{PlanValue, IsFit}
use Rattle.jh_simnode.specs.Runs.{setup_of}
use Rattle.jh_run_laws.specs.OwnHistory.{CallsFit, RepliesFit, OwnHistoryIsFormed, OwnHistoryIsJudged}
use Rattle.jh_run_laws.proofs.CallLemmas.{run_fits}
use Rattle.jh_run_laws.proofs.CounterLemmas.{no_error}
use Rattle.jh_run_laws.proofs.FormLemmas.{is_formed}
use Rattle.jh_run_laws.proofs.RegisterLemmas.{not_bad}
use Rattle.jh_run_laws.proofs.SetLemmas.{last_shows}
use Rattle.jh_run_laws.proofs.ShapeLemmas.{replies_fit}

unpaired : (history : List Operation) → IsWellFormed history → (error : PairError) → error_of_pairing error ≡ Pair error → RefusesPairing history error → ⊥
unpaired history formed (pairing.AfterCrash place) e h = not_well_formed history (pairing.AfterCrash place) h formed
unpaired history formed (pairing.DoubleInvoke place) e h = not_well_formed history (pairing.DoubleInvoke place) h formed
unpaired history formed (pairing.NoInvoke place) e h = not_well_formed history (pairing.NoInvoke place) h formed
unpaired history formed pairing.OutOfMemory e h = absurd cc

never_refused : (w : Workload) (c : ℕ) → 0 < c → (journal : List Event) → CallsFit w c [] journal → RepliesFit w journal → (e : CheckError) → RefusesChecking (checker_of w) (journal_history journal) e → e ≡ OutOfMemory
never_refused w c some journal a b OutOfMemory h = refl
never_refused Register c some journal a b (Pair error) h = absurd (unpaired (journal_history journal) (is_formed Register c some journal a) error h.0 h.1)
never_refused Register c some journal a b (BadValue place) h = absurd (not_bad c journal a b place h.1)
never_refused Register c some journal a b (NegativeAdd place) h = absurd h
never_refused Register c some journal a b (RepeatedAppend place) h = absurd h
never_refused Counter c some journal a b (Pair error) h = absurd (unpaired (journal_history journal) (is_formed Counter c some journal a) error h.0 h.1)
never_refused Counter c some journal a b (BadValue place) h = absurd (no_error c journal a b (BadValue place) h.1)
never_refused Counter c some journal a b (NegativeAdd place) h = absurd (no_error c journal a b (NegativeAdd place) h.1)
never_refused Counter c some journal a b (RepeatedAppend place) h = absurd h
never_refused Set c some journal a b (Pair error) h = absurd h
never_refused Set c some journal a b (BadValue place) h = absurd (last_shows journal b place h.0 h.1 h.2)
never_refused Set c some journal a b (NegativeAdd place) h = absurd h
never_refused Set c some journal a b (RepeatedAppend place) h = absurd h
never_refused Ids c some journal a b e h = h

some_client : (p : PlanValue) → IsFit p → 0 < p.clients
some_client p fit = omega (arith, fit.clients.0)

pub own_formed : OwnHistoryIsFormed
own_formed p journal history fit run =
    subst IsWellFormed (sym run.is_history) (is_formed p.database.workload p.clients (some_client p fit) journal (run_fits p fit run.turns journal run.reached.run))

pub own_judged : OwnHistoryIsJudged
own_judged p journal history fit run e refused =
    never_refused p.database.workload p.clients (some_client p fit) journal (run_fits p fit run.turns journal run.reached.run) (replies_fit (setup_of p) journal run.reached.legal) e
    (subst (λ (h : List Operation). RefusesChecking (checker_of p.database.workload) h e) run.is_history refused)
