-- The faults after one event more of a journal, and why a journal is not applied once more.
use Rattle.std.proofs.Common.{◌≡◌, ℕ, ◌+◌, ◌<◌, List, [], ◌∷◌, length, take, get_or, refl, ap, ◌∙◌}
use Rattle.std.proofs.lemmas.List.{take_more}
use Rattle.jh_simnode.specs.declared.events.Event.{Event}
use Rattle.jh_simnode.specs.declared.events.WorldError.{WorldError}
use Rattle.jh_simnode.specs.declared.events.WorldError.TheVariants.{UnknownNode, TooManyEvents, OutOfMemory}
use Rattle.jh_simnode.specs.Events.{Setup, Moment, opening, faults_after, moment_after, moment_after_all}
use Rattle.jh_simnode.specs.Laws.{state_at}
use Rattle.jh_simnode.specs.Replay.{RefusesEvent, RefusesReplay}
use Rattle.jh_simnode.proofs.JournalLemmas.{after_all_push}
use Rattle.jh_nemesis.proofs.StepLemmas.{state_after_names}

pub state_more : (u : Setup) (journal : List Event) (i : ℕ) (d : Event) → i < length journal
    → state_at u (take (i + 1) journal) ≡ faults_after (state_at u (take i journal)) (get_or journal i d)
state_more u journal i d low =
    ap (state_at u) (take_more journal i d low) ∙ ap (λ (m : Moment). m.faults) (after_all_push u (opening u) (take i journal) (get_or journal i d))

names_after : (u : Setup) (m : Moment) (es : List Event) → (moment_after_all u m es).faults.names ≡ m.faults.names
names_after u m [] = refl
names_after u m (Event.Call process node request draw reply ∷ es) = names_after u (moment_after u m (Event.Call process node request draw reply)) es
names_after u m (Event.Step step answer ∷ es) = names_after u (moment_after u m (Event.Step step answer)) es ∙ state_after_names m.faults step
names_after u m (Event.Tick ∷ es) = names_after u (moment_after u m Event.Tick) es

-- a journal keeps the nodes
pub names_at : (u : Setup) (journal : List Event) → (state_at u journal).names ≡ u.names
names_at u journal = names_after u (opening u) journal

pub refused_at : (count : ℕ) (journal : List Event) (i : ℕ) (d : Event) (error : WorldError) → i < length journal
    → RefusesEvent count (get_or journal i d) error → RefusesReplay count journal error
refused_at count journal i d UnknownNode low refuses = λ all. refuses (all i d low)
refused_at count journal i d TooManyEvents low refuses = refuses
refused_at count journal i d OutOfMemory low refuses = tt
