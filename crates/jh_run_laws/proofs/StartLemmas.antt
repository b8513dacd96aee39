-- A run depends on the links and nodes of its start, and not on how they are kept.
use Rattle.std.proofs.Common.{◌≡◌, ℕ, zero, suc, ◌+◌, true, false, List, [], ◌∷◌, length, refl, sym, ap, subst, ◌∙◌}
use Rattle.std.specs.Prelude.{option_map, if◌then◌else◌}
use Rattle.jh_env.specs.Cells.{Table}
use Rattle.jh_env.specs.Faults.{FaultValue}
use Rattle.jh_env.specs.Overlay.{EnvValue, link_over, node_over}
use Rattle.jh_env.specs.TextLaws.{AreSameCells}
use Rattle.jh_nemesis.specs.State.{Active, State, state_back_to, faults_in, state_forth_to}
use Rattle.jh_nemesis.specs.Steps.{answer_of, is_ok, moved_state, state_after}
use Rattle.jh_nemesis.specs.declared.steps.Step.{Step}
use Rattle.jh_nemesis.specs.declared.steps.Step.TheVariants.{Begin, Withdraw, WithdrawAll, Undo, Redo}
use Rattle.jh_ops.specs.Operation.{Operation}
use Rattle.jh_simnode.specs.declared.events.Event.{Event}
use Rattle.jh_simnode.specs.Events.{AreDue, IsDue, IsLegal, Moment, Setup, env_of, faults_after, moment_after, opening}
use Rattle.jh_simnode.specs.Plans.{PlanValue}
use Rattle.jh_simnode.specs.Reach.{EnvCells, cells_over}
use Rattle.jh_simnode.specs.Runs.{Turns, Move, Comes, Reaches, IsSerialRun, move_of, setup_of}
use Rattle.jh_simnode.specs.Runs.Move.{Ticks, Applies, Waits, Calls, Ends, Rests}
use Rattle.jh_simnode.specs.Stores.{killed_flags, replicas_after_kills, reply_to, replicas_after_tick}
use Rattle.jh_nemesis.proofs.StepLemmas.{state_after_start}

-- ---- the same faults over another start

abbrev restarted : Table → State → State
restarted start s = record { names = s.names; start = start; past = s.past; active = s.active; future = s.future }

back_restarted : (start : Table) (s : State) (past : List Active) → state_back_to (restarted start s) past ≡ restarted start (state_back_to s past)
back_restarted start s [] = refl
back_restarted start s (p ∷ ps) = refl

forth_restarted : (start : Table) (s : State) (future : List Active) → state_forth_to (restarted start s) future ≡ restarted start (state_forth_to s future)
forth_restarted start s [] = refl
forth_restarted start s (p ∷ ps) = refl

answer_restarted : (start : Table) (s : State) (step : Step) → answer_of (restarted start s) step ≡ answer_of s step
answer_restarted start s (Begin id f) = refl
answer_restarted start s (Withdraw id) = refl
answer_restarted start s WithdrawAll = refl
answer_restarted start s Undo = refl
answer_restarted start s Redo = refl

moved_restarted : (start : Table) (s : State) (step : Step) → moved_state (restarted start s) step ≡ restarted start (moved_state s step)
moved_restarted start s (Begin id f) = refl
moved_restarted start s (Withdraw id) = refl
moved_restarted start s WithdrawAll = refl
moved_restarted start s Undo = back_restarted start s s.past
moved_restarted start s Redo = forth_restarted start s s.future

step_restarted : (start : Table) (s : State) (step : Step) → state_after (restarted start s) step ≡ restarted start (state_after s step)
step_restarted start s step =
    rw (answer_restarted start s step) (elim (is_ok (answer_of s step)) as (λ b. (if b then moved_state (restarted start s) step else restarted start s) ≡ restarted start (if b then moved_state s step else s)) [
      | true ↦ moved_restarted start s step
      | false ↦ refl
    ])

-- ---- the same links and nodes

cells_same : (start other : Table) → AreSameCells start other → (faults : List FaultValue) → cells_over other faults ≡ cells_over start faults
cells_same start other same faults = λ i. record {
  link = λ a b. option_map (link_over faults a b) (sym (same.links a b) i);
  node = λ a. option_map (node_over faults a) (sym (same.nodes a) i);
}

abbrev restarted_moment : Table → Moment → Moment
restarted_moment start m = record { number = m.number; faults = restarted start m.faults; replicas = m.replicas }

abbrev founded : Table → Setup → Setup
founded start u = record { names = u.names; start = start; database = u.database }

start_kept : (s : State) (e : Event) → (faults_after s e).start ≡ s.start
start_kept s (Event.Call process node request draw reply) = refl
start_kept s (Event.Step step answer) = state_after_start s step
start_kept s Event.Tick = refl

-- the same environment at a moment
env_same : (start : Table) (s : State) → AreSameCells s.start start → env_of (restarted start s) ≡ env_of s
env_same start s same = cells_same s.start start same (faults_in s.active)

still_same : (start : Table) (s : State) (e : Event) → AreSameCells s.start start → AreSameCells (faults_after s e).start start
still_same start s e same = subst (λ (t : Table). AreSameCells t start) (sym (start_kept s e)) same

next_restarted : (u : Setup) (start : Table) (m : Moment) (e : Event) → AreSameCells m.faults.start start → moment_after (founded start u) (restarted_moment start m) e ≡ restarted_moment start (moment_after u m e)
next_restarted u start m (Event.Call process node request draw reply) same =
    let env = env_same start m.faults same in
    λ i. record { number = m.number + 1; faults = restarted start m.faults; replicas = (reply_to u.database (env i) m.replicas m.number node request draw).replicas }
next_restarted u start m (Event.Step step answer) same =
    let env = env_same start m.faults same in
    let faults = step_restarted start m.faults step in
    let after : env_of (state_after (restarted start m.faults) step) ≡ env_of (state_after m.faults step) =
    ap env_of faults ∙ env_same start (state_after m.faults step) (still_same start m.faults (Event.Step step answer) same) in
    λ i. record { number = m.number + 1; faults = faults i; replicas = replicas_after_kills u.database (killed_flags (env i) (length u.names)) (after i) m.replicas }
next_restarted u start m Event.Tick same =
    let env = env_same start m.faults same in
    λ i. record { number = m.number + 1; faults = restarted start m.faults; replicas = replicas_after_tick u.database.store (env i) m.replicas }

due_restarted : (u : Setup) (start : Table) (m : Moment) (e : Event) → AreSameCells m.faults.start start → IsDue u m e → IsDue (founded start u) (restarted_moment start m) e
due_restarted u start m (Event.Call process node request draw reply) same h =
    (h.0, subst (λ (env : EnvCells). reply ≡ (reply_to u.database env m.replicas m.number node request draw).reply) (sym (env_same start m.faults same)) h.1)
due_restarted u start m (Event.Step step answer) same h = (h.0, h.1 ∙ sym (answer_restarted start m.faults step))
due_restarted u start m Event.Tick same h = tt

all_due : (u : Setup) (start : Table) (m : Moment) (es : List Event) → AreSameCells m.faults.start start → AreDue u m es → AreDue (founded start u) (restarted_moment start m) es
all_due u start m [] same h = tt
all_due u start m (e ∷ es) same h =
    let after : AreSameCells (moment_after u m e).faults.start start = still_same start m.faults e same in (
      due_restarted u start m e same h.0,
      subst (λ (k : Moment). AreDue (founded start u) k es) (sym (next_restarted u start m e same)) (all_due u start (moment_after u m e) es after h.1),
    )

legal_founded : (u : Setup) (start : Table) (journal : List Event) → AreSameCells u.start start → IsLegal u journal → IsLegal (founded start u) journal
legal_founded u start journal same h = all_due u start (opening u) journal same h

-- ---- the same plan with another environment

abbrev pub with_env : PlanValue → EnvValue → PlanValue
with_env p env = record {
  env = env;
  database = p.database;
  clients = p.clients;
  ops = p.ops;
  generator = p.generator;
  schedule = p.schedule;
  tick_every = p.tick_every;
  rows = p.rows;
  seed = p.seed;
}

comes_with : (p : PlanValue) (env : EnvValue) → env.names ≡ p.env.names → (r r' : Turns) (journal journal' : List Event) (m : Move) → Comes p r journal r' journal' m → Comes (with_env p env) r journal r' journal' m
comes_with p env named r r' journal journal' Ticks s = s
comes_with p env named r r' journal journal' (Applies entry) s = s
comes_with p env named r r' journal journal' Waits s = s
comes_with p env named r r' journal journal' (Calls path request) s = rw named s
comes_with p env named r r' journal journal' Ends s = s
comes_with p env named r r' journal journal' Rests s = s

reaches_with : (p : PlanValue) (env : EnvValue) → env.names ≡ p.env.names → (n : ℕ) (r : Turns) (journal : List Event) → Reaches p n r journal → Reaches (with_env p env) n r journal
reaches_with p env named zero r journal h = h
reaches_with p env named (suc n) r journal h =
    (h.0, (h.1.0, (reaches_with p env named n h.0 h.1.0 h.1.1.0, comes_with p env named h.0 r h.1.0 journal (move_of p h.0 h.1.0) h.1.1.1)))

legal_with : (p : PlanValue) (env : EnvValue) → env.names ≡ p.env.names → AreSameCells p.env.start env.start → (journal : List Event) → IsLegal (setup_of p) journal → IsLegal (setup_of (with_env p env)) journal
legal_with p env named same journal h =
    subst (λ (names : List (List ℕ)). IsLegal (record { names = names; start = env.start; database = p.database }) journal) (sym named) (legal_founded (setup_of p) env.start journal same h)

-- a serial run of a plan is one of the plan with this environment
pub serial_with : (p : PlanValue) (env : EnvValue) → env.names ≡ p.env.names → AreSameCells p.env.start env.start → (journal : List Event) (history : List Operation) → IsSerialRun p journal history → IsSerialRun (with_env p env) journal history
serial_with p env named same journal history run = record {
  turns = run.turns;
  reached = record {
    run = (run.reached.run.0, reaches_with p env named run.reached.run.0 run.turns journal run.reached.run.1);
    legal = legal_with p env named same journal run.reached.legal;
  };
  ended = run.ended;
  over = run.over;
  is_history = run.is_history;
}
