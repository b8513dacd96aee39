-- A journal with one more event: its moments, and that it is due and legal where the event is.
use Rattle.std.proofs.Common.{◌≡◌, ℕ, ◌+◌, ◌<◌, List, [], ◌∷◌, ◌++◌, length, refl, ap, sym, ◌∙◌, arith, add-zero, length-append, subst, take, drop}
use Rattle.std.proofs.Math.Path.{fun_ext}
use Rattle.std.proofs.Math.Seq.{take-append_seam}
use Rattle.jh_env.specs.Cells.{link_at, node_at}
use Rattle.jh_env.specs.Overlay.{EnvValue, StandsFor}
use Rattle.jh_nemesis.specs.State.{State, faults_in}
use Rattle.jh_simnode.specs.declared.replicas.Replica.{Replica}
use Rattle.jh_simnode.specs.declared.events.Event.{Event}
use Rattle.jh_nemesis.specs.Steps.{answer_of, state_after, FitsNodes}
use Rattle.jh_nemesis.specs.declared.steps.Step.{Step}
use Rattle.jh_nemesis.specs.declared.steps.StepAnswer.{StepAnswer}
use Rattle.jh_nemesis.proofs.StepLemmas.{state_after_names, state_after_start}
use Rattle.jh_simnode.specs.declared.replicas.Reply.{Reply}
use Rattle.jh_ops.specs.declared.call.Request.{Request}
use Rattle.jh_simnode.specs.declared.database.Database.{Database}
use Rattle.jh_simnode.specs.Inside.{world_setup}
use Rattle.jh_simnode.specs.Stores.{reply_to, replicas_after_tick, killed_flags, replicas_after_kills}
use Rattle.jh_simnode.proofs.VersionLemmas.{serve_tidy, ticked_tidy, forgotten_tidy}
use Rattle.jh_simnode.specs.Reach.{EnvCells, env_cells, cells_over}
use Rattle.jh_simnode.specs.Events.{Setup, Moment, opening, env_of, faults_after, replicas_after, moment_after, moment_after_all, moment_at, IsDue, AreDue, AreTidy, IsWorldOf}

-- a vector after a helper wrote all of its slice
pub written : {X : Type 0} (n : ℕ) (ws items : List X) → length ws ≡ n → take n (ws ++ drop (length ws) items) ≡ ws
written n ws items e = rw (← e) (take-append_seam ws (drop (length ws) items))

pub after_all_push : (u : Setup) (m : Moment) (es : List Event) (e : Event) → moment_after_all u m (es ++ e ∷ []) ≡ moment_after u (moment_after_all u m es) e
after_all_push u m [] e = refl
after_all_push u m (x ∷ es) e = after_all_push u (moment_after u m x) es e

pub due_push : (u : Setup) (m : Moment) (es : List Event) (e : Event) → AreDue u m es → IsDue u (moment_after_all u m es) e → AreDue u m (es ++ e ∷ [])
due_push u m [] e h d = (d, tt)
due_push u m (x ∷ es) e h d = (h.0, due_push u (moment_after u m x) es e h.1 d)

pub number_after : (u : Setup) (m : Moment) (es : List Event) → (moment_after_all u m es).number ≡ m.number + length es
number_after u m [] = sym (add-zero m.number)
number_after u m (x ∷ es) = number_after u (moment_after u m x) es ∙ omega arith

-- the cells of an environment are what the active faults make of the starting ones
pub cells_are : (env : EnvValue) (s : State) → StandsFor env (faults_in s.active) → env.start ≡ s.start → env_cells env ≡ env_of s
cells_are env s stands e =
    let f = stands.cells in
    let links : link_at env.cells ≡ (cells_over env.start (faults_in s.active)).link = fun_ext (λ a. fun_ext (λ b. f.links a b)) in
    let nodes : node_at env.cells ≡ (cells_over env.start (faults_in s.active)).node = fun_ext (λ a. f.nodes a) in
    rw (← e, links, nodes) refl

-- the moment after the journal of a world
pub moment_is : (u : Setup) (s : State) (all : List Replica) (es : List Event) → IsWorldOf u s all es → moment_at u es ≡ record { number = length es; faults = s; replicas = all }
moment_is u s all es w =
    let number : (moment_at u es).number ≡ length es = number_after u (opening u) es ∙ omega arith in
    rw (w.faults, w.replicas, ← number) refl

-- a world goes on by an event that is due
pub goes_on : (u : Setup) (s t : State) (all new : List Replica) (es : List Event) (e : Event) → IsWorldOf u s all es → length es < 65536
    → (let m : Moment = record { number = length es; faults = s; replicas = all } in IsDue u m e × (t ≡ faults_after s e) × (new ≡ replicas_after u m e))
    → AreTidy (length u.names) (length es + 1) new → IsWorldOf u t new (es ++ e ∷ [])
goes_on u s t all new es e w few due tidy =
    let m : Moment = record { number = length es; faults = s; replicas = all } in
    let at : moment_at u es ≡ m = moment_is u s all es w in
    let after : moment_at u (es ++ e ∷ []) ≡ moment_after u m e = after_all_push u (opening u) es e ∙ ap (λ k. moment_after u k e) at in
    let long : length (es ++ e ∷ []) ≡ length es + 1 = length-append es (e ∷ []) in
    let here : IsDue u (moment_at u es) e = rw at due.0 in
    record {
      legal = due_push u (opening u) es e w.legal here;
      faults = rw after due.1;
      replicas = rw after due.2;
      tidy = rw long tidy;
      few = omega arith;
    }

-- a world goes on by a call, by what the environment shows
pub call_goes_on : (s : State) (database : Database) (all new : List Replica) (es : List Event) (env : EnvValue) (number process node : ℕ) (request : Request) (draw : ℕ) (reply : Reply)
    → IsWorldOf (world_setup s database) s all es → length es < 65536 → StandsFor env (faults_in s.active) → env.start ≡ s.start → number ≡ length es → node < length s.names
    → (let due = reply_to database (env_cells env) all number node request draw in (reply ≡ due.reply) × (new ≡ due.replicas))
    → IsWorldOf (world_setup s database) s new (es ++ Event.Call process node request draw reply ∷ [])
call_goes_on s database all new es env number process node request draw reply w few stands start at known given =
    let cells = cells_are env s stands start in
    let Got : EnvCells → ℕ → Type 0 = λ env k. reply ≡ (reply_to database env all k node request draw).reply in
    let Left : EnvCells → ℕ → Type 0 = λ env k. new ≡ (reply_to database env all k node request draw).replicas in
    let got : Got (env_of s) (length es) = subst (Got (env_of s)) at (subst (λ env. Got env number) cells given.0) in
    let left : Left (env_of s) (length es) = subst (Left (env_of s)) at (subst (λ env. Left env number) cells given.1) in
    goes_on (world_setup s database) s s all new es (Event.Call process node request draw reply) w few ((known, got), refl, left)
    (rw left (serve_tidy database (env_of s) (length s.names) (length es) all node request draw w.tidy))

pub tick_goes_on : (s : State) (database : Database) (all new : List Replica) (es : List Event) (env : EnvValue)
    → IsWorldOf (world_setup s database) s all es → length es < 65536 → StandsFor env (faults_in s.active) → env.start ≡ s.start
    → new ≡ replicas_after_tick database.store (env_cells env) all
    → IsWorldOf (world_setup s database) s new (es ++ Event.Tick ∷ [])
tick_goes_on s database all new es env w few stands start given =
    let Left : EnvCells → Type 0 = λ env. new ≡ replicas_after_tick database.store env all in
    let left : Left (env_of s) = subst Left (cells_are env s stands start) given in
    goes_on (world_setup s database) s s all new es Event.Tick w few (tt, refl, left)
    (rw left (ticked_tidy database.store (env_of s) (length s.names) (length es) all w.tidy))

-- a step keeps the nodes, their starting cells and the database
pub same_setup : (s t : State) (database : Database) (step : Step) → t ≡ state_after s step → world_setup t database ≡ world_setup s database
same_setup s t database step e = rw (e, state_after_names s step, state_after_start s step) refl

pub step_goes_on : (s t : State) (database : Database) (all new : List Replica) (es : List Event) (before after : EnvValue) (step : Step) (answer : StepAnswer)
    → IsWorldOf (world_setup s database) s all es → length es < 65536 → StandsFor before (faults_in s.active) → before.start ≡ s.start → FitsNodes (length s.names) step
    → answer ≡ answer_of s step → t ≡ state_after s step → StandsFor after (faults_in t.active) → after.start ≡ t.start
    → new ≡ replicas_after_kills database (killed_flags (env_cells before) (length s.names)) (env_cells after) all
    → IsWorldOf (world_setup t database) t new (es ++ Event.Step step answer ∷ [])
step_goes_on s t database all new es before after step answer w few stands start fits given moved stands' start' forgot =
    let u = world_setup s database in
    let Left : EnvCells → EnvCells → Type 0 = λ was is. new ≡ replicas_after_kills database (killed_flags was (length s.names)) is all in
    let at_t : Left (env_of s) (env_of t) = subst (Left (env_of s)) (cells_are after t stands' start') (subst (λ was. Left was (env_cells after)) (cells_are before s stands start) forgot) in
    let left : Left (env_of s) (env_of (state_after s step)) = subst (λ (r : State). Left (env_of s) (env_of r)) moved at_t in
    rw (same_setup s t database step moved)
    (goes_on u s t all new es (Event.Step step answer) w few ((fits, given), moved, left)
    (rw left (forgotten_tidy database (killed_flags (env_of s) (length s.names)) (env_of (state_after s step)) (length s.names) (length es) all w.tidy)))
