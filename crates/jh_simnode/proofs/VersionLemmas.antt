-- No replica has a version above the counter of the world, and each has numbers in order, each once (AreTidy).
use Rattle.std.proofs.Common.{ℕ, ◌+◌, ◌≤◌, Bool, true, false, List, [], ◌∷◌, length, set, ◌∙◌, arith, inl, inr}
use Rattle.std.specs.Prelude.{ℤ, Option, Some, None, if◌then◌else◌}
use Rattle.std.specs.List.{fold}
use Rattle.std.proofs.lemmas.Bool.{cases_eq, cases_lt}
use Rattle.std.proofs.lemmas.List.{get_or-set_same, get_or-set_other, set_past, length-set}
use Rattle.jh_env.specs.Cells.{Life}
use Rattle.jh_env.specs.Cells.{Running, Paused, Killed}
use Rattle.jh_env.specs.Cells.{NodeCell}
use Rattle.jh_simnode.specs.declared.replicas.Replica.{Replica}
use Rattle.jh_simnode.specs.declared.replicas.Recency.TheVariants.{Version, Stamp}
use Rattle.jh_simnode.specs.declared.database.Database.{Database}
use Rattle.jh_simnode.specs.declared.database.Store.{Store}
use Rattle.jh_simnode.specs.declared.database.Store.TheVariants.{Quorum, Lww, Local}
use Rattle.jh_ops.specs.declared.call.Request.{Request}
use Rattle.jh_ops.specs.Requests.{is_request_of}
use Rattle.jh_simnode.specs.Requests.{is_read_request}
use Rattle.jh_simnode.specs.Replicas.{blank_replica, replica_at, version, first_replica}
use Rattle.jh_simnode.specs.Effects.{effect}
use Rattle.jh_simnode.specs.declared.effects.RequestEffect.{RequestEffect}
use Rattle.jh_env.specs.Names.{node_places}
use Rattle.jh_simnode.specs.Reach.{EnvCells, reached_nodes, responding_nodes}
use Rattle.jh_simnode.specs.Stores.{ReplyAndReplicas, reply_to, reply_at, reply_in, running_reply, local_change, lww_change, quorum_change, newest_place, version_at, replicas_with_new, replicas_with_new_at, older_places, replicas_after_tick, replicas_after_sending, replicas_after_sending_all, replicas_after_kills, replicas_after_kill}
use Rattle.jh_simnode.specs.Events.{AreTidy}

-- what each step of a fold keeps is kept by the fold
pub fold_keeps : {A B : Type 0} (P : A → Type 0) (f : A → B → A) → ((a : A) (b : B) → P a → P (f a b)) → (a : A) (bs : List B) → P a → P (fold f a bs)
fold_keeps P f step a [] h = h
fold_keeps P f step a (b ∷ bs) h = fold_keeps P f step (f a b) bs (step a b h)

-- what both cases keep is kept
either : {A : Type 0} (P : A → Type 0) (b : Bool) (x y : A) → P x → P y → P (if b then x else y)
either P true x y p q = p
either P false x y p q = q

version_set : (n : ℕ) (all : List Replica) (p : ℕ) (new : Replica) (q : ℕ) → ((place : ℕ) → version_at all place ≤ n) → version new.recency ≤ n → version_at (set all p new) q ≤ n
version_set n all p new q low h = elim (cases_lt p (length all)) as (λ s. version_at (set all p new) q ≤ n) [
  | inl within ↦ elim (cases_eq q p) as (λ s. version_at (set all p new) q ≤ n) [
    | inl same ↦ rw (same, get_or-set_same all p new blank_replica within) h
    | inr other ↦ rw (get_or-set_other all p q new blank_replica other) (low q)
  ]
  | inr past ↦ rw (set_past all p new past) (low q)
]

pub set_tidy : (c n : ℕ) (all : List Replica) (p : ℕ) (new : Replica) → AreTidy c n all → version new.recency ≤ n → AreTidy c n (set all p new)
set_tidy c n all p new t h = record { sized = length-set all p new ∙ t.sized; low = λ q. version_set n all p new q t.low h }

pub later_tidy : (c n : ℕ) (all : List Replica) → AreTidy c n all → AreTidy c (n + 1) all
later_tidy c n all t = record { sized = t.sized; low = λ q. let h = t.low q in omega arith }

give_tidy : (c n : ℕ) (new : Replica) (all : List Replica) (these : List ℕ) → version new.recency ≤ n → AreTidy c n all → AreTidy c n (replicas_with_new_at new all these)
give_tidy c n new all these h t = fold_keeps (AreTidy c n) (replicas_with_new new) (λ a p k. set_tidy c n a p new k h) all these t

local_tidy : (c n : ℕ) (all : List Replica) (node : ℕ) (e : Option RequestEffect) → AreTidy c n all → AreTidy c (n + 1) (local_change all node e).replicas
local_tidy c n all node None t = later_tidy c n all t
local_tidy c n all node (Some e) t = later_tidy c n _ (set_tidy c n all node (record { recency = (replica_at all node).recency; contents = e.after }) t (t.low node))

lww_tidy : (c n : ℕ) (all : List Replica) (at : ℤ) (node : ℕ) (these : List ℕ) (e : Option RequestEffect) → AreTidy c n all → AreTidy c (n + 1) (lww_change all (Stamp at node) these e).replicas
lww_tidy c n all at node these None t = later_tidy c n all t
lww_tidy c n all at node these (Some e) t = later_tidy c n _ (give_tidy c n (record { recency = Stamp at node; contents = e.after }) all (older_places all (Stamp at node) these) (omega arith) t)

changed_tidy : (c n : ℕ) (all : List Replica) (best : ℕ) (these : List ℕ) (k : ℕ) (e : Option RequestEffect) → AreTidy c n all → AreTidy c (n + 1) (quorum_change all best these k e).replicas
changed_tidy c n all best these k None t = later_tidy c n all t
changed_tidy c n all best these k (Some e) t =
    let h = t.low best in
    give_tidy c (n + 1) (record { recency = Version (version (replica_at all best).recency + 1); contents = e.after }) all these (omega arith) (later_tidy c n all t)

running_tidy : (store : Store) (env : EnvCells) (c n : ℕ) (all : List Replica) (clock : ℤ) (node : ℕ) (r : Request) (draw : ℕ) → AreTidy c n all
    → AreTidy c (n + 1) (running_reply store env all clock (record { number = n; node = node; request = r; draw = draw })).replicas
running_tidy Quorum env c n all clock node r draw t =
    let l = later_tidy c n all t in
    let reached = reached_nodes env (length all) draw node in
    either (λ (s : ReplyAndReplicas). AreTidy c (n + 1) s.replicas) (is_read_request r) _ _
    (either (λ (s : ReplyAndReplicas). AreTidy c (n + 1) s.replicas) _ _ _ l l)
    (either (λ (s : ReplyAndReplicas). AreTidy c (n + 1) s.replicas) _ _ _ l (changed_tidy c n all (newest_place all reached) reached (length (responding_nodes env node reached)) (effect r (replica_at all (newest_place all reached)).contents) t))
running_tidy Lww env c n all clock node r draw t =
    either (λ (s : ReplyAndReplicas). AreTidy c (n + 1) s.replicas) (is_read_request r) _ _ (later_tidy c n all t) (lww_tidy c n all _ node (reached_nodes env (length all) draw node) (effect r (replica_at all node).contents) t)
running_tidy Local env c n all clock node r draw t = local_tidy c n all node (effect r (replica_at all node).contents) t

in_tidy : (life : Life) (s : Database) (env : EnvCells) (c n : ℕ) (all : List Replica) (clock : ℤ) (node : ℕ) (r : Request) (draw : ℕ) → AreTidy c n all
    → AreTidy c (n + 1) (reply_in life s env all clock (record { number = n; node = node; request = r; draw = draw })).replicas
in_tidy Running s env c n all clock node r draw t = running_tidy s.store env c n all clock node r draw t
in_tidy Paused s env c n all clock node r draw t = later_tidy c n all t
in_tidy Killed s env c n all clock node r draw t = later_tidy c n all t

at_tidy : (s : Database) (env : EnvCells) (c n : ℕ) (all : List Replica) (node : ℕ) (r : Request) (draw : ℕ) (cell : Option NodeCell) → AreTidy c n all
    → AreTidy c (n + 1) (reply_at s env all (record { number = n; node = node; request = r; draw = draw }) cell).replicas
at_tidy s env c n all node r draw None t = later_tidy c n all t
at_tidy s env c n all node r draw (Some cell) t = in_tidy cell.process s env c n all cell.clock node r draw t

pub serve_tidy : (s : Database) (env : EnvCells) (c n : ℕ) (all : List Replica) (node : ℕ) (r : Request) (draw : ℕ) → AreTidy c n all → AreTidy c (n + 1) (reply_to s env all n node r draw).replicas
unfolding reply_to
serve_tidy s env c n all node r draw t =
    either (λ (s : ReplyAndReplicas). AreTidy c (n + 1) s.replicas) (is_request_of r s.workload) _ _ (at_tidy s env c n all node r draw (env.node node) t) (later_tidy c n all t)

send_tidy : (c n : ℕ) (env : EnvCells) (from : ℕ) (all : List Replica) (to : ℕ) → AreTidy c n all → AreTidy c n (replicas_after_sending env from all to)
send_tidy c n env from all to t = either (AreTidy c n) _ (set all to (replica_at all from)) all (set_tidy c n all to (replica_at all from) t (t.low from)) t

pub ticked_tidy : (store : Store) (env : EnvCells) (c n : ℕ) (all : List Replica) → AreTidy c n all → AreTidy c (n + 1) (replicas_after_tick store env all)
unfolding replicas_after_tick
ticked_tidy Quorum env c n all t = later_tidy c n all t
ticked_tidy Lww env c n all t =
    later_tidy c n _ (fold_keeps (AreTidy c n) (replicas_after_sending_all env (length all)) (λ a from k. fold_keeps (AreTidy c n) (replicas_after_sending env from) (λ b to h. send_tidy c n env from b to h) a (node_places (length all)) k) all (node_places (length all)) t)
ticked_tidy Local env c n all t = later_tidy c n all t

pub forgotten_tidy : (s : Database) (before : List Bool) (after : EnvCells) (c n : ℕ) (all : List Replica) → AreTidy c n all → AreTidy c (n + 1) (replicas_after_kills s before after all)
unfolding replicas_after_kills
forgotten_tidy s before after c n all t =
    later_tidy c n _ (either (AreTidy c n) s.volatile _ _
    (fold_keeps (AreTidy c n) (replicas_after_kill s before after) (λ a p k. either (AreTidy c n) _ (set a p (first_replica s)) a (set_tidy c n a p (first_replica s) k (omega arith)) k) all (node_places (length all)) t) t)
