-- What replicas hold and what is replied in a run is of the shape that its workload has.
use Rattle.std.proofs.Common.{◌≡◌, ℕ, ◌+◌, ◌-◌, ◌<◌, Bool, true, false, List, [], ◌∷◌, length, set, refl, sym, subst, ◌∙◌, arith, inl, inr, ltb-false}
use Rattle.std.specs.Prelude.{ℤ, pos, ◌+ℤ◌, Option, Some, None, if◌then◌else◌, nat_lt, filter, IfSome}
use Rattle.std.specs.List.{fold, All}
use Rattle.std.specs.Ordering.{int_eq}
use Rattle.std.proofs.lemmas.Bool.{cases_eq}
use Rattle.std.proofs.lemmas.List.{get_or-set_same, get_or-set_other, length-set, length-replicate, get_or-replicate}
use Rattle.std.proofs.lemmas.List.Elements.{All-head, All-tail}
use Rattle.jh_env.specs.Cells.{Life, Running, Paused, Killed, NodeCell}
use Rattle.jh_ops.specs.declared.call.Request.{Request}
use Rattle.jh_ops.specs.declared.call.Request.TheVariants.{Read, Write, Cas, Add, Generate, Txn}
use Rattle.jh_ops.specs.declared.call.Workload.{Workload}
use Rattle.jh_ops.specs.declared.call.Workload.TheVariants.{Register, Counter, Set, Ids}
use Rattle.jh_ops.specs.Requests.{is_request_of}
use Rattle.jh_simnode.specs.declared.replicas.Contents.{Contents}
use Rattle.jh_simnode.specs.declared.replicas.Contents.TheVariants.{One, Many}
use Rattle.jh_simnode.specs.declared.replicas.Got.{Got}
use Rattle.jh_simnode.specs.declared.replicas.Replica.{Replica}
use Rattle.jh_simnode.specs.declared.replicas.Recency.TheVariants.{Version, Stamp}
use Rattle.jh_simnode.specs.declared.replicas.Reply.TheVariants as reply_of
use Rattle.jh_simnode.specs.declared.database.Database.{Database}
use Rattle.jh_simnode.specs.declared.database.Store.{Store}
use Rattle.jh_simnode.specs.declared.database.Store.TheVariants.{Quorum, Lww, Local}
use Rattle.jh_simnode.specs.Replicas.{blank_replica, contents_of, replica_at, first_replica, got_of, version}
use Rattle.jh_simnode.specs.Effects.{add_change, cas_change, generate_change, effect, is_small}
use Rattle.jh_env.specs.Names.{node_places}
use Rattle.jh_grudge.specs.Grudges.{majority}
use Rattle.jh_simnode.specs.Reach.{EnvCells, responding_nodes, reached_nodes}
use Rattle.jh_simnode.specs.Requests.{is_read_request, only_asks}
use Rattle.jh_simnode.specs.Stores.{ReplyAndReplicas, reply_alone, reply_to, reply_at, reply_in, running_reply, local_change, lww_change, quorum_change, quorum_read, quorum_write, newest_place, newer_place, version_at, replicas_with_new_at, older_places, replicas_after_tick, replicas_after_sending, replicas_after_sending_all, replicas_after_kills, replicas_after_kill}
use Rattle.jh_simnode.proofs.PlaceLemmas.{places_below}
use Rattle.jh_simnode.specs.declared.events.Event.{Event}
use Rattle.jh_simnode.specs.Events.{AreDue, IsLegal, Moment, Setup, env_of, moment_after, opening}
use Rattle.jh_nemesis.specs.Steps.{state_after}
use Rattle.jh_run_laws.specs.OwnHistory.{RepliesFit, IsShaped, FitsRead, GotFits, ReplyFits}

-- ---- what a request makes of contents

read_fits : (w : Workload) (c : Contents) → IsShaped w c → FitsRead w (got_of c)
read_fits Register (One x) h = tt
read_fits Register (Many xs) h = absurd h
read_fits Counter (One None) h = absurd h
read_fits Counter (One (Some z)) h = tt
read_fits Counter (Many xs) h = absurd h
read_fits Set (One x) h = absurd h
read_fits Set (Many xs) h = tt
read_fits Ids c h = tt

some_if : {X : Type 0} (P : X → Type 0) (b : Bool) (e : X) → P e → IfSome (if b then Some e else None) P
some_if P true e h = h
some_if P false e h = tt

cas_fits : (a b : ℤ) (x : Option ℤ) → IfSome (cas_change a b x) (λ e. IsShaped Register e.after × GotFits Register (Cas a b) e.got)
cas_fits a b None = tt
cas_fits a b (Some x) = some_if _ (int_eq x a) _ (tt, tt)

add_fits : (v : ℤ) (x : Option ℤ) → IfSome (add_change v x) (λ e. IsShaped Counter e.after × GotFits Counter (Add v) e.got)
add_fits v None = tt
add_fits v (Some x) = let h : IsShaped Counter (One (Some (x +ℤ v))) × GotFits Counter (Add v) Got.Nothing = (tt, tt) in some_if _ (is_small (x +ℤ v)) _ h

generate_fits : (x : Option ℤ) → IfSome (generate_change x) (λ e. IsShaped Ids e.after × GotFits Ids Generate e.got)
generate_fits None = tt
generate_fits (Some x) = let h : IsShaped Ids (One (Some (x +ℤ pos 1))) × GotFits Ids Generate (Got.One (Some x)) = (tt, tt) in some_if _ (is_small (x +ℤ pos 1)) _ h

effect_fits : (w : Workload) (request : Request) (c : Contents) → is_request_of request w ≡ true → IsShaped w c → IfSome (effect request c) (λ e. IsShaped w e.after × GotFits w request e.got)
effect_fits w Read c r h = (h, read_fits w c h)
effect_fits Register (Write v) c r h = (tt, tt)
effect_fits Counter (Write v) c r h = absurd cc
effect_fits Set (Write v) c r h = absurd cc
effect_fits Ids (Write v) c r h = absurd cc
effect_fits Register (Cas a b) (One x) r h = cas_fits a b x
effect_fits Register (Cas a b) (Many xs) r h = absurd h
effect_fits Counter (Cas a b) c r h = absurd cc
effect_fits Set (Cas a b) c r h = absurd cc
effect_fits Ids (Cas a b) c r h = absurd cc
effect_fits Register (Add v) c r h = absurd cc
effect_fits Counter (Add v) (One x) r h = add_fits v x
effect_fits Counter (Add v) (Many xs) r h = absurd h
effect_fits Set (Add v) (One x) r h = absurd h
effect_fits Set (Add v) (Many xs) r h = (tt, tt)
effect_fits Ids (Add v) c r h = absurd cc
effect_fits Register Generate c r h = absurd cc
effect_fits Counter Generate c r h = absurd cc
effect_fits Set Generate c r h = absurd cc
effect_fits Ids Generate (One x) r h = generate_fits x
effect_fits Ids Generate (Many xs) r h = absurd h
effect_fits w Txn c r h = tt

-- ---- places

abbrev Below : ℕ → List ℕ → Type 0
Below n [] = Unit {0}
Below n (p ∷ ps) = (p < n) × Below n ps

below_from : (n : ℕ) (ps : List ℕ) → All (λ p. p < n) ps → Below n ps
below_from n [] h = tt
below_from n (p ∷ ps) h = (All-head (λ (q : ℕ). q < n) p ps h, below_from n ps (All-tail (λ (q : ℕ). q < n) p ps h))

below_filter : (n : ℕ) (q : ℕ → Bool) (ps : List ℕ) → Below n ps → Below n (filter q ps)
below_filter n q [] h = tt
below_filter n q (p ∷ ps) h =
    elim (q p) as (λ b. Below n (if b then p ∷ filter q ps else filter q ps)) [
      | true ↦ (h.0, below_filter n q ps h.1)
      | false ↦ below_filter n q ps h.1
    ]

all_places : (n : ℕ) → Below n (node_places n)
all_places n = below_from n (node_places n) (places_below n)

newer_below : (n : ℕ) (replicas : List Replica) (best p : ℕ) → best < n → p < n → newer_place replicas best p < n
newer_below n replicas best p b h =
    elim (nat_lt (version (replica_at replicas best).recency) (version (replica_at replicas p).recency)) as (λ t. (if t then p else best) < n) [ true ↦ h | false ↦ b ]

fold_below : (n : ℕ) (replicas : List Replica) (best : ℕ) (ps : List ℕ) → best < n → Below n ps → fold (newer_place replicas) best ps < n
fold_below n replicas best [] b h = b
fold_below n replicas best (p ∷ ps) b h = fold_below n replicas (newer_place replicas best p) ps (newer_below n replicas best p b h.0) h.1

newest_below : (n : ℕ) (replicas : List Replica) (ps : List ℕ) → 0 < length ps → Below n ps → newest_place replicas ps < n
newest_below n replicas [] some h = absurd (omega (arith, some))
newest_below n replicas (p ∷ ps) some h = fold_below n replicas p ps h.0 h.1

-- ---- replicas

-- a replica for each of so many nodes, each of the shape
pub record AreShaped (w : Workload) (count : ℕ) (all : List Replica) : Type 0 where
  pub sized : length all ≡ count
  pub each : (place : ℕ) → place < length all → IsShaped w (replica_at all place).contents

-- a reply that fits, and replicas of the shape
abbrev pub IsServed : Workload → ℕ → Request → ReplyAndReplicas → Type 0
IsServed w count request s = AreShaped w count s.replicas × ReplyFits w request s.reply

either : {A : Type 0} (P : A → Type 0) (b : Bool) (x y : A) → (b ≡ true → P x) → (b ≡ false → P y) → P (if b then x else y)
either P true x y p q = p refl
either P false x y p q = q refl

fold_keeps : {A : Type 0} (P : A → Type 0) (n : ℕ) (f : A → ℕ → A) → ((a : A) (p : ℕ) → p < n → P a → P (f a p)) → (a : A) (ps : List ℕ) → Below n ps → P a → P (fold f a ps)
fold_keeps P n f step a [] b h = h
fold_keeps P n f step a (p ∷ ps) b h = fold_keeps P n f step (f a p) ps b.1 (step a p b.0 h)

set_shaped : (w : Workload) (c : ℕ) (all : List Replica) (p : ℕ) (new : Replica) → AreShaped w c all → IsShaped w new.contents → AreShaped w c (set all p new)
set_shaped w c all p new t h = record { sized = length-set all p new ∙ t.sized; each = at } where
  at : (q : ℕ) → q < length (set all p new) → IsShaped w (replica_at (set all p new) q).contents
  at q below =
      let short : q < length all = rw (length-set all p new) at below in
      elim (cases_eq q p) as (λ s. IsShaped w (replica_at (set all p new) q).contents) [
        | inl same ↦ (let within : p < length all = rw same at short in rw (same, get_or-set_same all p new blank_replica within) h)
        | inr other ↦ rw (get_or-set_other all p q new blank_replica other) (t.each q short)
      ]

give_shaped : (w : Workload) (c : ℕ) (new : Replica) (all : List Replica) (these : List ℕ) → IsShaped w new.contents → AreShaped w c all → AreShaped w c (replicas_with_new_at new all these)
give_shaped w c new all [] h t = t
give_shaped w c new all (p ∷ ps) h t = give_shaped w c new (set all p new) ps h (set_shaped w c all p new t h)

local_shaped : (w : Workload) (c : ℕ) (all : List Replica) (node : ℕ) (request : Request) (contents : Contents) → IfSome (effect request contents) (λ e. IsShaped w e.after × GotFits w request e.got)
    → AreShaped w c all → IsServed w c request (local_change all node (effect request contents))
local_shaped w c all node request contents fits t =
    elim (effect request contents) as (λ o. IfSome o (λ e. IsShaped w e.after × GotFits w request e.got) → IsServed w c request (local_change all node o)) [
      | None ↦ λ h. (t, tt)
      | Some e ↦ λ h. (set_shaped w c all node (record { recency = (replica_at all node).recency; contents = e.after }) t h.0, h.1)
    ] fits

lww_shaped : (w : Workload) (c : ℕ) (all : List Replica) (at : ℤ) (node : ℕ) (these : List ℕ) (request : Request) (contents : Contents) → IfSome (effect request contents) (λ e. IsShaped w e.after × GotFits w request e.got)
    → AreShaped w c all → IsServed w c request (lww_change all (Stamp at node) these (effect request contents))
lww_shaped w c all at node these request contents fits t =
    elim (effect request contents) as (λ o. IfSome o (λ e. IsShaped w e.after × GotFits w request e.got) → IsServed w c request (lww_change all (Stamp at node) these o)) [
      | None ↦ λ h. (t, tt)
      | Some e ↦ λ h. (give_shaped w c (record { recency = Stamp at node; contents = e.after }) all (older_places all (Stamp at node) these) h.0 t, h.1)
    ] fits

changed_shaped : (w : Workload) (c : ℕ) (all : List Replica) (best : ℕ) (these : List ℕ) (k : ℕ) (request : Request) (contents : Contents) → IfSome (effect request contents) (λ e. IsShaped w e.after × GotFits w request e.got)
    → AreShaped w c all → IsServed w c request (quorum_change all best these k (effect request contents))
changed_shaped w c all best these k request contents fits t =
    elim (effect request contents) as (λ o. IfSome o (λ e. IsShaped w e.after × GotFits w request e.got) → IsServed w c request (quorum_change all best these k o)) [
      | None ↦ λ h. (t, tt)
      | Some e ↦ λ h. (
        give_shaped w c (record { recency = Version (version_at all best + 1); contents = e.after }) all these h.0 t,
        either (ReplyFits w request) (nat_lt k (majority (length all))) reply_of.Info (reply_of.Ok e.got) (λ _. tt) (λ _. h.1),
      )
    ] fits

-- ---- what a node does

local_served_fits : (w : Workload) (c : ℕ) (all : List Replica) (node : ℕ) (request : Request) → is_request_of request w ≡ true → node < c → AreShaped w c all
    → IsServed w c request (local_change all node (effect request (replica_at all node).contents))
local_served_fits w c all node request r n t =
    local_shaped w c all node request (replica_at all node).contents (effect_fits w request (replica_at all node).contents r (t.each node (rw t.sized n))) t

read_served : (w : Workload) (c : ℕ) (all : List Replica) (place : ℕ) (request : Request) → is_read_request request ≡ true → place < c → AreShaped w c all
    → IsServed w c request (reply_alone all (reply_of.Ok (got_of (replica_at all place).contents)))
read_served w c all place Read r n t = (t, read_fits w (replica_at all place).contents (t.each place (rw t.sized n)))
read_served w c all place (Write v) r n t = absurd cc
read_served w c all place (Cas a b) r n t = absurd cc
read_served w c all place (Add v) r n t = absurd cc
read_served w c all place Generate r n t = absurd cc
read_served w c all place Txn r n t = absurd cc

some_of : (n m : ℕ) → nat_lt n (majority m) ≡ false → 0 < n
some_of n m e = let q = ltb-false n (majority m) e in omega (arith, q)

quorum_served : (w : Workload) (c : ℕ) (env : EnvCells) (all : List Replica) (node : ℕ) (request : Request) (draw : ℕ) → is_request_of request w ≡ true → AreShaped w c all
    → IsServed w c request (if is_read_request request then quorum_read all (responding_nodes env node (reached_nodes env (length all) draw node)) else quorum_write all (reached_nodes env (length all) draw node) (length (responding_nodes env node (reached_nodes env (length all) draw node))) request)
quorum_served w c env all node request draw r t =
    let reached = reached_nodes env (length all) draw node in
    let answering = responding_nodes env node reached in
    let low : Below (length all) reached = below_filter (length all) _ (node_places (length all)) (all_places (length all)) in
    let near : Below (length all) answering = below_filter (length all) _ reached low in
    either (IsServed w c request) (is_read_request request) (quorum_read all answering) (quorum_write all reached (length answering) request)
    (λ reads. either (IsServed w c request) (nat_lt (length answering) (majority (length all))) (reply_alone all reply_of.Fail) (reply_alone all (reply_of.Ok (got_of (replica_at all (newest_place all answering)).contents)))
    (λ _. (t, tt))
    (λ many. read_served w c all (newest_place all answering) request reads (rw (← t.sized) (newest_below (length all) all answering (some_of (length answering) (length all) many) near)) t))
    (λ _. either (IsServed w c request) (nat_lt (length reached) (majority (length all))) (reply_alone all reply_of.Fail)
    (quorum_change all (newest_place all reached) reached (length answering) (effect request (replica_at all (newest_place all reached)).contents))
    (λ _. (t, tt))
    (λ many.
    let best : newest_place all reached < length all = newest_below (length all) all reached (some_of (length reached) (length all) many) low in
    changed_shaped w c all (newest_place all reached) reached (length answering) request (replica_at all (newest_place all reached)).contents
    (effect_fits w request (replica_at all (newest_place all reached)).contents r (t.each (newest_place all reached) best)) t))

running_served : (store : Store) (w : Workload) (c : ℕ) (env : EnvCells) (all : List Replica) (number : ℕ) (clock : ℤ) (node : ℕ) (request : Request) (draw : ℕ) → is_request_of request w ≡ true → node < c → AreShaped w c all
    → IsServed w c request (running_reply store env all clock (record { number = number; node = node; request = request; draw = draw }))
running_served Quorum w c env all number clock node request draw r n t = quorum_served w c env all node request draw r t
running_served Lww w c env all number clock node request draw r n t =
    either (IsServed w c request) (is_read_request request) _ _ (λ reads. read_served w c all node request reads n t)
    (λ _. lww_shaped w c all _ node (reached_nodes env (length all) draw node) request (replica_at all node).contents (effect_fits w request (replica_at all node).contents r (t.each node (rw t.sized n))) t)
running_served Local w c env all number clock node request draw r n t = local_served_fits w c all node request r n t

in_served : (life : Life) (s : Database) (c : ℕ) (env : EnvCells) (all : List Replica) (number : ℕ) (clock : ℤ) (node : ℕ) (request : Request) (draw : ℕ) → is_request_of request s.workload ≡ true → node < c → AreShaped s.workload c all
    → IsServed s.workload c request (reply_in life s env all clock (record { number = number; node = node; request = request; draw = draw }))
in_served Running s c env all number clock node request draw r n t = running_served s.store s.workload c env all number clock node request draw r n t
in_served Paused s c env all number clock node request draw r n t = (t, either (ReplyFits s.workload request) (only_asks request) reply_of.Fail reply_of.Info (λ _. tt) (λ _. tt))
in_served Killed s c env all number clock node request draw r n t = (t, tt)

at_served : (s : Database) (c : ℕ) (env : EnvCells) (all : List Replica) (number node : ℕ) (request : Request) (draw : ℕ) (cell : Option NodeCell) → is_request_of request s.workload ≡ true → node < c → AreShaped s.workload c all
    → IsServed s.workload c request (reply_at s env all (record { number = number; node = node; request = request; draw = draw }) cell)
at_served s c env all number node request draw None r n t = (t, tt)
at_served s c env all number node request draw (Some cell) r n t = in_served cell.process s c env all number cell.clock node request draw r n t

pub serve_fits : (s : Database) (c : ℕ) (env : EnvCells) (all : List Replica) (number node : ℕ) (request : Request) (draw : ℕ) → node < c → AreShaped s.workload c all
    → IsServed s.workload c request (reply_to s env all number node request draw)
unfolding reply_to
serve_fits s c env all number node request draw n t =
    either (IsServed s.workload c request) (is_request_of request s.workload) _ _ (λ r. at_served s c env all number node request draw (env.node node) r n t) (λ _. (t, tt))

-- ---- ticks and kills

sent_shaped : (w : Workload) (c : ℕ) (env : EnvCells) (from : ℕ) (all : List Replica) (to : ℕ) → from < c → AreShaped w c all → AreShaped w c (replicas_after_sending env from all to)
sent_shaped w c env from all to n t =
    either (AreShaped w c) _ (set all to (replica_at all from)) all (λ _. set_shaped w c all to (replica_at all from) t (t.each from (rw t.sized n))) (λ _. t)

ticked_shaped : (store : Store) (w : Workload) (c : ℕ) (env : EnvCells) (all : List Replica) → AreShaped w c all → AreShaped w c (replicas_after_tick store env all)
unfolding replicas_after_tick
ticked_shaped Quorum w c env all t = t
ticked_shaped Lww w c env all t =
    let n = length all in
    let low : Below c (node_places n) = rw t.sized (all_places c) in
    fold_keeps (AreShaped w c) c (replicas_after_sending_all env n) (λ a from short k. fold_keeps (AreShaped w c) c (replicas_after_sending env from) (λ b to _ h. sent_shaped w c env from b to short h) a (node_places n) low k) all (node_places n) low t
ticked_shaped Local w c env all t = t

first_shaped : (w : Workload) (initial : Option ℤ) → IsShaped w (contents_of w initial)
first_shaped Register initial = tt
first_shaped Counter initial = tt
first_shaped Set initial = tt
first_shaped Ids initial = tt

forgotten_shaped : (s : Database) (c : ℕ) (before : List Bool) (after : EnvCells) (all : List Replica) → AreShaped s.workload c all → AreShaped s.workload c (replicas_after_kills s before after all)
unfolding replicas_after_kills
forgotten_shaped s c before after all t =
    either (AreShaped s.workload c) s.volatile _ all
    (λ _. fold_keeps (AreShaped s.workload c) (length all) (replicas_after_kill s before after)
    (λ a p _ k. either (AreShaped s.workload c) _ (set a p (first_replica s)) a (λ _. set_shaped s.workload c a p (first_replica s) k (first_shaped s.workload s.initial)) (λ _. k))
    all (node_places (length all)) (all_places (length all)) t)
    (λ _. t)

-- ---- a legal journal

replies_from : (u : Setup) (m : Moment) (es : List Event) → AreShaped u.database.workload (length u.names) m.replicas → AreDue u m es → RepliesFit u.database.workload es
replies_from u m [] t h = tt
replies_from u m (Event.Call process node request draw reply ∷ es) t h =
    let s = serve_fits u.database (length u.names) (env_of m.faults) m.replicas m.number node request draw h.0.0 t in
    (subst (ReplyFits u.database.workload request) (sym h.0.1) s.1, replies_from u (moment_after u m (Event.Call process node request draw reply)) es s.0 h.1)
replies_from u m (Event.Step step answer ∷ es) t h =
    replies_from u (moment_after u m (Event.Step step answer)) es (forgotten_shaped u.database (length u.names) _ (env_of (state_after m.faults step)) m.replicas t) h.1
replies_from u m (Event.Tick ∷ es) t h =
    replies_from u (moment_after u m Event.Tick) es (ticked_shaped u.database.store u.database.workload (length u.names) (env_of m.faults) m.replicas t) h.1

pub replies_fit : (u : Setup) (journal : List Event) → IsLegal u journal → RepliesFit u.database.workload journal
replies_fit u journal legal =
    let n = length u.names in
    let first = first_replica u.database in
    replies_from u (opening u) journal (record {
      sized = length-replicate n first;
      each = λ p below. let short : p < n = rw (length-replicate n first) at below in
          rw (get_or-replicate n p first blank_replica short) (first_shaped u.database.workload u.database.initial);
    }) legal
