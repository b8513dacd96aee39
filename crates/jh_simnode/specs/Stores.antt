-- What each store does with a request and with a tick, and what a killed node forgets (this
-- project's own).
use Rattle.std.specs.Prelude.{ℕ, ℤ, pos, ◌+◌, ◌+ℤ◌, ◌&&◌, Bool, false, not, List, [], ◌∷◌}
use Rattle.std.specs.Prelude.{Option, Some, None, nat_lt, length, fold, slice_set, slice_index_or}
use Rattle.std.specs.Prelude.{map, filter, if◌then◌else◌}
use Rattle.jh_env.specs.Cells.{Life}
use Rattle.jh_env.specs.Cells.{Running, Paused, Killed}
use Rattle.jh_env.specs.Cells.{Link}
use Rattle.jh_env.specs.Cells.{NodeCell}
use Rattle.jh_env.specs.Names.{node_places}
use Rattle.jh_grudge.specs.Grudges.{majority}
use Rattle.jh_ops.specs.declared.call.Request.{Request}
use Rattle.jh_simnode.specs.declared.database.Database.{Database}
use Rattle.jh_simnode.specs.declared.database.Store.{Store}
use Rattle.jh_simnode.specs.declared.database.Store.TheVariants.{Quorum, Lww, Local}
use Rattle.jh_simnode.specs.declared.replicas.Recency.{Recency}
use Rattle.jh_simnode.specs.declared.replicas.Recency.TheVariants.{Version, Stamp}
use Rattle.jh_simnode.specs.declared.replicas.Replica.{Replica}
use Rattle.jh_simnode.specs.declared.replicas.Reply.{Reply}
use Rattle.jh_simnode.specs.declared.replicas.Reply.TheVariants.{Ok, Fail, Info}
use Rattle.jh_ops.specs.Requests.{is_request_of}
use Rattle.jh_simnode.specs.Requests.{only_asks, is_read_request}
use Rattle.jh_simnode.specs.Replicas.{version, is_lower, replica_at, got_of, first_replica}
use Rattle.jh_simnode.specs.Effects.{effect}
use Rattle.jh_simnode.specs.declared.effects.RequestEffect.{RequestEffect}
use Rattle.jh_simnode.specs.Reach.{EnvCells, is_node_running, is_node_killed}
use Rattle.jh_simnode.specs.Reach.{reached_nodes, responding_nodes}

-- a reply, and the replicas after it
pub record ReplyAndReplicas : Type 0 where
  pub reply : Reply
  pub replicas : List Replica

-- only a reply
abbrev pub reply_alone : List Replica → Reply → ReplyAndReplicas
reply_alone replicas reply = record { reply = reply; replicas = replicas }

-- the place of the greatest version among these places, of equals the first, after the best so far
abbrev pub newer_place : List Replica → ℕ → ℕ → ℕ
newer_place replicas best place =
    if nat_lt (version (replica_at replicas best).recency)
    (version (replica_at replicas place).recency)
    then place else best

-- of these places the one of the greatest version
abbrev pub newest_place : List Replica → List ℕ → ℕ
newest_place replicas [] = 0
newest_place replicas (p ∷ ps) = fold (newer_place replicas) p ps

-- the version of the node at a place
abbrev pub version_at : List Replica → ℕ → ℕ
version_at replicas place = version (replica_at replicas place).recency

-- each of these nodes has the new replica
abbrev pub replicas_with_new : Replica → List Replica → ℕ → List Replica
replicas_with_new new replicas place = slice_set replicas place new

abbrev pub replicas_with_new_at : Replica → List Replica → List ℕ → List Replica
replicas_with_new_at new replicas these = fold (replicas_with_new new) replicas these

-- those of these nodes whose own stamp is lower
abbrev pub older_places : List Replica → Recency → List ℕ → List ℕ
older_places replicas stamp these =
    filter (λ p. is_lower (replica_at replicas p).recency stamp) these

-- what a change of a node's own replica comes to
abbrev pub local_change : List Replica → ℕ → Option RequestEffect → ReplyAndReplicas
local_change replicas node None = reply_alone replicas Fail
local_change replicas node (Some e) = record {
  reply = Ok e.got;
  replicas =
      slice_set replicas node
      (record { recency = (replica_at replicas node).recency; contents = e.after });
}

-- a change with this stamp, which goes to those of the nodes reached whose own stamp is lower
abbrev pub lww_change : List Replica → Recency → List ℕ → Option RequestEffect → ReplyAndReplicas
lww_change replicas stamp reached None = reply_alone replicas Fail
lww_change replicas stamp reached (Some e) =
    record {
      reply = Ok e.got;
      replicas =
          replicas_with_new_at (record { recency = stamp; contents = e.after }) replicas
          (older_places replicas stamp reached);
    }

-- a change at a majority, of which so many nodes respond
abbrev pub quorum_change : List Replica → ℕ → List ℕ → ℕ → Option RequestEffect → ReplyAndReplicas
quorum_change replicas best reached responding None = reply_alone replicas Fail
quorum_change replicas best reached responding (Some e) = record {
  reply = if nat_lt responding (majority (length replicas)) then Info else Ok e.got;
  replicas =
      replicas_with_new_at
      (record { recency = Version (version_at replicas best + 1); contents = e.after }) replicas
      reached;
}

-- the local store: each node has a replica of its own
abbrev pub local_reply : List Replica → ℕ → Request → ReplyAndReplicas
local_reply replicas node request =
    local_change replicas node (effect request (replica_at replicas node).contents)

-- the last writer wins: a read of the own replica, or a change with a stamp
abbrev pub lww_reply : EnvCells → List Replica → ℤ → ℕ → Request → ℕ → ReplyAndReplicas
lww_reply env replicas at node request draw =
    if is_read_request request
    then reply_alone replicas (Ok (got_of (replica_at replicas node).contents))
    else lww_change replicas (Stamp at node) (reached_nodes env (length replicas) draw node)
    (effect request (replica_at replicas node).contents)

-- a read of the greatest version of those that respond; fails below a majority
abbrev pub quorum_read : List Replica → List ℕ → ReplyAndReplicas
quorum_read replicas responding =
    if nat_lt (length responding) (majority (length replicas)) then reply_alone replicas Fail
    else reply_alone replicas
    (Ok (got_of (replica_at replicas (newest_place replicas responding)).contents))

-- a change of the greatest version reached; fails below a majority
abbrev pub quorum_write : List Replica → List ℕ → ℕ → Request → ReplyAndReplicas
quorum_write replicas reached responding request =
    if nat_lt (length reached) (majority (length replicas)) then reply_alone replicas Fail
    else quorum_change replicas (newest_place replicas reached) reached responding
    (effect request (replica_at replicas (newest_place replicas reached)).contents)

-- the store of quorums
abbrev pub quorum_reply : EnvCells → List Replica → ℕ → Request → ℕ → ReplyAndReplicas
quorum_reply env replicas node request draw =
    if is_read_request request then
    quorum_read replicas (responding_nodes env node (reached_nodes env (length replicas) draw node))
    else quorum_write replicas (reached_nodes env (length replicas) draw node)
    (length (responding_nodes env node (reached_nodes env (length replicas) draw node))) request

-- a request at a node, with the number of its event and its draw
pub record NodeRequest : Type 0 where
  pub number : ℕ
  pub node : ℕ
  pub request : Request
  pub draw : ℕ

-- what a running node does, at this time of its clock
abbrev pub running_reply : Store → EnvCells → List Replica → ℤ → NodeRequest → ReplyAndReplicas
running_reply Quorum env replicas clock asked =
    quorum_reply env replicas asked.node asked.request asked.draw
running_reply Lww env replicas clock asked =
    lww_reply env replicas (pos asked.number +ℤ clock) asked.node asked.request asked.draw
running_reply Local env replicas clock asked = local_reply replicas asked.node asked.request

-- the same, by what the node's process does
abbrev pub reply_in : Life → Database → EnvCells → List Replica → ℤ → NodeRequest → ReplyAndReplicas
reply_in Running s env replicas clock asked = running_reply s.store env replicas clock asked
reply_in Paused s env replicas clock asked =
    reply_alone replicas (if only_asks asked.request then Fail else Info)
reply_in Killed s env replicas clock asked = reply_alone replicas Fail

-- the same, where there is such a node
abbrev pub reply_at : Database → EnvCells → List Replica → NodeRequest → Option NodeCell
    → ReplyAndReplicas
reply_at s env replicas asked None = reply_alone replicas Fail
reply_at s env replicas asked (Some n) = reply_in n.process s env replicas n.clock asked

-- the reply of a node to a request, at this event number with this draw, and the replicas after it
unfoldable pub reply_to : Database → EnvCells → List Replica → ℕ → ℕ → Request → ℕ
    → ReplyAndReplicas
reply_to s env replicas number node request draw =
    if is_request_of request s.workload
    then reply_at s env replicas
    (record { number = number; node = node; request = request; draw = draw }) (env.node node)
    else reply_alone replicas Fail

-- there is such a link, and it is uncut
abbrev pub is_uncut : Option Link → Bool
is_uncut None = false
is_uncut (Some l) = not l.cut

-- one node takes over another's replica where its own stamp is lower, both run and the link is
-- uncut
abbrev pub replicas_after_sending : EnvCells → ℕ → List Replica → ℕ → List Replica
replicas_after_sending env from replicas to =
    if ((is_node_running (env.node from) && is_node_running (env.node to))
    && is_uncut (env.link from to))
    && is_lower (replica_at replicas to).recency (replica_at replicas from).recency
    then slice_set replicas to (replica_at replicas from) else replicas

-- one node sends to each in turn
abbrev pub replicas_after_sending_all : EnvCells → ℕ → List Replica → ℕ → List Replica
replicas_after_sending_all env count replicas from =
    fold (replicas_after_sending env from) replicas (node_places count)

-- each node in turn sends to all, in order
abbrev pub replicas_after_spread : EnvCells → ℕ → List Replica → List Replica
replicas_after_spread env count replicas =
    fold (replicas_after_sending_all env count) replicas (node_places count)

-- the replicas after a tick
unfoldable pub replicas_after_tick : Store → EnvCells → List Replica → List Replica
replicas_after_tick Quorum env replicas = replicas
replicas_after_tick Lww env replicas = replicas_after_spread env (length replicas) replicas
replicas_after_tick Local env replicas = replicas

-- which of so many nodes are killed
abbrev pub killed_flags : EnvCells → ℕ → List Bool
killed_flags env count = map (λ p. is_node_killed (env.node p)) (node_places count)

-- the replica of a node that is killed now and wasn't before is as at first
abbrev pub replicas_after_kill : Database → List Bool → EnvCells → List Replica → ℕ → List Replica
replicas_after_kill s before after replicas place =
    if is_node_killed (after.node place) && not (slice_index_or before place false)
    then slice_set replicas place (first_replica s) else replicas

-- the replicas after nodes were killed
unfoldable pub replicas_after_kills : Database → List Bool → EnvCells → List Replica → List Replica
replicas_after_kills s before after replicas =
    if s.volatile
    then fold (replicas_after_kill s before after) replicas (node_places (length replicas))
    else replicas
