-- What the code makes of the replicas in place, against the replicas that Stores.antt has: replicas
-- that nodes take over (this project's own).
use Rattle.std.specs.Prelude.{◌≡◌, ℕ, ◌<◌, List, length, fold, map, slice_set}
use Rattle.std.specs.List.{All}
use Rattle.jh_simnode.specs.declared.replicas.Replica.{Replica}
use Rattle.jh_simnode.specs.declared.stores.ReplyAndTaken.{ReplyAndTaken}
use Rattle.jh_simnode.specs.declared.stores.Taken.{Taken}
use Rattle.jh_simnode.specs.Replicas.{replica_at}
use Rattle.jh_simnode.specs.Stores.{ReplyAndReplicas}

-- the replicas with this one, and with these, each at its place
abbrev pub replicas_with : List Replica → Taken → List Replica
replicas_with replicas t = slice_set replicas t.place t.replica

abbrev pub replicas_with_all : List Replica → List Taken → List Replica
replicas_with_all replicas taken = fold replicas_with replicas taken

-- by taking these over, each at a place that is there, the old replicas become the new ones
pub record AreTaken (old : List Replica) (taken : List Taken) (new : List Replica) : Type 0 where
  pub known : All (λ t. t.place < length old) taken
  pub replicas : replicas_with_all old taken ≡ new

-- an outcome, over these replicas, is what is due
pub record GivesReply (old : List Replica) (served : ReplyAndTaken)
    (due : ReplyAndReplicas) : Type 0 where
  pub reply : served.reply ≡ due.reply
  pub replicas : AreTaken old served.taken.items due.replicas

-- of each place the place whose replica it has: there are so many, and each is there
pub record AreSources (count : ℕ) (sources : List ℕ) : Type 0 where
  pub sized : length sources ≡ count
  pub known : All (λ p. p < count) sources

-- the replicas at these places
abbrev pub replicas_from : List Replica → List ℕ → List Replica
replicas_from replicas sources = map (replica_at replicas) sources
