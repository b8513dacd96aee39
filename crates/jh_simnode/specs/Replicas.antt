-- What a node keeps of the database: how new it is, its recency, and the contents (this
-- project's own).
use Rattle.std.specs.Prelude.{ℕ, ℤ, pos, ◌&&◌, ◌||◌, Bool, true, false, List, [], Option, Some}
use Rattle.std.specs.Prelude.{None, nat_lt, int_lt, slice_index_or}
use Rattle.std.specs.Ordering.{int_eq}
use Rattle.jh_ops.specs.declared.call.Workload.{Workload}
use Rattle.jh_ops.specs.declared.call.Workload.TheVariants.{Register, Counter, Set, Ids}
use Rattle.jh_simnode.specs.declared.database.Database.{Database}
use Rattle.jh_simnode.specs.declared.replicas.Contents.{Contents}
use Rattle.jh_simnode.specs.declared.replicas.Contents.TheVariants.{One, Many}
use Rattle.jh_simnode.specs.declared.replicas.Got.{Got}
use Rattle.jh_simnode.specs.declared.replicas.Recency.{Recency}
use Rattle.jh_simnode.specs.declared.replicas.Recency.TheVariants.{First, Version, Stamp}
use Rattle.jh_simnode.specs.declared.replicas.Replica.{Replica}

-- what a replica holds at first
abbrev pub contents_of : Workload → Option ℤ → Contents
contents_of Register initial = One initial
contents_of Counter initial = One (Some (pos 0))
contents_of Set initial = Many []
contents_of Ids initial = One (Some (pos 0))

-- the contents of each replica at first, of this database
abbrev pub first_contents : Database → Contents
first_contents s = contents_of s.workload s.initial

-- each replica at first
abbrev pub first_replica : Database → Replica
first_replica s = record { recency = First; contents = first_contents s }

-- what a read of the contents gets
abbrev pub got_of : Contents → Got
got_of (One x) = Got.One x
got_of (Many xs) = Got.Many xs

-- the version that a recency has; at first 0
abbrev pub version : Recency → ℕ
version First = 0
version (Version v) = v
version (Stamp at place) = 0

-- the lower of two stamps; no stamp is below each stamp
abbrev pub is_lower : Recency → Recency → Bool
is_lower First First = false
is_lower First (Version v) = false
is_lower First (Stamp at place) = true
is_lower (Version v) m = false
is_lower (Stamp at place) First = false
is_lower (Stamp at place) (Version v) = false
is_lower (Stamp at place) (Stamp at' place') =
    int_lt at at' || (int_eq at at' && nat_lt place place')

-- what stands for the replica of a place that isn't there
abbrev pub blank_replica : Replica
blank_replica = record { recency = First; contents = One None }

-- the replica of the node at a place
abbrev pub replica_at : List Replica → ℕ → Replica
replica_at replicas place = slice_index_or replicas place blank_replica
