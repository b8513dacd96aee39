-- The requests of each workload, those of the workloads that Jepsen's pages on checkers name, and
-- its name and its most calls; and how a request is recorded (jepsen.history). This project's own.
use Rattle.std.specs.Prelude.{ℕ, Bool, true, false, List, [], ◌∷◌, codes, if◌then◌else◌}
use Rattle.std.specs.Prelude.{Option, Some, None}
use Rattle.std.specs.Str.{bytes_eq}
use Rattle.jh_ops.specs.Words.{Content, Nothing, One, Several}
use Rattle.jh_ops.specs.declared.call.Request.{Request}
use Rattle.jh_ops.specs.declared.call.Request.TheVariants.{Read, Write, Cas, Add, Generate, Txn}
use Rattle.jh_ops.specs.declared.call.Workload.{Workload}
use Rattle.jh_ops.specs.declared.call.Workload.TheVariants.{Register, Counter, Set, Ids}

-- a register is read, written, and compared and set; counters and sets are added to and read; ids
-- are generated; a transaction is a request of none of these
abbrev pub is_request_of : Request → Workload → Bool
is_request_of Read Register = true
is_request_of Read Counter = true
is_request_of Read Set = true
is_request_of Read Ids = false
is_request_of (Write v) Register = true
is_request_of (Write v) Counter = false
is_request_of (Write v) Set = false
is_request_of (Write v) Ids = false
is_request_of (Cas a b) Register = true
is_request_of (Cas a b) Counter = false
is_request_of (Cas a b) Set = false
is_request_of (Cas a b) Ids = false
is_request_of (Add v) Register = false
is_request_of (Add v) Counter = true
is_request_of (Add v) Set = true
is_request_of (Add v) Ids = false
is_request_of Generate Register = false
is_request_of Generate Counter = false
is_request_of Generate Set = false
is_request_of Generate Ids = true
is_request_of Txn Register = false
is_request_of Txn Counter = false
is_request_of Txn Set = false
is_request_of Txn Ids = false

-- the function of a request
abbrev pub request_name : Request → List ℕ
request_name Read = codes "read"
request_name (Write v) = codes "write"
request_name (Cas a b) = codes "cas"
request_name (Add v) = codes "add"
request_name Generate = codes "generate"
request_name Txn = codes "txn"

-- what a request asks with; the operations of a transaction are no part of the request
abbrev pub asked_content : Request → Content
asked_content Read = Nothing
asked_content (Write v) = One v
asked_content (Cas a b) = Several (a ∷ b ∷ [])
asked_content (Add v) = One v
asked_content Generate = Nothing
asked_content Txn = Nothing

-- the name by which a workload is chosen
abbrev pub workload_name : Workload → List ℕ
workload_name Register = codes "register"
workload_name Counter = codes "counter"
workload_name Set = codes "set"
workload_name Ids = codes "unique-ids"

-- the workload of this name
abbrev pub workload_named : List ℕ → Option Workload
workload_named name =
    if bytes_eq name (codes "register") then Some Register
    else if bytes_eq name (codes "counter") then Some Counter
    else if bytes_eq name (codes "set") then Some Set
    else if bytes_eq name (codes "unique-ids") then Some Ids
    else None

-- how many calls a run of a workload may make; a read of a set gives all its elements
abbrev pub max_calls_of : Workload → ℕ
max_calls_of Set = 1000
max_calls_of _ = 10000
