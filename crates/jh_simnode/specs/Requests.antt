-- Kinds of requests (this project's own).
use Rattle.std.specs.Prelude.{Bool, true, false}
use Rattle.jh_ops.specs.declared.call.Request.{Request}
use Rattle.jh_ops.specs.declared.call.Request.TheVariants.{Read, Write, Cas, Add, Generate, Txn}

-- a request that only asks: a paused node surely did nothing about it
abbrev pub only_asks : Request → Bool
only_asks Read = true
only_asks (Write v) = false
only_asks (Cas a b) = false
only_asks (Add v) = false
only_asks Generate = true
only_asks Txn = false

-- it reads
abbrev pub is_read_request : Request → Bool
is_read_request Read = true
is_read_request (Write v) = false
is_read_request (Cas a b) = false
is_read_request (Add v) = false
is_read_request Generate = false
is_read_request Txn = false
