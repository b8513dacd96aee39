-- The limits of the rate and the recovery of a test, and how its transactions are made where
-- settings do not say (this project's own). The latest moment is a limit of jh_settings; what else
-- is limited has its limits beside generators and transactions.
use Rattle.std.specs.Prelude.{ℕ}

-- the most calls a second
abbrev pub max_rate : ℕ
max_rate = 1000000

-- the longest recovery, in milliseconds: an hour
abbrev pub max_recovery_ms : ℕ
max_recovery_ms = 3600000

-- how many keys transactions have at once, where settings do not say
abbrev pub default_keys : ℕ
default_keys = 4

-- how many micro-operations a transaction has at most, where settings do not say
abbrev pub default_max_txn : ℕ
default_max_txn = 4

-- how many appends a key gets, where settings do not say
abbrev pub default_appends_per_key : ℕ
default_appends_per_key = 32
