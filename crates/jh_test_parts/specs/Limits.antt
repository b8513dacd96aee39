-- The limits of a test's schedule and of its transactions (this project's own).
use Rattle.std.specs.Prelude.{ℕ}

-- how many entries the schedule of a test has, at most; that of a run: `max_entries` (jh_simnode)
abbrev pub max_test_entries : ℕ
max_test_entries = 1024

-- over how many keys at a time transactions are, at most
abbrev pub max_transaction_keys : ℕ
max_transaction_keys = 1000

-- how many micro-operations a transaction has, at most
abbrev pub max_transaction_ops : ℕ
max_transaction_ops = 100

-- how many appends of a key are made before another one takes its place, at most
abbrev pub max_key_appends : ℕ
max_key_appends = 10000
