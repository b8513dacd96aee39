-- What the calls of a test ask with. This project's own; that groups of threads take keys in turn is
-- jepsen.independent's.
use Rattle.std.specs.Prelude.{◌≡◌, ℕ, suc, ◌==◌, pos, List, [], ◌∷◌, Option, None, Some}
use Rattle.std.specs.Prelude.{if◌then◌else◌}
use Rattle.jh_edn.specs.Edn.{Edn, int}
use Rattle.jh_edn.specs.Parts.{vector_of}
use Rattle.jh_conversation.specs.Laws.{Drivers, run}
use Rattle.jh_conversation.specs.Turn.{group_of, key_of_call, source_after, value_asked}
use Rattle.jh_test_parts.specs.Test.{TestValue, node_of_thread, thread_of_process}
use Rattle.jh_test_parts.specs.Transactions.{TransactionSource, first_source}
use Rattle.jh_test_parts.specs.declared.parts.KeyShares.{KeyShares}
use Rattle.jh_test_parts.specs.declared.records.Recorded.{Recorded}
use Rattle.jh_test_parts.specs.declared.records.Recorded.TheVariants.{Invoked}

-- how many calls of a history are by threads of this group
abbrev pub calls_of_group : TestValue → KeyShares → ℕ → List Recorded → ℕ
calls_of_group t shares group [] = 0
calls_of_group t shares group (Invoked time process node call ∷ past) =
    if group_of shares (thread_of_process t process) == group
    then suc (calls_of_group t shares group past) else calls_of_group t shares group past
calls_of_group t shares group (_ ∷ past) = calls_of_group t shares group past

-- the transactions that are to come behind a history
abbrev pub source_behind : TestValue → List Recorded → TransactionSource
source_behind t [] = first_source t.transactions t.seed
source_behind t (Invoked time process node call ∷ past) = source_after (source_behind t past) call.request
source_behind t (_ ∷ past) = source_behind t past

-- a value with the key whose turn it is, where keys are independent
abbrev pub with_key_in_turn : TestValue → Option KeyShares → ℕ → List Recorded → Edn → Edn
with_key_in_turn t None thread past value = value
with_key_in_turn t (Some shares) thread past value =
    let group = group_of shares thread in
    vector_of (int (pos (key_of_call t shares group (calls_of_group t shares group past))) ∷ value ∷ [])

-- Each call goes to its thread's node. It asks with the value of its request, a transaction with the next
-- one of the seed, and with the key whose turn it is. Histories have the newest record first.
abbrev pub AreAsked : TestValue → List Recorded → Type 0
AreAsked t [] = Unit {0}
AreAsked t (Invoked time process node call ∷ past) =
    let thread = thread_of_process t process in
    (node ≡ node_of_thread t thread)
    × (call.value ≡ with_key_in_turn t t.keys thread past (value_asked (source_behind t past) call.request))
    × AreAsked t past
AreAsked t (_ ∷ past) = AreAsked t past

abbrev pub CallsAsk : Type 0
CallsAsk = (t : TestValue) (d : Drivers t) (lines : List (List ℕ)) → AreAsked t (run t d lines).history
