-- Which threads can reach a generator, and who asks.
--
-- Threads go by their numbers: the nemesis is thread 0, and client thread n, from 0, is n + 1.
-- This project's own.
use Rattle.std.specs.Prelude.{ℕ, ◌+◌, ◌==◌, nat_le, nat_lt, Bool, false, not, ◌&&◌, ◌||◌}
use Rattle.std.specs.Prelude.{List, slice_index_or}
use Rattle.std.specs.List.{list_any}

-- the threads that can reach a generator
abbrev pub Scope : Type 0
Scope = List ℕ

abbrev pub is_client_thread : ℕ → Bool
is_client_thread thread = not (thread == 0)

abbrev pub is_nemesis_thread : ℕ → Bool
is_nemesis_thread thread = thread == 0

-- one of the `count` client threads from number `first` on
abbrev pub is_share_thread : ℕ → ℕ → ℕ → Bool
is_share_thread first count thread = nat_lt first thread && nat_le thread (first + count)

-- none of the first `count` client threads
abbrev pub is_beyond : ℕ → ℕ → Bool
is_beyond count thread = (thread == 0) || nat_lt count thread

abbrev pub is_in_scope : Scope → ℕ → Bool
is_in_scope scope thread = list_any (λ x. x == thread) scope

-- who asks, with which random number, and for each thread whether it has an operation
-- outstanding
pub record Question : Type 0 where
  pub asker : ℕ
  pub random_number : ℕ
  pub busy : List Bool

-- a thread of the scope has an operation outstanding
abbrev pub has_busy_thread : List Bool → Scope → Bool
has_busy_thread busy scope = list_any (λ x. slice_index_or busy x false) scope
