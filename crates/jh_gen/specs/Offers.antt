-- What a generator offers to a thread, and when it is spent (jepsen.generator), by the calls that
-- it gave.
--
-- Each kind has one line for "spent" and one for "offers". The trace is asked anew each time:
-- nothing here keeps a count or a cursor. Members are numbered from 0; a member knows of a trace
-- only the part that came by it.
use Rattle.std.specs.Prelude.{ℕ, suc, ◌+◌, ◌%◌, nat_le, ℤ, pos, ◌+ℤ◌, int_lt, Bool, true, not, ◌&&◌}
use Rattle.jh_edn.specs.Edn.{is_empty}
use Rattle.std.specs.Prelude.{◌||◌, if◌then◌else◌, List, [], ◌∷◌, ◌++◌, length, take, drop, filter}
use Rattle.std.specs.Prelude.{Option, None, Some, option_map}
use Rattle.std.specs.List.{list_all}
use Rattle.std.specs.Option.{option_or}
use Rattle.jh_gen.specs.Generator.{Generator, nothing, once, rising, forever, seq, limit, mix}
use Rattle.jh_gen.specs.Generator.{phases, reserve, each_thread, clients, nemesis_only, Generators}
use Rattle.jh_gen.specs.Generator.{no_generators, generator, ShareList, no_shares, share}
use Rattle.jh_gen.specs.Trace.{Path, Trace, trace_under}
use Rattle.jh_gen.specs.Scope.{Scope, is_client_thread, is_nemesis_thread, is_share_thread}
use Rattle.jh_gen.specs.Scope.{is_beyond, is_in_scope, Question, has_busy_thread}
use Rattle.jh_gen.specs.Fits.{shares_sum}
use Rattle.jh_gen.specs.Rises.{risen}
use Rattle.jh_ops.specs.declared.call.Call.{Call}

-- the greatest number that is added or written
abbrev pub max_number : ℤ
max_number = pos 9223372036854775807

-- how many shares there are; the default of a reserve is the member with this number
abbrev pub shares_len : ShareList → ℕ
shares_len no_shares = 0
shares_len (share n g rest) = suc (shares_len rest)

-- Whether a generator is spent after a trace, in a scope. (What can be asked by nobody is spent:
-- this project's own.)
abbrev mutual
  pub is_exhausted : Generator → Trace → Scope → Bool
  -- nil: a generator that has ended
  is_exhausted nothing t scope = true
  -- an operation by itself, `once`: that operation and no more
  is_exhausted (once c) t scope = is_empty scope || not (is_empty t)
  -- a sequence of adds or of writes, of n, n + 1 and so on, as for a set; that it ends at the
  -- greatest number is our own
  is_exhausted (rising r n) t scope = is_empty scope || int_lt max_number (n +ℤ pos (length t))
  -- `repeat`: the same operation for ever
  is_exhausted (forever c) t scope = is_empty scope
  -- a sequence of generators: each in its turn, until all are spent
  is_exhausted (seq gs) t scope = are_all_exhausted gs 0 t scope
  -- `limit`: at most n operations of a generator
  is_exhausted (limit n g) t scope = nat_le n (length t) || is_exhausted g (trace_under 0 t) scope
  -- `mix`: a mixture of generators, until all are spent
  is_exhausted (mix gs) t scope = are_all_exhausted gs 0 t scope
  -- `phases`: each in its turn, until all are spent
  is_exhausted (phases gs) t scope = are_all_exhausted gs 0 t scope
  -- `reserve`: some client threads for each of some generators, all other threads for the default
  is_exhausted (reserve ms g) t scope =
      are_shares_exhausted ms 0 0 t scope
      && is_exhausted g (trace_under (shares_len ms) t)
      (filter (is_beyond (shares_sum ms)) scope)
  -- `each-thread`: an independent copy of the generator for each thread; a copy's number is its
  -- thread's number
  is_exhausted (each_thread g) t scope =
      list_all (λ x. is_exhausted g (trace_under x t) (x ∷ [])) scope
  -- `clients`: only client threads ask the generator
  is_exhausted (clients g) t scope =
      is_exhausted g (trace_under 0 t) (filter is_client_thread scope)
  -- `nemesis`: only the nemesis asks the generator
  is_exhausted (nemesis_only g) t scope =
      is_exhausted g (trace_under 0 t) (filter is_nemesis_thread scope)

  -- each member, the first with number i
  pub are_all_exhausted : Generators → ℕ → Trace → Scope → Bool
  are_all_exhausted no_generators i t scope = true
  are_all_exhausted (generator g gs) i t scope =
      is_exhausted g (trace_under i t) scope && are_all_exhausted gs (suc i) t scope

  -- each share, the first with number i and of the client threads from `first` on
  pub are_shares_exhausted : ShareList → ℕ → ℕ → Trace → Scope → Bool
  are_shares_exhausted no_shares i first t scope = true
  are_shares_exhausted (share n g ms) i first t scope =
      is_exhausted g (trace_under i t) (filter (is_share_thread first n) scope)
      && are_shares_exhausted ms (suc i) (first + n) t scope

-- a call, and the path by which it comes
abbrev pub Offer : Type 0
Offer = Option (Path × Call)

-- an offer of member i
abbrev pub member_offer : ℕ → Offer → Offer
member_offer i offer = option_map (λ o. (i ∷ o.0, o.1)) offer

-- the first of some answers, whether or not there is something in it
abbrev pub head_of : {X : Type 0} → List (Option X) → Option X
head_of [] = None
head_of (o ∷ os) = o

-- the first something of some answers
abbrev pub first_some : {X : Type 0} → List (Option X) → Option X
first_some [] = None
first_some (o ∷ os) = option_or o (first_some os)

-- counted from the number modulo their count on and around, the first something
abbrev pub picked_value : {X : Type 0} → ℕ → List (Option X) → Option X
picked_value random_number os =
    first_some (drop (random_number % length os) os ++ take (random_number % length os) os)

-- A spent generator offers nothing, and a thread outside the scope is offered nothing.
abbrev pub offer_unless_exhausted : Bool → Scope → Question → Offer → Offer
offer_unless_exhausted exhausted scope q offer =
    if is_in_scope scope q.asker then (if exhausted then None else offer) else None

-- What a generator offers after a trace, in a scope. A member is asked with the same random number.
abbrev mutual
  pub offer : Generator → Trace → Scope → Question → Offer
  offer nothing t scope q = None
  -- the call
  offer (once c) t scope q =
      offer_unless_exhausted (is_exhausted (once c) t scope) scope q (Some ([], c))
  -- the next number
  offer (rising r n) t scope q =
      offer_unless_exhausted (is_exhausted (rising r n) t scope) scope q
      (Some ([], risen r (n +ℤ pos (length t))))
  -- the call
  offer (forever c) t scope q =
      offer_unless_exhausted (is_exhausted (forever c) t scope) scope q (Some ([], c))
  -- what the first member offers that isn't spent
  offer (seq gs) t scope q =
      offer_unless_exhausted (is_exhausted (seq gs) t scope) scope q
      (head_of (open_offers [] gs 0 t scope q))
  -- what the generator offers
  offer (limit n g) t scope q =
      offer_unless_exhausted (is_exhausted (limit n g) t scope) scope q
      (member_offer 0 (offer g (trace_under 0 t) scope q))
  -- Jepsen chooses at random among the members. Here the random number chooses, among those that
  -- aren't spent, and where the chosen one offers nothing, the next ones are asked, around: how it
  -- picks and goes on is this project's own.
  offer (mix gs) t scope q =
      offer_unless_exhausted (is_exhausted (mix gs) t scope) scope q
      (picked_value q.random_number (open_offers [] gs 0 t scope q))
  -- what the first member offers that isn't spent; a member begins only once no thread of the scope
  -- is busy, as `phases` waits for all operations to complete before the next phase
  offer (phases gs) t scope q =
      offer_unless_exhausted (is_exhausted (phases gs) t scope) scope q
      (head_of (open_offers scope gs 0 t scope q))
  -- what the thread's member offers
  offer (reserve ms g) t scope q =
      offer_unless_exhausted (is_exhausted (reserve ms g) t scope) scope q
      (share_offer ms 0 0 t scope q
      (member_offer (shares_len ms)
      (offer g (trace_under (shares_len ms) t) (filter (is_beyond (shares_sum ms)) scope) q)))
  -- what the thread's copy offers
  offer (each_thread g) t scope q =
      offer_unless_exhausted (is_exhausted (each_thread g) t scope) scope q
      (member_offer q.asker (offer g (trace_under q.asker t) (q.asker ∷ []) q))
  -- what the generator offers to clients
  offer (clients g) t scope q =
      offer_unless_exhausted (is_exhausted (clients g) t scope) scope q
      (member_offer 0 (offer g (trace_under 0 t) (filter is_client_thread scope) q))
  -- what the generator offers to the nemesis
  offer (nemesis_only g) t scope q =
      offer_unless_exhausted (is_exhausted (nemesis_only g) t scope) scope q
      (member_offer 0 (offer g (trace_under 0 t) (filter is_nemesis_thread scope) q))

  -- The offers of the members that aren't spent, the first with number i. One that has given no
  -- call offers nothing while a thread of `awaited` is busy.
  pub open_offers : Scope → Generators → ℕ → Trace → Scope → Question → List Offer
  open_offers awaited no_generators i t scope q = []
  open_offers awaited (generator g gs) i t scope q =
      if is_exhausted g (trace_under i t) scope then open_offers awaited gs (suc i) t scope q
      else (if is_empty (trace_under i t) && has_busy_thread q.busy awaited then None
      else member_offer i (offer g (trace_under i t) scope q))
      ∷ open_offers awaited gs (suc i) t scope q

  -- what the member offers whose own the thread is, or else `others`
  pub share_offer : ShareList → ℕ → ℕ → Trace → Scope → Question → Offer → Offer
  share_offer no_shares i first t scope q others = others
  share_offer (share n g ms) i first t scope q others =
      if is_share_thread first n q.asker
      then member_offer i (offer g (trace_under i t) (filter (is_share_thread first n) scope) q)
      else share_offer ms (suc i) (first + n) t scope q others
