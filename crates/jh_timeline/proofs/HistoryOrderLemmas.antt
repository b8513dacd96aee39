-- The calls of a history are in order: each begins behind the one before it, and behind its end if both are of one client.
use Rattle.std.proofs.Common.{◌≡◌, ℕ, ◌+◌, ◌<◌, ◌≤◌, Bool, true, false, cond, eqb, List, [], ◌∷◌, ◌++◌, length, Option, Some, None, refl, sym, ap, subst, ◌∙◌, arith}
use Rattle.std.specs.Prelude.{All, unwrap_or}
use Rattle.std.proofs.lemmas.List.Elements.{All-append, All-cons, All-nil, All-weaker}
use Rattle.std.proofs.lemmas.Bool.{eq-eqb}
use Rattle.jh_ops.specs.Operation.{Operation}
use Rattle.jh_ops.specs.Pairing.{is_of_client, is_invoke}
use Rattle.jh_ops.specs.declared.operation.Kind.{Kind}
use Rattle.jh_ops.specs.declared.operation.Process.{Process}
use Rattle.jh_timeline.specs.Lanes.{call_end, call_of, calls_behind, calls_of, completion_in, is_invoking, last_in}
use Rattle.jh_timeline.specs.LanesInside.{AreDrawnInOrder}
use Rattle.jh_timeline.specs.declared.picture.Call.{Call}

-- A call of a history behind another.
pub record IsAfter (earlier later : Call) : Type 0 where
  pub first : earlier.first < later.first
  pub last : earlier.client ≡ later.client → earlier.last ≡ later.last
  pub reach : later.first ≤ later.last
  pub ended : earlier.client ≡ later.client → call_end earlier < later.first
  pub within : call_end earlier ≤ earlier.last

-- A call of these records, from an index on, with others before them: it begins no earlier, ends with the last of its process among them, and begins behind
-- the completion that its client's invocation before them has there, if it has one.
record IsAhead (i : ℕ) (before ops : List Operation) (call : Call) : Type 0 where
  first : i ≤ call.first
  last : last_in call.client i ops ≡ Some call.last
  reach : call.first ≤ call.last
  ended : is_invoking call.client before ≡ true → (p : ℕ) → completion_in call.client i ops ≡ Some p → p < call.first

-- the last record of a client, with one record more in front
last_more : (t : Bool) (i last : ℕ) (o : Option ℕ) → o ≡ Some last → cond t (Some (unwrap_or o i)) o ≡ Some last
last_more true i last o e = ap (λ x. Some (unwrap_or x i)) e
last_more false i last o e = e

pub self_eqb : (a : ℕ) → eqb a a ≡ true
self_eqb a = eq-eqb a a refl

above_step : (t : Bool) (j z : ℕ) (o : Option ℕ) → ((w : ℕ) → o ≡ Some w → j + 1 ≤ w) → cond t (Some (unwrap_or o j)) o ≡ Some z → j ≤ z
above_step true j z None h e = let same : j ≡ z = cc in omega arith
above_step true j z (Some w) h e =
    let same : w ≡ z = cc in
    let low = h w refl in
    omega (arith, low)
above_step false j z o h e = let low = h z e in omega (arith, low)

last_above : (client j : ℕ) (ops : List Operation) (z : ℕ) → last_in client j ops ≡ Some z → j ≤ z
last_above client j [] z e = absurd (let wrong : None ≡ Some z = e in cc)
last_above client j (op ∷ ops) z e = above_step (is_of_client client op.process) j z (last_in client (j + 1) ops) (λ w is. last_above client (j + 1) ops w is) e

-- a last record at that index or behind
abbrev EndsBehind : ℕ → Option ℕ → Type 0
EndsBehind p o = (z : ℕ) × (o ≡ Some z) × (p ≤ z)

unwrap_above : (j : ℕ) (o : Option ℕ) → ((w : ℕ) → o ≡ Some w → j + 1 ≤ w) → j ≤ unwrap_or o j
unwrap_above j None h = omega arith
unwrap_above j (Some w) h = let low = h w refl in omega (arith, low)

behind_step : (t k : Bool) (j p : ℕ) (c o : Option ℕ) → ((w : ℕ) → o ≡ Some w → j + 1 ≤ w) → (c ≡ Some p → EndsBehind p o)
    → cond t (cond k None (Some j)) c ≡ Some p → EndsBehind p (cond t (Some (unwrap_or o j)) o)
behind_step true true j p c o low h e = absurd (let wrong : None ≡ Some p = e in cc)
behind_step true false j p c o low h e =
    let same : j ≡ p = cc in
    (unwrap_or o j, refl, subst (λ n. n ≤ unwrap_or o j) same (unwrap_above j o low))
behind_step false k j p c o low h e = h e

completion_last : (client j : ℕ) (ops : List Operation) (p : ℕ) → completion_in client j ops ≡ Some p → EndsBehind p (last_in client j ops)
completion_last client j [] p e = absurd (let wrong : None ≡ Some p = e in cc)
completion_last client j (op ∷ ops) p e =
    behind_step (is_of_client client op.process) (is_invoke op.kind) j p (completion_in client (j + 1) ops) (last_in client (j + 1) ops)
    (λ w is. last_above client (j + 1) ops w is) (λ is. completion_last client (j + 1) ops p is) e

within_step : (i : ℕ) (c o : Option ℕ) → ((p : ℕ) → c ≡ Some p → EndsBehind p o) → ((w : ℕ) → o ≡ Some w → i + 1 ≤ w) → unwrap_or c i ≤ unwrap_or o i
within_step i None o h low = unwrap_above i o low
within_step i (Some p) o h low = let end = h p refl in rw end.1 end.2

-- a call ends no later than its process
ends_within : (client i : ℕ) (ops : List Operation) → unwrap_or (completion_in client (i + 1) ops) i ≤ unwrap_or (last_in client (i + 1) ops) i
ends_within client i ops =
    within_step i (completion_in client (i + 1) ops) (last_in client (i + 1) ops) (λ p is. completion_last client (i + 1) ops p is)
    (λ w is. last_above client (i + 1) ops w is)

ends_before : (i first : ℕ) (c : Option ℕ) → i + 1 ≤ first → ((p : ℕ) → c ≡ Some p → p < first) → unwrap_or c i < first
ends_before i first None low h = omega arith
ends_before i first (Some p) low h = h p refl

-- the same of the call of the record in front
record IsOwn (kind : Kind) (process : Process) (i : ℕ) (before ops : List Operation) (call : Call) : Type 0 where
  first : i ≤ call.first
  last : cond (is_of_client call.client process) (Some (unwrap_or (last_in call.client (i + 1) ops) i)) (last_in call.client (i + 1) ops) ≡ Some call.last
  reach : call.first ≤ call.last
  ended : is_invoking call.client before ≡ true → (p : ℕ) → cond (is_of_client call.client process) (cond (is_invoke kind) None (Some i)) (completion_in call.client (i + 1) ops) ≡ Some p → p < call.first

-- the call of an invocation
abbrev invoke_call : ℕ → List Operation → List Operation → Call
invoke_call client before ops = record {
  client = client;
  first = length before;
  completion = completion_in client (length before + 1) ops;
  last = unwrap_or (last_in client (length before + 1) ops) (length before);
}

-- the call of a completion
abbrev alone_call : ℕ → List Operation → List Operation → Call
alone_call client before ops = record {
  client = client;
  first = length before;
  completion = Some (length before);
  last = unwrap_or (last_in client (length before + 1) ops) (length before);
}

no_end : (t : Bool) (i p : ℕ) (c : Option ℕ) → t ≡ true → cond t None c ≡ Some p → p < i
no_end true i p c is e = absurd (let wrong : None ≡ Some p = e in cc)
no_end false i p c is e = absurd (cc)

own_invoke : (client : ℕ) (before ops : List Operation) → All (IsOwn Kind.Invoke (Process.Client client) (length before) before ops) (invoke_call client before ops ∷ [])
own_invoke client before ops =
    let i = length before in
    let own : IsOwn Kind.Invoke (Process.Client client) i before ops (invoke_call client before ops) = record {
      first = omega arith;
      last = ap (λ t. cond t (Some (unwrap_or (last_in client (i + 1) ops) i)) (last_in client (i + 1) ops)) (self_eqb client);
      reach = unwrap_above i (last_in client (i + 1) ops) (λ w is. last_above client (i + 1) ops w is);
      ended = λ was p e. no_end (eqb client client) i p (completion_in client (i + 1) ops) (self_eqb client) e;
    } in
    All-cons (IsOwn Kind.Invoke (Process.Client client) i before ops) (invoke_call client before ops) [] own (All-nil (IsOwn Kind.Invoke (Process.Client client) i before ops))

never : (t : Bool) → t ≡ false → t ≡ true → ⊥
never t isnt is = absurd (cc)

own_alone : (kind : Kind) (client : ℕ) (before ops : List Operation) (t : Bool) → is_invoking client before ≡ t
    → All (IsOwn kind (Process.Client client) (length before) before ops) (cond t [] (alone_call client before ops ∷ []))
own_alone kind client before ops true is = All-nil (IsOwn kind (Process.Client client) (length before) before ops)
own_alone kind client before ops false is =
    let i = length before in
    let own : IsOwn kind (Process.Client client) i before ops (alone_call client before ops) = record {
      first = omega arith;
      last = ap (λ t. cond t (Some (unwrap_or (last_in client (i + 1) ops) i)) (last_in client (i + 1) ops)) (self_eqb client);
      reach = unwrap_above i (last_in client (i + 1) ops) (λ w found. last_above client (i + 1) ops w found);
      ended = λ was p e. absurd (never (is_invoking client before) is was);
    } in
    All-cons (IsOwn kind (Process.Client client) i before ops) (alone_call client before ops) [] own (All-nil (IsOwn kind (Process.Client client) i before ops))

own_ahead : (kind : Kind) (process : Process) (before ops : List Operation) → All (IsOwn kind process (length before) before ops) (call_of kind process before ops)
own_ahead Kind.Invoke (Process.Client client) before ops = own_invoke client before ops
own_ahead Kind.Ok (Process.Client client) before ops = own_alone Kind.Ok client before ops (is_invoking client before) refl
own_ahead Kind.Fail (Process.Client client) before ops = own_alone Kind.Fail client before ops (is_invoking client before) refl
own_ahead Kind.Info (Process.Client client) before ops = own_alone Kind.Info client before ops (is_invoking client before) refl
own_ahead Kind.Invoke Process.Nemesis before ops = All-nil (IsOwn Kind.Invoke Process.Nemesis (length before) before ops)
own_ahead Kind.Ok Process.Nemesis before ops = All-nil (IsOwn Kind.Ok Process.Nemesis (length before) before ops)
own_ahead Kind.Fail Process.Nemesis before ops = All-nil (IsOwn Kind.Fail Process.Nemesis (length before) before ops)
own_ahead Kind.Info Process.Nemesis before ops = All-nil (IsOwn Kind.Info Process.Nemesis (length before) before ops)

-- behind one record more
ahead_more : (t k was : Bool) (i p first : ℕ) (c : Option ℕ) → i + 1 ≤ first → (cond t k was ≡ true → c ≡ Some p → p < first) → was ≡ true
    → cond t (cond k None (Some i)) c ≡ Some p → p < first
ahead_more true true was i p first c low h was_true e = absurd (let wrong : None ≡ Some p = e in cc)
ahead_more true false was i p first c low h was_true e = let same : i ≡ p = cc in omega arith
ahead_more false k was i p first c low h was_true e = h was_true e

all_ahead : (i : ℕ) (before ops : List Operation) → length before ≡ i → All (IsAhead i before ops) (calls_behind before ops)
all_ahead i before [] at = All-nil (IsAhead i before [])
all_ahead i before (op ∷ ops) at =
    let next : length (op ∷ before) ≡ i + 1 = omega (arith, at) in
    All-append (IsAhead i before (op ∷ ops)) (call_of op.kind op.process before ops) (calls_behind (op ∷ before) ops)
    (All-weaker (IsOwn op.kind op.process i before ops) (IsAhead i before (op ∷ ops))
    (λ call own. record { first = own.first; last = own.last; reach = own.reach; ended = own.ended }) (call_of op.kind op.process before ops)
    (subst (λ n. All (IsOwn op.kind op.process n before ops) (call_of op.kind op.process before ops)) at (own_ahead op.kind op.process before ops)))
    (All-weaker (IsAhead (i + 1) (op ∷ before) ops) (IsAhead i before (op ∷ ops))
    (λ call behind. record {
      first = let low = behind.first in omega (arith, low);
      last = last_more (is_of_client call.client op.process) i call.last (last_in call.client (i + 1) ops) behind.last;
      reach = behind.reach;
      ended = λ was p e.
          ahead_more (is_of_client call.client op.process) (is_invoke op.kind) (is_invoking call.client before) i p call.first (completion_in call.client (i + 1) ops) behind.first
          (λ now found. behind.ended now p found) was e;
    }) (calls_behind (op ∷ before) ops) (all_ahead (i + 1) (op ∷ before) ops next))

-- the calls of a client's record in front, and those behind it
after_invoke : (i client : ℕ) (op : Operation) (before ops : List Operation) (later : Call) → length before ≡ i → op.kind ≡ Kind.Invoke → op.process ≡ Process.Client client
    → IsAhead (i + 1) (op ∷ before) ops later → IsAfter (invoke_call client before ops) later
after_invoke i client op before ops later at kind process behind =
    let own : Call = record { client = client; first = i; completion = completion_in client (i + 1) ops; last = unwrap_or (last_in client (i + 1) ops) i } in
    let after : IsAfter own later = record {
      first = let low = behind.first in omega (arith, low);
      last = λ same. ap (λ z. unwrap_or (last_in z (i + 1) ops) i) same ∙ ap (λ o. unwrap_or o i) behind.last;
      reach = behind.reach;
      ended = λ same.
          let invoking : is_invoking later.client (op ∷ before) ≡ true =
          ap (λ p. cond (is_of_client later.client p) (is_invoke op.kind) (is_invoking later.client before)) process
          ∙ ap (λ t. cond t (is_invoke op.kind) (is_invoking later.client before)) (eq-eqb later.client client (sym same)) ∙ ap is_invoke kind in
          ends_before i later.first (completion_in client (i + 1) ops) behind.first (λ p is. behind.ended invoking p (ap (λ z. completion_in z (i + 1) ops) (sym same) ∙ is));
      within = ends_within client i ops;
    } in
    subst (λ n. IsAfter (record { client = client; first = n; completion = completion_in client (n + 1) ops; last = unwrap_or (last_in client (n + 1) ops) n }) later) (sym at) after

after_alone : (i client : ℕ) (op : Operation) (before ops : List Operation) (later : Call) → length before ≡ i → IsAhead (i + 1) (op ∷ before) ops later → IsAfter (alone_call client before ops) later
after_alone i client op before ops later at behind =
    let own : Call = record { client = client; first = i; completion = Some i; last = unwrap_or (last_in client (i + 1) ops) i } in
    let low = behind.first in
    let after : IsAfter own later = record {
      first = omega (arith, low);
      last = λ same. ap (λ z. unwrap_or (last_in z (i + 1) ops) i) same ∙ ap (λ o. unwrap_or o i) behind.last;
      reach = behind.reach;
      ended = λ same. omega (arith, low);
      within = unwrap_above i (last_in client (i + 1) ops) (λ w is. last_above client (i + 1) ops w is);
    } in
    subst (λ n. IsAfter (record { client = client; first = n; completion = Some n; last = unwrap_or (last_in client (n + 1) ops) n }) later) (sym at) after

-- one call more in front
order_alone : (t : Bool) (i client : ℕ) (op : Operation) (before ops : List Operation) → length before ≡ i → All (IsAhead (i + 1) (op ∷ before) ops) (calls_behind (op ∷ before) ops)
    → AreDrawnInOrder IsAfter (calls_behind (op ∷ before) ops) → AreDrawnInOrder IsAfter (cond t [] (alone_call client before ops ∷ []) ++ calls_behind (op ∷ before) ops)
order_alone true i client op before ops at ahead order = order
order_alone false i client op before ops at ahead order = (
  All-weaker (IsAhead (i + 1) (op ∷ before) ops) (IsAfter (alone_call client before ops)) (λ later behind. after_alone i client op before ops later at behind) (calls_behind (op ∷ before) ops) ahead,
  order,
)

own_order : (i : ℕ) (op : Operation) (before ops : List Operation) (kind : Kind) (process : Process) → op.kind ≡ kind → op.process ≡ process → length before ≡ i
    → All (IsAhead (i + 1) (op ∷ before) ops) (calls_behind (op ∷ before) ops) → AreDrawnInOrder IsAfter (calls_behind (op ∷ before) ops)
    → AreDrawnInOrder IsAfter (call_of kind process before ops ++ calls_behind (op ∷ before) ops)
own_order i op before ops Kind.Invoke (Process.Client client) kind process at ahead order = (
  All-weaker (IsAhead (i + 1) (op ∷ before) ops) (IsAfter (invoke_call client before ops)) (λ later behind. after_invoke i client op before ops later at kind process behind)
      (calls_behind (op ∷ before) ops) ahead,
  order,
)
own_order i op before ops Kind.Ok (Process.Client client) kind process at ahead order = order_alone (is_invoking client before) i client op before ops at ahead order
own_order i op before ops Kind.Fail (Process.Client client) kind process at ahead order = order_alone (is_invoking client before) i client op before ops at ahead order
own_order i op before ops Kind.Info (Process.Client client) kind process at ahead order = order_alone (is_invoking client before) i client op before ops at ahead order
own_order i op before ops Kind.Invoke Process.Nemesis kind process at ahead order = order
own_order i op before ops Kind.Ok Process.Nemesis kind process at ahead order = order
own_order i op before ops Kind.Fail Process.Nemesis kind process at ahead order = order
own_order i op before ops Kind.Info Process.Nemesis kind process at ahead order = order

calls_order : (i : ℕ) (before ops : List Operation) → length before ≡ i → AreDrawnInOrder IsAfter (calls_behind before ops)
calls_order i before [] at = tt
calls_order i before (op ∷ ops) at =
    let next : length (op ∷ before) ≡ i + 1 = omega (arith, at) in
    own_order i op before ops op.kind op.process refl refl at (all_ahead (i + 1) (op ∷ before) ops next) (calls_order (i + 1) (op ∷ before) ops next)

-- the calls of a history are in order
pub history_order : (history : List Operation) → AreDrawnInOrder IsAfter (calls_of history)
history_order history = calls_order 0 [] history refl
