-- The calls of a history, record by record.
use Rattle.std.proofs.Common.{◌≡◌, ℕ, zero, suc, ◌+◌, ◌<◌, ◌≤◌, Bool, true, false, cond, eqb, List, [], ◌∷◌, ◌++◌, length, take, drop, get_or, reverse, Option, Some, None, refl, sym, ap, subst, ◌∙◌, arith, is_eq, append-nil, append_assoc}
use Rattle.std.specs.Prelude.{option_map, unwrap_or}
use Rattle.std.specs.Ordering.{nat_cmp}
use Rattle.std.specs.BTreeMap.{BTreeMap, get, Updates}
use Rattle.std.proofs.lemmas.Bool.{eq-eqb}
use Rattle.std.proofs.lemmas.Bool.Decides.{nat_tests}
use Rattle.std.proofs.lemmas.List.{drop_all, drop_more, get_or-map, length-map, length-reverse, length-take-le, reverse-append, take_more}
use Rattle.jh_ops.specs.Operation.{Operation, operation, operations}
use Rattle.jh_ops.specs.Pairing.{is_of_client, is_invoke}
use Rattle.jh_ops.specs.declared.operation.Kind.{Kind}
use Rattle.jh_ops.specs.declared.operation.Op.{Op}
use Rattle.jh_ops.specs.declared.operation.Process.{Process}
use Rattle.jh_timeline.specs.Lanes.{call_of, calls_behind, completion_in, is_invoking, last_in}
use Rattle.jh_timeline.specs.LanesInside.{ahead_in, ahead_with, answers_behind, call_with, invoking_with, is_answering, new_calls}
use Rattle.jh_timeline.specs.declared.calls.Ahead.{Ahead}
use Rattle.jh_timeline.specs.declared.picture.Call.{Call}

-- ---- the records before an index and those behind

-- the records before an index, the latest first
abbrev pub before_at : List Op → ℕ → List Operation
before_at history i = reverse (take i (operations history))

within_operations : (history : List Op) (i : ℕ) → i < length history → i < length (operations history)
within_operations history i below = subst (λ n. i < n) (sym (length-map history operation)) below

pub before_more : (history : List Op) (i : ℕ) (op : Op) → i < length history → op ≡ get_or history i op → before_at history (i + 1) ≡ operation op ∷ before_at history i
before_more history i op below same =
    ap reverse (take_more (operations history) i (operation op) (within_operations history i below))
    ∙ reverse-append (take i (operations history)) (get_or (operations history) i (operation op) ∷ [])
    ∙ ap (λ o. o ∷ before_at history i) (get_or-map operation history i op (operation op) below ∙ ap operation (sym same))

pub behind_more : (history : List Op) (i : ℕ) (op : Op) → i < length history → op ≡ get_or history i op → drop i (operations history) ≡ operation op ∷ drop (i + 1) (operations history)
behind_more history i op below same =
    drop_more (operations history) i (operation op) (within_operations history i below)
    ∙ ap (λ o. o ∷ drop (i + 1) (operations history)) (get_or-map operation history i op (operation op) below ∙ ap operation (sym same))

before_length : (history : List Op) (i : ℕ) → i ≤ length history → length (before_at history i) ≡ i
before_length history i within =
    length-reverse (take i (operations history)) ∙ length-take-le i (operations history) (subst (λ n. i ≤ n) (sym (length-map history operation)) within)

behind_none : (history : List Op) (i : ℕ) → length history ≤ i → drop i (operations history) ≡ []
behind_none history i all = drop_all i (operations history) (subst (λ n. n ≤ i) (sym (length-map history operation)) all)

-- ---- keys of maps

pub missed : (client other : ℕ) → (client ≡ other → ⊥) → is_eq (nat_cmp client other) ≡ false
missed client other apart = grind (arith, nat_tests)

pub equal : (a b : ℕ) → eqb a b ≡ true → a ≡ b
equal a b e = grind (arith, nat_tests)

pub differ : (a b : ℕ) → eqb a b ≡ false → a ≡ b → ⊥
differ a b e same = let wrong : eqb a b ≡ true = eq-eqb a b same in absurd (cc)

-- a choice by a test
chosen : {X : Type 0} (b : Bool) (x y z : X) → (b ≡ true → z ≡ x) → (b ≡ false → z ≡ y) → z ≡ cond b x y
chosen true x y z h k = h refl
chosen false x y z h k = k refl

-- ---- which records answer an invocation

-- what is kept of the records before an index
pub record Answered (kept : ℕ → Option Bool) (answers : List Bool) (history : List Op) (index : ℕ) : Type 0 where
  pub invoking : (client : ℕ) → unwrap_or (kept client) false ≡ is_invoking client (before_at history index)
  pub told : answers ++ answers_behind (before_at history index) (drop index (operations history)) ≡ answers_behind [] (operations history)

answering_same : (old : BTreeMap ℕ Bool) (process : Process) (before : List Operation) → ((client : ℕ) → unwrap_or (get nat_cmp old client) false ≡ is_invoking client before)
    → invoking_with old process ≡ is_answering process before
answering_same old (Process.Client client) before same = same client
answering_same old Process.Nemesis before same = refl

answered_more : (old : BTreeMap ℕ Bool) (next : ℕ → Option Bool) (answers added : List Bool) (history : List Op) (i : ℕ) (op : Op) → i < length history → op ≡ get_or history i op
    → Answered (get nat_cmp old) answers history i
    → ((client : ℕ) → unwrap_or (next client) false ≡ cond (is_of_client client op.process) (is_invoke op.kind) (is_invoking client (before_at history i)))
    → added ≡ answers ++ invoking_with old op.process ∷ [] → Answered next added history (i + 1)
answered_more old next answers added history i op below same answered new grown =
    let before = before_at history i in
    let rest = drop (i + 1) (operations history) in
    let earlier = before_more history i op below same in
    record {
      invoking = λ client. new client ∙ ap (is_invoking client) (sym earlier);
      told =
          ap (λ b. added ++ answers_behind b rest) earlier ∙ ap (λ a. a ++ answers_behind (operation op ∷ before) rest) grown
          ∙ append_assoc answers (invoking_with old op.process ∷ []) (answers_behind (operation op ∷ before) rest)
          ∙ ap (λ b. answers ++ b ∷ answers_behind (operation op ∷ before) rest) (answering_same old op.process before answered.invoking)
          ∙ ap (λ ops. answers ++ answers_behind before ops) (sym (behind_more history i op below same)) ∙ answered.told;
    }

-- a record of a client
pub answered_client : (old new : BTreeMap ℕ Bool) (answers added : List Bool) (history : List Op) (i number : ℕ) (op : Op) → i < length history → op ≡ get_or history i op
    → op.process ≡ Process.Client number → Answered (get nat_cmp old) answers history i → Updates nat_cmp old new number (Some (is_invoke op.kind))
    → added ≡ answers ++ invoking_with old op.process ∷ [] → Answered (get nat_cmp new) added history (i + 1)
answered_client old new answers added history i number op below same is answered updates grown =
    let before = before_at history i in
    answered_more old (get nat_cmp new) answers added history i op below same answered
    (λ client.
    chosen (eqb client number) (is_invoke op.kind) (is_invoking client before) (unwrap_or (get nat_cmp new client) false)
    (λ yes. ap (λ n. unwrap_or (get nat_cmp new n) false) (equal client number yes) ∙ ap (λ o. unwrap_or o false) updates.1)
    (λ no. ap (λ o. unwrap_or o false) (updates.2 client (missed number client (λ e. differ client number no (sym e)))) ∙ answered.invoking client)
    ∙ ap (λ p. cond (is_of_client client p) (is_invoke op.kind) (is_invoking client before)) (sym is))
    grown

-- a record of the nemesis
pub answered_other : (old : BTreeMap ℕ Bool) (answers added : List Bool) (history : List Op) (i : ℕ) (op : Op) → i < length history → op ≡ get_or history i op
    → op.process ≡ Process.Nemesis → Answered (get nat_cmp old) answers history i
    → added ≡ answers ++ invoking_with old op.process ∷ [] → Answered (get nat_cmp old) added history (i + 1)
answered_other old answers added history i op below same is answered grown =
    let before = before_at history i in
    answered_more old (get nat_cmp old) answers added history i op below same answered
    (λ client. answered.invoking client ∙ ap (λ p. cond (is_of_client client p) (is_invoke op.kind) (is_invoking client before)) (sym is)) grown

pub answered_all : (kept : ℕ → Option Bool) (answers : List Bool) (history : List Op) (i : ℕ) → length history ≤ i → Answered kept answers history i → answers ≡ answers_behind [] (operations history)
answered_all kept answers history i all answered =
    sym (append-nil answers) ∙ ap (λ ops. answers ++ answers_behind (before_at history i) ops) (sym (behind_none history i all)) ∙ answered.told

length_answers : (before ops : List Operation) → length (answers_behind before ops) ≡ length ops
length_answers before [] = refl
length_answers before (op ∷ ops) = ap suc (length_answers (op ∷ before) ops)

answer_at : (before ops : List Operation) (i : ℕ) (d : Bool) (e : Operation) → i < length ops
    → get_or (answers_behind before ops) i d ≡ is_answering (get_or ops i e).process (reverse (take i ops) ++ before)
answer_at before [] i d e below = absurd (omega arith)
answer_at before (op ∷ ops) zero d e below = refl
answer_at before (op ∷ ops) (suc i) d e below =
    answer_at (op ∷ before) ops i d e (omega arith)
    ∙ ap (is_answering (get_or ops i e).process) (sym (append_assoc (reverse (take i ops)) (op ∷ []) before) ∙ ap (λ b. b ++ before) (sym (reverse-append (op ∷ []) (take i ops))))

-- ---- calls

-- what is kept of the records from an index on
pub record Kept (kept : ℕ → Option Ahead) (found : List Call) (answers : List Bool) (history : List Op) (index : ℕ) : Type 0 where
  pub within : index ≤ length history
  pub ahead : (client : ℕ) → kept client ≡ ahead_in client index (drop index (operations history))
  pub calls : reverse found ≡ calls_behind (before_at history index) (drop index (operations history))
  pub told : answers ≡ answers_behind [] (operations history)

-- there is an answer for each record
pub answer_within : (kept : ℕ → Option Ahead) (found : List Call) (answers : List Bool) (history : List Op) (index : ℕ) → Kept kept found answers history index → length answers ≡ length history
answer_within kept found answers history index was = ap length was.told ∙ length_answers [] (operations history) ∙ length-map history operation

abbrev ahead_of : Option ℕ → Option ℕ → Option Ahead
ahead_of completion last = option_map (λ z. record { completion = completion; last = z }) last

ahead_is_more : (b : Bool) (completion last : Option ℕ) (kind : Kind) (i : ℕ)
    → ahead_of (cond b (cond (is_invoke kind) None (Some i)) completion) (cond b (Some (unwrap_or last i)) last)
    ≡ cond b (Some (ahead_with kind i (ahead_of completion last))) (ahead_of completion last)
ahead_is_more true completion None kind i = refl
ahead_is_more true completion (Some z) kind i = refl
ahead_is_more false completion last kind i = refl

ahead_more : (client number i : ℕ) (op : Operation) (ops : List Operation) → op.process ≡ Process.Client number
    → ahead_in client i (op ∷ ops) ≡ cond (eqb client number) (Some (ahead_with op.kind i (ahead_in client (i + 1) ops))) (ahead_in client (i + 1) ops)
ahead_more client number i op ops is =
    let whole = ahead_is_more (is_of_client client op.process) (completion_in client (i + 1) ops) (last_in client (i + 1) ops) op.kind i in
    whole ∙ ap (λ p. cond (is_of_client client p) (Some (ahead_with op.kind i (ahead_in client (i + 1) ops))) (ahead_in client (i + 1) ops)) is

ahead_same : (client i : ℕ) (op : Operation) (ops : List Operation) → op.process ≡ Process.Nemesis
    → ahead_in client i (op ∷ ops) ≡ ahead_in client (i + 1) ops
ahead_same client i op ops is =
    let whole = ahead_is_more (is_of_client client op.process) (completion_in client (i + 1) ops) (last_in client (i + 1) ops) op.kind i in
    whole ∙ ap (λ p. cond (is_of_client client p) (Some (ahead_with op.kind i (ahead_in client (i + 1) ops))) (ahead_in client (i + 1) ops)) is

none_step : (b : Bool) (x y : ℕ) (c l : Option ℕ) (k : Bool) → (l ≡ None → c ≡ None) → cond b (Some x) l ≡ None → cond b (cond k None (Some y)) c ≡ None
none_step true x y c l k h e = absurd (cc)
none_step false x y c l k h e = h e

-- a client that has no record has no completion
none_none : (client i : ℕ) (ops : List Operation) → last_in client i ops ≡ None → completion_in client i ops ≡ None
none_none client i [] e = refl
none_none client i (op ∷ ops) e =
    none_step (is_of_client client op.process) _ i (completion_in client (i + 1) ops) (last_in client (i + 1) ops) (is_invoke op.kind) (none_none client (i + 1) ops) e

-- the call of an invocation
call_invoke : (client i : ℕ) (completion last : Option ℕ) → (last ≡ None → completion ≡ None)
    → call_with Kind.Invoke client i (ahead_of completion last) ≡ record { client = client; first = i; completion = completion; last = unwrap_or last i }
call_invoke client i completion None none = ap (λ (c : Option ℕ). let call : Call = record { client = client; first = i; completion = c; last = i } in call) (sym (none refl))
call_invoke client i completion (Some z) none = refl

-- the call of a completion
call_alone : (t : Bool) (client i : ℕ) (completion last : Option ℕ)
    → cond t [] (record { client = client; first = i; completion = Some i; last = unwrap_or last i } ∷ []) ≡ new_calls Kind.Ok t client i (ahead_of completion last)
call_alone true client i completion last = refl
call_alone false client i completion None = refl
call_alone false client i completion (Some z) = refl

call_new : (kind : Kind) (client : ℕ) (before ops : List Operation)
    → call_of kind (Process.Client client) before ops ≡ new_calls kind (is_invoking client before) client (length before) (ahead_in client (length before + 1) ops)
call_new Kind.Invoke client before ops =
    let i = length before in
    ap (λ (call : Call). call ∷ []) (sym (call_invoke client i (completion_in client (i + 1) ops) (last_in client (i + 1) ops) (none_none client (i + 1) ops)))
call_new Kind.Ok client before ops = let i = length before in call_alone (is_invoking client before) client i (completion_in client (i + 1) ops) (last_in client (i + 1) ops)
call_new Kind.Fail client before ops = let i = length before in call_alone (is_invoking client before) client i (completion_in client (i + 1) ops) (last_in client (i + 1) ops)
call_new Kind.Info client before ops = let i = length before in call_alone (is_invoking client before) client i (completion_in client (i + 1) ops) (last_in client (i + 1) ops)

no_call : (kind : Kind) (before ops : List Operation) → call_of kind Process.Nemesis before ops ≡ []
no_call Kind.Invoke before ops = refl
no_call Kind.Ok before ops = refl
no_call Kind.Fail before ops = refl
no_call Kind.Info before ops = refl

calls_more : (number i : ℕ) (op : Operation) (before ops : List Operation) → op.process ≡ Process.Client number → length before ≡ i
    → calls_behind before (op ∷ ops) ≡ new_calls op.kind (is_invoking number before) number i (ahead_in number (i + 1) ops) ++ calls_behind (op ∷ before) ops
calls_more number i op before ops is at =
    ap (λ cs. cs ++ calls_behind (op ∷ before) ops)
    (ap (λ p. call_of op.kind p before ops) is ∙ call_new op.kind number before ops
    ∙ ap (λ n. new_calls op.kind (is_invoking number before) number n (ahead_in number (n + 1) ops)) at)

calls_same : (op : Operation) (before ops : List Operation) → op.process ≡ Process.Nemesis → calls_behind before (op ∷ ops) ≡ calls_behind (op ∷ before) ops
calls_same op before ops is = ap (λ cs. cs ++ calls_behind (op ∷ before) ops) (ap (λ p. call_of op.kind p before ops) is ∙ no_call op.kind before ops)

-- a list of one at most is its own reverse
new_reversed : (kind : Kind) (answers : Bool) (client i : ℕ) (behind : Option Ahead) → reverse (new_calls kind answers client i behind) ≡ new_calls kind answers client i behind
new_reversed Kind.Invoke answers client i behind = refl
new_reversed Kind.Ok true client i behind = refl
new_reversed Kind.Ok false client i behind = refl
new_reversed Kind.Fail true client i behind = refl
new_reversed Kind.Fail false client i behind = refl
new_reversed Kind.Info true client i behind = refl
new_reversed Kind.Info false client i behind = refl

-- what is known of the record at an index, of a client
answer_here : (answers : List Bool) (history : List Op) (i number : ℕ) (op : Op) (d : Bool) → i < length history → op ≡ get_or history i op → op.process ≡ Process.Client number
    → answers ≡ answers_behind [] (operations history) → get_or answers i d ≡ is_invoking number (before_at history i)
answer_here answers history i number op d below same is are =
    ap (λ given. get_or given i d) are ∙ answer_at [] (operations history) i d (operation op) (within_operations history i below)
    ∙ ap (λ o. is_answering o.process (before_at history i ++ [])) (get_or-map operation history i op (operation op) below ∙ ap operation (sym same))
    ∙ ap (λ p. is_answering p (before_at history i ++ [])) is ∙ ap (is_invoking number) (append-nil (before_at history i))

-- a record of a client
pub kept_client : (old new : BTreeMap ℕ Ahead) (calls added : List Call) (answers : List Bool) (history : List Op) (n i number : ℕ) (op : Op) (behind : Option Ahead) (d : Bool)
    → n ≡ i + 1 → i < length history → op ≡ get_or history i op → op.process ≡ Process.Client number → behind ≡ get nat_cmp old number
    → Kept (get nat_cmp old) calls answers history n → Updates nat_cmp old new number (Some (ahead_with op.kind i behind))
    → added ≡ calls ++ new_calls op.kind (get_or answers i d) number i behind → Kept (get nat_cmp new) added answers history i
kept_client old new calls added answers history n i number op behind d at below same is found kept updates grown =
    let rest = drop (i + 1) (operations history) in
    let whole = behind_more history i op below same in
    let early = before_at history i in
    let long : length early ≡ i = before_length history i (omega arith) in
    let before : (client : ℕ) → get nat_cmp old client ≡ ahead_in client (i + 1) rest = λ client. kept.ahead client ∙ ap (λ m. ahead_in client m (drop m (operations history))) at in
    let drawn : reverse calls ≡ calls_behind (operation op ∷ early) rest =
    kept.calls ∙ ap (λ m. calls_behind (before_at history m) (drop m (operations history))) at ∙ ap (λ b. calls_behind b rest) (before_more history i op below same) in
    let seen : behind ≡ ahead_in number (i + 1) rest = found ∙ before number in
    let answer : get_or answers i d ≡ is_invoking number early = answer_here answers history i number op d below same is kept.told in
    let fresh = new_calls op.kind (get_or answers i d) number i behind in
    record {
      within = omega arith;
      ahead = λ client.
          chosen (eqb client number) (Some (ahead_with op.kind i (ahead_in client (i + 1) rest))) (ahead_in client (i + 1) rest) (get nat_cmp new client)
          (λ yes. let one : client ≡ number = equal client number yes in
          ap (get nat_cmp new) one ∙ updates.1 ∙ ap (λ b. Some (ahead_with op.kind i b)) (seen ∙ ap (λ c. ahead_in c (i + 1) rest) (sym one)))
          (λ no. updates.2 client (missed number client (λ e. differ client number no (sym e))) ∙ before client)
          ∙ sym (ahead_more client number i (operation op) rest is) ∙ ap (ahead_in client i) (sym whole);
      calls =
          ap reverse grown ∙ reverse-append calls fresh ∙ ap (λ ws. ws ++ reverse calls) (new_reversed op.kind (get_or answers i d) number i behind)
          ∙ ap (λ ws. fresh ++ ws) drawn
          ∙ ap (λ t. new_calls op.kind t number i behind ++ calls_behind (operation op ∷ early) rest) answer
          ∙ ap (λ b. new_calls op.kind (is_invoking number early) number i b ++ calls_behind (operation op ∷ early) rest) seen
          ∙ sym (calls_more number i (operation op) early rest is long) ∙ ap (calls_behind early) (sym whole);
      told = kept.told;
    }

-- a record of the nemesis
pub kept_other : (ahead : ℕ → Option Ahead) (calls : List Call) (answers : List Bool) (history : List Op) (n i : ℕ) (op : Op)
    → n ≡ i + 1 → i < length history → op ≡ get_or history i op → op.process ≡ Process.Nemesis
    → Kept ahead calls answers history n → Kept ahead calls answers history i
kept_other ahead calls answers history n i op at below same is kept =
    let rest = drop (i + 1) (operations history) in
    let whole = behind_more history i op below same in
    let early = before_at history i in
    record {
      within = omega arith;
      ahead = λ client.
          kept.ahead client ∙ ap (λ m. ahead_in client m (drop m (operations history))) at
          ∙ sym (ahead_same client i (operation op) rest is) ∙ ap (ahead_in client i) (sym whole);
      calls =
          kept.calls ∙ ap (λ m. calls_behind (before_at history m) (drop m (operations history))) at ∙ ap (λ b. calls_behind b rest) (before_more history i op below same)
          ∙ sym (calls_same (operation op) early rest is) ∙ ap (calls_behind early) (sym whole);
      told = kept.told;
    }
