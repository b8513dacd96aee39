-- A history place by place: what one more operation adds, and what it means that none is in error.
use Rattle.std.proofs.Common.{◌≡◌, ℕ, zero, suc, ◌+◌, ◌<◌, ◌≤◌, false, List, [], ◌∷◌, ◌++◌, length, take, drop, get_or, Option, Some, None, Ok, Err, refl, sym, ap, subst, ◌∙◌, arith, drop-cons, is_eq}
use Rattle.std.specs.Prelude.{slice_get, option_and_then, unwrap_or}
use Rattle.std.specs.Ordering.{nat_cmp}
use Rattle.std.specs.BTreeMap.{BTreeMap, get, Updates}
use Rattle.std.proofs.lemmas.Bool.Decides.{nat_tests}
use Rattle.std.proofs.lemmas.Bool.{eq-eqb}
use Rattle.std.proofs.lemmas.List.{length-map, take-append-drop, take_more, take_all, length-take-le}
use Rattle.std.proofs.lemmas.Option.{slice_get_within, get_or_from_slice_get}
use borrow.Author.Count.{below_more}
use Rattle.jh_ops.specs.Operation.{Operation, operation, operations}
use Rattle.jh_ops.specs.Pairing.{is_of_client, kinds_of, IsWellFormed, pair_error_of, pair_error_at, HasPairError, RefusesPairing, history_pairs}
use Rattle.jh_ops.specs.StageInside.{stage_after, pairs_after, pair_awaited}
use Rattle.jh_ops.specs.declared.operation.Kind.{Kind}
use Rattle.jh_ops.specs.declared.operation.Op.{Op}
use Rattle.jh_ops.specs.declared.operation.Process.{Process}
use Rattle.jh_ops.specs.declared.pairs.Pair.{Pair}
use Rattle.jh_ops.specs.declared.pairs.PairError.{PairError}
use Rattle.jh_ops.specs.declared.pairs.PairError.TheVariants.{AfterCrash, DoubleInvoke, NoInvoke, OutOfMemory}
use Rattle.jh_ops.specs.declared.pairing.Stage.{Stage}
use Rattle.jh_ops.specs.declared.pairing.Stage.TheVariants.{Idle, Waiting, Crashed}
use Rattle.jh_ops.proofs.KindLemmas.{kinds_of-append, kinds_of-own, Follows, follows_at, alternate, follows}
use Rattle.jh_ops.proofs.StageLemmas.{AreStagesOf, stages_skip, stages_more, refused, taken, pairs_parsed, awaited_within}

-- ---- the operation at a place

op_at : (history : List Op) (place : ℕ) (op : Op) → place < length history → op ≡ get_or history place op → slice_get (operations history) place ≡ Some (operation op)
op_at [] place op below same = absurd (omega arith)
op_at (x ∷ xs) zero op below same = ap (λ o. Some (operation o)) (sym same)
op_at (x ∷ xs) (suc place) op below same = op_at xs place op (omega arith) same

error_here : (ops : List Operation) (place : ℕ) (op : Operation) → slice_get ops place ≡ Some op → pair_error_at ops place ≡ pair_error_of op.process op.kind (take place ops) place
error_here ops place op at = ap (option_and_then (λ x. pair_error_of x.process x.kind (take place ops) place)) at

one_more : (ops : List Operation) (place : ℕ) (op : Operation) → slice_get ops place ≡ Some op → take (place + 1) ops ≡ take place ops ++ op ∷ []
one_more ops place op at =
    take_more ops place op (slice_get_within ops place op at) ∙ ap (λ x. take place ops ++ x ∷ []) (get_or_from_slice_get ops place op op at)

before_place : (ops : List Operation) (place : ℕ) (op : Operation) → slice_get ops place ≡ Some op → length (take place ops) ≡ place
before_place ops place op at = let within = slice_get_within ops place op at in length-take-le place ops (omega (arith, within))

-- ---- the loop

-- nothing is in error up to a place, and the stages and pairs tell of the operations before it
pub record Stands (stages : ℕ → Stage) (pairs : List Pair) (history : List Operation) (place : ℕ) : Type 0 where
  pub stages_are : AreStagesOf stages pairs (take place history)
  pub sound : (earlier : ℕ) → earlier < place → pair_error_at history earlier ≡ None

pub stands_skip : (stages : ℕ → Stage) (pairs : List Pair) (history : List Op) (place : ℕ) (op : Op) → place < length history → op ≡ get_or history place op
    → op.process ≡ Process.Nemesis → Stands stages pairs (operations history) place → Stands stages pairs (operations history) (place + 1)
stands_skip stages pairs history place op below same nemesis stands =
    let at = op_at history place op below same in
    let more = one_more (operations history) place (operation op) at in
    let error = error_here (operations history) place (operation op) at in
    record {
      stages_are = subst (λ (ops : List Operation). AreStagesOf stages pairs ops) (sym more) (stages_skip stages pairs (take place (operations history)) (operation op) nemesis stands.stages_are);
      sound = below_more (λ (k : ℕ). pair_error_at (operations history) k ≡ None) place stands.sound (error ∙ ap (λ p. pair_error_of p op.kind (take place (operations history)) place) nemesis);
    }

-- an operation that its client's stage takes is not in error
pub sound_here : (stages : ℕ → Stage) (pairs : List Pair) (history : List Op) (place : ℕ) (op : Op) (client opened : ℕ) (next : Stage) → place < length history → op ≡ get_or history place op
    → op.process ≡ Process.Client client → Stands stages pairs (operations history) place → stage_after (stages client) op.kind place opened ≡ Ok next
    → (earlier : ℕ) → earlier < place + 1 → pair_error_at (operations history) earlier ≡ None
sound_here stages pairs history place op client opened next below same own stands step =
    let at = op_at history place op below same in
    let error = error_here (operations history) place (operation op) at in
    below_more (λ (k : ℕ). pair_error_at (operations history) k ≡ None) place stands.sound
    (error ∙ ap (λ p. pair_error_of p op.kind (take place (operations history)) place) own
    ∙ taken stages pairs (take place (operations history)) op.kind client place opened next stands.stages_are step)

pub stands_more : (stages stages' : ℕ → Stage) (pairs pairs' : List Pair) (history : List Op) (place : ℕ) (op : Op) (client : ℕ) (next : Stage) → place < length history → op ≡ get_or history place op
    → op.process ≡ Process.Client client → Stands stages pairs (operations history) place → stage_after (stages client) op.kind place (length pairs) ≡ Ok next
    → stages' client ≡ next → ((other : ℕ) → (client ≡ other → ⊥) → stages' other ≡ stages other) → pairs' ≡ pairs_after (stages client) place pairs
    → Stands stages' pairs' (operations history) (place + 1)
stands_more stages stages' pairs pairs' history place op client next below same own stands step here apart noted =
    let at = op_at history place op below same in
    let more = one_more (operations history) place (operation op) at in
    let long = before_place (operations history) place (operation op) at in
    record {
      stages_are = subst (λ (ops : List Operation). AreStagesOf stages' pairs' ops) (sym more)
          (stages_more stages stages' pairs pairs' (take place (operations history)) (operation op) client next own stands.stages_are
          (ap (λ n. stage_after (stages client) op.kind n (length pairs)) long ∙ step) here apart (noted ∙ ap (λ n. pairs_after (stages client) n pairs) (sym long)));
      sound = sound_here stages pairs history place op client (length pairs) next below same own stands step;
    }

-- what a stage refuses is the first error
pub first_error : (stages : ℕ → Stage) (pairs : List Pair) (history : List Op) (place : ℕ) (op : Op) (client opened : ℕ) (e : PairError) → place < length history → op ≡ get_or history place op
    → op.process ≡ Process.Client client → Stands stages pairs (operations history) place → stage_after (stages client) op.kind place opened ≡ Err e
    → HasPairError (operations history) e
first_error stages pairs history place op client opened e below same own stands step =
    let at = op_at history place op below same in
    let error = error_here (operations history) place (operation op) at in (
      place,
      error ∙ ap (λ p. pair_error_of p op.kind (take place (operations history)) place) own
          ∙ refused stages pairs (take place (operations history)) op.kind client place opened e stands.stages_are step,
      stands.sound,
    )

-- ---- the whole history

pub stands_end : (stages : ℕ → Stage) (pairs : List Pair) (history : List Op) (place : ℕ) → length history ≤ place → Stands stages pairs (operations history) place
    → IsWellFormed (operations history) × (pairs ≡ history_pairs (operations history))
stands_end stages pairs history place end stands =
    let long = length-map history operation in
    let all : take place (operations history) ≡ operations history = take_all place (operations history) (omega (arith, long)) in
    let stages_are = subst (λ (ops : List Operation). AreStagesOf stages pairs ops) all stands.stages_are in
    ((λ client. (alternate (kinds_of client (operations history))).0 (stages_are.sound client)), pairs_parsed stages pairs (operations history) stages_are)

never_for : (history : List Operation) (place : ℕ) (op : Operation) (process : Process) → IsWellFormed history → slice_get history place ≡ Some op → op.process ≡ process
    → pair_error_of process op.kind (take place history) place ≡ None
never_for history place op Process.Nemesis good at own = refl
never_for history place op (Process.Client client) good at own =
    let within = slice_get_within history place op at in
    let here = get_or_from_slice_get history place op op at in
    let split : history ≡ take place history ++ op ∷ drop (suc place) history =
    sym (take-append-drop place history) ∙ ap (λ r. take place history ++ r) (drop-cons history place op within ∙ ap (λ x. x ∷ drop (suc place) history) here) in
    let kinds : kinds_of client history ≡ kinds_of client (take place history) ++ op.kind ∷ kinds_of client (drop (suc place) history) =
    ap (kinds_of client) split ∙ kinds_of-append client (take place history) (op ∷ drop (suc place) history)
    ∙ ap (λ ks. kinds_of client (take place history) ++ ks) (kinds_of-own client op (drop (suc place) history) (ap (is_of_client client) own ∙ eq-eqb client client refl)) in
    follows_at false false (kinds_of client (take place history)) op.kind (kinds_of client (drop (suc place) history))
    (subst (λ (ks : List Kind). Follows false false ks) kinds ((follows (kinds_of client history)).0 (good client))) place

never_from : (history : List Operation) (place : ℕ) (o : Option Operation) → IsWellFormed history → slice_get history place ≡ o → pair_error_at history place ≡ None
never_from history place None good at = ap (option_and_then (λ x. pair_error_of x.process x.kind (take place history) place)) at
never_from history place (Some op) good at = error_here history place op at ∙ never_for history place op op.process good at refl

-- no operation of a well-formed history is in error
pub never_in_error : (history : List Operation) → IsWellFormed history → (place : ℕ) → pair_error_at history place ≡ None
never_in_error history good place = never_from history place (slice_get history place) good refl

-- so a history with an error is not well formed
pub not_well_formed : (history : List Operation) (e : PairError) → HasPairError history e → IsWellFormed history → ⊥
not_well_formed history e has good = let none = never_in_error history good has.0 in let some = has.1 in cc

-- ---- refusals

-- no stage refuses as out of memory
never_memory : (stage : Stage) (kind : Kind) (place opened : ℕ) → stage_after stage kind place opened ≡ Err OutOfMemory → ⊥
never_memory Crashed kind place opened step = cc
never_memory Idle Kind.Invoke place opened step = cc
never_memory Idle Kind.Ok place opened step = cc
never_memory Idle Kind.Fail place opened step = cc
never_memory Idle Kind.Info place opened step = cc
never_memory (Waiting at) Kind.Invoke place opened step = cc
never_memory (Waiting at) Kind.Ok place opened step = cc
never_memory (Waiting at) Kind.Fail place opened step = cc
never_memory (Waiting at) Kind.Info place opened step = cc

-- an error is why the history is refused
pub refuses : (history : List Operation) (stage : Stage) (kind : Kind) (place opened : ℕ) (e : PairError) → stage_after stage kind place opened ≡ Err e → HasPairError history e → RefusesPairing history e
refuses history stage kind place opened (AfterCrash at) step has = has
refuses history stage kind place opened (DoubleInvoke at) step has = has
refuses history stage kind place opened (NoInvoke at) step has = has
refuses history stage kind place opened OutOfMemory step has = absurd (never_memory stage kind place opened step)

-- memory was refused at an operation that its client's stage takes
pub wants_memory : (stages : ℕ → Stage) (pairs : List Pair) (history : List Op) (place : ℕ) (op : Op) (client opened : ℕ) (next : Stage) → place < length history → op ≡ get_or history place op
    → op.process ≡ Process.Client client → Stands stages pairs (operations history) place → stage_after (stages client) op.kind place opened ≡ Ok next
    → RefusesPairing (operations history) OutOfMemory
wants_memory stages pairs history place op client opened next below same own stands step =
    let long = length-map history operation in
    (place, omega (arith, below, long), λ earlier up_to. sound_here stages pairs history place op client opened next below same own stands step earlier (omega (arith, up_to)))

-- the pair that a stage awaits
awaited : (stage : Stage) (at : ℕ) → pair_awaited stage ≡ Some at → stage ≡ Waiting at
awaited Idle at e = cc
awaited Crashed at e = cc
awaited (Waiting place) at e = let same : place ≡ at = cc in ap Waiting same

pub awaited_is_there : (stages : ℕ → Stage) (pairs : List Pair) (history : List Operation) (place client at : ℕ) → Stands stages pairs history place → pair_awaited (stages client) ≡ Some at → at < length pairs
awaited_is_there stages pairs history place client at stands e = awaited_within stages pairs (take place history) client at stands.stages_are (awaited (stages client) at e)

-- ---- the map of stages

-- the stage of each client, which is idle where none is kept
abbrev pub stages_in : BTreeMap ℕ Stage → ℕ → Stage
stages_in kept client = unwrap_or (get nat_cmp kept client) Idle

-- a stage that is put
pub put_here : (kept new : BTreeMap ℕ Stage) (client : ℕ) (next : Stage) → Updates nat_cmp kept new client (Some next) → stages_in new client ≡ next
put_here kept new client next updates = ap (λ o. unwrap_or o Idle) updates.1

pub put_apart : (kept new : BTreeMap ℕ Stage) (client : ℕ) (next : Stage) → Updates nat_cmp kept new client (Some next) → (other : ℕ) → (client ≡ other → ⊥) → stages_in new other ≡ stages_in kept other
put_apart kept new client next updates other apart =
    let miss : is_eq (nat_cmp client other) ≡ false = grind (arith, nat_tests) in
    ap (λ o. unwrap_or o Idle) (updates.2 other miss)
