-- What is kept of each process and of the pairs tells what the definitions say of the operations so far.
use Rattle.std.proofs.Common.{◌≡◌, ℕ, ◌<◌, Bool, true, false, List, [], ◌∷◌, ◌++◌, length, Some, None, Ok, Err, refl, sym, ap, subst, ◌∙◌, arith, inl, inr}
use Rattle.std.specs.Prelude.{◌||◌, map, MatchResult}
use Rattle.std.proofs.lemmas.Bool.{cases_eq, eq-eqb, ne_eqb}
use Rattle.std.proofs.lemmas.List.{length-map, append-nil, map-append}
use Rattle.std.proofs.lemmas.List.Folds.{list_any-append}
use Rattle.std.proofs.lemmas.List.Sums.{fold_push}
use Rattle.std.proofs.Math.Bool.{or-false}
use Rattle.jh_ops.specs.Operation.{Operation}
use Rattle.jh_ops.specs.Pairing.{is_of_client, kinds_of, is_invoke, is_info, has_crashed, is_waiting, pair_error_after, pair_error_of, history_pairs}
use Rattle.jh_ops.specs.StageInside.{stage_after, pairs_after}
use Rattle.jh_ops.specs.declared.operation.Kind.{Kind}
use Rattle.jh_ops.specs.declared.operation.Process.{Process}
use Rattle.jh_ops.specs.declared.pairs.Pair.{Pair}
use Rattle.jh_ops.specs.declared.pairs.PairError.{PairError}
use Rattle.jh_ops.specs.declared.pairing.Stage.{Stage}
use Rattle.jh_ops.specs.declared.pairing.Stage.TheVariants.{Idle, Waiting, Crashed}
use Rattle.jh_ops.proofs.KindLemmas.{kinds_push-own, kinds_push-other, Follows, any_place, follows_push}
use Rattle.jh_ops.proofs.ClientPairLemmas.{Claim, claim_of, claims_from, pairs_in, pairs_claimed, closed, claims_push, untouched, no_claim, waits, same_place, same_place-self, waits_within, none_closed, one_closed, none_waits, others_wait, opened_waits, opened_others}

abbrev pub crashed_at : Stage → Bool
crashed_at Crashed = true
crashed_at _ = false

abbrev pub waiting_at : Stage → Bool
waiting_at (Waiting at) = true
waiting_at _ = false

-- the pair at a place awaits its outcome
abbrev pub awaits : Stage → ℕ → Bool
awaits (Waiting at) place = same_place at place
awaits _ place = false

-- what a stage refuses is in error, and what it takes is not
pub judged : (stage : Stage) (kind : Kind) (place opened : ℕ) → MatchResult (stage_after stage kind place opened)
    (λ next. (pair_error_after (crashed_at stage) (waiting_at stage) kind place ≡ None) × (crashed_at next ≡ (crashed_at stage || is_info kind)) × (waiting_at next ≡ is_invoke kind))
    (λ e. pair_error_after (crashed_at stage) (waiting_at stage) kind place ≡ Some e)
judged Crashed kind place opened = refl
judged Idle Kind.Invoke place opened = (refl, refl, refl)
judged Idle Kind.Ok place opened = refl
judged Idle Kind.Fail place opened = refl
judged Idle Kind.Info place opened = refl
judged (Waiting at) Kind.Invoke place opened = refl
judged (Waiting at) Kind.Ok place opened = (refl, refl, refl)
judged (Waiting at) Kind.Fail place opened = (refl, refl, refl)
judged (Waiting at) Kind.Info place opened = (refl, refl, refl)

-- the claims after an operation of a client at a place
abbrev pub claims_after : Kind → ℕ → ℕ → List Claim → List Claim
claims_after kind client place claims = map (closed (Process.Client client) place) claims ++ claim_of kind (Process.Client client) place []

pub record Advances (stage next : Stage) (kind : Kind) (client place : ℕ) (claims : List Claim) : Type 0 where
  pub own : (k : ℕ) → awaits next k ≡ waits (claims_after kind client place claims) client k
  pub others : (other k : ℕ) → (client ≡ other → ⊥) → waits (claims_after kind client place claims) other k ≡ waits claims other k
  pub pairs : pairs_in (claims_after kind client place claims) ≡ pairs_after stage place (pairs_in claims)

-- an invocation
opens : (client place : ℕ) (claims : List Claim) → ((k : ℕ) → waits claims client k ≡ false) → Advances Idle (Waiting (length claims)) Kind.Invoke client place claims
opens client place claims idle =
    let same = none_closed claims client place idle in
    record {
      own = λ k. opened_waits claims client place k idle ∙ ap (λ cs. waits (cs ++ claim_of Kind.Invoke (Process.Client client) place []) client k) (sym same);
      others = λ other k apart. ap (λ cs. waits (cs ++ claim_of Kind.Invoke (Process.Client client) place []) other k) same ∙ opened_others claims client place other k apart;
      pairs = ap (λ cs. pairs_in (cs ++ claim_of Kind.Invoke (Process.Client client) place [])) same ∙ map-append (λ c. c.pair) claims (claim_of Kind.Invoke (Process.Client client) place []);
    }

-- a completion, of whatever kind
completes : (kind : Kind) (client place at : ℕ) (next : Stage) (claims : List Claim) → claim_of kind (Process.Client client) place [] ≡ [] → ((k : ℕ) → awaits next k ≡ false)
    → ((k : ℕ) → same_place at k ≡ waits claims client k) → Advances (Waiting at) next kind client place claims
completes kind client place at next claims none idle waiting =
    let same : claims_after kind client place claims ≡ map (closed (Process.Client client) place) claims =
    ap (λ cs. map (closed (Process.Client client) place) claims ++ cs) none ∙ append-nil (map (closed (Process.Client client) place) claims) in
    record {
      own = λ k. idle k ∙ sym (ap (λ cs. waits cs client k) same ∙ none_waits claims client place k);
      others = λ other k apart. ap (λ cs. waits cs other k) same ∙ others_wait claims client place other k apart;
      pairs = ap pairs_in same ∙ one_closed claims client place at waiting;
    }

pub advances : (stage : Stage) (kind : Kind) (client place : ℕ) (claims : List Claim) → ((k : ℕ) → awaits stage k ≡ waits claims client k)
    → MatchResult (stage_after stage kind place (length claims)) (λ next. Advances stage next kind client place claims) (λ e. Unit {0})
advances Crashed kind client place claims h = tt
advances Idle Kind.Invoke client place claims h = opens client place claims (λ k. sym (h k))
advances Idle Kind.Ok client place claims h = tt
advances Idle Kind.Fail client place claims h = tt
advances Idle Kind.Info client place claims h = tt
advances (Waiting at) Kind.Invoke client place claims h = tt
advances (Waiting at) Kind.Ok client place claims h = completes Kind.Ok client place at Idle claims refl (λ k. refl) h
advances (Waiting at) Kind.Fail client place claims h = completes Kind.Fail client place at Idle claims refl (λ k. refl) h
advances (Waiting at) Kind.Info client place claims h = completes Kind.Info client place at Crashed claims refl (λ k. refl) h

-- ---- over a whole history

-- what is kept, the stage of each client and the pairs, tells of these operations, none of which is in error
pub record AreStagesOf (stages : ℕ → Stage) (pairs : List Pair) (done : List Operation) : Type 0 where
  pub crashed : (client : ℕ) → crashed_at (stages client) ≡ has_crashed (kinds_of client done)
  pub waiting : (client : ℕ) → waiting_at (stages client) ≡ is_waiting (kinds_of client done)
  pub outstanding : (client k : ℕ) → awaits (stages client) k ≡ waits (claims_from 0 done) client k
  pub claimed : pairs ≡ pairs_in (claims_from 0 done)
  pub sound : (client : ℕ) → Follows false false (kinds_of client done)

pub stages_of_nothing : (stages : ℕ → Stage) (pairs : List Pair) → ((client : ℕ) → stages client ≡ Idle) → pairs ≡ [] → AreStagesOf stages pairs []
stages_of_nothing stages pairs idle none = record {
  crashed = λ client. ap crashed_at (idle client);
  waiting = λ client. ap waiting_at (idle client);
  outstanding = λ client k. ap (λ s. awaits s k) (idle client);
  claimed = none;
  sound = λ client. tt;
}

-- an operation of the nemesis
pub stages_skip : (stages : ℕ → Stage) (pairs : List Pair) (done : List Operation) (op : Operation) → op.process ≡ Process.Nemesis → AreStagesOf stages pairs done → AreStagesOf stages pairs (done ++ op ∷ [])
stages_skip stages pairs done op nemesis stages_are =
    let kinds : (client : ℕ) → kinds_of client (done ++ op ∷ []) ≡ kinds_of client done = λ client. kinds_push-other client done op (ap (is_of_client client) nemesis) in
    let claims : claims_from 0 (done ++ op ∷ []) ≡ claims_from 0 done =
    claims_push 0 done op (length done) (omega arith)
    ∙ ap (λ p. map (closed p (length done)) (claims_from 0 done) ++ claim_of op.kind p (length done) []) nemesis
    ∙ ap (λ cs. map (closed Process.Nemesis (length done)) (claims_from 0 done) ++ cs) (no_claim op.kind (length done) [])
    ∙ append-nil (map (closed Process.Nemesis (length done)) (claims_from 0 done))
    ∙ untouched (length done) (claims_from 0 done) in
    record {
      crashed = λ client. stages_are.crashed client ∙ ap has_crashed (sym (kinds client));
      waiting = λ client. stages_are.waiting client ∙ ap is_waiting (sym (kinds client));
      outstanding = λ client k. stages_are.outstanding client k ∙ ap (λ cs. waits cs client k) (sym claims);
      claimed = stages_are.claimed ∙ ap pairs_in (sym claims);
      sound = λ client. subst (λ (ks : List Kind). Follows false false ks) (sym (kinds client)) (stages_are.sound client);
    }

-- what an operation of a client at the next place is judged by
pub error_parsed : (stages : ℕ → Stage) (pairs : List Pair) (done : List Operation) (kind : Kind) (client place : ℕ) → AreStagesOf stages pairs done
    → pair_error_of (Process.Client client) kind done place ≡ pair_error_after (crashed_at (stages client)) (waiting_at (stages client)) kind place
error_parsed stages pairs done kind client place stages_are =
    ap (λ c. pair_error_after c (is_waiting (kinds_of client done)) kind place) (sym (stages_are.crashed client))
    ∙ ap (λ w. pair_error_after (crashed_at (stages client)) w kind place) (sym (stages_are.waiting client))

pub refused : (stages : ℕ → Stage) (pairs : List Pair) (done : List Operation) (kind : Kind) (client place opened : ℕ) (e : PairError) → AreStagesOf stages pairs done
    → stage_after (stages client) kind place opened ≡ Err e → pair_error_of (Process.Client client) kind done place ≡ Some e
refused stages pairs done kind client place opened e stages_are step =
    error_parsed stages pairs done kind client place stages_are ∙ (rw step at (judged (stages client) kind place opened))

pub taken : (stages : ℕ → Stage) (pairs : List Pair) (done : List Operation) (kind : Kind) (client place opened : ℕ) (next : Stage) → AreStagesOf stages pairs done
    → stage_after (stages client) kind place opened ≡ Ok next → pair_error_of (Process.Client client) kind done place ≡ None
taken stages pairs done kind client place opened next stages_are step =
    error_parsed stages pairs done kind client place stages_are ∙ (rw step at (judged (stages client) kind place opened)).0

-- the pair that a stage awaits is there
pub awaited_within : (stages : ℕ → Stage) (pairs : List Pair) (done : List Operation) (client at : ℕ) → AreStagesOf stages pairs done → stages client ≡ Waiting at → at < length pairs
awaited_within stages pairs done client at stages_are stage =
    let waiting : waits (claims_from 0 done) client at ≡ true = sym (stages_are.outstanding client at) ∙ ap (λ s. awaits s at) stage ∙ same_place-self at in
    let within = waits_within (claims_from 0 done) client at waiting in
    let same : length pairs ≡ length (claims_from 0 done) = ap length stages_are.claimed ∙ length-map (claims_from 0 done) (λ c. c.pair) in
    omega (arith, within, same)

is_own : (client : ℕ) (op : Operation) → op.process ≡ Process.Client client → is_of_client client op.process ≡ true
is_own client op own = ap (is_of_client client) own ∙ eq-eqb client client refl

is_other : (client other : ℕ) (op : Operation) → op.process ≡ Process.Client client → (client ≡ other → ⊥) → is_of_client other op.process ≡ false
is_other client other op own apart = ap (is_of_client other) own ∙ ne_eqb other client (λ e. apart (sym e))

crashed_push : (kinds : List Kind) (kind : Kind) → has_crashed (kinds ++ kind ∷ []) ≡ (has_crashed kinds || is_info kind)
crashed_push kinds kind = list_any-append is_info kinds (kind ∷ []) ∙ ap (λ b. has_crashed kinds || b) (or-false (is_info kind))

waiting_push : (kinds : List Kind) (kind : Kind) → is_waiting (kinds ++ kind ∷ []) ≡ is_invoke kind
waiting_push kinds kind = fold_push (λ _ k. is_invoke k) false kinds kind

-- an operation of a client, taken at its stage
pub stages_more : (stages stages' : ℕ → Stage) (pairs pairs' : List Pair) (done : List Operation) (op : Operation) (client : ℕ) (next : Stage)
    → op.process ≡ Process.Client client → AreStagesOf stages pairs done → stage_after (stages client) op.kind (length done) (length pairs) ≡ Ok next
    → stages' client ≡ next → ((other : ℕ) → (client ≡ other → ⊥) → stages' other ≡ stages other) → pairs' ≡ pairs_after (stages client) (length done) pairs
    → AreStagesOf stages' pairs' (done ++ op ∷ [])
stages_more stages stages' pairs pairs' done op client next own stages_are step here apart noted =
    let place = length done in
    let cs = claims_from 0 done in
    let ks = kinds_of client done in
    let as_long : length pairs ≡ length cs = ap length stages_are.claimed ∙ length-map cs (λ c. c.pair) in
    let step_here : stage_after (stages client) op.kind place (length cs) ≡ Ok next = ap (λ n. stage_after (stages client) op.kind place n) (sym as_long) ∙ step in
    let moved = rw step_here at (advances (stages client) op.kind client place cs (stages_are.outstanding client)) in
    let seen = rw step at (judged (stages client) op.kind place (length pairs)) in
    let claims : claims_from 0 (done ++ op ∷ []) ≡ claims_after op.kind client place cs =
    claims_push 0 done op place (omega arith) ∙ ap (λ p. map (closed p place) cs ++ claim_of op.kind p place []) own in
    let kinds : kinds_of client (done ++ op ∷ []) ≡ ks ++ op.kind ∷ [] = kinds_push-own client done op (is_own client op own) in
    let others : (other : ℕ) → (client ≡ other → ⊥) → kinds_of other (done ++ op ∷ []) ≡ kinds_of other done =
    λ other ne. kinds_push-other other done op (is_other client other op own ne) in
    let error : (p : ℕ) → pair_error_after (has_crashed ks) (is_waiting ks) op.kind p ≡ None =
    any_place (has_crashed ks) (is_waiting ks) op.kind place (taken stages pairs done op.kind client place (length pairs) next stages_are step) in
    record {
      crashed = λ q. elim (cases_eq client q) [
        | inl e ↦ subst (λ (x : ℕ). crashed_at (stages' x) ≡ has_crashed (kinds_of x (done ++ op ∷ []))) e
            (ap crashed_at here ∙ seen.1 ∙ ap (λ c. c || is_info op.kind) (stages_are.crashed client) ∙ sym (ap has_crashed kinds ∙ crashed_push ks op.kind))
        | inr ne ↦ ap crashed_at (apart q ne) ∙ stages_are.crashed q ∙ ap has_crashed (sym (others q ne))
      ];
      waiting = λ q. elim (cases_eq client q) [
        | inl e ↦ subst (λ (x : ℕ). waiting_at (stages' x) ≡ is_waiting (kinds_of x (done ++ op ∷ []))) e
            (ap waiting_at here ∙ seen.2 ∙ sym (ap is_waiting kinds ∙ waiting_push ks op.kind))
        | inr ne ↦ ap waiting_at (apart q ne) ∙ stages_are.waiting q ∙ ap is_waiting (sym (others q ne))
      ];
      outstanding = λ q k. elim (cases_eq client q) [
        | inl e ↦ subst (λ (x : ℕ). awaits (stages' x) k ≡ waits (claims_from 0 (done ++ op ∷ [])) x k) e
            (ap (λ s. awaits s k) here ∙ moved.own k ∙ ap (λ x. waits x client k) (sym claims))
        | inr ne ↦ ap (λ s. awaits s k) (apart q ne) ∙ stages_are.outstanding q k ∙ sym (moved.others q k ne) ∙ ap (λ x. waits x q k) (sym claims)
      ];
      claimed = noted ∙ ap (pairs_after (stages client) place) stages_are.claimed ∙ sym moved.pairs ∙ ap pairs_in (sym claims);
      sound = λ q. elim (cases_eq client q) [
        | inl e ↦ subst (λ (x : ℕ). Follows false false (kinds_of x (done ++ op ∷ []))) e
            (subst (λ (x : List Kind). Follows false false x) (sym kinds) (follows_push false false ks op.kind (stages_are.sound client) error))
        | inr ne ↦ subst (λ (x : List Kind). Follows false false x) (sym (others q ne)) (stages_are.sound q)
      ];
    }

pub pairs_parsed : (stages : ℕ → Stage) (pairs : List Pair) (history : List Operation) → AreStagesOf stages pairs history → pairs ≡ history_pairs history
pairs_parsed stages pairs history stages_are = stages_are.claimed ∙ sym (pairs_claimed 0 history)
