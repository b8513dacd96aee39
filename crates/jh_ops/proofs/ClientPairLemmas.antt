-- Pairs with the client whose they are, and what one more operation does to them.
use Rattle.std.proofs.Common.{◌≡◌, ℕ, zero, suc, ◌+◌, ◌<◌, Bool, true, false, List, [], ◌∷◌, ◌++◌, length, get_or, Option, Some, None, refl, sym, ap, ◌∙◌, arith, inl, inr}
use Rattle.std.specs.Prelude.{◌==◌, ◌&&◌, cond, map, is_none}
use Rattle.std.proofs.Math.ListN.{set}
use Rattle.std.specs.Option.{option_or}
use Rattle.std.proofs.lemmas.Bool.{eq-eqb, ne_eqb, eqb-true, cases_Bool}
use Rattle.std.proofs.lemmas.List.{map-append, append_assoc, append-nil}
use Rattle.jh_ops.specs.Operation.{Operation}
use Rattle.jh_ops.specs.Pairing.{is_of_client, first_of, pair_of, pairs_from}
use Rattle.jh_ops.specs.StageInside.{pairs_with_outcome}
use Rattle.jh_ops.specs.declared.operation.Kind.{Kind}
use Rattle.jh_ops.specs.declared.operation.Process.{Process}
use Rattle.jh_ops.specs.declared.pairs.Pair.{Pair}

pub record Claim : Type 0 where
  pub client : ℕ
  pub pair : Pair

abbrev pub claim_of : Kind → Process → ℕ → List Operation → List Claim
claim_of Kind.Invoke (Process.Client client) place after =
    record { client = client; pair = record { invoke = place; outcome = first_of client (place + 1) after } } ∷ []
claim_of _ _ place after = []

abbrev pub claims_from : ℕ → List Operation → List Claim
claims_from place [] = []
claims_from place (op ∷ ops) = claim_of op.kind op.process place ops ++ claims_from (place + 1) ops

abbrev pub pairs_in : List Claim → List Pair
pairs_in claims = map (λ c. c.pair) claims

pair_claimed : (kind : Kind) (process : Process) (place : ℕ) (after : List Operation) → pair_of kind process place after ≡ pairs_in (claim_of kind process place after)
pair_claimed Kind.Invoke (Process.Client client) place after = refl
pair_claimed Kind.Invoke Process.Nemesis place after = refl
pair_claimed Kind.Ok process place after = refl
pair_claimed Kind.Fail process place after = refl
pair_claimed Kind.Info process place after = refl

pub pairs_claimed : (place : ℕ) (ops : List Operation) → pairs_from place ops ≡ pairs_in (claims_from place ops)
pairs_claimed place [] = refl
pairs_claimed place (op ∷ ops) =
    ap (λ ps. ps ++ pairs_from (place + 1) ops) (pair_claimed op.kind op.process place ops)
    ∙ ap (λ ps. pairs_in (claim_of op.kind op.process place ops) ++ ps) (pairs_claimed (place + 1) ops)
    ∙ sym (map-append (λ c. c.pair) (claim_of op.kind op.process place ops) (claims_from (place + 1) ops))

-- ---- one more operation

-- a claim after an operation of a process at a place
abbrev pub closed : Process → ℕ → Claim → Claim
closed process place c =
    record { client = c.client; pair = record { invoke = c.pair.invoke; outcome = option_or c.pair.outcome (cond (is_of_client c.client process) (Some place) None) } }

found_first : (b : Bool) (place : ℕ) (all front last : Option ℕ) → all ≡ option_or front last → cond b (Some place) all ≡ option_or (cond b (Some place) front) last
found_first true place all front last e = refl
found_first false place all front last e = e

first_of-push : (client place : ℕ) (ops : List Operation) (op : Operation) (last : ℕ) → last ≡ place + length ops
    → first_of client place (ops ++ op ∷ []) ≡ option_or (first_of client place ops) (cond (is_of_client client op.process) (Some last) None)
first_of-push client place [] op last e =
    let here : place ≡ last = omega (arith, e) in
    ap (λ p. cond (is_of_client client op.process) (Some p) None) here
first_of-push client place (x ∷ xs) op last e =
    found_first (is_of_client client x.process) place (first_of client (place + 1) (xs ++ op ∷ [])) (first_of client (place + 1) xs) (cond (is_of_client client op.process) (Some last) None)
    (first_of-push client (place + 1) xs op last (omega (arith, e)))

claim_push : (kind : Kind) (process : Process) (place : ℕ) (ops : List Operation) (op : Operation) (last : ℕ) → last ≡ place + 1 + length ops
    → claim_of kind process place (ops ++ op ∷ []) ≡ map (closed op.process last) (claim_of kind process place ops)
claim_push Kind.Invoke (Process.Client client) place ops op last e =
    ap (λ o. record { client = client; pair = record { invoke = place; outcome = o } } ∷ []) (first_of-push client (place + 1) ops op last e)
claim_push Kind.Invoke Process.Nemesis place ops op last e = refl
claim_push Kind.Ok process place ops op last e = refl
claim_push Kind.Fail process place ops op last e = refl
claim_push Kind.Info process place ops op last e = refl

pub claims_push : (place : ℕ) (ops : List Operation) (op : Operation) (last : ℕ) → last ≡ place + length ops
    → claims_from place (ops ++ op ∷ []) ≡ map (closed op.process last) (claims_from place ops) ++ claim_of op.kind op.process last []
claims_push place [] op last e =
    let here : place ≡ last = omega (arith, e) in
    append-nil (claim_of op.kind op.process place []) ∙ ap (λ p. claim_of op.kind op.process p []) here
claims_push place (x ∷ xs) op last e =
    let rest : last ≡ place + 1 + length xs = omega (arith, e) in
    let front = claim_of x.kind x.process place xs in
    ap (λ cs. cs ++ claims_from (place + 1) (xs ++ op ∷ [])) (claim_push x.kind x.process place xs op last rest)
    ∙ ap (λ cs. map (closed op.process last) front ++ cs) (claims_push (place + 1) xs op last rest)
    ∙ sym (append_assoc (map (closed op.process last) front) (map (closed op.process last) (claims_from (place + 1) xs)) (claim_of op.kind op.process last []))
    ∙ ap (λ cs. cs ++ claim_of op.kind op.process last []) (sym (map-append (closed op.process last) front (claims_from (place + 1) xs)))

-- ---- an operation of the nemesis

kept_outcome : (o : Option ℕ) → option_or o None ≡ o
kept_outcome (Some place) = refl
kept_outcome None = refl

abbrev with_claim_outcome : Claim → Option ℕ → Claim
with_claim_outcome c o = record { client = c.client; pair = record { invoke = c.pair.invoke; outcome = o } }

pub untouched : (place : ℕ) (claims : List Claim) → map (closed Process.Nemesis place) claims ≡ claims
untouched place [] = refl
untouched place (c ∷ cs) =
    ap (λ o. with_claim_outcome c o ∷ map (closed Process.Nemesis place) cs) (kept_outcome c.pair.outcome) ∙ ap (λ xs. c ∷ xs) (untouched place cs)

pub no_claim : (kind : Kind) (place : ℕ) (after : List Operation) → claim_of kind Process.Nemesis place after ≡ []
no_claim Kind.Invoke place after = refl
no_claim Kind.Ok place after = refl
no_claim Kind.Fail place after = refl
no_claim Kind.Info place after = refl

-- ---- claims that wait

-- the claim at a place is this client's and has no outcome
abbrev pub waits : List Claim → ℕ → ℕ → Bool
waits [] client at = false
waits (c ∷ cs) client zero = (c.client == client) && is_none c.pair.outcome
waits (c ∷ cs) client (suc at) = waits cs client at

abbrev pub same_place : ℕ → ℕ → Bool
same_place zero zero = true
same_place (suc a) (suc b) = same_place a b
same_place _ _ = false

pub same_place-self : (at : ℕ) → same_place at at ≡ true
same_place-self zero = refl
same_place-self (suc at) = same_place-self at

pub waits_within : (claims : List Claim) (client at : ℕ) → waits claims client at ≡ true → at < length claims
waits_within [] client at h = absurd cc
waits_within (c ∷ cs) client zero h = omega arith
waits_within (c ∷ cs) client (suc at) h = let below = waits_within cs client at h in omega (arith, below)

stays : (o : Option ℕ) (b : Bool) (place : ℕ) → (b && is_none o) ≡ false → option_or o (cond b (Some place) None) ≡ o
stays (Some x) b place h = refl
stays None false place h = refl
stays None true place h = cc

closes : (o : Option ℕ) (b : Bool) (place : ℕ) → (b && is_none o) ≡ true → option_or o (cond b (Some place) None) ≡ Some place
closes (Some x) false place h = cc
closes (Some x) true place h = cc
closes None false place h = cc
closes None true place h = refl

-- nothing of the client waits, so nothing is closed
pub none_closed : (claims : List Claim) (client place : ℕ) → ((at : ℕ) → waits claims client at ≡ false) → map (closed (Process.Client client) place) claims ≡ claims
none_closed [] client place h = refl
none_closed (c ∷ cs) client place h =
    ap (λ o. with_claim_outcome c o ∷ map (closed (Process.Client client) place) cs) (stays c.pair.outcome (c.client == client) place (h 0))
    ∙ ap (λ xs. c ∷ xs) (none_closed cs client place (λ at. h (suc at)))

-- the client's one claim that waits is closed
pub one_closed : (claims : List Claim) (client place at : ℕ) → ((k : ℕ) → same_place at k ≡ waits claims client k)
    → pairs_in (map (closed (Process.Client client) place) claims) ≡ pairs_with_outcome (pairs_in claims) at place
one_closed [] client place at h = refl
one_closed (c ∷ cs) client place zero h =
    ap (λ o. record { invoke = c.pair.invoke; outcome = o } ∷ pairs_in (map (closed (Process.Client client) place) cs)) (closes c.pair.outcome (c.client == client) place (sym (h 0)))
    ∙ ap (λ cs. record { invoke = c.pair.invoke; outcome = Some place } ∷ pairs_in cs) (none_closed cs client place (λ k. sym (h (suc k))))
one_closed (c ∷ cs) client place (suc at) h =
    ap (λ o. record { invoke = c.pair.invoke; outcome = o } ∷ pairs_in (map (closed (Process.Client client) place) cs)) (stays c.pair.outcome (c.client == client) place (sym (h 0)))
    ∙ ap (λ ps. c.pair ∷ ps) (one_closed cs client place at (λ k. h (suc k)))

answered : (o : Option ℕ) (b : Bool) (place : ℕ) → (b && is_none (option_or o (cond b (Some place) None))) ≡ false
answered (Some x) false place = refl
answered (Some x) true place = refl
answered None false place = refl
answered None true place = refl

-- then nothing of the client waits
pub none_waits : (claims : List Claim) (client place k : ℕ) → waits (map (closed (Process.Client client) place) claims) client k ≡ false
none_waits [] client place k = refl
none_waits (c ∷ cs) client place zero = answered c.pair.outcome (c.client == client) place
none_waits (c ∷ cs) client place (suc k) = none_waits cs client place k

other_waits : (x client other : ℕ) (o : Option ℕ) (place : ℕ) → (client ≡ other → ⊥)
    → ((x == other) && is_none (option_or o (cond (x == client) (Some place) None))) ≡ ((x == other) && is_none o)
other_waits x client other o place apart =
    elim (cases_Bool (x == other)) [
      | inl hit ↦
          let same : x ≡ other = eqb-true x other hit in
          let miss : (x == client) ≡ false = ne_eqb x client (λ e. apart (sym e ∙ same)) in
          ap (λ b. (x == other) && is_none (option_or o (cond b (Some place) None))) miss ∙ ap (λ w. (x == other) && is_none w) (kept_outcome o)
      | inr miss ↦ ap (λ b. b && is_none (option_or o (cond (x == client) (Some place) None))) miss ∙ ap (λ b. b && is_none o) (sym miss)
    ]

-- what another client has outstanding stays so
pub others_wait : (claims : List Claim) (client place other k : ℕ) → (client ≡ other → ⊥) → waits (map (closed (Process.Client client) place) claims) other k ≡ waits claims other k
others_wait [] client place other k apart = refl
others_wait (c ∷ cs) client place other zero apart = other_waits c.client client other c.pair.outcome place apart
others_wait (c ∷ cs) client place other (suc k) apart = others_wait cs client place other k apart

-- ---- a claim that is opened

abbrev pub new_claim : ℕ → ℕ → Claim
new_claim client place = record { client = client; pair = record { invoke = place; outcome = None } }

pub opened_waits : (claims : List Claim) (client place k : ℕ) → ((at : ℕ) → waits claims client at ≡ false) → same_place (length claims) k ≡ waits (claims ++ new_claim client place ∷ []) client k
opened_waits [] client place zero h = sym (ap (λ b. b && true) (eq-eqb client client refl))
opened_waits [] client place (suc k) h = refl
opened_waits (c ∷ cs) client place zero h = sym (h 0)
opened_waits (c ∷ cs) client place (suc k) h = opened_waits cs client place k (λ at. h (suc at))

pub opened_others : (claims : List Claim) (client place other k : ℕ) → (client ≡ other → ⊥) → waits (claims ++ new_claim client place ∷ []) other k ≡ waits claims other k
opened_others [] client place other zero apart = ap (λ b. b && true) (ne_eqb client other apart)
opened_others [] client place other (suc k) apart = refl
opened_others (c ∷ cs) client place other zero apart = refl
opened_others (c ∷ cs) client place other (suc k) apart = opened_others cs client place other k apart

-- ---- the pair that is written

pub pairs_with_outcome-set : (pairs : List Pair) (at place : ℕ) (p : Pair) → at < length pairs → p ≡ get_or pairs at p
    → set pairs at (record { invoke = p.invoke; outcome = Some place }) ≡ pairs_with_outcome pairs at place
pairs_with_outcome-set [] at place p below same = absurd (omega arith)
pairs_with_outcome-set (x ∷ xs) zero place p below same = ap (λ y. record { invoke = y.invoke; outcome = Some place } ∷ xs) same
pairs_with_outcome-set (x ∷ xs) (suc at) place p below same = ap (λ ys. x ∷ ys) (pairs_with_outcome-set xs at place p (omega arith) same)
