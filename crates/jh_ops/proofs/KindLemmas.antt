-- A client's operations one by one: none is in error exactly where they alternate.
use Rattle.std.proofs.Common.{◌≡◌, ℕ, Bool, true, false, List, [], ◌∷◌, ◌++◌, Some, None, refl, sym, ap, subst, ◌∙◌}
use Rattle.std.specs.Prelude.{◌||◌, cond, filter, fold, map}
use Rattle.std.proofs.Math.Bool.{or-false}
use Rattle.std.proofs.lemmas.List.{map-append, append-nil}
use Rattle.std.proofs.lemmas.List.Elements.{filter-append}
use Rattle.jh_ops.specs.Operation.{Operation}
use Rattle.jh_ops.specs.Pairing.{is_of_client, kinds_of, Alternate, is_invoke, is_info, has_crashed, pair_error_after}
use Rattle.jh_ops.specs.declared.operation.Kind.{Kind}
use Rattle.jh_ops.specs.declared.pairs.PairError.TheVariants.{AfterCrash, DoubleInvoke, NoInvoke}

-- ---- the kinds of a client's operations

pub kinds_of-append : (client : ℕ) (xs ys : List Operation) → kinds_of client (xs ++ ys) ≡ kinds_of client xs ++ kinds_of client ys
kinds_of-append client xs ys =
    ap (map (λ op. op.kind)) (filter-append (λ op. is_of_client client op.process) xs ys)
    ∙ map-append (λ op. op.kind) (filter (λ op. is_of_client client op.process) xs) (filter (λ op. is_of_client client op.process) ys)

pub kinds_of-own : (client : ℕ) (op : Operation) (ops : List Operation) → is_of_client client op.process ≡ true → kinds_of client (op ∷ ops) ≡ op.kind ∷ kinds_of client ops
kinds_of-own client op ops own =
    ap (λ b. map (λ x. x.kind) (cond b (op ∷ filter (λ x. is_of_client client x.process) ops) (filter (λ x. is_of_client client x.process) ops))) own

pub kinds_of-other : (client : ℕ) (op : Operation) (ops : List Operation) → is_of_client client op.process ≡ false → kinds_of client (op ∷ ops) ≡ kinds_of client ops
kinds_of-other client op ops other =
    ap (λ b. map (λ x. x.kind) (cond b (op ∷ filter (λ x. is_of_client client x.process) ops) (filter (λ x. is_of_client client x.process) ops))) other

-- one more operation, of this client or of another
pub kinds_push-own : (client : ℕ) (ops : List Operation) (op : Operation) → is_of_client client op.process ≡ true → kinds_of client (ops ++ op ∷ []) ≡ kinds_of client ops ++ op.kind ∷ []
kinds_push-own client ops op own = kinds_of-append client ops (op ∷ []) ∙ ap (λ ks. kinds_of client ops ++ ks) (kinds_of-own client op [] own)

pub kinds_push-other : (client : ℕ) (ops : List Operation) (op : Operation) → is_of_client client op.process ≡ false → kinds_of client (ops ++ op ∷ []) ≡ kinds_of client ops
kinds_push-other client ops op other = kinds_of-append client ops (op ∷ []) ∙ ap (λ ks. kinds_of client ops ++ ks) (kinds_of-other client op [] other) ∙ append-nil (kinds_of client ops)

-- ---- one kind after another

or_shift : (a b c : Bool) → ((a || b) || c) ≡ (a || (b || c))
or_shift true b c = refl
or_shift false b c = refl

-- whether an invocation is outstanding after these, where one was before or not
abbrev pub waiting_after : Bool → List Kind → Bool
waiting_after waiting kinds = fold (λ _ kind. is_invoke kind) waiting kinds

-- none of these is in error, where the process has crashed before or not and has one outstanding or not
abbrev pub Follows : Bool → Bool → List Kind → Type 0
Follows crashed waiting [] = Unit {0}
Follows crashed waiting (kind ∷ kinds) = ((place : ℕ) → pair_error_after crashed waiting kind place ≡ None) × Follows (crashed || is_info kind) (is_invoke kind) kinds

-- a kind that is not in error at one place is so at none
pub any_place : (crashed waiting : Bool) (kind : Kind) (place : ℕ) → pair_error_after crashed waiting kind place ≡ None → (other : ℕ) → pair_error_after crashed waiting kind other ≡ None
any_place true waiting kind place e other = cc
any_place false true Kind.Invoke place e other = cc
any_place false false Kind.Invoke place e other = refl
any_place false true Kind.Ok place e other = refl
any_place false false Kind.Ok place e other = cc
any_place false true Kind.Fail place e other = refl
any_place false false Kind.Fail place e other = cc
any_place false true Kind.Info place e other = refl
any_place false false Kind.Info place e other = cc

pub follows_push : (crashed waiting : Bool) (kinds : List Kind) (kind : Kind) → Follows crashed waiting kinds
    → ((place : ℕ) → pair_error_after (crashed || has_crashed kinds) (waiting_after waiting kinds) kind place ≡ None) → Follows crashed waiting (kinds ++ kind ∷ [])
follows_push crashed waiting [] kind follows good =
    ((λ place. ap (λ c. pair_error_after c waiting kind place) (sym (or-false crashed)) ∙ good place), tt)
follows_push crashed waiting (k ∷ ks) kind follows good = (
  follows.0,
  follows_push (crashed || is_info k) (is_invoke k) ks kind follows.1
      (λ place. ap (λ c. pair_error_after c (waiting_after (is_invoke k) ks) kind place) (or_shift crashed (is_info k) (has_crashed ks)) ∙ good place),
)

pub follows_at : (crashed waiting : Bool) (kinds : List Kind) (kind : Kind) (rest : List Kind) → Follows crashed waiting (kinds ++ kind ∷ rest)
    → (place : ℕ) → pair_error_after (crashed || has_crashed kinds) (waiting_after waiting kinds) kind place ≡ None
follows_at crashed waiting [] kind rest follows place = ap (λ c. pair_error_after c waiting kind place) (or-false crashed) ∙ follows.0 place
follows_at crashed waiting (k ∷ ks) kind rest follows place =
    ap (λ c. pair_error_after c (waiting_after (is_invoke k) ks) kind place) (sym (or_shift crashed (is_info k) (has_crashed ks)))
    ∙ follows_at (crashed || is_info k) (is_invoke k) ks kind rest follows.1 place

-- ---- no error, and alternation

nothing_follows : (kinds : List Kind) → Follows true false kinds → kinds ≡ []
nothing_follows [] follows = refl
nothing_follows (kind ∷ kinds) follows = absurd (let bad : Some (AfterCrash 0) ≡ None = follows.0 0 in cc)

pub alternate : (kinds : List Kind) → (Follows false false kinds → Alternate kinds) × (Follows false true kinds → Alternate (Kind.Invoke ∷ kinds))
alternate [] = ((λ _. tt), (λ _. tt))
alternate (Kind.Invoke ∷ kinds) = ((λ h. (alternate kinds).1 h.1), (λ h. absurd (let bad : Some (DoubleInvoke 0) ≡ None = h.0 0 in cc)))
alternate (Kind.Ok ∷ kinds) = ((λ h. absurd (let bad : Some (NoInvoke 0) ≡ None = h.0 0 in cc)), (λ h. (alternate kinds).0 h.1))
alternate (Kind.Fail ∷ kinds) = ((λ h. absurd (let bad : Some (NoInvoke 0) ≡ None = h.0 0 in cc)), (λ h. (alternate kinds).0 h.1))
alternate (Kind.Info ∷ kinds) = ((λ h. absurd (let bad : Some (NoInvoke 0) ≡ None = h.0 0 in cc)), (λ h. nothing_follows kinds h.1))

pub follows : (kinds : List Kind) → (Alternate kinds → Follows false false kinds) × (Alternate (Kind.Invoke ∷ kinds) → Follows false true kinds)
follows [] = ((λ _. tt), (λ _. tt))
follows (Kind.Invoke ∷ kinds) = ((λ h. ((λ place. refl), (follows kinds).1 h)), (λ h. absurd h))
follows (Kind.Ok ∷ kinds) = ((λ h. absurd h), (λ h. ((λ place. refl), (follows kinds).0 h)))
follows (Kind.Fail ∷ kinds) = ((λ h. absurd h), (λ h. ((λ place. refl), (follows kinds).0 h)))
follows (Kind.Info ∷ kinds) = ((λ h. absurd h), (λ h. ((λ place. refl), subst (λ (ks : List Kind). Follows true false ks) (sym h) tt)))
