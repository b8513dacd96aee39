-- The orders that steps stand for.
use Rattle.std.proofs.Common.{◌≡◌, ℕ, zero, suc, ◌+◌, ◌<◌, List, [], ◌∷◌, ◌++◌, length, get_or, refl, sym, ap, ◌∙◌, arith}
use Rattle.std.proofs.lemmas.List.{get_or_append_left, get_or_push, length_push}
use Rattle.jh_linear.specs.declared.verdict.Step.{Step}
use Rattle.jh_linear.specs.Reached.{orders_from, orders_of, order_at, root, NameEarlier}

pub orders_push : (known : List (List ℕ)) (steps : List Step) (step : Step) → orders_from known (steps ++ step ∷ []) ≡ orders_from known steps ++ (get_or (orders_from known steps) step.parent [] ++ step.placed) ∷ []
orders_push known [] step = refl
orders_push known (s ∷ steps) step = orders_push (known ++ (get_or known s.parent [] ++ s.placed) ∷ []) steps step

pub orders_length : (known : List (List ℕ)) (steps : List Step) → length (orders_from known steps) ≡ length known + length steps
orders_length known [] = omega arith
orders_length known (s ∷ steps) =
    let one : List ℕ = get_or known s.parent [] ++ s.placed in
    let rest = orders_length (known ++ one ∷ []) steps in
    omega (arith, rest, length_push known one)

pub length_orders : (steps : List Step) → length (orders_of steps) ≡ length steps
length_orders [] = refl
length_orders (s ∷ steps) = let r = orders_length ([] ∷ []) steps in omega (arith, r)

pub push_order : (steps : List Step) (step : Step) → 0 < length steps → orders_of (steps ++ step ∷ []) ≡ orders_of steps ++ (order_at steps step.parent ++ step.placed) ∷ []
push_order [] step lt = absurd (omega arith)
push_order (s ∷ steps) step lt = orders_push ([] ∷ []) steps step

-- the orders so far stay
pub order_kept : (steps : List Step) (step : Step) (i : ℕ) → i < length steps → order_at (steps ++ step ∷ []) i ≡ order_at steps i
order_kept steps step i lt =
    ap (λ os. get_or os i []) (push_order steps step (omega arith)) ∙ get_or_append_left (orders_of steps) _ [] i (omega (arith, length_orders steps))

pub order_new : (steps : List Step) (step : Step) → 0 < length steps → order_at (steps ++ step ∷ []) (length steps) ≡ order_at steps step.parent ++ step.placed
order_new steps step lt =
    ap (λ os. get_or os (length steps) []) (push_order steps step lt) ∙ get_or_push (orders_of steps) _ [] (length steps) (length_orders steps)

known_kept : (known : List (List ℕ)) (steps : List Step) (i : ℕ) → i < length known → get_or (orders_from known steps) i [] ≡ get_or known i []
known_kept known [] i lt = refl
known_kept known (s ∷ steps) i lt =
    let one : List ℕ = get_or known s.parent [] ++ s.placed in
    known_kept (known ++ one ∷ []) steps i (omega (arith, length_push known one)) ∙ get_or_append_left known (one ∷ []) [] i lt

step_in : (known : List (List ℕ)) (steps : List Step) (k i : ℕ) → i ≡ length known + k → k < length steps → (get_or steps k root).parent < i
    → get_or (orders_from known steps) i [] ≡ get_or (orders_from known steps) (get_or steps k root).parent [] ++ (get_or steps k root).placed
step_in known [] k i is lt low = absurd (omega arith)
step_in known (s ∷ steps) zero i is lt low =
    let one : List ℕ = get_or known s.parent [] ++ s.placed in
    let at : length known ≡ i = omega (arith, is) in
    let below : s.parent < length known = omega (arith, low, at) in
    known_kept (known ++ one ∷ []) steps i (omega (arith, length_push known one, at))
    ∙ get_or_push known one [] i at
    ∙ ap (λ o. o ++ s.placed) (sym (known_kept (known ++ one ∷ []) steps s.parent (omega (arith, length_push known one, below)) ∙ get_or_append_left known (one ∷ []) [] s.parent below))
step_in known (s ∷ steps) (suc k) i is lt low =
    let one : List ℕ = get_or known s.parent [] ++ s.placed in
    step_in (known ++ one ∷ []) steps k i (omega (arith, length_push known one, is)) (omega (arith, lt)) low

-- an order is an earlier one and one more number
pub order_step : (steps : List Step) (i : ℕ) → 0 < i → i < length steps → NameEarlier steps → order_at steps i ≡ order_at steps (get_or steps i root).parent ++ (get_or steps i root).placed
order_step [] i low high earlier = absurd (omega arith)
order_step (s ∷ steps) zero low high earlier = absurd (omega arith)
order_step (s ∷ steps) (suc k) low high earlier = step_in ([] ∷ []) steps k (suc k) (omega arith) (omega (arith, high)) (earlier (suc k) low high)

pub order_first : (steps : List Step) → 0 < length steps → order_at steps 0 ≡ []
order_first [] lt = refl
order_first (s ∷ steps) lt = known_kept ([] ∷ []) steps 0 (omega arith)
