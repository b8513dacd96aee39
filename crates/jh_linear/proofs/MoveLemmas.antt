-- Lists of moves that grow.
use Rattle.std.proofs.Common.{◌≡◌, ℕ, zero, suc, ◌+◌, ◌<◌, ℤ, Option, Some, List, [], ◌∷◌, ◌++◌, length, get_or, slice_get, take, refl, sym, ap, subst, inl, inr, arith}
use Rattle.std.specs.Prelude.{◌⊎◌}
use Rattle.std.proofs.lemmas.Bool.{cases_lt}
use Rattle.jh_linear.specs.declared.sorted_ops.Problem.{Problem}
use Rattle.jh_linear.specs.declared.config.Config.{Config}
use Rattle.jh_linear.specs.declared.moves.Move.{Move}
use Rattle.jh_linear.specs.declared.moves.Source.TheVariants.{Happened, NextOfClass}
use Rattle.jh_linear.specs.Order.{Allows}
use Rattle.jh_linear.specs.SearchInside.{EachIsMove, HasHappened, HasUnknown, IsAmong, IsMove, IsReady, IsWanted, MovesMore, source_call}

pub get_kept : {X : Type 0} (xs : List X) (y x : X) (i : ℕ) → slice_get xs i ≡ Some x → slice_get (xs ++ y ∷ []) i ≡ Some x
get_kept [] y x i h = absurd (let bad = h in cc)
get_kept (z ∷ xs) y x zero h = h
get_kept (z ∷ xs) y x (suc i) h = get_kept xs y x i h

pub get_last : {X : Type 0} (xs : List X) (y : X) → slice_get (xs ++ y ∷ []) (length xs) ≡ Some y
get_last [] y = refl
get_last (z ∷ xs) y = get_last xs y

pub get_cases : {X : Type 0} (xs : List X) (y x : X) (i : ℕ) → slice_get (xs ++ y ∷ []) i ≡ Some x → (slice_get xs i ≡ Some x) ⊎ ((i ≡ length xs) × (y ≡ x))
get_cases [] y x zero h = let same : y ≡ x = cc in inr (refl, same)
get_cases [] y x (suc i) h = absurd (let bad = h in cc)
get_cases (z ∷ xs) y x zero h = inl h
get_cases (z ∷ xs) y x (suc i) h = elim (get_cases xs y x i h) as (λ _. (slice_get xs i ≡ Some x) ⊎ ((suc i ≡ length (z ∷ xs)) × (y ≡ x))) [
  | inl e ↦ inl e
  | inr e ↦ inr (ap suc e.0, e.1)
]

pub nothing_there : {X : Type 0} (i : ℕ) (x : X) → slice_get {X = X} [] i ≡ Some x → ⊥
nothing_there zero x h = let bad = h in cc
nothing_there (suc i) x h = let bad = h in cc

-- what is among the first so many is there
pub get_taken : {X : Type 0} (n : ℕ) (xs : List X) (i : ℕ) (x : X) → slice_get (take n xs) i ≡ Some x → slice_get xs i ≡ Some x
get_taken zero xs i x h = absurd (nothing_there i x h)
get_taken (suc n) [] i x h = h
get_taken (suc n) (y ∷ xs) zero x h = h
get_taken (suc n) (y ∷ xs) (suc i) x h = get_taken n xs i x h

module _ (problem : Problem) (config : Config) where
  pub more_same : (moves : List Move) → MovesMore problem config moves moves
  more_same moves = record { each = λ e. e; kept = λ source value a. a }

  pub more_trans : (a b c : List Move) → MovesMore problem config a b → MovesMore problem config b c → MovesMore problem config a c
  more_trans a b c ab bc = record { each = λ e. bc.each (ab.each e); kept = λ source value among. bc.kept source value (ab.kept source value among) }

  pub more_push : (moves moves' : List Move) (move : Move) → moves' ≡ moves ++ move ∷ [] → IsMove problem config move → MovesMore problem config moves moves'
  more_push moves moves' move is one = subst (MovesMore problem config moves) (sym is) (record {
    each = λ e i m at. elim (get_cases moves move m i at) as (λ _. IsMove problem config m) [
      | inl old ↦ e i m old
      | inr new ↦ subst (IsMove problem config) new.1 one
    ];
    kept = λ source value a. (a.0, a.1, get_kept moves move a.1 a.0 a.2, a.3, a.4);
  })

  pub among_push : (moves moves' : List Move) (move : Move) → moves' ≡ moves ++ move ∷ [] → IsAmong moves' move.source move.value
  among_push moves moves' move is = (length moves, move, subst (λ ms. slice_get ms (length moves) ≡ Some move) (sym is) (get_last moves move), refl, refl)

  -- one more index of what is pending was looked at
  pub happened_more : (moves moves' : List Move) (bound : ℕ) → MovesMore problem config moves moves'
      → ((next : Option ℤ) → Allows (source_call problem config (Happened bound)) config.value next → IsAmong moves' (Happened bound) next)
      → HasHappened problem config moves bound → HasHappened problem config moves' (bound + 1)
  happened_more moves moves' bound more here before index next lt allowed = elim (cases_lt index bound) as (λ _. IsAmong moves' (Happened index) next) [
    | inl low ↦ more.kept (Happened index) next (before index next low allowed)
    | inr high ↦
        let is : bound ≡ index = omega (arith, lt, high) in
        subst (λ i. IsAmong moves' (Happened i) next) is (here next (subst (λ i. Allows (source_call problem config (Happened i)) config.value next) (sym is) allowed))
  ]

  -- one more class was looked at
  pub unknown_more : (moves moves' : List Move) (bound : ℕ) → MovesMore problem config moves moves'
      → (IsReady problem config bound → (next : Option ℤ) → Allows (source_call problem config (NextOfClass bound)) config.value next → IsWanted problem config next → IsAmong moves' (NextOfClass bound) next)
      → HasUnknown problem config moves bound → HasUnknown problem config moves' (bound + 1)
  unknown_more moves moves' bound more here before k next lt ready allowed wanted = elim (cases_lt k bound) as (λ _. IsAmong moves' (NextOfClass k) next) [
    | inl low ↦ more.kept (NextOfClass k) next (before k next low ready allowed wanted)
    | inr high ↦
        let is : bound ≡ k = omega (arith, lt, high) in
        subst (λ c. IsAmong moves' (NextOfClass c) next) is
        (here (subst (IsReady problem config) (sym is) ready) next (subst (λ c. Allows (source_call problem config (NextOfClass c)) config.value next) (sym is) allowed) wanted)
  ]

  pub each_none : (moves : List Move) → moves ≡ [] → EachIsMove problem config moves
  each_none moves is i move at =
      let none : slice_get {X = Move} [] i ≡ Some move = subst (λ (ms : List Move). slice_get ms i ≡ Some move) is at in
      absurd (nothing_there i move none)

pub no_moves : (moves seen : List Move) → seen ≡ moves → length seen < 1 → moves ≡ []
no_moves [] seen is short = refl
no_moves (m ∷ ms) seen is short = let long : length seen ≡ suc (length ms) = ap length is in absurd (omega (arith, short, long))

pub is_first : (moves : List Move) (d : Move) → 0 < length moves → slice_get moves 0 ≡ Some (get_or moves 0 d)
is_first [] d lt = absurd (omega (arith, lt))
is_first (m ∷ ms) d lt = refl

-- where there is one, it is the first
pub is_only : (moves : List Move) (d : Move) → length moves < 2 → (i : ℕ) (m : Move) → slice_get moves i ≡ Some m → m ≡ get_or moves 0 d
is_only [] d short i m at = absurd (nothing_there i m at)
is_only (x ∷ []) d short zero m at = let same : m ≡ x = cc in same
is_only (x ∷ []) d short (suc i) m at = absurd (nothing_there i m at)
is_only (x ∷ y ∷ ms) d short i m at = absurd (omega (arith, short))
