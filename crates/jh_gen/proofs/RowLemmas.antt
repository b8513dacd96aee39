-- Calls taken from a row by places are those taken from what is left by cases.
use Rattle.std.proofs.Common.{◌≡◌, refl, sym, ap, ap₂, ◌∙◌, subst, ℕ, zero, suc, ◌+◌, ◌-◌, ◌<◌, ◌≤◌, ◌⊎◌, inl, inr, Bool, true, false, not, cond, ◌&&◌, List, [], ◌∷◌, ◌++◌, length, arith, map, take, drop, get_or, set}
use Rattle.std.specs.Prelude.{◌%◌, Option, None, Some, is_some}
use Rattle.std.specs.Option.{option_or}
use Rattle.std.proofs.lemmas.Bool.{cond-true, cond-false, cases_Bool}
use Rattle.jh_ops.specs.declared.call.Call.{Call}
use Rattle.jh_gen.specs.declared.node.Node.{Node}
use Rattle.jh_gen.specs.declared.node.Member.{Member}
use Rattle.jh_gen.specs.declared.node.Lot.{Lot}
use Rattle.jh_gen.specs.declared.node.Lots.TheDeep.{deep-Node}
use Rattle.jh_gen.specs.Scope.{Question, has_busy_thread, is_in_scope}
use Rattle.jh_gen.specs.Offers.{head_of, first_some, picked_value}
use Rattle.jh_gen.specs.State.{GeneratorState, in_turn, mixed, split, state, lot, is_done, Taking, taking_within, taking, open_takings, lot_taking, states_from, lots_from, taken_call, rest_of, row_size, split_size}
use Rattle.jh_gen.specs.NodeView.{node_state, member_of, row_view, lot_of, lots_view}
use Rattle.jh_gen.specs.NodeFallsInside.{node_falls}
use Rattle.jh_gen.specs.Turns.{RowMembers, first_open_place, turn_at, first_turn, open_len, open_place, is_done_at, turn_among, any_turn, lot_at, lot_turn}
use Rattle.jh_gen.proofs.TakingLemmas.{picked_map, or_map, head_map, first_map, drop_map, take_map, length_map}

-- Answers.

pub within_within : {X Y Z : Type 0} (f : Y → Z) (g : X → Y) (x : Taking X) → taking_within f (taking_within g x) ≡ taking_within (λ r. f (g r)) x
within_within f g None = refl
within_within f g (Some r) = refl

pub call_within : {X Y : Type 0} (f : X → Y) (x : Taking X) → taken_call (taking_within f x) ≡ taken_call x
call_within f None = refl
call_within f (Some r) = refl

pub rest_within : {X Y : Type 0} (f : X → Y) (y : X) (x : Taking X) → rest_of (f y) (taking_within f x) ≡ f (rest_of y x)
rest_within f y None = refl
rest_within f y (Some r) = refl

pub none_call : {X : Type 0} (x : Taking X) → None ≡ taken_call x → x ≡ None
none_call None h = refl
none_call (Some r) h = absurd cc

pub some_call : {X : Type 0} (x : Taking X) (c : Call) (y : X) → Some c ≡ taken_call x → x ≡ Some (c, rest_of y x)
some_call None c y h = absurd cc
some_call (Some r) c y h = let e : r.0 ≡ c = cc in ap (λ k. Some (k, r.1)) e

map_within : {X Y Z : Type 0} (f : Y → Z) (g : X → Y) (xs : List (Taking X)) → map (taking_within f) (map (taking_within g) xs) ≡ map (taking_within (λ r. f (g r))) xs
map_within f g [] = refl
map_within f g (x ∷ xs) = ap₂ (λ y ys. y ∷ ys) (within_within f g x) (map_within f g xs)

within_cond : {X Y : Type 0} (f : X → Y) (b : Bool) (x : Taking X) → taking_within f (cond b None x) ≡ cond b None (taking_within f x)
within_cond f true x = refl
within_cond f false x = refl

-- What the members that aren't done give, by rows.

tries : List ℕ → RowMembers → Question → List (Taking RowMembers)
tries awaited [] q = []
tries awaited (m ∷ ms) q =
    cond (is_done m.1)
    (map (taking_within (λ ns. m ∷ ns)) (tries awaited ms q))
    (turn_at awaited (m ∷ ms) zero q ∷ map (taking_within (λ ns. m ∷ ns)) (tries awaited ms q))

open_tries : (awaited : List ℕ) (ms : RowMembers) (q : Question) → open_takings awaited (states_from ms) q ≡ map (taking_within states_from) (tries awaited ms q)
unfolding tries
open_tries awaited [] q = refl
open_tries awaited (m ∷ ms) q =
    let rest : map (taking_within (state m.0 m.1)) (open_takings awaited (states_from ms) q) ≡ map (taking_within states_from) (map (taking_within (λ ns. m ∷ ns)) (tries awaited ms q)) =
    ap (map (taking_within (state m.0 m.1))) (open_tries awaited ms q)
    ∙ map_within (state m.0 m.1) states_from (tries awaited ms q)
    ∙ sym (map_within states_from (λ ns. m ∷ ns) (tries awaited ms q)) in
    let first : cond (not m.0 && has_busy_thread q.busy awaited) None (taking_within (λ r. state true r (states_from ms)) (taking m.1 q)) ≡ taking_within states_from (turn_at awaited (m ∷ ms) zero q) =
    sym (within_cond states_from (not m.0 && has_busy_thread q.busy awaited) (taking_within (λ r. (true, r) ∷ ms) (taking m.1 q))
    ∙ ap (cond (not m.0 && has_busy_thread q.busy awaited) None) (within_within states_from (λ r. (true, r) ∷ ms) (taking m.1 q))) in
    elim (cases_Bool (is_done m.1)) [
      | inl hit ↦ cond-true (is_done m.1) _ _ hit ∙ rest ∙ ap (map (taking_within states_from)) (sym (cond-true (is_done m.1) _ _ hit))
      | inr miss ↦ cond-false (is_done m.1) _ _ miss ∙ ap₂ (λ y ys. y ∷ ys) first rest ∙ ap (map (taking_within states_from)) (sym (cond-false (is_done m.1) _ _ miss))
    ]

first_tries : (awaited : List ℕ) (ms : RowMembers) (q : Question) → head_of (tries awaited ms q) ≡ first_turn awaited ms q
unfolding tries
first_tries awaited [] q = refl
first_tries awaited (m ∷ ms) q =
    elim (cases_Bool (is_done m.1)) [
      | inl hit ↦
          ap head_of (cond-true (is_done m.1) _ _ hit)
          ∙ head_map _ (tries awaited ms q)
          ∙ ap (taking_within (λ ns. m ∷ ns)) (first_tries awaited ms q)
          ∙ sym (ap (λ k. turn_at awaited (m ∷ ms) k q) (cond-true (is_done m.1) (suc (first_open_place ms)) 0 hit))
      | inr miss ↦
          ap head_of (cond-false (is_done m.1) _ _ miss)
          ∙ sym (ap (λ k. turn_at awaited (m ∷ ms) k q) (cond-false (is_done m.1) (suc (first_open_place ms)) 0 miss))
    ]

among_shift : (m : Bool × GeneratorState) (ms : RowMembers) (q : Question) (from n : ℕ) → turn_among (m ∷ ms) q (suc from) n ≡ taking_within (λ ns. m ∷ ns) (turn_among ms q from n)
among_shift m ms q from zero = refl
among_shift m ms q from (suc n) =
    ap₂ option_or (sym (within_cond (λ ns. m ∷ ns) (is_done_at ms from) (turn_at [] ms from q))) (among_shift m ms q (suc from) n)
    ∙ or_map _ (cond (is_done_at ms from) None (turn_at [] ms from q)) (turn_among ms q (suc from) n)

-- one more place in front
among_front : (m : Bool × GeneratorState) (ms : RowMembers) (q : Question) (n : ℕ) → turn_among (m ∷ ms) q 0 (suc n) ≡ option_or (cond (is_done m.1) None (turn_at [] (m ∷ ms) zero q)) (taking_within (λ ns. m ∷ ns) (turn_among ms q 0 n))
among_front m ms q n = ap (option_or (cond (is_done m.1) None (turn_at [] (m ∷ ms) zero q))) (among_shift m ms q 0 n)

first_within : (m : Bool × GeneratorState) (xs : List (Taking RowMembers)) → first_some (map (taking_within (λ ns. m ∷ ns)) xs) ≡ taking_within (λ ns. m ∷ ns) (first_some xs)
first_within m xs = first_map _ xs

among_take : (ms : RowMembers) (q : Question) (k : ℕ) → first_some (take k (tries [] ms q)) ≡ turn_among ms q 0 (open_place ms k)
unfolding tries
among_take [] q zero = refl
among_take [] q (suc k) = refl
among_take (m ∷ ms) q zero =
    elim (cases_Bool (is_done m.1)) [
      | inl hit ↦
          sym (ap (turn_among (m ∷ ms) q 0) (cond-true (is_done m.1) (suc (open_place ms zero)) 0 hit)
          ∙ among_front m ms q (open_place ms zero)
          ∙ ap (λ x. option_or x (taking_within (λ ns. m ∷ ns) (turn_among ms q 0 (open_place ms zero)))) (cond-true (is_done m.1) None _ hit)
          ∙ ap (taking_within (λ ns. m ∷ ns)) (sym (among_take ms q zero)))
      | inr miss ↦ sym (ap (turn_among (m ∷ ms) q 0) (cond-false (is_done m.1) (suc (open_place ms zero)) 0 miss))
    ]
among_take (m ∷ ms) q (suc k) =
    elim (cases_Bool (is_done m.1)) [
      | inl hit ↦
          ap (λ xs. first_some (take (suc k) xs)) (cond-true (is_done m.1) _ _ hit)
          ∙ ap first_some (take_map _ (suc k) (tries [] ms q))
          ∙ first_within m (take (suc k) (tries [] ms q))
          ∙ ap (taking_within (λ ns. m ∷ ns)) (among_take ms q (suc k))
          ∙ sym (ap (λ j. turn_among (m ∷ ms) q 0 (suc (open_place ms j))) (cond-true (is_done m.1) (suc k) k hit)
          ∙ among_front m ms q (open_place ms (suc k))
          ∙ ap (λ x. option_or x (taking_within (λ ns. m ∷ ns) (turn_among ms q 0 (open_place ms (suc k))))) (cond-true (is_done m.1) None _ hit))
      | inr miss ↦
          ap (λ xs. first_some (take (suc k) xs)) (cond-false (is_done m.1) _ _ miss)
          ∙ ap (option_or (turn_at [] (m ∷ ms) zero q))
          (ap first_some (take_map _ k (tries [] ms q)) ∙ first_within m (take k (tries [] ms q)) ∙ ap (taking_within (λ ns. m ∷ ns)) (among_take ms q k))
          ∙ sym (ap (λ j. turn_among (m ∷ ms) q 0 (suc (open_place ms j))) (cond-false (is_done m.1) (suc k) k miss)
          ∙ among_front m ms q (open_place ms k)
          ∙ ap (λ x. option_or x (taking_within (λ ns. m ∷ ns) (turn_among ms q 0 (open_place ms k)))) (cond-false (is_done m.1) None _ miss))
    ]

among_all : (ms : RowMembers) (q : Question) → first_some (tries [] ms q) ≡ turn_among ms q 0 (length ms)
unfolding tries
among_all [] q = refl
among_all (m ∷ ms) q =
    let later : first_some (map (taking_within (λ ns. m ∷ ns)) (tries [] ms q)) ≡ taking_within (λ ns. m ∷ ns) (turn_among ms q 0 (length ms)) =
    first_within m (tries [] ms q) ∙ ap (taking_within (λ ns. m ∷ ns)) (among_all ms q) in
    elim (cases_Bool (is_done m.1)) [
      | inl hit ↦ ap first_some (cond-true (is_done m.1) _ _ hit) ∙ later
          ∙ sym (among_front m ms q (length ms) ∙ ap (λ x. option_or x (taking_within (λ ns. m ∷ ns) (turn_among ms q 0 (length ms)))) (cond-true (is_done m.1) None _ hit))
      | inr miss ↦ ap first_some (cond-false (is_done m.1) _ _ miss) ∙ ap (option_or (turn_at [] (m ∷ ms) zero q)) later
          ∙ sym (among_front m ms q (length ms) ∙ ap (λ x. option_or x (taking_within (λ ns. m ∷ ns) (turn_among ms q 0 (length ms)))) (cond-false (is_done m.1) None _ miss))
    ]

less : (l p : ℕ) → (l - p) ≡ (suc l - suc p)
less l p = omega arith

whole : (l : ℕ) → suc l ≡ (suc l - 0)
whole l = omega arith

further : (m : Bool × GeneratorState) (ms : RowMembers) (q : Question) (k : ℕ) → first_some (drop k (tries [] ms q)) ≡ turn_among ms q (open_place ms k) (length ms - open_place ms k) → first_some (drop k (map (taking_within (λ ns. m ∷ ns)) (tries [] ms q))) ≡ turn_among (m ∷ ms) q (suc (open_place ms k)) (suc (length ms) - suc (open_place ms k))
further m ms q k h =
    ap first_some (drop_map _ k (tries [] ms q))
    ∙ first_within m (drop k (tries [] ms q))
    ∙ ap (taking_within (λ ns. m ∷ ns)) h
    ∙ sym (among_shift m ms q (open_place ms k) (length ms - open_place ms k))
    ∙ ap (turn_among (m ∷ ms) q (suc (open_place ms k))) (less (length ms) (open_place ms k))

among_drop : (ms : RowMembers) (q : Question) (k : ℕ) → first_some (drop k (tries [] ms q)) ≡ turn_among ms q (open_place ms k) (length ms - open_place ms k)
unfolding tries
among_drop [] q zero = refl
among_drop [] q (suc k) = refl
among_drop (m ∷ ms) q zero =
    elim (cases_Bool (is_done m.1)) [
      | inl hit ↦
          ap first_some (cond-true (is_done m.1) _ _ hit)
          ∙ first_within m (tries [] ms q)
          ∙ ap (taking_within (λ ns. m ∷ ns)) (among_drop ms q zero)
          ∙ sym (among_shift m ms q (open_place ms zero) (length ms - open_place ms zero))
          ∙ ap (turn_among (m ∷ ms) q (suc (open_place ms zero))) (less (length ms) (open_place ms zero))
          ∙ sym (ap (λ p. turn_among (m ∷ ms) q p (suc (length ms) - p)) (cond-true (is_done m.1) (suc (open_place ms zero)) 0 hit))
      | inr miss ↦
          among_all (m ∷ ms) q
          ∙ ap (turn_among (m ∷ ms) q 0) (whole (length ms))
          ∙ sym (ap (λ p. turn_among (m ∷ ms) q p (suc (length ms) - p)) (cond-false (is_done m.1) (suc (open_place ms zero)) 0 miss))
    ]
among_drop (m ∷ ms) q (suc k) =
    elim (cases_Bool (is_done m.1)) [
      | inl hit ↦
          ap (λ xs. first_some (drop (suc k) xs)) (cond-true (is_done m.1) _ _ hit)
          ∙ further m ms q (suc k) (among_drop ms q (suc k))
          ∙ sym (ap (λ j. turn_among (m ∷ ms) q (suc (open_place ms j)) (suc (length ms) - suc (open_place ms j))) (cond-true (is_done m.1) (suc k) k hit))
      | inr miss ↦
          ap (λ xs. first_some (drop (suc k) xs)) (cond-false (is_done m.1) _ _ miss)
          ∙ further m ms q k (among_drop ms q k)
          ∙ sym (ap (λ j. turn_among (m ∷ ms) q (suc (open_place ms j)) (suc (length ms) - suc (open_place ms j))) (cond-false (is_done m.1) (suc k) k miss))
    ]

length_tries : (ms : RowMembers) (q : Question) → length (tries [] ms q) ≡ open_len ms
unfolding tries
length_tries [] q = refl
length_tries (m ∷ ms) q =
    elim (cases_Bool (is_done m.1)) [
      | inl hit ↦ ap length (cond-true (is_done m.1) _ _ hit) ∙ length_map _ (tries [] ms q) ∙ length_tries ms q ∙ sym (cond-true (is_done m.1) (open_len ms) (suc (open_len ms)) hit)
      | inr miss ↦ ap length (cond-false (is_done m.1) _ _ miss) ∙ ap suc (length_map _ (tries [] ms q) ∙ length_tries ms q) ∙ sym (cond-false (is_done m.1) (open_len ms) (suc (open_len ms)) miss)
    ]

first_append : {X : Type 0} (os ps : List (Option X)) → first_some (os ++ ps) ≡ option_or (first_some os) (first_some ps)
first_append [] ps = refl
first_append (None ∷ os) ps = first_append os ps
first_append (Some x ∷ os) ps = refl

any_tries : (ms : RowMembers) (q : Question) → picked_value q.random_number (tries [] ms q) ≡ any_turn ms q
any_tries ms q =
    let os = tries [] ms q in
    let k = q.random_number % open_len ms in
    ap (λ n. first_some (drop (q.random_number % n) os ++ take (q.random_number % n) os)) (length_tries ms q)
    ∙ first_append (drop k os) (take k os)
    ∙ ap₂ option_or (among_drop ms q k) (among_take ms q k)

-- The kinds with members.

picked_tries : (ms : RowMembers) (q : Question) → picked_value q.random_number (open_takings [] (states_from ms) q) ≡ taking_within states_from (any_turn ms q)
picked_tries ms q =
    ap (picked_value q.random_number) (open_tries [] ms q)
    ∙ picked_map _ q.random_number (tries [] ms q)
    ∙ ap (taking_within states_from) (any_tries ms q)

in_turn_is : (awaited : List ℕ) (ms : RowMembers) (q : Question) → taking (in_turn awaited (states_from ms)) q ≡ taking_within (λ ns. in_turn awaited (states_from ns)) (first_turn awaited ms q)
in_turn_is awaited ms q =
    ap (λ os. taking_within (in_turn awaited) (head_of os)) (open_tries awaited ms q)
    ∙ ap (taking_within (in_turn awaited)) (head_map _ (tries awaited ms q) ∙ ap (taking_within states_from) (first_tries awaited ms q))
    ∙ within_within (in_turn awaited) states_from (first_turn awaited ms q)

mixed_is : (ms : RowMembers) (q : Question) → taking (mixed (states_from ms)) q ≡ taking_within (λ ns. mixed (states_from ns)) (any_turn ms q)
mixed_is ms q = ap (taking_within mixed) (picked_tries ms q) ∙ within_within mixed states_from (any_turn ms q)

lots_is : (ls : List (List ℕ × GeneratorState)) (q : Question) → lot_taking (lots_from ls) q ≡ taking_within lots_from (lot_turn ls (lot_at ls q.asker) q)
lots_is [] q = refl
lots_is (l ∷ ls) q =
    elim (cases_Bool (is_in_scope l.0 q.asker)) [
      | inl hit ↦
          cond-true (is_in_scope l.0 q.asker) _ _ hit
          ∙ sym (within_within lots_from (λ r. (l.0, r) ∷ ls) (taking l.1 q))
          ∙ sym (ap (λ k. taking_within lots_from (lot_turn (l ∷ ls) k q)) (cond-true (is_in_scope l.0 q.asker) 0 (suc (lot_at ls q.asker)) hit))
      | inr miss ↦
          cond-false (is_in_scope l.0 q.asker) _ _ miss
          ∙ ap (taking_within (lot l.0 l.1)) (lots_is ls q)
          ∙ within_within (lot l.0 l.1) lots_from (lot_turn ls (lot_at ls q.asker) q)
          ∙ sym (within_within lots_from (λ ns. l ∷ ns) (lot_turn ls (lot_at ls q.asker) q))
          ∙ sym (ap (λ k. taking_within lots_from (lot_turn (l ∷ ls) k q)) (cond-false (is_in_scope l.0 q.asker) 0 (suc (lot_at ls q.asker)) miss))
    ]

split_is : (ls : List (List ℕ × GeneratorState)) (q : Question) → taking (split (lots_from ls)) q ≡ taking_within (λ ns. split (lots_from ns)) (lot_turn ls (lot_at ls q.asker) q)
split_is ls q = ap (taking_within split) (lots_is ls q) ∙ within_within split lots_from (lot_turn ls (lot_at ls q.asker) q)

pub in_turn_call : (awaited : List ℕ) (ms : RowMembers) (q : Question) → taken_call (first_turn awaited ms q) ≡ taken_call (taking (in_turn awaited (states_from ms)) q)
in_turn_call awaited ms q = sym (ap taken_call (in_turn_is awaited ms q) ∙ call_within _ (first_turn awaited ms q))

pub in_turn_rest : (awaited : List ℕ) (ms : RowMembers) (q : Question) → in_turn awaited (states_from (rest_of ms (first_turn awaited ms q))) ≡ rest_of (in_turn awaited (states_from ms)) (taking (in_turn awaited (states_from ms)) q)
in_turn_rest awaited ms q = sym (ap (rest_of (in_turn awaited (states_from ms))) (in_turn_is awaited ms q) ∙ rest_within (λ ns. in_turn awaited (states_from ns)) ms (first_turn awaited ms q))

pub mixed_call : (ms : RowMembers) (q : Question) → taken_call (any_turn ms q) ≡ taken_call (taking (mixed (states_from ms)) q)
mixed_call ms q = sym (ap taken_call (mixed_is ms q) ∙ call_within _ (any_turn ms q))

pub mixed_rest : (ms : RowMembers) (q : Question) → mixed (states_from (rest_of ms (any_turn ms q))) ≡ rest_of (mixed (states_from ms)) (taking (mixed (states_from ms)) q)
mixed_rest ms q = sym (ap (rest_of (mixed (states_from ms))) (mixed_is ms q) ∙ rest_within (λ ns. mixed (states_from ns)) ms (any_turn ms q))

pub split_call : (ls : List (List ℕ × GeneratorState)) (q : Question) → taken_call (lot_turn ls (lot_at ls q.asker) q) ≡ taken_call (taking (split (lots_from ls)) q)
split_call ls q = sym (ap taken_call (split_is ls q) ∙ call_within _ (lot_turn ls (lot_at ls q.asker) q))

pub split_rest : (ls : List (List ℕ × GeneratorState)) (q : Question) → split (lots_from (rest_of ls (lot_turn ls (lot_at ls q.asker) q))) ≡ rest_of (split (lots_from ls)) (taking (split (lots_from ls)) q)
split_rest ls q = sym (ap (rest_of (split (lots_from ls))) (split_is ls q) ∙ rest_within (λ ns. split (lots_from ns)) ls (lot_turn ls (lot_at ls q.asker) q))

-- One member of a row.

-- a row after its member at k gave a call, or none
pub member_rest : (b : Bool) (xs : List Member) (k : ℕ) (m : Member) (n : Node) (s : GeneratorState) → row_view (set xs k (record { started = b; node = n })) ≡ set (row_view xs) k (b, node_state n)
member_rest b [] k m n s = refl
member_rest b (x ∷ xs) zero m n s = refl
member_rest b (x ∷ xs) (suc k) m n s = ap (λ ns. member_of x ∷ ns) (member_rest b xs k m n s)

pub row_member : (xs : List Member) (k : ℕ) (m : Member) → k < length xs → m ≡ get_or xs k m → deep-Node m.node < row_size (row_view xs)
row_member [] k m lt e = absurd (omega arith)
row_member (x ∷ xs) zero m lt e = subst (λ y. deep-Node y.node < row_size (row_view (x ∷ xs))) (sym e) (omega (arith, node_falls x.node))
row_member (x ∷ xs) (suc k) m lt e = let h = row_member xs k m (omega arith) e in omega (arith, h)

-- what the member at k gives
turn_get : (awaited : List ℕ) (xs : List Member) (k : ℕ) (m : Member) (q : Question) → k < length xs → m ≡ get_or xs k m → turn_at awaited (row_view xs) k q ≡ cond (not m.started && has_busy_thread q.busy awaited) None (taking_within (λ r. set (row_view xs) k (true, r)) (taking (node_state m.node) q))
turn_get awaited [] k m q lt e = absurd (omega arith)
turn_get awaited (x ∷ xs) zero m q lt e = subst (λ y. turn_at awaited (row_view (x ∷ xs)) zero q ≡ cond (not y.started && has_busy_thread q.busy awaited) None (taking_within (λ r. set (row_view (x ∷ xs)) zero (true, r)) (taking (node_state y.node) q))) (sym e) refl
turn_get awaited (x ∷ xs) (suc k) m q lt e =
    ap (taking_within (λ ns. member_of x ∷ ns)) (turn_get awaited xs k m q (omega arith) e)
    ∙ within_cond (λ ns. member_of x ∷ ns) (not m.started && has_busy_thread q.busy awaited) (taking_within (λ r. set (row_view xs) k (true, r)) (taking (node_state m.node) q))
    ∙ ap (cond (not m.started && has_busy_thread q.busy awaited) None) (within_within (λ ns. member_of x ∷ ns) (λ r. set (row_view xs) k (true, r)) (taking (node_state m.node) q))

pub set_kept : (xs : List Member) (k : ℕ) (m : Member) (n : Node) → m ≡ get_or xs k m → node_state n ≡ node_state m.node → row_view (set xs k (record { started = m.started; node = n })) ≡ row_view xs
set_kept [] k m n e h = refl
set_kept (x ∷ xs) zero m n e h = ap (λ s. (m.started, s) ∷ row_view xs) h ∙ ap (λ y. member_of y ∷ row_view xs) e
set_kept (x ∷ xs) (suc k) m n e h = ap (λ ns. member_of x ∷ ns) (set_kept xs k m n e h)

-- a row and the member that is asked
pub record Asks (awaited : List ℕ) (xs : List Member) (row : RowMembers) (k : ℕ) (m : Member) (q : Question) : Type 0 where
  pub view_is : row_view xs ≡ row
  pub within_row : k < length row
  pub is_at : m ≡ get_or xs k m

long : (xs : List Member) (row : RowMembers) (k : ℕ) → row_view xs ≡ row → k < length row → k < length xs
long xs row k e lt = let same : length (row_view xs) ≡ length xs = length_map member_of xs in let f = ap length e in omega arith

pub member_falls : (awaited : List ℕ) (xs : List Member) (row : RowMembers) (k : ℕ) (m : Member) (q : Question) → Asks awaited xs row k m q → deep-Node m.node < row_size row
member_falls awaited xs row k m q a = subst (λ r. deep-Node m.node < row_size r) a.view_is (row_member xs k m (long xs row k a.view_is a.within_row) a.is_at)

turn_is : (awaited : List ℕ) (xs : List Member) (row : RowMembers) (k : ℕ) (m : Member) (q : Question) → Asks awaited xs row k m q → turn_at awaited row k q ≡ cond (not m.started && has_busy_thread q.busy awaited) None (taking_within (λ r. set row k (true, r)) (taking (node_state m.node) q))
turn_is awaited xs row k m q a =
    subst (λ r. turn_at awaited r k q ≡ cond (not m.started && has_busy_thread q.busy awaited) None (taking_within (λ s. set r k (true, s)) (taking (node_state m.node) q))) a.view_is
    (turn_get awaited xs k m q (long xs row k a.view_is a.within_row) a.is_at)

-- it waits
pub turn_waits : (awaited : List ℕ) (xs : List Member) (row : RowMembers) (k : ℕ) (m : Member) (q : Question) → Asks awaited xs row k m q → m.started ≡ false → has_busy_thread q.busy awaited ≡ true → turn_at awaited row k q ≡ None
turn_waits awaited xs row k m q a fresh busy =
    turn_is awaited xs row k m q a
    ∙ cond-true (not m.started && has_busy_thread q.busy awaited) None _ (ap₂ (λ b c. not b && c) fresh busy)

same_none : {X : Type 0} (b : Bool) (x : Option X) → x ≡ None → cond b None x ≡ None
same_none true x h = refl
same_none false x h = h

and_false : (b : Bool) → (b && false) ≡ false
and_false true = refl
and_false false = refl

-- it has no call
pub turn_none : (awaited : List ℕ) (xs : List Member) (row : RowMembers) (k : ℕ) (m : Member) (q : Question) → Asks awaited xs row k m q → taking (node_state m.node) q ≡ None → turn_at awaited row k q ≡ None
turn_none awaited xs row k m q a none =
    turn_is awaited xs row k m q a
    ∙ same_none (not m.started && has_busy_thread q.busy awaited) _ (ap (taking_within (λ r. set row k (true, r))) none)

-- it gives a call
pub turn_gives : (awaited : List ℕ) (xs : List Member) (row : RowMembers) (k : ℕ) (m : Member) (q : Question) → Asks awaited xs row k m q → (m.started ≡ true) ⊎ (has_busy_thread q.busy awaited ≡ false) → (call : Call) (n : Node) → taking (node_state m.node) q ≡ Some (call, node_state n) → turn_at awaited row k q ≡ Some (call, row_view (set xs k (record { started = true; node = n })))
turn_gives awaited xs row k m q a free call n gives =
    turn_is awaited xs row k m q a
    ∙ cond-false (not m.started && has_busy_thread q.busy awaited) None _
    (elim free [ inl b ↦ ap (λ x. not x && has_busy_thread q.busy awaited) b | inr b ↦ ap (λ x. not m.started && x) b ∙ and_false (not m.started) ])
    ∙ ap (taking_within (λ r. set row k (true, r))) gives
    ∙ ap (λ r. Some (call, r)) (ap (λ r. set r k (true, node_state n)) (sym a.view_is) ∙ sym (member_rest true xs k m n (node_state n)))

-- Places.

go : (xs : List Member) (k : ℕ) (m : Member) → k < length xs → m ≡ get_or xs k m → is_done_at (row_view xs) k ≡ is_done (node_state m.node)
go [] k m lt e = absurd (omega arith)
go (x ∷ xs) zero m lt e = ap (λ y. is_done (node_state y.node)) (sym e)
go (x ∷ xs) (suc k) m lt e = go xs k m (omega arith) e

pub done_at : (xs : List Member) (row : RowMembers) (k : ℕ) (m : Member) → row_view xs ≡ row → k < length row → m ≡ get_or xs k m → is_done_at row k ≡ is_done (node_state m.node)
done_at xs row k m e lt is_at = subst (λ r. is_done_at r k ≡ is_done (node_state m.node)) e (go xs k m (long xs row k e lt) is_at)

-- the next place of a range
pub among_next : (ms : RowMembers) (q : Question) (k to : ℕ) → k < to → turn_among ms q k (to - k) ≡ option_or (cond (is_done_at ms k) None (turn_at [] ms k q)) (turn_among ms q (k + 1) (to - (k + 1)))
among_next ms q k to lt =
    let e : to - k ≡ suc (to - (k + 1)) = omega arith in
    let f : suc k ≡ k + 1 = omega arith in
    ap (turn_among ms q k) e ∙ ap (λ j. option_or (cond (is_done_at ms k) None (turn_at [] ms k q)) (turn_among ms q j (to - (k + 1)))) f

all_done_here : (m : Bool × GeneratorState) (ms : RowMembers) (k : ℕ) → is_done m.1 ≡ true → ((j : ℕ) → is_done_at ms j ≡ true) → is_done_at (m ∷ ms) k ≡ true
all_done_here m ms zero hit h = hit
all_done_here m ms (suc k) hit h = h k

all_done_at : (ms : RowMembers) (k : ℕ) → open_len ms ≡ 0 → is_done_at ms k ≡ true
all_done_at [] k none = refl
all_done_at (m ∷ ms) k none =
    elim (cases_Bool (is_done m.1)) [
      | inl hit ↦ all_done_here m ms k hit (λ j. all_done_at ms j (sym (cond-true (is_done m.1) (open_len ms) (suc (open_len ms)) hit) ∙ none))
      | inr miss ↦ absurd (let e = sym (cond-false (is_done m.1) (open_len ms) (suc (open_len ms)) miss) ∙ none in cc)
    ]

none_among : (ms : RowMembers) (q : Question) (from n : ℕ) → open_len ms ≡ 0 → turn_among ms q from n ≡ None
none_among ms q from zero none = refl
none_among ms q from (suc n) none =
    ap₂ option_or (cond-true (is_done_at ms from) None (turn_at [] ms from q) (all_done_at ms from none)) (none_among ms q (suc from) n none)

pub none_any : (ms : RowMembers) (q : Question) → open_len ms ≡ 0 → any_turn ms q ≡ None
none_any ms q none = ap₂ option_or (none_among ms q _ _ none) (none_among ms q _ _ none)

-- no member is left at the end of the row
pub past_end : (awaited : List ℕ) (ms : RowMembers) (k : ℕ) (q : Question) → length ms ≤ k → turn_at awaited ms k q ≡ None
past_end awaited [] k q le = refl
past_end awaited (m ∷ ms) zero q le = absurd (omega arith)
past_end awaited (m ∷ ms) (suc k) q le = ap (taking_within (λ ns. m ∷ ns)) (past_end awaited ms k q (omega arith))

-- Lots.

pub lots_past_end : (ls : List (List ℕ × GeneratorState)) (k : ℕ) (q : Question) → length ls ≤ k → lot_turn ls k q ≡ None
lots_past_end [] k q le = refl
lots_past_end (l ∷ ls) zero q le = absurd (omega arith)
lots_past_end (l ∷ ls) (suc k) q le = ap (taking_within (λ ns. l ∷ ns)) (lots_past_end ls k q (omega arith))

lot_get : (xs : List Lot) (k : ℕ) (l : Lot) (q : Question) → k < length xs → l ≡ get_or xs k l → lot_turn (lots_view xs) k q ≡ taking_within (λ r. set (lots_view xs) k (l.threads.items, r)) (taking (node_state l.node) q)
lot_get [] k l q lt e = absurd (omega arith)
lot_get (x ∷ xs) zero l q lt e = subst (λ y. lot_turn (lots_view (x ∷ xs)) zero q ≡ taking_within (λ r. set (lots_view (x ∷ xs)) zero (y.threads.items, r)) (taking (node_state y.node) q)) (sym e) refl
lot_get (x ∷ xs) (suc k) l q lt e =
    ap (taking_within (λ ns. lot_of x ∷ ns)) (lot_get xs k l q (omega arith) e)
    ∙ within_within (λ ns. lot_of x ∷ ns) (λ r. set (lots_view xs) k (l.threads.items, r)) (taking (node_state l.node) q)

lot_rest : (xs : List Lot) (k : ℕ) (l : Lot) (n : Node) → lots_view (set xs k (record { threads = l.threads; node = n })) ≡ set (lots_view xs) k (l.threads.items, node_state n)
lot_rest [] k l n = refl
lot_rest (x ∷ xs) zero l n = refl
lot_rest (x ∷ xs) (suc k) l n = ap (λ ns. lot_of x ∷ ns) (lot_rest xs k l n)

set_lot : (xs : List Lot) (k : ℕ) (l : Lot) → l ≡ get_or xs k l → set (lots_view xs) k (lot_of l) ≡ lots_view xs
set_lot [] k l e = refl
set_lot (x ∷ xs) zero l e = ap (λ y. lot_of y ∷ lots_view xs) e
set_lot (x ∷ xs) (suc k) l e = ap (λ ns. lot_of x ∷ ns) (set_lot xs k l e)

lot_node : (xs : List Lot) (k : ℕ) (l : Lot) → k < length xs → l ≡ get_or xs k l → deep-Node l.node < split_size (lots_view xs)
lot_node [] k l lt e = absurd (omega arith)
lot_node (x ∷ xs) zero l lt e = subst (λ y. deep-Node y.node < split_size (lots_view (x ∷ xs))) (sym e) (omega (arith, node_falls x.node))
lot_node (x ∷ xs) (suc k) l lt e = let h = lot_node xs k l (omega arith) e in omega (arith, h)

lots_long : (xs : List Lot) (ls : List (List ℕ × GeneratorState)) (k : ℕ) → lots_view xs ≡ ls → k < length ls → k < length xs
lots_long xs ls k e lt = let same : length (lots_view xs) ≡ length xs = length_map lot_of xs in let f = ap length e in omega arith

pub lot_falls : (xs : List Lot) (ls : List (List ℕ × GeneratorState)) (k : ℕ) (l : Lot) → lots_view xs ≡ ls → k < length ls → l ≡ get_or xs k l → deep-Node l.node < split_size ls
lot_falls xs ls k l e lt is_at = subst (λ r. deep-Node l.node < split_size r) e (lot_node xs k l (lots_long xs ls k e lt) is_at)

pub lot_call : (xs : List Lot) (ls : List (List ℕ × GeneratorState)) (k : ℕ) (l : Lot) (q : Question) → lots_view xs ≡ ls → k < length ls → l ≡ get_or xs k l → taken_call (lot_turn ls k q) ≡ taken_call (taking (node_state l.node) q)
lot_call xs ls k l q e lt is_at =
    ap (λ r. taken_call (lot_turn r k q)) (sym e)
    ∙ ap taken_call (lot_get xs k l q (lots_long xs ls k e lt) is_at)
    ∙ call_within _ (taking (node_state l.node) q)

pub lot_left : (xs : List Lot) (ls : List (List ℕ × GeneratorState)) (k : ℕ) (l : Lot) (n : Node) (q : Question) → lots_view xs ≡ ls → k < length ls → l ≡ get_or xs k l → node_state n ≡ rest_of (node_state l.node) (taking (node_state l.node) q) → lots_view (set xs k (record { threads = l.threads; node = n })) ≡ rest_of ls (lot_turn ls k q)
lot_left xs ls k l n q e lt is_at h =
    lot_rest xs k l n
    ∙ ap (λ s. set (lots_view xs) k (l.threads.items, s)) h
    ∙ sym (ap (λ r. rest_of r (lot_turn r k q)) (sym e)
    ∙ ap (rest_of (lots_view xs)) (lot_get xs k l q (lots_long xs ls k e lt) is_at)
    ∙ ap (λ r. rest_of r (taking_within (λ s. set (lots_view xs) k (l.threads.items, s)) (taking (node_state l.node) q))) (sym (set_lot xs k l is_at))
    ∙ rest_within (λ s. set (lots_view xs) k (l.threads.items, s)) (node_state l.node) (taking (node_state l.node) q))

-- A range of places.

taken_first : {X : Type 0} (x y : Taking X) → is_some (taken_call x) ≡ true → option_or x y ≡ x
taken_first None y h = absurd cc
taken_first (Some r) y h = refl

pub among_gives : (ms : RowMembers) (q : Question) (k to : ℕ) (whole : Taking RowMembers) → k < to → turn_among ms q k (to - k) ≡ whole → is_done_at ms k ≡ false → is_some (taken_call (turn_at [] ms k q)) ≡ true → turn_at [] ms k q ≡ whole
among_gives ms q k to whole lt same unspent some =
    sym (sym same ∙ among_next ms q k to lt
    ∙ ap (λ x. option_or x (turn_among ms q (k + 1) (to - (k + 1)))) (cond-false (is_done_at ms k) None _ unspent)
    ∙ taken_first (turn_at [] ms k q) (turn_among ms q (k + 1) (to - (k + 1))) some)

pub among_passes : (ms : RowMembers) (q : Question) (k to : ℕ) (whole : Taking RowMembers) → k < to → turn_among ms q k (to - k) ≡ whole → (is_done_at ms k ≡ true) ⊎ (turn_at [] ms k q ≡ None) → turn_among ms q (k + 1) (to - (k + 1)) ≡ whole
among_passes ms q k to whole lt same passes =
    sym (sym same ∙ among_next ms q k to lt
    ∙ ap (λ x. option_or x (turn_among ms q (k + 1) (to - (k + 1))))
    (elim passes [ inl hit ↦ cond-true (is_done_at ms k) None _ hit | inr none ↦ same_none (is_done_at ms k) _ none ]))

pub no_call : {X : Type 0} (x : Taking X) → is_some (taken_call x) ≡ false → x ≡ None
no_call None h = refl
no_call (Some r) h = absurd cc

pub row_length : (xs : List Member) (row : RowMembers) → row_view xs ≡ row → length row ≡ length xs
row_length xs row e = sym (ap length e) ∙ length_map member_of xs

pub lots_length : (xs : List Lot) (ls : List (List ℕ × GeneratorState)) → lots_view xs ≡ ls → length ls ≡ length xs
lots_length xs ls e = sym (ap length e) ∙ length_map lot_of xs
