-- What is taken from what is left of a generator is what the generator offers, and what is left then is what is left
-- after the trace with the call's path.
use Rattle.std.proofs.Common.{◌≡◌, refl, sym, ap, ap₂, ◌∙◌, ℕ, zero, suc, ◌+◌, ◌-◌, ◌<◌, ◌≤◌, inl, inr, Bool, true, false, not, cond, ◌&&◌, ◌||◌, List, [], ◌∷◌, ◌++◌, length, arith, map, take, drop, subst}
use Rattle.jh_edn.specs.Edn.{is_empty}
use Rattle.std.specs.Prelude.{◌==◌, ◌%◌, nat_le, filter, Option, None, Some, ℤ, pos, ◌+ℤ◌, int_lt, option_map}
use Rattle.std.specs.Option.{option_or}
use Rattle.std.proofs.lemmas.Bool.{cond-true, cond-false, and_parts, or_parts, or_left, or_right, cases_Bool, eqb-true, eq-eqb}
use Rattle.std.proofs.lemmas.Int.{ints}
use Rattle.jh_gen.specs.Generator.{Generator, nothing, once, rising, forever, seq, limit, mix, phases, reserve, each_thread, clients, nemesis_only, Generators, no_generators, generator, ShareList, no_shares, share}
use Rattle.jh_ops.specs.declared.call.Call.{Call}
use Rattle.jh_gen.specs.Rises.{risen}
use Rattle.jh_gen.specs.declared.rise.Rise.{Rise}
use Rattle.jh_gen.specs.Trace.{Path, Trace, trace_under}
use Rattle.jh_gen.specs.Scope.{Scope, is_client_thread, is_nemesis_thread, is_share_thread, is_beyond, is_in_scope, Question, has_busy_thread}
use Rattle.jh_gen.specs.Offers.{max_number, shares_len, is_exhausted, Offer, member_offer, head_of, first_some, picked_value, offer_unless_exhausted, offer, open_offers, share_offer}
use Rattle.jh_gen.specs.Fits.{shares_sum}
use Rattle.jh_gen.specs.State.{GeneratorState, gone, one, counting, endless, in_turn, limited, mixed, split, GeneratorStates, state, Lots, no_lots, lot, Taking, taking_within, counting_after, taking, open_takings, lot_taking, state_left, states_left, lots_of, joined_lots, lots_each}
use Rattle.jh_gen.proofs.TraceLemmas.{under_same, under_other, some_in, is_distinct, distinct_filter, filter_in, filter_out, sub_zero}
use Rattle.jh_gen.proofs.ExhaustedLemmas.{done_of, done_taken}

-- Answers.

-- the call of an offer, with what is left by its path
abbrev pub with_left : {X : Type 0} → (Path → X) → Offer → Taking X
with_left left o = option_map (λ r. (r.1, left r.0)) o

within_left : {X Y : Type 0} (f : X → Y) (left : Path → X) (o : Offer) → taking_within f (with_left left o) ≡ with_left (λ p. f (left p)) o
within_left f left None = refl
within_left f left (Some r) = refl

member_left : {X : Type 0} (i : ℕ) (left : Path → X) (o : Offer) → with_left left (member_offer i o) ≡ with_left (λ p. left (i ∷ p)) o
member_left i left None = refl
member_left i left (Some r) = refl

same_left : {X : Type 0} (f g : Path → X) → ((p : Path) → f p ≡ g p) → (o : Offer) → with_left f o ≡ with_left g o
same_left f g h None = refl
same_left f g h (Some r) = ap (λ x. Some (r.1, x)) (h r.0)

pub head_map : {X Y : Type 0} (f : X → Y) (os : List (Option X)) → head_of (map (option_map f) os) ≡ option_map f (head_of os)
head_map f [] = refl
head_map f (o ∷ os) = refl

pub or_map : {X Y : Type 0} (f : X → Y) (o p : Option X) → option_or (option_map f o) (option_map f p) ≡ option_map f (option_or o p)
or_map f None p = refl
or_map f (Some x) p = refl

pub first_map : {X Y : Type 0} (f : X → Y) (os : List (Option X)) → first_some (map (option_map f) os) ≡ option_map f (first_some os)
first_map f [] = refl
first_map f (o ∷ os) = ap (option_or (option_map f o)) (first_map f os) ∙ or_map f o (first_some os)

pub length_map : {X Y : Type 0} (f : X → Y) (xs : List X) → length (map f xs) ≡ length xs
length_map f [] = refl
length_map f (x ∷ xs) = ap suc (length_map f xs)

pub drop_map : {X Y : Type 0} (f : X → Y) (k : ℕ) (xs : List X) → drop k (map f xs) ≡ map f (drop k xs)
drop_map f zero xs = refl
drop_map f (suc k) [] = refl
drop_map f (suc k) (x ∷ xs) = drop_map f k xs

pub take_map : {X Y : Type 0} (f : X → Y) (k : ℕ) (xs : List X) → take k (map f xs) ≡ map f (take k xs)
take_map f zero xs = refl
take_map f (suc k) [] = refl
take_map f (suc k) (x ∷ xs) = ap (λ ys. f x ∷ ys) (take_map f k xs)

pub append_map : {X Y : Type 0} (f : X → Y) (xs ys : List X) → map f xs ++ map f ys ≡ map f (xs ++ ys)
append_map f [] ys = refl
append_map f (x ∷ xs) ys = ap (λ zs. f x ∷ zs) (append_map f xs ys)

turned : {X : Type 0} → ℕ → List X → List X
turned k os = drop k os ++ take k os

turned_map : {X Y : Type 0} (f : X → Y) (k : ℕ) (os : List X) → turned k (map f os) ≡ map f (turned k os)
unfolding turned
turned_map f k os = ap₂ (λ a b. a ++ b) (drop_map f k os) (take_map f k os) ∙ append_map f (drop k os) (take k os)

pub picked_map : {X Y : Type 0} (f : X → Y) (w : ℕ) (os : List (Option X)) → picked_value w (map (option_map f) os) ≡ option_map f (picked_value w os)
unfolding turned
picked_map f w os =
    ap (λ n. first_some (turned (w % n) (map (option_map f) os))) (length_map (option_map f) os)
    ∙ ap first_some (turned_map (option_map f) (w % length os) os)
    ∙ first_map f (turned (w % length os) os)

-- Guards.

-- a spent generator
guarded : {X : Type 0} (b : Bool) (S : Scope) (q : Question) (left : Path → X) (x : Taking X) (o : Offer) → is_in_scope S q.asker ≡ true → (b ≡ true → x ≡ None) → (b ≡ false → x ≡ with_left left o) → x ≡ with_left left (offer_unless_exhausted b S q o)
guarded true S q left x o here done unspent =
    done refl ∙ ap (with_left left) (sym (cond-true (is_in_scope S q.asker) None None here))
guarded false S q left x o here done unspent =
    unspent refl ∙ ap (with_left left) (sym (cond-true (is_in_scope S q.asker) o None here))

unless_outside : (b : Bool) (S : Scope) (q : Question) (o : Offer) → is_in_scope S q.asker ≡ false → offer_unless_exhausted b S q o ≡ None
unless_outside b S q o out = cond-false (is_in_scope S q.asker) _ _ out

-- a thread outside the scope
pub outside : (g : Generator) (t : Trace) (S : Scope) (q : Question) → is_in_scope S q.asker ≡ false → offer g t S q ≡ None
outside nothing t S q out = refl
outside (once c) t S q out = unless_outside (is_exhausted (once c) t S) S q _ out
outside (rising r n) t S q out = unless_outside (is_exhausted (rising r n) t S) S q _ out
outside (forever c) t S q out = unless_outside (is_exhausted (forever c) t S) S q _ out
outside (seq gs) t S q out = unless_outside (is_exhausted (seq gs) t S) S q _ out
outside (limit n g) t S q out = unless_outside (is_exhausted (limit n g) t S) S q _ out
outside (mix gs) t S q out = unless_outside (is_exhausted (mix gs) t S) S q _ out
outside (phases gs) t S q out = unless_outside (is_exhausted (phases gs) t S) S q _ out
outside (reserve ms g) t S q out = unless_outside (is_exhausted (reserve ms g) t S) S q _ out
outside (each_thread g) t S q out = unless_outside (is_exhausted (each_thread g) t S) S q _ out
outside (clients g) t S q out = unless_outside (is_exhausted (clients g) t S) S q _ out
outside (nemesis_only g) t S q out = unless_outside (is_exhausted (nemesis_only g) t S) S q _ out

-- Members by number.

lefts_other : (gs : Generators) (k j : ℕ) (p : Path) (t : Trace) (S : Scope) → j < k → states_left gs k ((j ∷ p) ∷ t) S ≡ states_left gs k t S
lefts_other no_generators k j p t S lt = refl
lefts_other (generator g gs) k j p t S lt =
    ap₂ (λ u r. state (not (is_empty u)) (state_left g u S) r) (under_other k j p t (omega arith)) (lefts_other gs (suc k) j p t S (omega arith))

lots_other : (ms : ShareList) (k first j : ℕ) (p : Path) (t : Trace) (S : Scope) → j < k → lots_of ms k first ((j ∷ p) ∷ t) S ≡ lots_of ms k first t S
lots_other no_shares k first j p t S lt = refl
lots_other (share n g ms) k first j p t S lt =
    ap₂ (λ u r. lot (filter (is_share_thread first n) S) (state_left g u (filter (is_share_thread first n) S)) r) (under_other k j p t (omega arith)) (lots_other ms (suc k) (first + n) j p t S (omega arith))

-- an offer's path begins with a member's number that is at least k
abbrev pub Above : ℕ → Offer → Type 0
Above k None = Unit {0}
Above k (Some o) = (i : ℕ) × (p : Path) × (o.0 ≡ i ∷ p) × (k ≤ i)

abbrev pub AllAbove : ℕ → List Offer → Type 0
AllAbove k [] = Unit {0}
AllAbove k (o ∷ os) = Above k o × AllAbove k os

above_member : (k i : ℕ) (o : Offer) → k ≤ i → Above k (member_offer i o)
above_member k i None le = tt
above_member k i (Some r) le = (i, r.0, refl, le)

above_less : (k l : ℕ) (o : Offer) → k ≤ l → Above l o → Above k o
above_less k l None le h = tt
above_less k l (Some o) le h = (h.0, h.1, h.2, omega (arith, h.3))

all_above_less : (k l : ℕ) (os : List Offer) → k ≤ l → AllAbove l os → AllAbove k os
all_above_less k l [] le h = tt
all_above_less k l (o ∷ os) le h = (above_less k l o le h.0, all_above_less k l os le h.1)

above_cond : (k : ℕ) (b : Bool) (o : Offer) → Above k o → Above k (cond b None o)
above_cond k true o h = tt
above_cond k false o h = h

all_above_cond : (k : ℕ) (b : Bool) (os ps : List Offer) → AllAbove k os → AllAbove k ps → AllAbove k (cond b os ps)
all_above_cond k true os ps h i = h
all_above_cond k false os ps h i = i

above_choice : (k : ℕ) (b : Bool) (o p : Offer) → Above k o → Above k p → Above k (cond b o p)
above_choice k true o p h i = h
above_choice k false o p h i = i

not-false' : (b : Bool) → not b ≡ true → b ≡ false
not-false' true h = absurd cc
not-false' false h = refl

open_above : (awaited : Scope) (gs : Generators) (k : ℕ) (t : Trace) (S : Scope) (q : Question) → AllAbove k (open_offers awaited gs k t S q)
open_above awaited no_generators k t S q = tt
open_above awaited (generator g gs) k t S q =
    let rest = open_offers awaited gs (suc k) t S q in
    let later : AllAbove k rest = all_above_less k (suc k) rest (omega arith) (open_above awaited gs (suc k) t S q) in
    all_above_cond k (is_exhausted g (trace_under k t) S) rest _ later
    (above_cond k (is_empty (trace_under k t) && has_busy_thread q.busy awaited) _ (above_member k k (offer g (trace_under k t) S q) (omega arith)), later)

-- a call by a later member leaves this one as it was
behind : {X Y : Type 0} (k : ℕ) (t : Trace) (f : Trace → X → Y) (left : Path → X) (o : Offer) → Above (suc k) o → taking_within (f (trace_under k t)) (with_left left o) ≡ with_left (λ p. f (trace_under k (p ∷ t)) (left p)) o
behind k t f left None h = refl
behind k t f left (Some o) h =
    let other : trace_under k (o.0 ∷ t) ≡ trace_under k t = ap (λ p. trace_under k (p ∷ t)) h.2 ∙ under_other k h.0 h.1 t (omega (arith, h.3)) in
    ap (λ u. Some (o.1, f u (left o.0))) (sym other)

all_behind : {X Y : Type 0} (k : ℕ) (t : Trace) (f : Trace → X → Y) (left : Path → X) (os : List Offer) → AllAbove (suc k) os → map (taking_within (f (trace_under k t))) (map (with_left left) os) ≡ map (with_left (λ p. f (trace_under k (p ∷ t)) (left p))) os
all_behind k t f left [] h = refl
all_behind k t f left (o ∷ os) h = ap₂ (λ x xs. x ∷ xs) (behind k t f left o h.0) (all_behind k t f left os h.1)

-- The kinds of one call each.

one_left : (c : Call) (t : Trace) (S : Scope) (q : Question) → is_in_scope S q.asker ≡ true → (is_exhausted (once c) t S) ≡ false → taking (state_left (once c) t S) q ≡ with_left (λ p. state_left (once c) (p ∷ t) S) (Some ([], c))
one_left c t S q here unspent =
    ap (λ s. taking s q) (cond-false (is_exhausted (once c) t S) gone (one c) unspent)
    ∙ ap (λ s. Some (c, s)) (sym (cond-true (is_empty S || true) gone (one c) (or_right (is_empty S) true refl)))

endless_left : (c : Call) (t : Trace) (S : Scope) (q : Question) → is_in_scope S q.asker ≡ true → taking (state_left (forever c) t S) q ≡ with_left (λ p. state_left (forever c) (p ∷ t) S) (Some ([], c))
endless_left c t S q here =
    let some = cond-false (is_empty S) gone (endless c) (some_in S q.asker here) in
    ap (λ s. taking s q) some ∙ ap (λ s. Some (c, s)) (sym some)

one_more : (n : ℤ) (k : ℕ) → (n +ℤ pos (suc k)) ≡ ((n +ℤ pos k) +ℤ pos 1)
one_more n k = omega (arith, ints)

at_end : (m : ℤ) → int_lt max_number (m +ℤ pos 1) ≡ not (int_lt m max_number)
at_end m = elim (cases_Bool (int_lt m max_number)) [
  | inl below ↦ grind (arith, ints)
  | inr over ↦ grind (arith, ints)
]

swapped : (b : Bool) (x y : GeneratorState) → cond (not b) x y ≡ cond b y x
swapped true x y = refl
swapped false x y = refl

counting_left : (r : Rise) (n : ℤ) (t : Trace) (S : Scope) (q : Question) → is_in_scope S q.asker ≡ true → (is_exhausted (rising r n) t S) ≡ false → taking (state_left (rising r n) t S) q ≡ with_left (λ p. state_left (rising r n) (p ∷ t) S) (Some ([], risen r (n +ℤ pos (length t))))
counting_left r n t S q here unspent =
    let m : ℤ = n +ℤ pos (length t) in
    let count : ℤ → GeneratorState = λ k. cond (int_lt max_number k) gone (counting r k) in
    let next : state_left (rising r n) ([] ∷ t) S ≡ counting_after r m =
    ap (λ e. cond (e || int_lt max_number (n +ℤ pos (suc (length t)))) gone (counting r (n +ℤ pos (suc (length t))))) (some_in S q.asker here)
    ∙ ap count (one_more n (length t))
    ∙ ap (λ b. cond b gone (counting r (m +ℤ pos 1))) (at_end m)
    ∙ swapped (int_lt m max_number) gone (counting r (m +ℤ pos 1)) in
    ap (λ s. taking s q) (cond-false (is_exhausted (rising r n) t S) gone (counting r m) unspent)
    ∙ ap (λ s. Some (risen r m, s)) (sym next)

-- Members.

waits : {X : Type 0} (e w : Bool) (x : Taking X) (left : Path → X) (o : Offer) → x ≡ with_left left o → cond (not (not e) && w) None x ≡ with_left left (cond (e && w) None o)
waits true true x left o h = refl
waits true false x left o h = h
waits false w x left o h = h

chosen : {X : Type 0} (b : Bool) (left : Path → X) (x : Taking X) (xs : List (Taking X)) (o : Offer) (os : List Offer) → x ≡ with_left left o → xs ≡ map (with_left left) os → cond b xs (x ∷ xs) ≡ map (with_left left) (cond b os (o ∷ os))
chosen true left x xs o os h hs = hs
chosen false left x xs o os h hs = ap₂ (λ y ys. y ∷ ys) h hs

-- a member of a scope of its own
scoped : {X : Type 0} (f : GeneratorState → X) (g : Generator) (u : Trace) (S : Scope) (q : Question) → (is_in_scope S q.asker ≡ true → taking (state_left g u S) q ≡ with_left (λ p. state_left g (p ∷ u) S) (offer g u S q)) → cond (is_in_scope S q.asker) (taking_within f (taking (state_left g u S) q)) None ≡ with_left (λ p. f (state_left g (p ∷ u) S)) (offer g u S q)
scoped f g u S q h =
    elim (cases_Bool (is_in_scope S q.asker)) [
      | inl hit ↦ cond-true (is_in_scope S q.asker) _ _ hit ∙ ap (taking_within f) (h hit) ∙ within_left f (λ p. state_left g (p ∷ u) S) (offer g u S q)
      | inr miss ↦ cond-false (is_in_scope S q.asker) _ _ miss ∙ ap (with_left (λ p. f (state_left g (p ∷ u) S))) (sym (outside g u S q miss))
    ]

-- a part of the scope for one member, with number 0
part_left : (g : Generator) (t : Trace) (S : Scope) (q : Question) → (is_in_scope S q.asker ≡ true → taking (state_left g (trace_under 0 t) S) q ≡ with_left (λ p. state_left g (p ∷ trace_under 0 t) S) (offer g (trace_under 0 t) S q)) → taking (split (lot S (state_left g (trace_under 0 t) S) no_lots)) q ≡ with_left (λ p. split (lot S (state_left g (trace_under 0 (p ∷ t)) S) no_lots)) (member_offer 0 (offer g (trace_under 0 t) S q))
part_left g t S q h =
    let o = offer g (trace_under 0 t) S q in
    let f : GeneratorState → Lots = λ r. lot S r no_lots in
    ap (taking_within split) (scoped f g (trace_under 0 t) S q h)
    ∙ within_left split (λ p. f (state_left g (p ∷ trace_under 0 t) S)) o
    ∙ same_left _ _ (λ p. ap (λ u. split (f (state_left g u S))) (sym (under_same 0 p t))) o
    ∙ sym (member_left 0 (λ p. split (f (state_left g (trace_under 0 (p ∷ t)) S))) o)

-- a copy for each thread
copies_other : (g : Generator) (t : Trace) (x : ℕ) (p : Path) (xs : List ℕ) → is_in_scope xs x ≡ false → lots_each (λ y. state_left g (trace_under y ((x ∷ p) ∷ t)) (y ∷ [])) xs ≡ lots_each (λ y. state_left g (trace_under y t) (y ∷ [])) xs
copies_other g t x p [] out = refl
copies_other g t x p (y ∷ xs) out =
    let parts = or_parts (y == x) (is_in_scope xs x) out in
    let other : x ≡ y → ⊥ = λ e. let f = eq-eqb y x (sym e) in let z = parts.0 in absurd cc in
    ap₂ (λ u r. lot (y ∷ []) (state_left g u (y ∷ [])) r) (under_other y x p t other) (copies_other g t x p xs parts.1)

copies_left : (g : Generator) (t : Trace) (q : Question) (xs : List ℕ) → is_distinct xs ≡ true → is_in_scope xs q.asker ≡ true → taking (state_left g (trace_under q.asker t) (q.asker ∷ [])) q ≡ with_left (λ p. state_left g (p ∷ trace_under q.asker t) (q.asker ∷ [])) (offer g (trace_under q.asker t) (q.asker ∷ []) q) → lot_taking (lots_each (λ x. state_left g (trace_under x t) (x ∷ [])) xs) q ≡ with_left (λ p. lots_each (λ x. state_left g (trace_under x (p ∷ t)) (x ∷ [])) xs) (member_offer q.asker (offer g (trace_under q.asker t) (q.asker ∷ []) q))
copies_left g t q [] d here h = absurd cc
copies_left g t q (x ∷ xs) d here h =
    let o = offer g (trace_under q.asker t) (q.asker ∷ []) q in
    let copy : ℕ → GeneratorState = λ y. state_left g (trace_under y t) (y ∷ []) in
    let rest = lots_each copy xs in
    let left : Path → Lots = λ p. lots_each (λ y. state_left g (trace_under y (p ∷ t)) (y ∷ [])) (x ∷ xs) in
    let parts = and_parts (not (is_in_scope xs x)) (is_distinct xs) d in
    elim (cases_Bool (x == q.asker)) [
      | inl hit ↦
          let same : x ≡ q.asker = eqb-true x q.asker hit in
          let own : taking (copy x) q ≡ with_left (λ p. state_left g (p ∷ trace_under x t) (x ∷ [])) o =
          subst (λ y. taking (copy y) q ≡ with_left (λ p. state_left g (p ∷ trace_under y t) (y ∷ [])) o) (sym same) h in
          let out : is_in_scope xs q.asker ≡ false = subst (λ y. is_in_scope xs y ≡ false) same (not-false' (is_in_scope xs x) parts.0) in
          cond-true ((x == q.asker) || false) _ _ (or_left (x == q.asker) false hit)
          ∙ ap (taking_within (λ r. lot (x ∷ []) r rest)) own
          ∙ within_left (λ r. lot (x ∷ []) r rest) (λ p. state_left g (p ∷ trace_under x t) (x ∷ [])) o
          ∙ same_left _ _ (λ p. ap₂ (λ u r. lot (x ∷ []) (state_left g u (x ∷ [])) r)
          (sym (ap (λ y. trace_under y ((q.asker ∷ p) ∷ t)) same ∙ under_same q.asker p t ∙ ap (λ y. p ∷ trace_under y t) (sym same)))
          (sym (copies_other g t q.asker p xs out))) o
          ∙ sym (member_left q.asker left o)
      | inr miss ↦
          let other : q.asker ≡ x → ⊥ = λ e. let f = eq-eqb x q.asker (sym e) in absurd cc in
          let there : is_in_scope xs q.asker ≡ true = ap (λ b. b || is_in_scope xs q.asker) (sym miss) ∙ here in
          cond-false ((x == q.asker) || false) _ _ (ap (λ b. b || false) miss)
          ∙ ap (taking_within (lot (x ∷ []) (copy x))) (copies_left g t q xs parts.1 there h ∙ member_left q.asker (λ p. lots_each (λ y. state_left g (trace_under y (p ∷ t)) (y ∷ [])) xs) o)
          ∙ within_left (lot (x ∷ []) (copy x)) (λ p. lots_each (λ y. state_left g (trace_under y ((q.asker ∷ p) ∷ t)) (y ∷ [])) xs) o
          ∙ same_left _ _ (λ p. ap (λ u. lot (x ∷ []) (state_left g u (x ∷ [])) (lots_each (λ y. state_left g (trace_under y ((q.asker ∷ p) ∷ t)) (y ∷ [])) xs)) (sym (under_other x q.asker p t other))) o
          ∙ sym (member_left q.asker left o)
    ]

-- shares of a reserve
share_above : (ms : ShareList) (k j first : ℕ) (t : Trace) (S : Scope) (q : Question) (others : Offer) → k ≤ j → Above k others → Above k (share_offer ms j first t S q others)
share_above no_shares k j first t S q others le h = h
share_above (share n g ms) k j first t S q others le h =
    above_choice k (is_share_thread first n q.asker) _ _
    (above_member k j (offer g (trace_under j t) (filter (is_share_thread first n) S) q) le)
    (share_above ms k (suc j) (first + n) t S q others (omega arith) h)

-- All kinds.

limited_left : (n : ℕ) (g : Generator) (t : Trace) (S : Scope) (q : Question) → is_exhausted (limit n g) t S ≡ false → taking (state_left g (trace_under 0 t) S) q ≡ with_left (λ p. state_left g (p ∷ trace_under 0 t) S) (offer g (trace_under 0 t) S q) → taking (state_left (limit n g) t S) q ≡ with_left (λ p. state_left (limit n g) (p ∷ t) S) (member_offer 0 (offer g (trace_under 0 t) S q))
limited_left n g t S q unspent h =
    let o = offer g (trace_under 0 t) S q in
    let parts = or_parts (nat_le n (length t)) (is_exhausted g (trace_under 0 t) S) unspent in
    let some : ((n - length t) == 0) ≡ false = sub_zero n (length t) ∙ parts.0 in
    let less : ((n - length t) - 1) ≡ (n - suc (length t)) = omega arith in
    cond-false ((n - length t) == 0) _ _ some
    ∙ ap (taking_within (limited ((n - length t) - 1))) h
    ∙ within_left (limited ((n - length t) - 1)) (λ p. state_left g (p ∷ trace_under 0 t) S) o
    ∙ same_left _ _ (λ p. ap₂ (λ k u. limited k (state_left g u S)) less (sym (under_same 0 p t))) o
    ∙ sym (member_left 0 (λ p. state_left (limit n g) (p ∷ t) S) o)

abbrev pub TakenIs : Generator → Trace → Scope → Question → Type 0
TakenIs g t S q = taking (state_left g t S) q ≡ with_left (λ p. state_left g (p ∷ t) S) (offer g t S q)

mutual
  pub taken_is : (g : Generator) (t : Trace) (S : Scope) (q : Question) → is_distinct S ≡ true → is_in_scope S q.asker ≡ true → taking (state_left g t S) q ≡ with_left (λ p. state_left g (p ∷ t) S) (offer g t S q)
  taken_is nothing t S q d here = refl
  taken_is (once c) t S q d here =
      guarded (is_exhausted (once c) t S) S q _ _ _ here (λ b. done_taken (state_left (once c) t S) q (done_of (once c) t S ∙ b)) (one_left c t S q here)
  taken_is (rising r n) t S q d here =
      guarded (is_exhausted (rising r n) t S) S q _ _ _ here (λ b. done_taken (state_left (rising r n) t S) q (done_of (rising r n) t S ∙ b)) (counting_left r n t S q here)
  taken_is (forever c) t S q d here =
      guarded (is_exhausted (forever c) t S) S q _ _ _ here (λ b. done_taken (state_left (forever c) t S) q (done_of (forever c) t S ∙ b)) (λ b. endless_left c t S q here)
  taken_is (seq gs) t S q d here =
      guarded (is_exhausted (seq gs) t S) S q _ _ _ here (λ b. done_taken (state_left (seq gs) t S) q (done_of (seq gs) t S ∙ b))
      (λ b. ap (λ os. taking_within (in_turn []) (head_of os)) (open_is [] gs 0 t S q d here)
      ∙ ap (taking_within (in_turn [])) (head_map _ (open_offers [] gs 0 t S q))
      ∙ within_left (in_turn []) (λ p. states_left gs 0 (p ∷ t) S) (head_of (open_offers [] gs 0 t S q)))
  taken_is (limit n g) t S q d here =
      guarded (is_exhausted (limit n g) t S) S q _ _ _ here (λ b. done_taken (state_left (limit n g) t S) q (done_of (limit n g) t S ∙ b))
      (λ b. limited_left n g t S q b (taken_is g (trace_under 0 t) S q d here))
  taken_is (mix gs) t S q d here =
      guarded (is_exhausted (mix gs) t S) S q _ _ _ here (λ b. done_taken (state_left (mix gs) t S) q (done_of (mix gs) t S ∙ b))
      (λ b. ap (λ os. taking_within mixed (picked_value q.random_number os)) (open_is [] gs 0 t S q d here)
      ∙ ap (taking_within mixed) (picked_map _ q.random_number (open_offers [] gs 0 t S q))
      ∙ within_left mixed (λ p. states_left gs 0 (p ∷ t) S) (picked_value q.random_number (open_offers [] gs 0 t S q)))
  taken_is (phases gs) t S q d here =
      guarded (is_exhausted (phases gs) t S) S q _ _ _ here (λ b. done_taken (state_left (phases gs) t S) q (done_of (phases gs) t S ∙ b))
      (λ b. ap (λ os. taking_within (in_turn S) (head_of os)) (open_is S gs 0 t S q d here)
      ∙ ap (taking_within (in_turn S)) (head_map _ (open_offers S gs 0 t S q))
      ∙ within_left (in_turn S) (λ p. states_left gs 0 (p ∷ t) S) (head_of (open_offers S gs 0 t S q)))
  taken_is (reserve ms g) t S q d here =
      let k = shares_len ms in
      let xs = filter (is_beyond (shares_sum ms)) S in
      let others : Offer = member_offer k (offer g (trace_under k t) xs q) in
      let last : Trace → Lots = λ u. lot xs (state_left g u xs) no_lots in
      let base : lot_taking (last (trace_under k t)) q ≡ with_left (λ p. last (trace_under k (p ∷ t))) others =
      scoped (λ r. lot xs r no_lots) g (trace_under k t) xs q (taken_is g (trace_under k t) xs q (distinct_filter (is_beyond (shares_sum ms)) S d))
      ∙ same_left _ _ (λ p. ap last (sym (under_same k p t))) (offer g (trace_under k t) xs q)
      ∙ sym (member_left k (λ p. last (trace_under k (p ∷ t))) (offer g (trace_under k t) xs q)) in
      guarded (is_exhausted (reserve ms g) t S) S q _ _ _ here (λ b. done_taken (state_left (reserve ms g) t S) q (done_of (reserve ms g) t S ∙ b))
      (λ b. ap (taking_within split) (shares_is ms k 0 0 last t S q others d here (above_member k k (offer g (trace_under k t) xs q) (omega arith)) base (omega arith))
      ∙ within_left split (λ p. joined_lots (lots_of ms 0 0 (p ∷ t) S) (last (trace_under k (p ∷ t)))) (share_offer ms 0 0 t S q others))
  taken_is (each_thread g) t S q d here =
      let o = offer g (trace_under q.asker t) (q.asker ∷ []) q in
      guarded (is_exhausted (each_thread g) t S) S q _ _ _ here (λ b. done_taken (state_left (each_thread g) t S) q (done_of (each_thread g) t S ∙ b))
      (λ b. ap (taking_within split) (copies_left g t q S d here (taken_is g (trace_under q.asker t) (q.asker ∷ []) q refl (or_left (q.asker == q.asker) false (eq-eqb q.asker q.asker refl))))
      ∙ within_left split (λ p. lots_each (λ x. state_left g (trace_under x (p ∷ t)) (x ∷ [])) S) (member_offer q.asker o))
  taken_is (clients g) t S q d here =
      guarded (is_exhausted (clients g) t S) S q _ _ _ here (λ b. done_taken (state_left (clients g) t S) q (done_of (clients g) t S ∙ b))
      (λ b. part_left g t (filter is_client_thread S) q (taken_is g (trace_under 0 t) (filter is_client_thread S) q (distinct_filter is_client_thread S d)))
  taken_is (nemesis_only g) t S q d here =
      guarded (is_exhausted (nemesis_only g) t S) S q _ _ _ here (λ b. done_taken (state_left (nemesis_only g) t S) q (done_of (nemesis_only g) t S ∙ b))
      (λ b. part_left g t (filter is_nemesis_thread S) q (taken_is g (trace_under 0 t) (filter is_nemesis_thread S) q (distinct_filter is_nemesis_thread S d)))

  pub open_is : (awaited : Scope) (gs : Generators) (j : ℕ) (t : Trace) (S : Scope) (q : Question) → is_distinct S ≡ true → is_in_scope S q.asker ≡ true → open_takings awaited (states_left gs j t S) q ≡ map (with_left (λ p. states_left gs j (p ∷ t) S)) (open_offers awaited gs j t S q)
  open_is awaited no_generators j t S q d here = refl
  open_is awaited (generator g gs) j t S q d here =
      let u = trace_under j t in
      let s = state_left g u S in
      let b = not (is_empty u) in
      let ss = states_left gs (suc j) t S in
      let rest = open_offers awaited gs (suc j) t S q in
      let o = offer g u S q in
      let left : Path → GeneratorStates = λ p. states_left (generator g gs) j (p ∷ t) S in
      let later : map (taking_within (state b s)) (open_takings awaited ss q) ≡ map (with_left left) rest =
      ap (map (taking_within (state b s))) (open_is awaited gs (suc j) t S q d here)
      ∙ all_behind j t (λ v r. state (not (is_empty v)) (state_left g v S) r) (λ p. states_left gs (suc j) (p ∷ t) S) rest (open_above awaited gs (suc j) t S q) in
      let own : taking_within (λ r. state true r ss) (taking s q) ≡ with_left left (member_offer j o) =
      ap (taking_within (λ r. state true r ss)) (taken_is g u S q d here)
      ∙ within_left (λ r. state true r ss) (λ p. state_left g (p ∷ u) S) o
      ∙ same_left _ _ (λ p. ap₂ (λ v r. state (not (is_empty v)) (state_left g v S) r) (sym (under_same j p t)) (sym (lefts_other gs (suc j) j p t S (omega arith)))) o
      ∙ sym (member_left j left o) in
      ap (λ e. cond e (map (taking_within (state b s)) (open_takings awaited ss q)) (cond (not b && has_busy_thread q.busy awaited) None (taking_within (λ r. state true r ss) (taking s q)) ∷ map (taking_within (state b s)) (open_takings awaited ss q))) (done_of g u S)
      ∙ chosen (is_exhausted g u S) left _ _ _ rest (waits (is_empty u) (has_busy_thread q.busy awaited) _ left (member_offer j o) own) later

  pub shares_is : (ms : ShareList) (k j first : ℕ) (last : Trace → Lots) (t : Trace) (S : Scope) (q : Question) (others : Offer) → is_distinct S ≡ true → is_in_scope S q.asker ≡ true → Above k others → lot_taking (last (trace_under k t)) q ≡ with_left (λ p. last (trace_under k (p ∷ t))) others → j + shares_len ms ≤ k → lot_taking (joined_lots (lots_of ms j first t S) (last (trace_under k t))) q ≡ with_left (λ p. joined_lots (lots_of ms j first (p ∷ t) S) (last (trace_under k (p ∷ t)))) (share_offer ms j first t S q others)
  shares_is no_shares k j first last t S q others d here above base le = base
  shares_is (share n g ms) k j first last t S q others d here above base le =
      let u = trace_under j t in
      let xs = filter (is_share_thread first n) S in
      let s = state_left g u xs in
      let rest = joined_lots (lots_of ms (suc j) (first + n) t S) (last (trace_under k t)) in
      let o = offer g u xs q in
      let left : Path → Lots = λ p. joined_lots (lots_of (share n g ms) j first (p ∷ t) S) (last (trace_under k (p ∷ t))) in
      let lt : j < k = omega arith in
      let le2 : suc j + shares_len ms ≤ k = omega arith in
      elim (cases_Bool (is_share_thread first n q.asker)) [
        | inl hit ↦
            let in_xs : is_in_scope xs q.asker ≡ true = filter_in (is_share_thread first n) S q.asker here hit in
            cond-true (is_in_scope xs q.asker) _ _ in_xs
            ∙ ap (taking_within (λ r. lot xs r rest)) (taken_is g u xs q (distinct_filter (is_share_thread first n) S d) in_xs)
            ∙ within_left (λ r. lot xs r rest) (λ p. state_left g (p ∷ u) xs) o
            ∙ same_left _ _ (λ p. ap₂ (λ v r. lot xs (state_left g v xs) r) (sym (under_same j p t))
            (sym (ap₂ (λ ls v. joined_lots ls (last v)) (lots_other ms (suc j) (first + n) j p t S (omega arith)) (under_other k j p t (λ e. omega arith))))) o
            ∙ sym (member_left j left o)
            ∙ ap (with_left left) (sym (cond-true (is_share_thread first n q.asker) (member_offer j o) _ hit))
        | inr miss ↦
            let out : is_in_scope xs q.asker ≡ false = filter_out (is_share_thread first n) S q.asker miss in
            let later = share_offer ms (suc j) (first + n) t S q others in
            cond-false (is_in_scope xs q.asker) _ _ out
            ∙ ap (taking_within (lot xs s)) (shares_is ms k (suc j) (first + n) last t S q others d here above base le2)
            ∙ behind j t (λ v r. lot xs (state_left g v xs) r) (λ p. joined_lots (lots_of ms (suc j) (first + n) (p ∷ t) S) (last (trace_under k (p ∷ t)))) later
            (share_above ms (suc j) (suc j) (first + n) t S q others (omega arith) (above_less (suc j) k others (omega arith) above))
            ∙ ap (with_left left) (sym (cond-false (is_share_thread first n q.asker) (member_offer j o) later miss))
      ]
