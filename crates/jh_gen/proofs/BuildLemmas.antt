-- What is left of generators before their first call, made one after another.
use Rattle.std.proofs.Common.{◌≡◌, refl, sym, ap, ap₂, ◌∙◌, subst, ℕ, zero, suc, ◌+◌, ◌<◌, ◌≤◌, Bool, true, false, List, [], ◌∷◌, ◌++◌, length, arith, drop, get_or, append-nil, append_assoc, Vec, Global}
use Rattle.std.specs.Prelude.{filter}
use Rattle.std.proofs.lemmas.Bool.{and_parts}
use Rattle.jh_gen.specs.Generator.{Generator, reserve, size_shares, Generators, no_generators, generator, ShareList, no_shares, share, row_of, share_list}
use Rattle.jh_gen.specs.View.{generator_of, generators_of, shares_of}
use Rattle.jh_gen.specs.NodeView.{node_state, member_of, row_view, lot_of, lots_view}
use Rattle.jh_gen.specs.declared.generator.Gen.{Gen}
use Rattle.jh_gen.specs.declared.generator.Gens.TheDeep.{deep-Gen}
use Rattle.jh_gen.specs.FallsInside.{gen_falls}
use Rattle.jh_gen.specs.declared.node.Node.{Node}
use Rattle.jh_gen.specs.declared.node.Member.{Member}
use Rattle.jh_gen.specs.declared.node.Lot.{Lot}
use Rattle.jh_gen.specs.Scope.{Scope, is_share_thread, is_beyond}
use Rattle.jh_gen.specs.Fits.{shares_sum, shares_fit, all_fit, fits}
use Rattle.jh_gen.specs.State.{GeneratorState, split, state, no_lots, lot, joined_lots, state_left, states_left, lots_of, lots_each, states_from, lots_from}

-- the states of the trees so far, with those of the rest, are those of all
pub record Rows (made : List (Bool × GeneratorState)) (rest all : List Generator) (threads : Scope) : Type 0 where
  pub same : ((tail : List (Bool × GeneratorState)) → (k : ℕ) → states_from tail ≡ states_left (row_of rest) k [] threads → states_from (made ++ tail) ≡ states_left (row_of all) 0 [] threads)
  pub fit : all_fit 16 (row_of rest) ≡ true

pub record Copies (made : List (List ℕ × GeneratorState)) (g : Generator) (rest all : List ℕ) : Type 0 where
  pub same : ((tail : List (List ℕ × GeneratorState)) → lots_from tail ≡ lots_each (λ x. state_left g [] (x ∷ [])) rest → lots_from (made ++ tail) ≡ lots_each (λ x. state_left g [] (x ∷ [])) all)

pub record Parts (made : List (List ℕ × GeneratorState)) (first : ℕ) (rest all : List (ℕ × Generator)) (threads : Scope) : Type 0 where
  pub same : ((tail : List (List ℕ × GeneratorState)) → (k : ℕ) → lots_from tail ≡ lots_of (share_list rest) k first [] threads → lots_from (made ++ tail) ≡ lots_of (share_list all) 0 0 [] threads)
  pub sum : first + shares_sum (share_list rest) ≡ shares_sum (share_list all)
  pub fit : shares_fit 16 (share_list rest) ≡ true

-- Rows.

lefts_any : (gs : Generators) (j k : ℕ) (S : Scope) → states_left gs j [] S ≡ states_left gs k [] S
lefts_any no_generators j k S = refl
lefts_any (generator g gs) j k S = ap (state false (state_left g [] S)) (lefts_any gs (suc j) (suc k) S)

pub rows_init : (all : List Generator) (S : Scope) → all_fit 16 (row_of all) ≡ true → Rows [] all all S
rows_init all S h = record { same = λ tail k e. e ∙ lefts_any (row_of all) k 0 S; fit = h }

pub rows_done : (made : List (Bool × GeneratorState)) (all : List Generator) (S : Scope) → Rows made [] all S → states_from made ≡ states_left (row_of all) 0 [] S
rows_done made all S r = ap states_from (sym (append-nil made)) ∙ r.same [] 0 refl

rows_more : (made : List (Bool × GeneratorState)) (g : Generator) (rest all : List Generator) (S : Scope) (s : GeneratorState) → Rows made (g ∷ rest) all S → s ≡ state_left g [] S → Rows (made ++ (false, s) ∷ []) rest all S
rows_more made g rest all S s r e = record {
  same = λ tail k h. ap states_from (append_assoc made ((false, s) ∷ []) tail)
      ∙ r.same ((false, s) ∷ tail) 0 (ap₂ (state false) e (h ∙ lefts_any (row_of rest) k 1 S));
  fit = (and_parts (fits 16 g) (all_fit 16 (row_of rest)) r.fit).1;
}

next : (i : ℕ) → suc (i + 1) ≡ suc i + 1
next i = omega arith

pub drop_here : {X : Type 0} (xs : List X) (i : ℕ) (x : X) → i < length xs → x ≡ get_or xs i x → drop i xs ≡ x ∷ drop (i + 1) xs
drop_here [] i x lt e = absurd (omega arith)
drop_here (y ∷ xs) zero x lt e = ap (λ z. z ∷ xs) (sym e)
drop_here (y ∷ xs) (suc i) x lt e = drop_here xs i x (omega arith) e ∙ ap (λ k. x ∷ drop k (y ∷ xs)) (next i)

members_push : (made : List Member) (m : Member) → row_view (made ++ m ∷ []) ≡ row_view made ++ member_of m ∷ []
members_push [] m = refl
members_push (x ∷ made) m = ap (λ ms. member_of x ∷ ms) (members_push made m)

pub rows_fit : (made : List (Bool × GeneratorState)) (xs : List Gen) (i : ℕ) (x : Gen) (all : List Generator) (S : Scope) → Rows made (generators_of (drop i xs)) all S → i < length xs → x ≡ get_or xs i x → fits 16 (generator_of x) ≡ true
rows_fit made xs i x all S r lt e =
    (and_parts (fits 16 (generator_of x)) _ (sym (ap (λ ys. all_fit 16 (row_of (generators_of ys))) (drop_here xs i x lt e)) ∙ r.fit)).0

pub rows_push : (made : List Member) (xs : List Gen) (i : ℕ) (x : Gen) (all : List Generator) (S : Scope) (n : Node) → Rows (row_view made) (generators_of (drop i xs)) all S → i < length xs → x ≡ get_or xs i x → node_state n ≡ state_left (generator_of x) [] S → Rows (row_view (made ++ record { started = false; node = n } ∷ [])) (generators_of (drop (i + 1) xs)) all S
rows_push made xs i x all S n r lt e h =
    let here : Rows (row_view made) (generator_of x ∷ generators_of (drop (i + 1) xs)) all S = subst (λ ys. Rows (row_view made) (generators_of ys) all S) (drop_here xs i x lt e) r in
    subst (λ ms. Rows ms (generators_of (drop (i + 1) xs)) all S) (sym (members_push made (record { started = false; node = n })))
    (rows_more (row_view made) (generator_of x) (generators_of (drop (i + 1) xs)) all S (node_state n) here h)

-- Copies.

pub copies_done : (made : List (List ℕ × GeneratorState)) (g : Generator) (all : List ℕ) → Copies made g [] all → lots_from made ≡ lots_each (λ x. state_left g [] (x ∷ [])) all
copies_done made g all c = ap lots_from (sym (append-nil made)) ∙ c.same [] refl

-- Shares.

lots_any : (ms : ShareList) (j k first : ℕ) (S : Scope) → lots_of ms j first [] S ≡ lots_of ms k first [] S
lots_any no_shares j k first S = refl
lots_any (share n g ms) j k first S = ap (lot (filter (is_share_thread first n) S) (state_left g [] (filter (is_share_thread first n) S))) (lots_any ms (suc j) (suc k) (first + n) S)

lots_append : (xs ys : List (List ℕ × GeneratorState)) → lots_from (xs ++ ys) ≡ joined_lots (lots_from xs) (lots_from ys)
lots_append [] ys = refl
lots_append (x ∷ xs) ys = ap (lot x.0 x.1) (lots_append xs ys)

pub parts_init : (all : List (ℕ × Generator)) (S : Scope) → shares_fit 16 (share_list all) ≡ true → Parts [] 0 all all S
parts_init all S h = record { same = λ tail k e. e ∙ lots_any (share_list all) k 0 0 S; sum = omega arith; fit = h }

lots_push : (made : List Lot) (l : Lot) → lots_view (made ++ l ∷ []) ≡ lots_view made ++ lot_of l ∷ []
lots_push [] l = refl
lots_push (x ∷ made) l = ap (λ ls. lot_of x ∷ ls) (lots_push made l)

pub parts_done : (made : List (List ℕ × GeneratorState)) (first : ℕ) (all : List (ℕ × Generator)) (S : Scope) → Parts made first [] all S → lots_from made ≡ lots_of (share_list all) 0 0 [] S
parts_done made first all S p = ap lots_from (sym (append-nil made)) ∙ p.same [] 0 refl

-- the shares, and all other threads
pub reserve_done : (made : List Lot) (l : Lot) (ms : ShareList) (g : Generator) (S others : Scope) → lots_from (lots_view made) ≡ lots_of ms 0 0 [] S → others ≡ filter (is_beyond (shares_sum ms)) S → lot_of l ≡ (others, state_left g [] others) → split (lots_from (lots_view (made ++ l ∷ []))) ≡ state_left (reserve ms g) [] S
reserve_done made l ms g S others h e lot_is =
    ap split (ap lots_from (lots_push made l)
    ∙ lots_append (lots_view made) (lot_of l ∷ [])
    ∙ ap₂ joined_lots h (ap (λ x. lot x.0 x.1 no_lots) lot_is ∙ ap (λ ys. lot ys (state_left g [] ys) no_lots) e))

parts_more : (made : List (List ℕ × GeneratorState)) (first n : ℕ) (g : Generator) (rest all : List (ℕ × Generator)) (S : Scope) (own : List ℕ) (s : GeneratorState) → Parts made first ((n, g) ∷ rest) all S → own ≡ filter (is_share_thread first n) S → s ≡ state_left g [] (filter (is_share_thread first n) S) → Parts (made ++ (own, s) ∷ []) (first + n) rest all S
parts_more made first n g rest all S own s p e h = record {
  same = λ tail k t. ap lots_from (append_assoc made ((own, s) ∷ []) tail)
      ∙ p.same ((own, s) ∷ tail) 0 (ap₂ (λ y r. lot y s r) e (t ∙ lots_any (share_list rest) k 1 (first + n) S) ∙ ap (λ r. lot (filter (is_share_thread first n) S) r (lots_of (share_list rest) 1 (first + n) [] S)) h);
  sum = omega (arith, p.sum);
  fit = (and_parts (fits 16 g) (shares_fit 16 (share_list rest)) p.fit).1;
}

here_parts : (made : List (List ℕ × GeneratorState)) (first : ℕ) (xs : List (ℕ × Gen)) (i : ℕ) (x : ℕ × Gen) (all : List (ℕ × Generator)) (S : Scope) → Parts made first (shares_of (drop i xs)) all S → i < length xs → x ≡ get_or xs i x → Parts made first ((x.0, generator_of x.1) ∷ shares_of (drop (i + 1) xs)) all S
here_parts made first xs i x all S p lt e = subst (λ ys. Parts made first (shares_of ys) all S) (drop_here xs i x lt e) p

pub parts_fit : (made : List (List ℕ × GeneratorState)) (first : ℕ) (xs : List (ℕ × Gen)) (i : ℕ) (x : ℕ × Gen) (all : List (ℕ × Generator)) (S : Scope) → Parts made first (shares_of (drop i xs)) all S → i < length xs → x ≡ get_or xs i x → (fits 16 (generator_of x.1) ≡ true) × (first + x.0 ≤ shares_sum (share_list all))
parts_fit made first xs i x all S p lt e =
    let h = here_parts made first xs i x all S p lt e in
    ((and_parts (fits 16 (generator_of x.1)) _ h.fit).0, omega (arith, h.sum))

pub parts_push : (made : List Lot) (first : ℕ) (xs : List (ℕ × Gen)) (i : ℕ) (x : ℕ × Gen) (all : List (ℕ × Generator)) (S : Scope) (own : Vec ℕ Global) (n : Node) → Parts (lots_view made) first (shares_of (drop i xs)) all S → i < length xs → x ≡ get_or xs i x → own.items ≡ filter (is_share_thread first x.0) S → node_state n ≡ state_left (generator_of x.1) [] own.items → Parts (lots_view (made ++ record { threads = own; node = n } ∷ [])) (first + x.0) (shares_of (drop (i + 1) xs)) all S
parts_push made first xs i x all S own n p lt e threads h =
    subst (λ ls. Parts ls (first + x.0) (shares_of (drop (i + 1) xs)) all S) (sym (lots_push made (record { threads = own; node = n })))
    (parts_more (lots_view made) first x.0 (generator_of x.1) _ all S own.items (node_state n) (here_parts _ first xs i x all S p lt e) threads (h ∙ ap (state_left (generator_of x.1) []) threads))

pub no_more : {X : Type 0} (xs : List X) (i : ℕ) → length xs ≤ i → drop i xs ≡ []
no_more [] zero le = refl
no_more [] (suc i) le = refl
no_more (x ∷ xs) zero le = absurd (omega arith)
no_more (x ∷ xs) (suc i) le = no_more xs i (omega arith)

pub share_falls : (xs : List (ℕ × Gen)) (i : ℕ) (x : ℕ × Gen) → i < length xs → x ≡ get_or xs i x → deep-Gen x.1 < size_shares (shares_of xs)
share_falls [] i x lt e = absurd (omega arith)
share_falls (y ∷ xs) zero x lt e = subst (λ z. deep-Gen z.1 < size_shares (shares_of (y ∷ xs))) (sym e) (omega (arith, gen_falls y.1))
share_falls (y ∷ xs) (suc i) x lt e = let h = share_falls xs i x (omega arith) e in omega (arith, h)
