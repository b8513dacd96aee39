-- Forms of generators, by how many parts they have, and read part by part.
use Rattle.std.proofs.Common.{◌≡◌, refl, sym, ap, ap₂, ◌∙◌, subst, ℕ, suc, zero, ◌+◌, ◌-◌, ◌<◌, ◌≤◌, Bool, true, List, [], ◌∷◌, ◌++◌, length, take, drop, arith, get_or}
use Rattle.std.specs.Prelude.{Option, None, Some, IfSome, is_some, option_map}
use Rattle.jh_edn.specs.View.{view, views}
use Rattle.jh_edn.specs.Edn.{Edn, list, vector, elements_of, Items, no_items, item, items_of, list_of, size_of, size_items, size_list}
use Rattle.jh_edn.specs.declared.value.Value.{Value}
use Rattle.jh_gen.specs.Generator.{Generator, reserve, Generators, no_generators, generator, ShareList, no_shares, share, row_of, share_list}
use Rattle.jh_gen.specs.View.{generator_of, generators_of, shares_of}
use Rattle.jh_gen.specs.declared.generator.Gen.{Gen}
use Rattle.jh_gen.specs.GeneratorText as rule
use Rattle.jh_gen.specs.GeneratorText.{parsed_generator, operands_of, ◌>>=◌}
use Rattle.jh_gen.specs.ShapeInside.{AreMembersSoFar, AreSharesSoFar, joined_members, joined_shares, parsed_members, operand_of, operands_in, parsed_reserve, shape_size}
use Rattle.jh_gen.specs.declared.text.GeneratorShape.{GeneratorShape}
use Rattle.jh_gen.proofs.BuildLemmas.{drop_here}

pub no_part-some : (xs : List Value) → 1 ≤ length xs → None ≡ rule.generator_of_none (operands_in (views xs))
no_part-some [] le = absurd (omega arith)
no_part-some (x ∷ xs) le = refl

pub only-none : (xs : List Value) → length xs < 1 → None ≡ rule.only_operand (operands_in (views xs))
only-none [] le = refl
only-none (x ∷ xs) le = absurd (omega arith)

pub only-many : (xs : List Value) → 2 ≤ length xs → None ≡ rule.only_operand (operands_in (views xs))
only-many [] le = absurd (omega arith)
only-many (x ∷ []) le = absurd (omega arith)
only-many (x ∷ y ∷ xs) le = refl

pub limited-few : (xs : List Value) → length xs < 2 → None ≡ rule.limit_operands (operands_in (views xs))
limited-few [] le = refl
limited-few (x ∷ []) le = refl
limited-few (x ∷ y ∷ xs) le = absurd (omega arith)

pub limited-many : (xs : List Value) → 3 ≤ length xs → None ≡ rule.limit_operands (operands_in (views xs))
limited-many [] le = absurd (omega arith)
limited-many (x ∷ []) le = absurd (omega arith)
limited-many (x ∷ y ∷ []) le = absurd (omega arith)
limited-many (x ∷ y ∷ z ∷ xs) le = refl

items_of-list_of : (xs : Items) → items_of (list_of xs) ≡ xs
items_of-list_of no_items = refl
items_of-list_of (item x xs) = ap (item x) (items_of-list_of xs)

-- what the elements of a sequence mean, and that they are smaller
pub record ReadsElements (v : Edn) (xs : List Edn) : Type 0 where
  pub parsed : parsed_generator v ≡ rule.generator_of_operands (operands_in xs)
  pub smaller : size_list xs < size_of v

sequence_reads : (v : Edn) (ys : Items) (xs : List Edn) → list_of ys ≡ xs → parsed_generator v ≡ rule.generator_of_operands (operands_of ys) → size_of v ≡ suc (size_items ys) → ReadsElements v xs
sequence_reads v ys xs e parsed size =
    let same : items_of xs ≡ ys = ap items_of (sym e) ∙ items_of-list_of ys in
    record { parsed = parsed ∙ ap (λ zs. rule.generator_of_operands (operands_of zs)) (sym same); smaller = let h = ap size_items same in omega (arith, h, size) }

some_is : {X : Type 0} (x y : X) → Some x ≡ Some y → x ≡ y
some_is x y e = cc

pub elements_read : (v : Edn) (xs : List Edn) → elements_of v ≡ Some xs → ReadsElements v xs
elements_read (list ys) xs e = sequence_reads (list ys) ys xs (some_is _ _ e) refl refl
elements_read (vector ys) xs e = sequence_reads (vector ys) ys xs (some_is _ _ e) refl refl
elements_read _ xs e = absurd cc

pub no_elements : (v : Edn) → elements_of v ≡ None → None ≡ parsed_generator v
no_elements (list ys) e = absurd cc
no_elements (vector ys) e = absurd cc
no_elements _ e = refl

pub smaller_within : (o : Option GeneratorShape) (n m : ℕ) → IfSome o (λ s. shape_size s ≤ n) → n < m → IfSome o (λ s. shape_size s < m)
smaller_within None n m h lt = h
smaller_within (Some s) n m h lt = omega (arith, h, lt)

-- one value of several
pub part_falls : (xs : List Value) (i : ℕ) (x : Value) → i < length xs → x ≡ get_or xs i x → size_of (view x) < size_list (views xs)
part_falls [] i x lt e = absurd (omega arith)
part_falls (y ∷ xs) zero x lt e = let z : size_of (view y) < size_list (views (y ∷ xs)) = omega arith in subst (λ v. size_of (view v) < size_list (views (y ∷ xs))) (sym e) z
part_falls (y ∷ xs) (suc i) x lt e = let h = part_falls xs i x (omega arith) e in omega (arith, h)

-- Judging part by part.

pub some_map : {X Y : Type 0} (f : X → Y) (o : Option X) → is_some (option_map f o) ≡ is_some o
some_map f None = refl
some_map f (Some x) = refl

some_then : {X Y : Type 0} (o : Option X) (f : X → Option Y) (b : Bool) → is_some o ≡ true → ((x : X) → is_some (f x) ≡ b) → is_some (o >>= f) ≡ b
some_then None f b h g = absurd cc
some_then (Some x) f b h g = g x

pub members_judged : (xs : List Value) (i : ℕ) (x : Value) → is_some (parsed_members (views xs)) ≡ is_some (parsed_members (views (drop i xs))) → i < length xs → x ≡ get_or xs i x → is_some (parsed_generator (view x)) ≡ true → is_some (parsed_members (views xs)) ≡ is_some (parsed_members (views (drop (i + 1) xs)))
members_judged xs i x so_far lt e parsed =
    so_far ∙ ap (λ ys. is_some (parsed_members (views ys))) (drop_here xs i x lt e)
    ∙ some_then (parsed_generator (view x)) _ _ parsed (λ g. some_map (generator g) (parsed_members (views (drop (i + 1) xs))))

take_all : {X : Type 0} (xs : List X) → take (length xs) xs ≡ xs
take_all [] = refl
take_all (x ∷ xs) = ap (λ ys. x ∷ ys) (take_all xs)

-- what is behind two values
pub later_is : (x y : Value) (rest later : List Value) → length rest ≡ length (x ∷ y ∷ later) → take (length rest - 2) later ≡ later
later_is x y rest later e = let k : (length rest - 2) ≡ length later = omega (arith, e) in ap (λ n. take n later) k ∙ take_all later

-- two values that begin a list, and what is behind them
pub two_first : (rest : List Value) (x y : Value) → 2 ≤ length rest → x ≡ get_or rest 0 x → y ≡ get_or rest 1 y → rest ≡ x ∷ y ∷ take (length rest - 2) (drop 2 rest)
two_first [] x y le e h = absurd (omega arith)
two_first (a ∷ []) x y le e h = absurd (omega arith)
two_first (a ∷ b ∷ later) x y le e h =
    ap₂ (λ p q. p ∷ q ∷ later) (sym e) (sym h) ∙ ap (λ zs. x ∷ y ∷ zs) (sym (later_is a b (a ∷ b ∷ later) later refl))

pub record Judged (xs rest : List Value) : Type 0 where
  pub same : is_some (parsed_reserve (views xs)) ≡ is_some (parsed_reserve (views rest))
  pub smaller : size_list (views rest) ≤ size_list (views xs)

pub reserved_judged : (xs rest later : List Value) (n x : Value) → rest ≡ n ∷ x ∷ later → is_some (parsed_reserve (views xs)) ≡ is_some (parsed_reserve (views rest)) → size_list (views rest) ≤ size_list (views xs) → is_some (rule.number_in (operand_of (view n))) ≡ true → is_some (parsed_generator (view x)) ≡ true → Judged xs later
reserved_judged xs rest later n x e same smaller number parsed = record {
  same = same ∙ ap (λ ys. is_some (parsed_reserve (views ys))) e
      ∙ some_then (rule.number_in (operand_of (view n))) _ _ number (λ k. some_then (parsed_generator (view x)) _ _ parsed (λ g. some_map _ (parsed_reserve (views later))));
  smaller = let h : size_list (views rest) ≡ size_list (views (n ∷ x ∷ later)) = ap (λ ys. size_list (views ys)) e in omega (arith, h, smaller);
}

-- Reading part by part.

map_twice : {X Y Z : Type 0} (f : Y → Z) (g : X → Y) (h : X → Z) → ((x : X) → f (g x) ≡ h x) → (o : Option X) → option_map f (option_map g o) ≡ option_map h o
map_twice f g h e None = refl
map_twice f g h e (Some x) = ap Some (e x)

then_some : {X Y : Type 0} (o : Option X) (f : X → Option Y) (x : X) → o ≡ Some x → (o >>= f) ≡ f x
then_some o f x e = ap (λ p. p >>= f) e

before_none : (gs : Generators) → joined_members gs no_generators ≡ gs
before_none no_generators = refl
before_none (generator g gs) = ap (generator g) (before_none gs)

before_push : (made : List Gen) (g : Gen) (gs : Generators) → joined_members (row_of (generators_of made)) (generator (generator_of g) gs) ≡ joined_members (row_of (generators_of (made ++ g ∷ []))) gs
before_push [] g gs = refl
before_push (x ∷ made) g gs = ap (generator (generator_of x)) (before_push made g gs)

pub members_read : (made : List Gen) (g : Gen) (xs : List Value) (i : ℕ) (x : Value) → AreMembersSoFar (row_of (generators_of made)) (views (drop i xs)) (views xs) → i < length xs → x ≡ get_or xs i x → parsed_generator (view x) ≡ Some (generator_of g) → AreMembersSoFar (row_of (generators_of (made ++ g ∷ []))) (views (drop (i + 1) xs)) (views xs)
members_read made g xs i x so_far lt e parsed =
    let before = joined_members (row_of (generators_of made)) in
    so_far ∙ ap (λ ys. option_map before (parsed_members (views ys))) (drop_here xs i x lt e)
    ∙ ap (option_map before) (then_some (parsed_generator (view x)) _ (generator_of g) parsed)
    ∙ map_twice before _ _ (before_push made g) (parsed_members (views (drop (i + 1) xs)))

pub members_all : (made : List Gen) (xs rest : List Value) → AreMembersSoFar (row_of (generators_of made)) (views rest) (views xs) → rest ≡ [] → parsed_members (views xs) ≡ Some (row_of (generators_of made))
members_all made xs rest so_far e =
    so_far ∙ ap (λ ys. option_map (joined_members (row_of (generators_of made))) (parsed_members (views ys))) e ∙ ap Some (before_none (row_of (generators_of made)))

before_no_share : (ms : ShareList) → joined_shares ms no_shares ≡ ms
before_no_share no_shares = refl
before_no_share (share n g ms) = ap (share n g) (before_no_share ms)

before_share : (made : List (ℕ × Gen)) (n : ℕ) (g : Gen) (ms : ShareList) → joined_shares (share_list (shares_of made)) (share n (generator_of g) ms) ≡ joined_shares (share_list (shares_of (made ++ (n, g) ∷ []))) ms
before_share [] n g ms = refl
before_share (x ∷ made) n g ms = ap (share x.0 (generator_of x.1)) (before_share made n g ms)

pub record SharesRead (made : List (ℕ × Gen)) (xs rest : List Value) : Type 0 where
  pub so_far : AreSharesSoFar (share_list (shares_of made)) (views rest) (views xs)
  pub smaller : size_list (views rest) ≤ size_list (views xs)

pub shares_read : (made : List (ℕ × Gen)) (n : ℕ) (g : Gen) (xs rest later : List Value) (a x : Value) → rest ≡ a ∷ x ∷ later → AreSharesSoFar (share_list (shares_of made)) (views rest) (views xs) → size_list (views rest) ≤ size_list (views xs) → rule.number_in (operand_of (view a)) ≡ Some n → parsed_generator (view x) ≡ Some (generator_of g) → SharesRead (made ++ (n, g) ∷ []) xs later
shares_read made n g xs rest later a x e so_far smaller number parsed =
    let before : ShareList × Generator → ShareList × Generator = λ r. (joined_shares (share_list (shares_of made)) r.0, r.1) in
    record {
      so_far = so_far ∙ ap (λ ys. option_map before (parsed_reserve (views ys))) e
          ∙ ap (option_map before) (then_some (rule.number_in (operand_of (view a))) _ n number ∙ then_some (parsed_generator (view x)) _ (generator_of g) parsed)
          ∙ map_twice before _ _ (λ r. ap (λ ms. (ms, r.1)) (before_share made n g r.0)) (parsed_reserve (views later));
      smaller = let h : size_list (views rest) ≡ size_list (views (a ∷ x ∷ later)) = ap (λ ys. size_list (views ys)) e in omega (arith, h, smaller);
    }

one_only : (rest : List Value) (x : Value) → 1 ≤ length rest → length rest < 2 → x ≡ get_or rest 0 x → rest ≡ x ∷ []
one_only [] x le lt e = absurd (omega arith)
one_only (y ∷ []) x le lt e = ap (λ z. z ∷ []) (sym e)
one_only (y ∷ z ∷ rest) x le lt e = absurd (omega arith)

pub reserve_all : (made : List (ℕ × Gen)) (g : Generator) (xs rest : List Value) (x : Value) → AreSharesSoFar (share_list (shares_of made)) (views rest) (views xs) → 1 ≤ length rest → length rest < 2 → x ≡ get_or rest 0 x → parsed_generator (view x) ≡ Some g → option_map (λ r. reserve r.0 r.1) (parsed_reserve (views xs)) ≡ Some (reserve (share_list (shares_of made)) g)
reserve_all made g xs rest x so_far le lt e parsed =
    let before : ShareList × Generator → ShareList × Generator = λ r. (joined_shares (share_list (shares_of made)) r.0, r.1) in
    let whole : ShareList × Generator → Generator = λ r. reserve r.0 r.1 in
    ap (option_map whole) (so_far ∙ ap (λ ys. option_map before (parsed_reserve (views ys))) (one_only rest x le lt e)
    ∙ ap (λ o. option_map before (option_map (λ k. let r : ShareList × Generator = (no_shares, k) in r) o)) parsed)
    ∙ ap (λ ms. Some (reserve ms g)) (before_no_share (share_list (shares_of made)))
