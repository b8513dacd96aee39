-- Lists that grow at their end.
use Rattle.std.proofs.Common.{◌≡◌, ℕ, ◌+◌, ◌-◌, ◌<◌, Bool, cond, List, [], ◌∷◌, ◌++◌, length, take, get_or, map, refl, sym, ap, ◌∙◌, arith}
use Rattle.std.specs.Prelude.{slice_get, Some}
use Rattle.std.proofs.lemmas.List.{map-append, map_more}
use Rattle.std.specs.List.{count_by}
use Rattle.std.proofs.lemmas.List.Sums.{sum_by-cons}
use Rattle.std.proofs.lemmas.List.Elements.{filter-append}
use Rattle.jh_edn.specs.Edn.{Edn}
use Rattle.jh_edn.specs.Normal.{normal}
use Rattle.jh_ops.specs.Operation.{Operation, is_asked}
use Rattle.jh_ops.specs.declared.operation.Kind.{Kind}
use Rattle.jh_check.specs.Asked.{values_of}

pub values_of-append : (kind : Kind) (name : List ℕ) (xs ys : List Operation) → values_of kind name (xs ++ ys) ≡ values_of kind name xs ++ values_of kind name ys
values_of-append kind name xs ys =
    let value : Operation → Edn = λ op. normal op.value in
    ap (map value) (filter-append (is_asked kind name) xs ys) ∙ map-append value _ _

-- one element more of a list that is read by index
pub mapped_more : {A B : Type 0} (f : A → B) (xs : List A) (i : ℕ) (x : A) → i < length xs → x ≡ get_or xs i x → map f (take (i + 1) xs) ≡ map f (take i xs) ++ f x ∷ []
mapped_more f xs i x less at = map_more f xs i x less ∙ ap (λ y. map f (take i xs) ++ f y ∷ []) (sym at)

pub last_pushed : {A : Type 0} (xs : List A) (x : A) → slice_get (xs ++ x ∷ []) (length (xs ++ x ∷ []) - 1) ≡ Some x
last_pushed {A} xs x = rw last_place (at xs) where
  last_place : length (xs ++ x ∷ []) - 1 ≡ length xs
  last_place = omega (arith, long xs) where
    long : (ys : List A) → length (ys ++ x ∷ []) ≡ length ys + 1
    long [] = refl
    long (y ∷ ys) = omega (arith, long ys)

  at : (ys : List A) → slice_get (ys ++ x ∷ []) (length ys) ≡ Some x
  at [] = refl
  at (y ∷ ys) = at ys

pub count_by-map : {A B : Type 0} (p : B → Bool) (f : A → B) (xs : List A) → count_by p (map f xs) ≡ count_by (λ x. p (f x)) xs
count_by-map p f [] = refl
count_by-map p f (x ∷ xs) =
    sum_by-cons (λ y. cond (p y) 1 0) (f x) (map f xs)
    ∙ ap (λ n. cond (p (f x)) 1 0 + n) (count_by-map p f xs)
    ∙ sym (sum_by-cons (λ y. cond (p (f y)) 1 0) x xs)
