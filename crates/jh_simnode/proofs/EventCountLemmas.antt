-- Counts of events, one event after another.
use Rattle.std.proofs.Common.{◌≡◌, ℕ, ◌+◌, Bool, true, false, List, [], ◌∷◌, ◌++◌, refl, ap, ◌∙◌, arith, cond}
use Rattle.std.specs.Prelude.{Some}
use Rattle.std.specs.List.{count_by, fold}
use Rattle.jh_simnode.specs.declared.events.Event.{Event}
use Rattle.jh_simnode.specs.Counts.{last_event}

count_from : {X : Type 0} (f : X → Bool) (n : ℕ) (xs : List X) (x : X)
    → fold (λ a y. a + cond (f y) 1 0) n (xs ++ x ∷ []) ≡ fold (λ a y. a + cond (f y) 1 0) n xs + cond (f x) 1 0
count_from f n [] x = refl
count_from f n (y ∷ ys) x = count_from f (n + cond (f y) 1 0) ys x

count_push : {X : Type 0} (f : X → Bool) (xs : List X) (x : X) → count_by f (xs ++ x ∷ []) ≡ count_by f xs + cond (f x) 1 0
count_push f xs x = count_from f 0 xs x

pub count_yes : {X : Type 0} (f : X → Bool) (xs : List X) (x : X) → f x ≡ true → count_by f (xs ++ x ∷ []) ≡ count_by f xs + 1
count_yes f xs x hit = count_push f xs x ∙ ap (λ b. count_by f xs + cond b 1 0) hit

pub count_no : {X : Type 0} (f : X → Bool) (xs : List X) (x : X) → f x ≡ false → count_by f (xs ++ x ∷ []) ≡ count_by f xs
count_no f xs x miss = let h = count_push f xs x ∙ ap (λ b. count_by f xs + cond b 1 0) miss in omega (arith, h)

pub last_push : (es : List Event) (e : Event) → last_event (es ++ e ∷ []) ≡ Some e
last_push [] e = refl
last_push (a ∷ []) e = refl
last_push (a ∷ b ∷ es) e = last_push (b ∷ es) e
