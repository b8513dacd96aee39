-- Lists in order: what is taken out of them and put back.
use Rattle.std.proofs.Common.{◌≡◌, ◌≢◌, ℕ, ◌<◌, ◌≤◌, zero, suc, Bool, true, false, cond, not, List, [], ◌∷◌, ◌++◌, length, get_or, eqb, nat_lt, refl, ap, subst, arith, take_at, drop_at, Some, None}
use Rattle.std.specs.Prelude.{unwrap_or, filter, insert}
use Rattle.std.specs.List.{All, AllPairs, Contains, position, position_or_len}
use Rattle.std.proofs.lemmas.Bool.{ltb-false, lt-ltb, le-ltb, eq-eqb, ne_eqb}
use Rattle.std.proofs.lemmas.List.Elements.{All-head, All-tail, All-cons, All-nil, filter-append}
use Rattle.std.proofs.lemmas.List.Sums.{prefix_len-le-length}

found_or_end : (b : Bool) (k n : ℕ) → nat_lt k n ≡ b → k ≤ n → unwrap_or (cond b (Some k) None) n ≡ k
found_or_end true k n e within = refl
found_or_end false k n e within = let past : n ≤ k = ltb-false k n e in omega arith

-- the first that passes, or the end
pub position_or_end : {X : Type 0} (p : X → Bool) (xs : List X) → unwrap_or (position p xs) (length xs) ≡ position_or_len p xs
position_or_end p xs =
    found_or_end (nat_lt (position_or_len p xs) (length xs)) (position_or_len p xs) (length xs) refl
    (prefix_len-le-length (λ x. not (p x)) xs)

-- a filter that all pass
pub all_pass : {X : Type 0} (p : X → Bool) (xs : List X) → All (λ x. p x ≡ true) xs → filter p xs ≡ xs
all_pass p [] h = refl
all_pass p (x ∷ xs) h = rw (All-head (λ x. p x ≡ true) x xs h, all_pass p xs (All-tail (λ x. p x ≡ true) x xs h)) refl

module _ {X : Type 0} (R : X → X → Type 0) where
  pub pairs_head : (x : X) (xs : List X) → AllPairs R (x ∷ xs) → All (R x) xs
  pairs_head x xs h k d within = h 0 (suc k) d (omega arith) (omega arith)

  pub pairs_tail : (x : X) (xs : List X) → AllPairs R (x ∷ xs) → AllPairs R xs
  pairs_tail x xs h i j d less within = h (suc i) (suc j) d (omega arith) (omega arith)

  -- an element, with those before it and those after it
  pub record SplitAt (xs : List X) (x : X) : Type 0 where
    pub before : List X
    pub after : List X
    pub is : xs ≡ before ++ x ∷ after
    pub below : All (λ y. R y x) before
    pub above : All (R x) after

  -- a list is split at each of its elements
  pub split_at : (xs : List X) (x : X) → AllPairs R xs → Contains xs x → SplitAt xs x
  split_at [] x h (k, within, at) = absurd (omega arith)
  split_at (y ∷ ys) x h (zero, within, at) = record {
    before = [];
    after = ys;
    is = ap (λ z. z ∷ ys) at;
    below = All-nil (λ y. R y x);
    above = subst (λ z. All (R z) ys) at (pairs_head y ys h);
  }
  split_at (y ∷ ys) x h (suc k, within, at) =
      let rest = split_at ys x (pairs_tail y ys h) (k, omega arith, at) in
      let less : R y x = subst (R y) at (pairs_head y ys h k x (omega arith)) in
      record {
        before = y ∷ rest.before;
        after = rest.after;
        is = ap (λ zs. y ∷ zs) rest.is;
        below = All-cons (λ z. R z x) y rest.before less rest.below;
        above = rest.above;
      }

-- the others stay where one is taken out
pub taken_out : (before after : List ℕ) (x : ℕ) → All (λ y. y ≢ x) before → All (λ y. y ≢ x) after
    → filter (λ y. not (eqb y x)) (before ++ x ∷ after) ≡ before ++ after
taken_out before after x b a =
    let p : ℕ → Bool = λ y. not (eqb y x) in
    let e : filter p before ≡ before = all_pass p before (λ k d h. ap not (ne_eqb (get_or before k d) x (b k d h))) in
    let f : filter p after ≡ after = all_pass p after (λ k d h. ap not (ne_eqb (get_or after k d) x (a k d h))) in
    rw (filter-append p before (x ∷ after), e, eq-eqb x x refl, f) refl

first_above : (before after : List ℕ) (x : ℕ) → All (λ y. y < x) before → All (λ y. x < y) after
    → position_or_len (nat_lt x) (before ++ after) ≡ length before
first_above [] [] x b a = refl
first_above [] (y ∷ ys) x b a = rw (lt-ltb x y (All-head (λ z. x < z) y ys a)) refl
first_above (y ∷ ys) after x b a =
    let less : y < x = All-head (λ z. z < x) y ys b in
    let no : nat_lt x y ≡ false = le-ltb x y (omega arith) in
    let rest = first_above ys after x (All-tail (λ z. z < x) y ys b) a in
    rw (no, rest) (omega arith)

-- one that was taken out is put back before those that are higher
pub put_back : (before after : List ℕ) (x : ℕ) → All (λ y. y < x) before → All (λ y. x < y) after
    → insert (before ++ after) (position_or_len (nat_lt x) (before ++ after)) x ≡ before ++ x ∷ after
put_back before after x b a =
    rw (first_above before after x b a, take_at before after (length before) refl, drop_at before after (length before) refl) refl
