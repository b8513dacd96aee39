-- What a checker finds by normal forms, by the values themselves.
use Rattle.std.proofs.Common.{◌≡◌, ◌↔◌, inl, inr, ℕ, zero, suc, ◌+◌, ◌<◌, Bool, true, false, cond, not, List, [], ◌∷◌, map, length, get_or, refl, sym, ap, ◌∙◌, subst, arith, Contains}
use Rattle.std.specs.Prelude.{◌==◌}
use Rattle.std.specs.List.{filter, count_by}
use Rattle.std.proofs.lemmas.Bool.{not_from_false, true≢false, cases_Bool, ltb-true, lt-ltb}
use Rattle.std.proofs.lemmas.List.Elements.{All-contains, All-head, All-tail, Contains-get_or}
use Rattle.std.proofs.lemmas.List.Sums.{sum_by-cons}
use Rattle.jh_edn.specs.Edn.{Edn, nil}
use Rattle.jh_edn.specs.Equality.{Equals}
use Rattle.jh_edn.specs.Normal.{normal}
use Rattle.jh_edn.specs.Order.{in_order, is_below}
use Rattle.jh_edn.specs.Printable.{IsPrintable}
use Rattle.jh_edn.specs.Spelling.{depth_limit}
use Rattle.jh_ops.specs.Operation.{Operation, is_asked}
use Rattle.jh_ops.specs.declared.operation.Kind.{Kind}
use Rattle.jh_check.specs.Asked.{values_of}
use Rattle.jh_check.specs.Distinct.{is_same, has_same_value, count_of, set_of}
use Rattle.jh_check.specs.IdsResults.{counted_ids, duplicated_ids}
use Rattle.jh_check.specs.Tallies.{is_repeated}
use Rattle.jh_check.specs.Verdicts.{verdict_of}
use Rattle.jh_check.specs.declared.verdict.Verdict.TheVariants.{True}
use Rattle.jh_check.proofs.ListLemmas.{count_by-map}
use Rattle.jh_check.proofs.DistinctLemmas.{same_itself, same_along, count_cons}
use Rattle.jh_laws.specs.EqualResults.{CanPrintEach, IsOneOf, IsNormalOf, AreUnequal, IsGivenTimes, IsRepeated, values_held}
use Rattle.jh_laws.proofs.MemberLemmas.{Member, member_from, member_to, empty_none, none_empty, filter_from, filter_to, map_from, map_to, any_from, any_to, order_from, order_to, once_from, once_to}

pub true_verdict : (b : Bool) → verdict_of b ≡ True → b ≡ true
true_verdict true h = refl
true_verdict false h = absurd cc

pub verdict_true : (b : Bool) → b ≡ true → verdict_of b ≡ True
verdict_true true h = refl
verdict_true false h = absurd cc

-- ---- how many pass a test

module _ (p : Edn → Bool) where
  count_more : (x : Edn) (xs : List Edn) → count_by p (x ∷ xs) ≡ cond (p x) 1 0 + count_by p xs
  count_more x xs = sum_by-cons (λ y. cond (p y) 1 0) x xs

  count_yes : (x : Edn) (xs : List Edn) → p x ≡ true → count_by p (x ∷ xs) ≡ 1 + count_by p xs
  count_yes x xs is = count_more x xs ∙ ap (λ b. cond b 1 0 + count_by p xs) is

  count_no : (x : Edn) (xs : List Edn) → p x ≡ false → count_by p (x ∷ xs) ≡ 0 + count_by p xs
  count_no x xs is = count_more x xs ∙ ap (λ b. cond b 1 0 + count_by p xs) is

  count_behind : (n : ℕ) (x : Edn) (xs : List Edn) → n < count_by p xs → n < count_by p (x ∷ xs)
  count_behind n x xs h = let more = count_more x xs in omega (arith, h, more)

  one_place : (xs : List Edn) (i : ℕ) (d : Edn) → i < length xs → p (get_or xs i d) ≡ true → 0 < count_by p xs
  one_place [] i d less is = absurd (omega (arith, less))
  one_place (x ∷ xs) zero d less is = let yes = count_yes x xs is in omega (arith, yes)
  one_place (x ∷ xs) (suc i) d less is = count_behind 0 x xs (one_place xs i d (omega (arith, less)) is)

  pub two_places : (xs : List Edn) (i j : ℕ) (d : Edn) → i < j → j < length xs → p (get_or xs i d) ≡ true → p (get_or xs j d) ≡ true → 1 < count_by p xs
  two_places [] i j d before less one two = absurd (omega (arith, less))
  two_places (x ∷ xs) i zero d before less one two = absurd (omega (arith, before))
  two_places (x ∷ xs) zero (suc j) d before less one two =
      let yes = count_yes x xs one in
      let rest = one_place xs j d (omega (arith, less)) two in
      omega (arith, yes, rest)
  two_places (x ∷ xs) (suc i) (suc j) d before less one two =
      count_behind 1 x xs (two_places xs i j d (omega (arith, before)) (omega (arith, less)) one two)

  abbrev PassesAt : List Edn → ℕ → Type 0
  PassesAt xs i = (i < length xs) × ((d : Edn) → p (get_or xs i d) ≡ true)

  passes_behind : (x : Edn) (xs : List Edn) (i : ℕ) → PassesAt xs i → PassesAt (x ∷ xs) (suc i)
  passes_behind x xs i h = (omega (arith, h.0), h.1)

  one_counted : (xs : List Edn) → 0 < count_by p xs → (i : ℕ) × PassesAt xs i
  one_counted [] h = absurd (omega (arith, h))
  one_counted (x ∷ xs) h =
      elim (cases_Bool (p x)) [
        | inl is ↦ (zero, (omega arith, λ d. is))
        | inr is ↦ (let no = count_no x xs is in
            let rest = one_counted xs (omega (arith, no, h)) in
            (suc rest.0, passes_behind x xs rest.0 rest.1))
      ]

  pub two_counted : (xs : List Edn) → 1 < count_by p xs → (i j : ℕ) × (i < j) × PassesAt xs i × PassesAt xs j
  two_counted [] h = absurd (omega (arith, h))
  two_counted (x ∷ xs) h =
      elim (cases_Bool (p x)) [
        | inl is ↦ (let yes = count_yes x xs is in
            let rest = one_counted xs (omega (arith, yes, h)) in
            (zero, suc rest.0, omega arith, (omega arith, λ d. is), passes_behind x xs rest.0 rest.1))
        | inr is ↦ (let no = count_no x xs is in
            let rest = two_counted xs (omega (arith, no, h)) in
            (suc rest.0, suc rest.1, omega (arith, rest.2), passes_behind x xs rest.0 rest.3, passes_behind x xs rest.1 rest.4))
      ]

-- ---- normal forms

pub held_normal : (kind : Kind) (name : List ℕ) (history : List Operation) → map normal (values_held kind name history) ≡ values_of kind name history
held_normal kind name history = each (filter (is_asked kind name) history) where
  each : (ops : List Operation) → map normal (map (λ (op : Operation). op.value) ops) ≡ map (λ (op : Operation). normal op.value) ops
  each [] = refl
  each (op ∷ ops) = ap (λ xs. normal op.value ∷ xs) (each ops)

abbrev pub EqualLaw : Type 0
EqualLaw = (x y : Edn) → is_same (normal x) (normal y) ≡ true → Equals x y

abbrev pub OneLaw : Type 0
OneLaw = (x y : Edn) → IsPrintable depth_limit x → IsPrintable depth_limit y → Equals x y → normal x ≡ normal y

-- a list has the normal forms of these values and nothing else
pub record Shows (zs ys : List Edn) : Type 0 where
  pub from : (v : Edn) → Member v zs → (y : Edn) × Member y ys × (normal y ≡ v)
  pub to : (y : Edn) → Member y ys → Member (normal y) zs

pub normals_show : (ys : List Edn) → Shows (map normal ys) ys
normals_show ys = record { from = λ v h. map_from normal v ys h; to = λ y h. map_to normal y ys h }

-- what is kept of them is the normal forms of those that are kept
pub kept_show : (zs xs : List Edn) → Shows zs xs → (p : Edn → Bool) (P : Edn → Type 0)
    → ((x : Edn) → Member x xs → ((p (normal x) ≡ true) ↔ P x)) → (v : Edn) → (Contains (filter p zs) v ↔ IsNormalOf xs P v)
kept_show zs xs shows p P each v = (found, parsed) where
  found : Contains (filter p zs) v → IsNormalOf xs P v
  found h =
      let kept = filter_from p v zs (member_from (filter p zs) v h) in
      let of = shows.from v kept.0 in
      (of.0, member_to xs of.0 of.1, (each of.0 of.1).0 (ap p of.2 ∙ kept.1), sym of.2)

  parsed : IsNormalOf xs P v → Contains (filter p zs) v
  parsed h =
      let here = member_from xs h.0 h.1 in
      let kept = filter_to p (normal h.0) zs (shows.to h.0 here) ((each h.0 here).1 h.2) in
      member_to (filter p zs) v (subst (λ w. Member w (filter p zs)) (sym h.3) kept)

module _ (equal : EqualLaw) (one : OneLaw) where
  same : (x y : Edn) → IsPrintable depth_limit x → IsPrintable depth_limit y → Equals x y → is_same (normal x) (normal y) ≡ true
  same x y p q h = subst (λ w. is_same (normal x) w ≡ true) (one x y p q h) (same_itself (normal x))

  pub set_shows : (ys : List Edn) → CanPrintEach ys → Shows (set_of (map normal ys)) ys
  set_shows ys printable = record { from = from; to = to } where
    from : (v : Edn) → Member v (set_of (map normal ys)) → (y : Edn) × Member y ys × (normal y ≡ v)
    from v h = map_from normal v ys (order_from is_below v (map normal ys) (once_from v (in_order is_below (map normal ys)) h))

    to : (y : Edn) → Member y ys → Member (normal y) (set_of (map normal ys))
    to y h =
        let there = once_to (normal y) (in_order is_below (map normal ys)) (order_to is_below (normal y) (map normal ys) (map_to normal y ys h)) in
        let of = from there.0 there.1 in
        let alike : Equals y of.0 = equal y of.0 (subst (λ w. is_same (normal y) w ≡ true) (sym of.2) there.2) in
        let form : normal y ≡ there.0 = one y of.0 (All-contains (IsPrintable depth_limit) ys y printable (member_to ys y h)) (All-contains (IsPrintable depth_limit) ys of.0 printable (member_to ys of.0 of.1)) alike ∙ of.2 in
        subst (λ w. Member w (set_of (map normal ys))) (sym form) there.1

  -- ---- equal to one of the values

  module _ (zs ys : List Edn) (shows : Shows zs ys) (printable : CanPrintEach ys) (x : Edn) (p : IsPrintable depth_limit x) where
    among_one : has_same_value zs (normal x) ≡ true → IsOneOf ys x
    among_one h =
        let there = any_from (is_same (normal x)) zs h in
        let of = shows.from there.0 there.1 in
        let at = member_to ys of.0 of.1 in
        (at.0, of.0, at.1, at.2, equal x of.0 (subst (λ w. is_same (normal x) w ≡ true) (sym of.2) there.2))

    one_among : IsOneOf ys x → has_same_value zs (normal x) ≡ true
    one_among h =
        let y = h.1 in
        let there : Contains ys y = (h.0, h.2, h.3) in
        let alike = same x y p (All-contains (IsPrintable depth_limit) ys y printable there) h.4 in
        any_to (is_same (normal x)) (normal y) zs (shows.to y (member_from ys y there)) alike

    pub among_is_one : (has_same_value zs (normal x) ≡ true) ↔ IsOneOf ys x
    among_is_one = (among_one, one_among)

    pub else_is_none : (not (has_same_value zs (normal x)) ≡ true) ↔ (IsOneOf ys x → ⊥)
    else_is_none = (none, other) where
      none : not (has_same_value zs (normal x)) ≡ true → IsOneOf ys x → ⊥
      none h one = true≢false (sym h ∙ ap not (one_among one))

      other : (IsOneOf ys x → ⊥) → not (has_same_value zs (normal x)) ≡ true
      other h =
          elim (cases_Bool (has_same_value zs (normal x))) [
            | inl is ↦ absurd (h (among_one is))
            | inr is ↦ not_from_false (has_same_value zs (normal x)) is
          ]

    -- where it is not equal to none of them, it is equal to one
    pub one_unless : ((IsOneOf ys x → ⊥) → ⊥) → IsOneOf ys x
    one_unless h =
        elim (cases_Bool (has_same_value zs (normal x))) [
          | inl is ↦ among_one is
          | inr is ↦ absurd (h (else_is_none.0 (not_from_false (has_same_value zs (normal x)) is)))
        ]

  -- ---- how often an id was given

  given_times : (x : Edn) → IsPrintable depth_limit x → (xs : List Edn) → CanPrintEach xs → (n : ℕ) → n ≡ count_of (map normal xs) (normal x) → IsGivenTimes xs x n
  given_times x p [] all n is = is
  given_times x p (y ∷ ys) all n is =
      let more : count_of (map normal (y ∷ ys)) (normal x) ≡ cond (is_same (normal x) (normal y)) 1 0 + count_of (map normal ys) (normal x) = count_cons (normal x) (normal y) (map normal ys) in
      let rest = All-tail (IsPrintable depth_limit) y ys all in
      let first = All-head (IsPrintable depth_limit) y ys all in
      elim (is_same (normal x) (normal y)) as (λ b. is_same (normal x) (normal y) ≡ b → n ≡ cond b 1 0 + count_of (map normal ys) (normal x) → IsGivenTimes (y ∷ ys) x n) [
        | true ↦ λ e count. inl (equal x y e, count_of (map normal ys) (normal x), omega (arith, count), given_times x p ys rest (count_of (map normal ys) (normal x)) refl)
        | false ↦ λ e count. inr (λ h. true≢false (sym (same x y p first h) ∙ e), given_times x p ys rest n (omega (arith, count)))
      ] refl (is ∙ more)

  times_given : (x : Edn) → IsPrintable depth_limit x → (xs : List Edn) → CanPrintEach xs → (n : ℕ) → IsGivenTimes xs x n → n ≡ count_of (map normal xs) (normal x)
  times_given x p [] all n h = h
  times_given x p (y ∷ ys) all n (inl h) =
      let first = All-head (IsPrintable depth_limit) y ys all in
      let rest = times_given x p ys (All-tail (IsPrintable depth_limit) y ys all) h.1 h.3 in
      let more = count_yes (is_same (normal x)) (normal y) (map normal ys) (same x y p first h.0) in
      let sum : n ≡ suc h.1 = h.2 in
      omega (arith, rest, more, sum)
  times_given x p (y ∷ ys) all n (inr h) =
      let rest = times_given x p ys (All-tail (IsPrintable depth_limit) y ys all) n h.1 in
      elim (cases_Bool (is_same (normal x) (normal y))) [
        | inl is ↦ absurd (h.0 (equal x y is))
        | inr is ↦ (let more = count_no (is_same (normal x)) (normal y) (map normal ys) is in omega (arith, rest, more))
      ]

  -- the ids that are reported as duplicated
  pub duplicates_parsed : (xs : List Edn) → CanPrintEach xs → (v : Edn) (n : ℕ) → (Contains (duplicated_ids (map normal xs)) (v, n) ↔ IsRepeated xs v n)
  duplicates_parsed xs printable v n = (found, parsed) where
    found : Contains (duplicated_ids (map normal xs)) (v, n) → IsRepeated xs v n
    found h =
        let kept = filter_from is_repeated (v, n) (counted_ids (map normal xs)) (member_from (duplicated_ids (map normal xs)) (v, n) h) in
        let of = map_from (λ id. (id, count_of (map normal xs) id)) (v, n) (set_of (map normal xs)) kept.0 in
        let of_id : of.0 ≡ v = ap (λ (pair : Edn × ℕ). pair.0) of.2 in
        let of_count : count_of (map normal xs) of.0 ≡ n = ap (λ (pair : Edn × ℕ). pair.1) of.2 in
        let value = (set_shows xs printable).from of.0 of.1 in
        let here = member_to xs value.0 value.1 in
        let times = given_times value.0 (All-contains (IsPrintable depth_limit) xs value.0 printable here) xs printable n (sym of_count ∙ ap (count_of (map normal xs)) (sym value.2)) in
        (ltb-true 1 n kept.1, (value.0, here, times, sym of_id ∙ sym value.2))

    parsed : IsRepeated xs v n → Contains (duplicated_ids (map normal xs)) (v, n)
    parsed h =
        let x = h.1.0 in
        let times = times_given x (All-contains (IsPrintable depth_limit) xs x printable h.1.1) xs printable n h.1.2 in
        let pair : (normal x, count_of (map normal xs) (normal x)) ≡ (v, n) = λ i. (sym h.1.3 i, sym times i) in
        let there = map_to (λ id. (id, count_of (map normal xs) id)) (normal x) (set_of (map normal xs)) ((set_shows xs printable).to x (member_from xs x h.1.1)) in
        let member = subst (λ w. Member w (counted_ids (map normal xs))) pair there in
        member_to (duplicated_ids (map normal xs)) (v, n) (filter_to is_repeated (v, n) (counted_ids (map normal xs)) member (lt-ltb 1 n h.0))

  counted_alike : (v : Edn) (xs : List Edn) → count_of (map normal xs) v ≡ count_by (λ x. is_same v (normal x)) xs
  counted_alike v xs = count_by-map (is_same v) normal xs

  -- none is reported where no two are equal, and only there
  pub none_twice : (xs : List Edn) → CanPrintEach xs → (length (duplicated_ids (map normal xs)) == 0) ≡ true → AreUnequal xs
  none_twice xs printable none i j d before less alike =
      let p = printable i d (omega (arith, before, less)) in
      let q = printable j d less in
      let x = get_or xs i d in
      let more = two_places (λ y. is_same (normal x) (normal y)) xs i j d before less (same_itself (normal x)) (same x (get_or xs j d) p q alike) in
      let n = count_of (map normal xs) (normal x) in
      let many : 1 < n = subst (λ m. 1 < m) (sym (counted_alike (normal x) xs)) more in
      let there : Contains xs x = Contains-get_or xs i d (omega (arith, before, less)) in
      let parsed = (duplicates_parsed xs printable (normal x) n).1 (many, (x, there, given_times x p xs printable n refl, refl)) in
      empty_none (duplicated_ids (map normal xs)) none (normal x, n) (member_from (duplicated_ids (map normal xs)) (normal x, n) parsed)

  pub twice_none : (xs : List Edn) → AreUnequal xs → (length (duplicated_ids (map normal xs)) == 0) ≡ true
  twice_none xs apart = none_empty (duplicated_ids (map normal xs)) none where
    none : (pair : Edn × ℕ) → Member pair (duplicated_ids (map normal xs)) → ⊥
    none (v, n) h =
        let kept = filter_from is_repeated (v, n) (counted_ids (map normal xs)) h in
        let of = map_from (λ id. (id, count_of (map normal xs) id)) (v, n) (set_of (map normal xs)) kept.0 in
        let of_count : count_of (map normal xs) of.0 ≡ n = ap (λ (pair : Edn × ℕ). pair.1) of.2 in
        let many : 1 < count_by (λ x. is_same of.0 (normal x)) xs = subst (λ m. 1 < m) (sym of_count ∙ counted_alike of.0 xs) (ltb-true 1 n kept.1) in
        let two = two_counted (λ x. is_same of.0 (normal x)) xs many in
        let one_is = two.3.1 nil in
        let two_is = two.4.1 nil in
        apart two.0 two.1 nil two.2 two.4.0 (equal (get_or xs two.0 nil) (get_or xs two.1 nil) (sym (same_along of.0 (normal (get_or xs two.0 nil)) (normal (get_or xs two.1 nil)) one_is) ∙ two_is))
