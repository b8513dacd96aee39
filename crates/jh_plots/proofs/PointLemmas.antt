-- Points, each once.
use Rattle.std.proofs.Common.{◌≡◌, ◌≢◌, ◌∙◌, ℕ, ◌+◌, ◌*◌, ◌<◌, Bool, true, false, cond, nat_lt, List, [], ◌∷◌, ◌++◌, length, take, get_or, refl, sym, ap, subst, arith}
use Rattle.std.specs.Prelude.{◌||◌, ◌==◌}
use Rattle.std.specs.BTreeSet as sets
use Rattle.std.specs.BTreeSet.{BTreeSet}
use Rattle.std.specs.List.{All, AllPairs, Any, list_any}
use Rattle.std.specs.Ordering.{is_eq, nat_cmp}
use Rattle.std.specs.declared.cmp.Ordering.TheVariants.{Less, Equal, Greater}
use Rattle.std.proofs.lemmas.Bool.{both_ways, eq-eqb, eqb-true, le-ltb}
use Rattle.std.proofs.lemmas.List.{length-append, get_or_append_left, take_more}
use Rattle.std.proofs.lemmas.List.Elements.{All-get_or, All-push, All-weaker}
use Rattle.std.proofs.lemmas.List.Folds.{Any-from_list_any, list_any-append, list_any_at}
use Rattle.std.proofs.lemmas.List.Quantifiers.{Any-push, all_pairs_push}
use Rattle.std.proofs.lemmas.Nat.{same_from_place}
use Rattle.jh_ops.specs.declared.operation.Kind.{Kind}
use Rattle.jh_plots.specs.Points.{ArePointsOf, IsPointOfCall}
use Rattle.jh_plots.specs.PointsInside.{IsInPanel, ending_number, point_number}
use Rattle.jh_plots.specs.declared.calls.TimedCall.{TimedCall}
use Rattle.jh_plots.specs.declared.plot.Point.{Point}
use Rattle.jh_plots.specs.declared.scale.Scale.{Scale}

-- ---- points and their numbers

cmp_same : (a b : ℕ) → is_eq (nat_cmp a b) ≡ true → a ≡ b
cmp_same a b h = elim (nat_lt a b) as (λ t. is_eq (cond t Less (cond (a == b) Equal Greater)) ≡ true → a ≡ b) [
  | true ↦ λ e. absurd (let clash : false ≡ true = e in cc)
  | false ↦ λ e. by_equal (a == b) refl e
] h where
  by_equal : (t : Bool) → (a == b) ≡ t → is_eq (cond t Equal Greater) ≡ true → a ≡ b
  by_equal true q e = eqb-true a b q
  by_equal false q e = absurd (let clash : false ≡ true = e in cc)

cmp_itself : (a : ℕ) → is_eq (nat_cmp a a) ≡ true
cmp_itself a = rw (le-ltb a a (omega arith), eq-eqb a a refl) refl

kind_same : (a b : Kind) → ending_number a ≡ ending_number b → a ≡ b
kind_same Kind.Invoke Kind.Invoke h = refl
kind_same Kind.Invoke Kind.Ok h = absurd (omega arith)
kind_same Kind.Invoke Kind.Fail h = absurd (omega arith)
kind_same Kind.Invoke Kind.Info h = absurd (omega arith)
kind_same Kind.Ok Kind.Invoke h = absurd (omega arith)
kind_same Kind.Ok Kind.Ok h = refl
kind_same Kind.Ok Kind.Fail h = absurd (omega arith)
kind_same Kind.Ok Kind.Info h = absurd (omega arith)
kind_same Kind.Fail Kind.Invoke h = absurd (omega arith)
kind_same Kind.Fail Kind.Ok h = absurd (omega arith)
kind_same Kind.Fail Kind.Fail h = refl
kind_same Kind.Fail Kind.Info h = absurd (omega arith)
kind_same Kind.Info Kind.Invoke h = absurd (omega arith)
kind_same Kind.Info Kind.Ok h = absurd (omega arith)
kind_same Kind.Info Kind.Fail h = absurd (omega arith)
kind_same Kind.Info Kind.Info h = refl

same_point : (a b : Point) → a.x ≡ b.x → a.y ≡ b.y → a.kind ≡ b.kind → a ≡ b
same_point a b ex ey ek = λ i. record { x = ex i; y = ey i; kind = ek i }

-- two points of a panel with one number are one
point_same : (a b : Point) → IsInPanel a → IsInPanel b → point_number a ≡ point_number b → a ≡ b
point_same a b in_a in_b h =
    let rows = same_from_place (ending_number a.kind * 65536 + a.x) a.y (ending_number b.kind * 65536 + b.x) b.y 65536 (omega (arith, in_a.y)) (omega (arith, in_b.y)) h in
    let columns = same_from_place (ending_number a.kind) a.x (ending_number b.kind) b.x 65536 (omega (arith, in_a.x)) (omega (arith, in_b.x)) rows.0 in
    same_point a b columns.1 rows.1 (kind_same a.kind b.kind columns.0)

-- ---- points as they are drawn

-- the points of calls, whose numbers are those that are had
pub record Drawn (scale : Scale) (calls : List TimedCall) (has : ℕ → Bool) (points : List Point) : Type 0 where
  pub seen : (number : ℕ) → has number ≡ list_any (λ point. is_eq (nat_cmp (point_number point) number)) points
  pub each : All (λ point. Any (λ call. IsPointOfCall scale call point) calls) points
  pub every : All (λ call. Any (λ point. IsPointOfCall scale call point) points) calls
  pub once : AllPairs (λ one other. one ≢ other) points
  pub within : All IsInPanel points

any_longer : {X : Type 0} (P : X → Type 0) (xs ys : List X) → Any P xs → Any P (xs ++ ys)
any_longer P xs ys h = (h.0, h.1, omega (arith, length-append xs ys, h.2), get_or_append_left xs ys h.1 h.0 h.2 ∙ h.3, h.4)

-- one that is among the points has its number among theirs
number_among : (points : List Point) (k : ℕ) (d : Point) → k < length points → list_any (λ point. is_eq (nat_cmp (point_number point) (point_number (get_or points k d)))) points ≡ true
number_among points k d less = list_any_at (λ point. is_eq (nat_cmp (point_number point) (point_number (get_or points k d)))) points k d less (cmp_itself (point_number (get_or points k d)))

either : (t b : Bool) → cond t true b ≡ (b || (t || false))
either true true = refl
either true false = refl
either false true = refl
either false false = refl

pub drawn_new : (scale : Scale) (calls : List TimedCall) (has more : ℕ → Bool) (points : List Point) (call : TimedCall) (point : Point) → Drawn scale calls has points → IsPointOfCall scale call point → IsInPanel point
    → has (point_number point) ≡ false → ((number : ℕ) → more number ≡ cond (is_eq (nat_cmp (point_number point) number)) true (has number)) → Drawn scale (calls ++ call ∷ []) more (points ++ point ∷ [])
drawn_new scale calls has more points call point drawn is inside unseen grows = record {
  seen = λ number.
      let test = λ (p : Point). is_eq (nat_cmp (point_number p) number) in
      grows number ∙ either (test point) (has number) ∙ ap (λ b. b || (test point || false)) (drawn.seen number) ∙ sym (list_any-append test points (point ∷ []));
  each = All-push (λ p. Any (λ c. IsPointOfCall scale c p) (calls ++ call ∷ [])) points point
      (All-weaker (λ p. Any (λ c. IsPointOfCall scale c p) calls) (λ p. Any (λ c. IsPointOfCall scale c p) (calls ++ call ∷ [])) (λ p h. any_longer (λ c. IsPointOfCall scale c p) calls (call ∷ []) h) points drawn.each)
      (Any-push (λ c. IsPointOfCall scale c point) calls call is);
  every = All-push (λ c. Any (λ p. IsPointOfCall scale c p) (points ++ point ∷ [])) calls call
      (All-weaker (λ c. Any (λ p. IsPointOfCall scale c p) points) (λ c. Any (λ p. IsPointOfCall scale c p) (points ++ point ∷ [])) (λ c h. any_longer (λ p. IsPointOfCall scale c p) points (point ∷ []) h) calls drawn.every)
      (Any-push (λ p. IsPointOfCall scale call p) points point is);
  once = all_pairs_push (λ one other. one ≢ other) points point drawn.once
      (λ k d less same. both_ways (has (point_number point)) unseen (drawn.seen (point_number point) ∙ subst (λ p. list_any (λ q. is_eq (nat_cmp (point_number q) (point_number p))) points ≡ true) same (number_among points k d less)));
  within = All-push IsInPanel points point drawn.within inside;
}

pub drawn_known : (scale : Scale) (calls : List TimedCall) (has more : ℕ → Bool) (points : List Point) (call : TimedCall) (point : Point) → Drawn scale calls has points → IsPointOfCall scale call point → IsInPanel point
    → has (point_number point) ≡ true → ((number : ℕ) → more number ≡ cond (is_eq (nat_cmp (point_number point) number)) true (has number)) → Drawn scale (calls ++ call ∷ []) more points
drawn_known scale calls has more points call point drawn is inside seen grows = record {
  seen = λ number. grows number ∙ stays number (is_eq (nat_cmp (point_number point) number)) refl ∙ drawn.seen number;
  each = All-weaker (λ p. Any (λ c. IsPointOfCall scale c p) calls) (λ p. Any (λ c. IsPointOfCall scale c p) (calls ++ call ∷ [])) (λ p h. any_longer (λ c. IsPointOfCall scale c p) calls (call ∷ []) h) points drawn.each;
  every = All-push (λ c. Any (λ p. IsPointOfCall scale c p) points) calls call drawn.every
      (let found = Any-from_list_any (λ p. is_eq (nat_cmp (point_number p) (point_number point))) points (sym (drawn.seen (point_number point)) ∙ seen) in
      let there : IsInPanel (get_or points found.0 found.1) = All-get_or IsInPanel points found.0 found.1 found.2 drawn.within in
      let same : found.1 ≡ point = point_same found.1 point (subst IsInPanel found.3 there) inside (cmp_same (point_number found.1) (point_number point) found.4) in
      (found.0, found.1, found.2, found.3, subst (λ p. IsPointOfCall scale call p) (sym same) is));
  once = drawn.once;
  within = drawn.within;
} where
  stays : (number : ℕ) (t : Bool) → is_eq (nat_cmp (point_number point) number) ≡ t → cond t true (has number) ≡ has number
  stays number true e = sym (subst (λ n. has n ≡ true) (cmp_same (point_number point) number e) seen)
  stays number false e = refl

pub drawn_all : (scale : Scale) (calls : List TimedCall) (has : ℕ → Bool) (points : List Point) → Drawn scale calls has points → ArePointsOf scale calls points
drawn_all scale calls has points drawn = record { each = drawn.each; every = drawn.every; once = drawn.once }

pub taken : {X : Type 0} (xs : List X) (i : ℕ) (x d : X) → i < length xs → x ≡ get_or xs i d → take (i + 1) xs ≡ take i xs ++ x ∷ []
taken xs i x d less is = take_more xs i d less ∙ ap (λ y. take i xs ++ y ∷ []) (sym is)

-- a set that has one number more
pub updated : (old new : BTreeSet ℕ) (point : Point) (key : ℕ) → key ≡ point_number point → sets.Updates nat_cmp old new key true
    → (number : ℕ) → sets.contains nat_cmp new number ≡ cond (is_eq (nat_cmp (point_number point) number)) true (sets.contains nat_cmp old number)
updated old new point key is updates number = updates.0 number ∙ ap (λ k. cond (is_eq (nat_cmp k number)) true (sets.contains nat_cmp old number)) is
