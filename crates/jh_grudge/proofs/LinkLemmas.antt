-- Links pushed in ascending order.
use Rattle.std.proofs.Common.{◌≡◌, ◌≢◌, ℕ, ◌+◌, ◌<◌, ◌≤◌, Bool, true, false, List, [], ◌∷◌, ◌++◌, get_or, sym, ap, subst, ◌∙◌, inl, inr, arith}
use Rattle.std.specs.Prelude.{Result, MatchResult, IfOk}
use Rattle.std.proofs.lemmas.Result.{MatchResult-weaker}
use Rattle.std.specs.List.{All}
use Rattle.std.proofs.lemmas.Bool.{cases_eq, both_ways}
use Rattle.std.proofs.lemmas.List.Elements.{Contains-append_left, Contains-push, All-nil, All-push, All-weaker, All-contains, Contains-get_or}
use Rattle.std.proofs.lemmas.List.Quantifiers.{all_pairs_push}
use Rattle.jh_grudge.specs.Grudges.{IsBefore, CutsExactly, DropsSome, JoinsTwoOf}
use Rattle.jh_grudge.specs.Ranks.{AreLinksBefore}

pub links_none : (test : ℕ → ℕ → Bool) → AreLinksBefore test [] (0, 0)
links_none test = record {
  ascending = λ i j d less below. omega arith;
  before = All-nil (λ link. IsBefore link (0, 0));
  sound = All-nil (λ link. test link.1 link.0 ≡ true);
  whole = λ dst src passes early. absurd (let low : src ≤ 0 = early.0 in let none : dst < 0 = early.1 (omega arith) in omega arith);
}

pub links_start : (test : ℕ → ℕ → Bool) (links : List (ℕ × ℕ)) → links ≡ [] → AreLinksBefore test links (0, 0)
links_start test links empty = subst (λ (xs : List (ℕ × ℕ)). AreLinksBefore test xs (0, 0)) (sym empty) (links_none test)

-- what comes before the next link comes before the link or is it
before_next : (a src dst : ℕ) (b : ℕ) → IsBefore (a, b) (src, dst + 1) → ((a ≡ src) → (b ≡ dst) → ⊥) → IsBefore (a, b) (src, dst)
before_next a src dst b early other = (early.0, (λ same. let low : b < dst + 1 = early.1 same in let apart : b ≢ dst = other same in omega arith))

later : (link : ℕ × ℕ) (src dst : ℕ) → IsBefore link (src, dst) → IsBefore link (src, dst + 1)
later link src dst early = (early.0, (λ same. let low : link.1 < dst = early.1 same in omega arith))

pub links_push : (test : ℕ → ℕ → Bool) (links : List (ℕ × ℕ)) (src dst : ℕ) → test dst src ≡ true → AreLinksBefore test links (src, dst)
    → AreLinksBefore test (links ++ (src, dst) ∷ []) (src, dst + 1)
links_push test links src dst passes are = record {
  ascending = all_pairs_push IsBefore links (src, dst) are.ascending (λ k d below. are.before k d below);
  before = All-push (λ link. IsBefore link (src, dst + 1)) links (src, dst)
      (All-weaker (λ link. IsBefore link (src, dst)) (λ link. IsBefore link (src, dst + 1)) (λ link early. later link src dst early) links are.before)
      (omega arith, (λ same. omega arith));
  sound = All-push (λ link. test link.1 link.0 ≡ true) links (src, dst) are.sound passes;
  whole = λ b a hit early. elim (cases_eq a src) [
    | inl same ↦ elim (cases_eq b dst) [
      | inl too ↦ rw (same, too) (Contains-push links (src, dst))
      | inr apart ↦ Contains-append_left links ((src, dst) ∷ []) (a, b) (are.whole b a hit (before_next a src dst b early (λ x y. apart y)))
    ]
    | inr apart ↦ Contains-append_left links ((src, dst) ∷ []) (a, b) (are.whole b a hit (before_next a src dst b early (λ x y. apart x)))
  ];
}

pub links_skip : (test : ℕ → ℕ → Bool) (links : List (ℕ × ℕ)) (src dst : ℕ) → test dst src ≡ false → AreLinksBefore test links (src, dst)
    → AreLinksBefore test links (src, dst + 1)
links_skip test links src dst fails are = record {
  ascending = are.ascending;
  before = All-weaker (λ link. IsBefore link (src, dst)) (λ link. IsBefore link (src, dst + 1)) (λ link early. later link src dst early) links are.before;
  sound = are.sound;
  whole = λ b a hit early. are.whole b a hit (before_next a src dst b early (λ x y. both_ways (test b a) (ap (λ t. test b t) x ∙ ap (λ t. test t src) y ∙ fails) hit));
}

-- the same, as a loop has it
pub links_pushed : (test : ℕ → ℕ → Bool) (links more : List (ℕ × ℕ)) (src dst : ℕ) → more ≡ links ++ (src, dst) ∷ [] → test dst src ≡ true
    → AreLinksBefore test links (src, dst) → AreLinksBefore test more (src, dst + 1)
links_pushed test links more src dst is passes are =
    subst (λ (xs : List (ℕ × ℕ)). AreLinksBefore test xs (src, dst + 1)) (sym is) (links_push test links src dst passes are)

pub links_kept : (test : ℕ → ℕ → Bool) (links same : List (ℕ × ℕ)) (src dst : ℕ) → same ≡ links → test dst src ≡ false
    → AreLinksBefore test links (src, dst) → AreLinksBefore test same (src, dst + 1)
links_kept test links same src dst is fails are =
    subst (λ (xs : List (ℕ × ℕ)). AreLinksBefore test xs (src, dst + 1)) (sym is) (links_skip test links src dst fails are)

-- from one source to the next: no link from it goes to n or above
pub links_next : (test : ℕ → ℕ → Bool) (links : List (ℕ × ℕ)) (src n : ℕ) → ((dst : ℕ) → test dst src ≡ true → dst < n) → AreLinksBefore test links (src, n)
    → AreLinksBefore test links (src + 1, 0)
links_next test links src n low are = record {
  ascending = are.ascending;
  before = All-weaker (λ link. IsBefore link (src, n)) (λ link. IsBefore link (src + 1, 0))
      (λ link early. let less : link.0 ≤ src = early.0 in (omega arith, (λ same. absurd (omega arith)))) links are.before;
  sound = are.sound;
  whole = λ b a hit early. are.whole b a hit (
    (let at : a ≤ src + 1 = early.0 in elim (cases_eq a (src + 1)) [ inl same ↦ absurd (let none : b < 0 = early.1 same in omega arith) | inr apart ↦ omega arith ]),
    (λ same. low b (ap (λ t. test b t) (sym same) ∙ hit)),
  );
}

-- behind the last source
pub links_end : (test : ℕ → ℕ → Bool) (links all : List (ℕ × ℕ)) (src : ℕ) → all ≡ links → src ≡ 255 → AreLinksBefore test links (src + 1, 0) → AreLinksBefore test all (256, 0)
links_end test links all src is last are =
    let end : src + 1 ≡ 256 = omega arith in
    subst (λ (n : ℕ). AreLinksBefore test all (n, 0)) end (subst (λ (xs : List (ℕ × ℕ)). AreLinksBefore test xs (src + 1, 0)) (sym is) are)

-- ---- the whole list of links

pub whole_list : (test : ℕ → ℕ → Bool) (links : List (ℕ × ℕ)) (n : ℕ) → ((dst src : ℕ) → test dst src ≡ true → src < n) → AreLinksBefore test links (n, 0)
    → CutsExactly (λ dst src. test dst src ≡ true) links
whole_list test links n low are dst src = (
  (λ has. All-contains (λ link. test link.1 link.0 ≡ true) links (src, dst) are.sound has),
  (λ hit. let less : src < n = low dst src hit in are.whole dst src hit (omega arith, (λ same. absurd (omega arith)))),
)

-- two relations that say the same
pub recut : (From To : ℕ → ℕ → Type 0) (links : List (ℕ × ℕ)) → ((dst src : ℕ) → From dst src → To dst src) → ((dst src : ℕ) → To dst src → From dst src)
    → CutsExactly From links → CutsExactly To links
recut From To links there back exact dst src = ((λ has. there dst src ((exact dst src).0 has)), (λ drops. (exact dst src).1 (back dst src drops)))

pub resome : (From To : ℕ → ℕ → Type 0) → ((dst src : ℕ) → From dst src → To dst src) → DropsSome From → DropsSome To
resome From To there (dst, src, drops) = (dst, src, there dst src drops)

-- what holds of each pair that drops holds of each link
pub joins_all : (Drops : ℕ → ℕ → Type 0) (nodes : List ℕ) (links : List (ℕ × ℕ)) → ((dst src : ℕ) → Drops dst src → JoinsTwoOf nodes (src, dst)) → CutsExactly Drops links
    → All (JoinsTwoOf nodes) links
joins_all Drops nodes links joins exact k d below =
    let link = get_or links k d in joins link.1 link.0 ((exact link.1 link.0).0 (Contains-get_or links k d below))

-- ---- a grudge that is given, or none, out of memory

pub given : {X : Type 0} (answer : Result (List (ℕ × ℕ)) X) (From To : ℕ → ℕ → Type 0) → ((dst src : ℕ) → From dst src → To dst src) → ((dst src : ℕ) → To dst src → From dst src)
    → MatchResult answer (CutsExactly From) (λ _. DropsSome From) → MatchResult answer (CutsExactly To) (λ _. DropsSome To)
given answer From To there back shown =
    MatchResult-weaker answer shown (λ links exact. recut From To links there back exact) (λ _ some. resome From To there some)

pub given_among : {X : Type 0} (answer : Result (List (ℕ × ℕ)) X) (Drops : ℕ → ℕ → Type 0) (nodes : List ℕ) → ((dst src : ℕ) → Drops dst src → JoinsTwoOf nodes (src, dst))
    → MatchResult answer (CutsExactly Drops) (λ _. DropsSome Drops) → IfOk answer (All (JoinsTwoOf nodes))
given_among answer Drops nodes joins shown = MatchResult-weaker answer shown (λ links exact. joins_all Drops nodes links joins exact) (λ _ _. tt)
