use Rattle.std.proofs.Common.{◌≡◌, ℕ, true, List, length, subst}
use Rattle.std.specs.Prelude.{◌↔◌}
use Rattle.std.specs.List.{Contains}
use Rattle.std.specs.List.Sorted.{IsBinarySearchResult, IsSearchInRange}
use Rattle.jh_grudge.proofs.SearchLemmas.{link_cmp, found}
use Rattle.jh_grudge.proofs.grudges.Grudge.drops.Goals as goal

pub returns : goal.returns
returns c =
    let link : ℕ × ℕ = (c.args.src, c.args.dst) in
    let here = c.deref.ensures.value in
    let f = found c.self.inside.links.items link c.binary_search.result c.self.invariant
    (subst (λ (links : List (ℕ × ℕ)). IsSearchInRange c.binary_search.result (length links)) here c.binary_search.ensures.bound)
    (subst (λ (links : List (ℕ × ℕ)). IsBinarySearchResult (λ y. link_cmp y link) links c.binary_search.result) here c.binary_search.ensures.position) in
    subst (λ (links : List (ℕ × ℕ)). (c.is_ok.result ≡ true) ↔ Contains links link) c.self.view_is (rw c.is_ok.ensures.value f)
