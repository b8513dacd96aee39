use Rattle.std.proofs.Common.{ℕ, eqb, sym, ◌∙◌}
use Rattle.std.proofs.lemmas.List.Sorted.{IsNonDecreasingBy-from_sort, list_any-IsPermutation}
use Rattle.jh_txn_edges.proofs.moments.moments.Goals as goal

pub returns : goal.returns
returns c =
    let old = c.in_ok-moments.moments.items in
    let new = c.sort_unstable.new.self.items in
    record {
      rising = λ i j le low. IsNonDecreasingBy-from_sort (λ (x : ℕ). x) new c.sort_unstable.ensures.sorted i j 0 le low;
      whole = λ place index h. sym (list_any-IsPermutation (λ y. eqb y index) old new c.sort_unstable.ensures.permutation) ∙ c.in_ok-moments.ensures.whole place index h;
      only = λ index h. c.in_ok-moments.ensures.only index (list_any-IsPermutation (λ y. eqb y index) old new c.sort_unstable.ensures.permutation ∙ h);
    }
