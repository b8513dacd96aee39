-- A judge that is not asked goes on, and one that goes on twice does.
use Rattle.std.proofs.Common.{ℕ, ◌∙◌, refl, arith}
use Rattle.jh_shrink.specs.ShrinkingInside.{AskedSince}

module _ {J : Type 0} (is_ready : J → Type 0) (becomes : J → J → Type 0) (asked : J → ℕ) where
  pub goes_nowhere : ((j : J) → becomes j j) → (j : J) (left : ℕ) → is_ready j → AskedSince is_ready becomes asked j left j left
  goes_nowhere stays j left ready = record { ready = ready; later = stays j; spent = refl; fewer = omega arith }

  pub goes_twice : ((a b c : J) → becomes a b → becomes b c → becomes a c) → (a b c : J) (l m n : ℕ)
      → AskedSince is_ready becomes asked a l b m → AskedSince is_ready becomes asked b m c n → AskedSince is_ready becomes asked a l c n
  goes_twice goes_on a b c l m n one two = record {
    ready = two.ready;
    later = goes_on a b c one.later two.later;
    spent = two.spent ∙ one.spent;
    fewer = omega (arith, one.fewer, two.fewer);
  }
