-- A configuration that goes on in place.
use Rattle.std.proofs.Common.{◌≡◌, ℕ, Some, List, [], ◌∷◌, ◌++◌, length, slice_get, refl, sym, ap, subst, ◌∙◌, arith}
use Rattle.std.proofs.lemmas.List.{append_assoc, length_push}
use Rattle.jh_linear.specs.declared.sorted_ops.Problem.{Problem}
use Rattle.jh_linear.specs.declared.config.Config.{Config}
use Rattle.jh_linear.specs.declared.moves.Move.{Move}
use Rattle.jh_linear.specs.SearchInside.{AreMoves, CanReach, HasGone, IsDead, IsMadeBy, IsProblem, LeadsTo, source_number}
use Rattle.jh_linear.proofs.LeadLemmas.{one_leads}
use Rattle.jh_linear.proofs.MoveLemmas.{nothing_there}

no_move : (moves : List Move) → moves ≡ [] → (i : ℕ) (move : Move) → slice_get moves i ≡ Some move → ⊥
no_move moves none i move at = nothing_there i move (subst (λ (ms : List Move). slice_get ms i ≡ Some move) none at)

module _ (problem : Problem) (stood : IsProblem problem) where
  pub gone_none : (config : Config) (placed : List ℕ) → HasGone problem config placed config placed
  gone_none config placed = record {
    rises = omega arith;
    longer = omega arith;
    sizes = refl;
    stands = λ front stands. stands;
    carries = λ front stands n past few reach. reach;
  }

  -- the only way to go on was taken
  pub gone_on : (first : Config) (placed : List ℕ) (config : Config) (placed' : List ℕ) (next : Config) (placed'' : List ℕ) (moves : List Move) (move : Move)
      → HasGone problem first placed config placed' → AreMoves problem config moves → ((i : ℕ) (m : Move) → slice_get moves i ≡ Some m → m ≡ move)
      → IsMadeBy problem config placed' move next placed'' → HasGone problem first placed next placed''
  gone_on first placed config placed' next placed'' moves move gone are only made =
      let p : ℕ = source_number problem config move.source in
      let after = made.after in
      let order : (front : List ℕ) → front ++ placed'' ≡ (front ++ placed') ++ p ∷ [] = λ front. ap (λ o. front ++ o) made.placed_is ∙ sym (append_assoc front placed' (p ∷ [])) in
      record {
        rises = omega (arith, gone.rises, after.rises);
        longer = omega (arith, gone.longer, length_push placed' p, ap length made.placed_is);
        sizes = after.sizes ∙ gone.sizes;
        stands = λ front stands. subst (λ o. LeadsTo problem o next) (sym (order front)) (after.stands (front ++ placed') (gone.stands front stands));
        carries = λ front stands n past few reach.
            let now = gone.carries front stands n (omega (arith, past, after.rises)) few reach in
            let led = one_leads problem stood n few (front ++ placed') config (gone.stands front stands) (omega (arith, past, after.rises)) moves are now in
            let is : led.1 ≡ move = only led.0 led.1 led.2 in
            let on : CanReach problem n ((front ++ placed') ++ p ∷ []) move.value = subst (λ m. CanReach problem n ((front ++ placed') ++ source_number problem config m.source ∷ []) m.value) is led.3 in
            subst (λ o. CanReach problem n o next.value) (sym (order front)) (subst (λ v. CanReach problem n ((front ++ placed') ++ p ∷ []) v) (sym after.value_is) on);
      }

  -- there is no way to go on
  pub dead_end : (config : Config) (placed : List ℕ) (moves : List Move) → moves ≡ [] → AreMoves problem config moves
      → (front : List ℕ) → LeadsTo problem (front ++ placed) config → IsDead problem config.stage (front ++ placed) config.value
  dead_end config placed moves none are front stands n past few reach =
      let led = one_leads problem stood n few (front ++ placed) config stands past moves are reach in
      no_move moves none led.0 led.1 led.2
