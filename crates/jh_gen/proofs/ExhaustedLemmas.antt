-- What is left of a generator is done where the generator is spent, and gives nothing then.
use Rattle.std.proofs.Common.{◌≡◌, refl, sym, ap, ap₂, ◌∙◌, ℕ, zero, suc, ◌+◌, ◌-◌, inl, inr, Bool, true, false, cond, ◌&&◌, ◌||◌, List, [], ◌∷◌, ◌++◌, length, map, take, drop}
use Rattle.std.specs.Prelude.{◌==◌, ◌%◌, filter, None}
use Rattle.std.specs.List.{list_all}
use Rattle.std.proofs.lemmas.Bool.{cond-true, cond-false, and_parts, cases_Bool}
use Rattle.jh_gen.specs.Generator.{Generator, nothing, once, rising, forever, seq, limit, mix, phases, reserve, each_thread, clients, nemesis_only, Generators, no_generators, generator, ShareList, no_shares, share}
use Rattle.jh_gen.specs.Trace.{Trace, trace_under}
use Rattle.jh_gen.specs.Scope.{Scope, is_client_thread, is_nemesis_thread, is_share_thread, is_beyond, is_in_scope, Question}
use Rattle.jh_gen.specs.Offers.{shares_len, is_exhausted, are_all_exhausted, are_shares_exhausted, head_of, first_some, picked_value}
use Rattle.jh_gen.specs.Fits.{shares_sum}
use Rattle.jh_gen.specs.State.{GeneratorState, gone, one, counting, endless, in_turn, limited, mixed, split, GeneratorStates, no_states, state, Lots, no_lots, lot, is_done, are_all_done, are_lots_done, taking_within, taking, open_takings, lot_taking, state_left, states_left, lots_of, joined_lots, lots_each}
use Rattle.jh_gen.proofs.TraceLemmas.{sub_zero}

done_unless : (b : Bool) (s : GeneratorState) → is_done s ≡ false → is_done (cond b gone s) ≡ b
done_unless true s h = refl
done_unless false s h = h

done_each : (f : ℕ → GeneratorState) (p : ℕ → Bool) (xs : List ℕ) → ((x : ℕ) → is_done (f x) ≡ p x) → are_lots_done (lots_each f xs) ≡ list_all p xs
done_each f p [] h = refl
done_each f p (x ∷ xs) h = ap₂ (λ a b. a && b) (h x) (done_each f p xs h)

and_true : (b : Bool) → (b && true) ≡ b
and_true true = refl
and_true false = refl

and_assoc : (a b c : Bool) → ((a && b) && c) ≡ (a && (b && c))
and_assoc true b c = refl
and_assoc false b c = refl

done_and : (ls : Lots) (threads : List ℕ) (s : GeneratorState) → are_lots_done (joined_lots ls (lot threads s no_lots)) ≡ (are_lots_done ls && is_done s)
done_and no_lots threads s = and_true (is_done s)
done_and (lot xs r ls) threads s = ap (λ b. is_done r && b) (done_and ls threads s) ∙ sym (and_assoc (is_done r) (are_lots_done ls) (is_done s))

mutual
  pub done_of : (g : Generator) (t : Trace) (S : Scope) → is_done (state_left g t S) ≡ is_exhausted g t S
  done_of nothing t S = refl
  done_of (once c) t S = done_unless (is_exhausted (once c) t S) (one c) refl
  done_of (rising r n) t S = done_unless (is_exhausted (rising r n) t S) _ refl
  done_of (forever c) t S = done_unless (is_exhausted (forever c) t S) (endless c) refl
  done_of (seq gs) t S = done_all gs 0 t S
  done_of (limit n g) t S = ap₂ (λ a b. a || b) (sub_zero n (length t)) (done_of g (trace_under 0 t) S)
  done_of (mix gs) t S = done_all gs 0 t S
  done_of (phases gs) t S = done_all gs 0 t S
  done_of (reserve ms g) t S =
      done_and (lots_of ms 0 0 t S) _ _
      ∙ ap₂ (λ a b. a && b) (done_shares ms 0 0 t S) (done_of g (trace_under (shares_len ms) t) (filter (is_beyond (shares_sum ms)) S))
  done_of (each_thread g) t S = done_each _ _ S (λ x. done_of g (trace_under x t) (x ∷ []))
  done_of (clients g) t S = and_true _ ∙ done_of g (trace_under 0 t) (filter is_client_thread S)
  done_of (nemesis_only g) t S = and_true _ ∙ done_of g (trace_under 0 t) (filter is_nemesis_thread S)

  pub done_all : (gs : Generators) (i : ℕ) (t : Trace) (S : Scope) → are_all_done (states_left gs i t S) ≡ are_all_exhausted gs i t S
  done_all no_generators i t S = refl
  done_all (generator g gs) i t S = ap₂ (λ a b. a && b) (done_of g (trace_under i t) S) (done_all gs (suc i) t S)

  pub done_shares : (ms : ShareList) (i first : ℕ) (t : Trace) (S : Scope) → are_lots_done (lots_of ms i first t S) ≡ are_shares_exhausted ms i first t S
  done_shares no_shares i first t S = refl
  done_shares (share n g ms) i first t S =
      ap₂ (λ a b. a && b) (done_of g (trace_under i t) (filter (is_share_thread first n) S)) (done_shares ms (suc i) (first + n) t S)

drop_nil : {X : Type 0} (k : ℕ) → drop {A = X} k [] ≡ []
drop_nil zero = refl
drop_nil (suc k) = refl

take_nil : {X : Type 0} (k : ℕ) → take {A = X} k [] ≡ []
take_nil zero = refl
take_nil (suc k) = refl

pub picked_nil : {X : Type 0} (w : ℕ) → picked_value {X = X} w [] ≡ None
picked_nil w = ap₂ (λ a b. first_some (a ++ b)) (drop_nil (w % 0)) (take_nil (w % 0))

mutual
  pub done_taken : (s : GeneratorState) (q : Question) → is_done s ≡ true → taking s q ≡ None
  done_taken gone q h = refl
  done_taken (one c) q h = absurd cc
  done_taken (counting r n) q h = absurd cc
  done_taken (endless c) q h = absurd cc
  done_taken (in_turn awaited ss) q h = ap (λ os. taking_within (in_turn awaited) (head_of os)) (done_open awaited ss q h)
  done_taken (limited n s) q h =
      elim (cases_Bool (n == 0)) [
        | inl hit ↦ cond-true (n == 0) _ _ hit
        | inr miss ↦ cond-false (n == 0) _ _ miss
            ∙ ap (taking_within (limited (n - 1))) (done_taken s q (ap (λ b. b || is_done s) (sym miss) ∙ h))
      ]
  done_taken (mixed ss) q h =
      ap (λ os. taking_within mixed (picked_value q.random_number os)) (done_open [] ss q h) ∙ ap (taking_within mixed) (picked_nil q.random_number)
  done_taken (split ls) q h = ap (taking_within split) (done_lots ls q h)

  pub done_open : (awaited : List ℕ) (ss : GeneratorStates) (q : Question) → are_all_done ss ≡ true → open_takings awaited ss q ≡ []
  done_open awaited no_states q h = refl
  done_open awaited (state b s ss) q h =
      let parts = and_parts (is_done s) (are_all_done ss) h in
      cond-true (is_done s) _ _ parts.0 ∙ ap (map (taking_within (state b s))) (done_open awaited ss q parts.1)

  pub done_lots : (ls : Lots) (q : Question) → are_lots_done ls ≡ true → lot_taking ls q ≡ None
  done_lots no_lots q h = refl
  done_lots (lot threads s ls) q h =
      let parts = and_parts (is_done s) (are_lots_done ls) h in
      elim (cases_Bool (is_in_scope threads q.asker)) [
        | inl hit ↦ cond-true (is_in_scope threads q.asker) _ _ hit ∙ ap (taking_within (λ r. lot threads r ls)) (done_taken s q parts.0)
        | inr miss ↦ cond-false (is_in_scope threads q.asker) _ _ miss ∙ ap (taking_within (lot threads s)) (done_lots ls q parts.1)
      ]
