-- Calls of pairs, whose functions are numbered on the way.
use Rattle.std.proofs.Common.{◌≡◌, ◌∙◌, ℕ, ◌<◌, ◌≤◌, List, [], ◌∷◌, ◌++◌, length, get_or, take, map, Option, refl, sym, ap, subst}
use Rattle.std.specs.Prelude.{fold, option_map}
use Rattle.std.specs.Option.{option_map_or}
use Rattle.std.specs.List.{All, AllZip}
use Rattle.std.proofs.lemmas.List.{map_push, take_all}
use Rattle.std.proofs.lemmas.List.Elements.{All-push}
use Rattle.std.proofs.lemmas.List.Sums.{fold_push}
use Rattle.std.proofs.lemmas.Option.{slice_get-map, slice_get_read}
use Rattle.std.proofs.lemmas.Slice.Zip.{all_zipped_more}
use Rattle.jh_edn.specs.Edn.{Edn, nil}
use Rattle.jh_edn.specs.Normal.{normal}
use Rattle.jh_edn.specs.View.{view}
use Rattle.jh_numbers.specs.Numbers.{HasNumber, with_value}
use Rattle.jh_numbers.proofs.NumberLemmas.{stays}
use Rattle.jh_ops.specs.Operation.{Operation, operation, operations}
use Rattle.jh_ops.specs.Pairing.{history_pairs}
use Rattle.jh_ops.specs.declared.operation.Op.{Op}
use Rattle.jh_ops.specs.declared.pairs.Pair.{Pair}
use Rattle.jh_plots.specs.Calls.{AreTimedCallsOf, IsCallOf, function_at}
use Rattle.jh_plots.specs.CallsInside.{IsCallWithin, IsTimedCall}
use Rattle.jh_plots.specs.declared.calls.TimedCall.{TimedCall}

pub zip_weaker : {A B : Type 0} (R S : A → B → Type 0) → ((x : A) (y : B) → R x y → S x y) → (xs : List A) (ys : List B) → AllZip R xs ys → AllZip S xs ys
zip_weaker R S weaker [] [] h = tt
zip_weaker R S weaker [] (y ∷ ys) h = absurd h
zip_weaker R S weaker (x ∷ xs) [] h = absurd h
zip_weaker R S weaker (x ∷ xs) (y ∷ ys) h = (weaker x y h.0, zip_weaker R S weaker xs ys h.1)

-- the pairs so far have these calls, and their functions these numbers
pub record Numbered (history : List Operation) (end : ℕ) (pairs : List Pair) (numbers : List (ℕ × Edn)) (calls : List TimedCall) : Type 0 where
  pub named : numbers ≡ fold with_value [] (map (λ pair. function_at history pair.invoke) pairs)
  pub timed : AllZip (IsCallOf history numbers) pairs calls
  pub within : All (IsCallWithin end) calls

function_is : (history : List Op) (index : ℕ) (op : Op) → index < length history → op ≡ get_or history index op → function_at (operations history) index ≡ (0, normal (view op.f))
function_is history index op less at =
    ap (λ (o : Option Operation). (0, option_map_or (λ (p : Operation). normal p.f) o nil))
    (slice_get-map operation history index ∙ ap (option_map operation) (slice_get_read history (length history) index op refl less at))

pub numbered_more : (history : List Op) (end : ℕ) (pairs : List Pair) (numbers more : List (ℕ × Edn)) (calls longer : List TimedCall) (pair : Pair) (op : Op) (number : ℕ) (call : TimedCall)
    → pair.invoke < length history → op ≡ get_or history pair.invoke op → more ≡ with_value numbers (0, normal (view op.f)) → HasNumber more (0, normal (view op.f)) number
    → IsTimedCall (operations history) pair number call → IsCallWithin end call → longer ≡ calls ++ call ∷ [] → Numbered (operations history) end pairs numbers calls → Numbered (operations history) end (pairs ++ pair ∷ []) more longer
numbered_more history end pairs numbers more calls longer pair op number call less at grown has timed inside pushed numbered =
    let named : function_at (operations history) pair.invoke ≡ (0, normal (view op.f)) = function_is history pair.invoke op less at in
    let f = λ (p : Pair). function_at (operations history) p.invoke in
    record {
      named = grown ∙ (λ i. with_value (numbered.named i) (sym named i)) ∙ sym (fold_push with_value [] (map f pairs) (f pair)) ∙ ap (fold with_value []) (sym (map_push f pairs pair));
      timed = subst (AllZip (IsCallOf (operations history) more) (pairs ++ pair ∷ [])) (sym pushed)
          (all_zipped_more (IsCallOf (operations history) more) pairs calls pair call
          (zip_weaker (IsCallOf (operations history) numbers) (IsCallOf (operations history) more) (λ p c is. record {
            function = subst (λ ns. HasNumber ns (function_at (operations history) p.invoke) c.function) (sym grown) (stays numbers (function_at (operations history) p.invoke) (0, normal (view op.f)) c.function is.function);
            asked = is.asked;
            ended = is.ended;
            kind = is.kind;
          }) pairs calls numbered.timed)
          (record {
            function = subst (λ one. HasNumber more one call.function) (sym named) (subst (HasNumber more (0, normal (view op.f))) (sym timed.function) has);
            asked = timed.asked;
            ended = timed.ended;
            kind = timed.kind;
          }));
      within = subst (All (IsCallWithin end)) (sym pushed) (All-push (IsCallWithin end) calls call numbered.within inside);
    }

pub numbered_all : (history : List Operation) (end : ℕ) (pairs : List Pair) (i : ℕ) (numbers : List (ℕ × Edn)) (calls : List TimedCall) → length pairs ≤ i → pairs ≡ history_pairs history → Numbered history end (take i pairs) numbers calls
    → Numbered history end (history_pairs history) numbers calls
numbered_all history end pairs i numbers calls past are numbered = subst (λ ps. Numbered history end ps numbers calls) (take_all i pairs past ∙ are) numbered

pub calls_numbered : (history : List Operation) (end : ℕ) (numbers : List (ℕ × Edn)) (calls : List TimedCall) → Numbered history end (history_pairs history) numbers calls → AreTimedCallsOf history calls
calls_numbered history end numbers calls numbered = subst (λ ns. AllZip (IsCallOf history ns) (history_pairs history) calls) numbered.named numbered.timed
