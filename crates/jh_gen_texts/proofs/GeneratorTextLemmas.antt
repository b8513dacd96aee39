-- What is written of a generator means that generator, and what is written member by member is what is written of all.
use Rattle.std.proofs.Common.{◌≡◌, refl, sym, ap, ap₂, subst, ◌∙◌, ℕ, zero, suc, ◌+◌, ◌^◌, ◌<◌, List, [], ◌∷◌, ◌++◌, length, take, Ok, Err, get_or, arith}
use Rattle.std.specs.Prelude.{Some, pos, option_map, Result, IfOk}
use Rattle.std.proofs.lemmas.Bool.{lt-ltb}
use Rattle.jh_edn.specs.Edn.{Edn, int, items_of}
use Rattle.jh_edn.specs.View.{view, views}
use Rattle.jh_edn.specs.declared.value.Value.{Value}
use Rattle.jh_gen.specs.Generator.{Generator, nothing, once, rising, forever, seq, limit, mix, phases, reserve, each_thread, clients, nemesis_only, Generators, no_generators, generator, ShareList, no_shares, share, row_of, share_list, generator_size, generator_list_size, size_shares}
use Rattle.jh_gen.specs.View.{generator_of, generators_of, shares_of}
use Rattle.jh_gen.specs.GeneratorText.{parsed_call, parsed_generator, members, reserve_operands, operands_of, small_number_of}
use Rattle.jh_gen.specs.declared.generator.Gen.{Gen}
use Rattle.jh_gen_texts.specs.GeneratorWritten.{edn_of_call, edn_of_generator, values_of_generators, values_of_shares, IsWritableCall, IsWritableGenerator, AreWritable, AreWritableShares}
use Rattle.jh_gen.specs.declared.rise.Rise.TheVariants.{Adds, Writes}
use Rattle.jh_ops.specs.declared.call.Call.{Call}
use Rattle.jh_ops.specs.declared.call.Call.TheVariants.{Client, Step}
use Rattle.jh_ops.specs.declared.call.Request.TheVariants.{Read, Write, Cas, Add, Generate, Txn}

-- ---- read back

number_back : (n : ℕ) → n < 2 ^ 32 → small_number_of (pos n) ≡ Some n
number_back n lt = rw (lt-ltb n (2 ^ 32) lt) refl

call_back : (call : Call) → IsWritableCall call → parsed_call (edn_of_call call) ≡ Some call
call_back (Client Read) small = refl
call_back (Client (Write z)) small = refl
call_back (Client (Cas old new)) small = refl
call_back (Client (Add z)) small = refl
call_back (Client Generate) small = refl
call_back (Client Txn) small = refl
call_back (Step i) small = ap (option_map Step) (number_back i small)

mutual
  pub generator_back : (g : Generator) → IsWritableGenerator g → parsed_generator (edn_of_generator g) ≡ Some g
  generator_back nothing small = refl
  generator_back (once call) small = ap (option_map once) (call_back call small)
  generator_back (rising Adds z) small = refl
  generator_back (rising Writes z) small = refl
  generator_back (forever call) small = ap (option_map forever) (call_back call small)
  generator_back (seq gs) small = ap (option_map seq) (row_back gs small)
  generator_back (limit n g) small = rw (number_back n small.0, generator_back g small.1) refl
  generator_back (mix gs) small = ap (option_map mix) (row_back gs small)
  generator_back (phases gs) small = ap (option_map phases) (row_back gs small)
  generator_back (reserve ms g) small = ap (option_map (λ r. reserve r.0 r.1)) (shares_back ms (edn_of_generator g) g small.0 (generator_back g small.1))
  generator_back (each_thread g) small = ap (option_map each_thread) (generator_back g small)
  generator_back (clients g) small = ap (option_map clients) (generator_back g small)
  generator_back (nemesis_only g) small = ap (option_map nemesis_only) (generator_back g small)

  row_back : (gs : Generators) → AreWritable gs → members (operands_of (items_of (values_of_generators gs))) ≡ Some gs
  row_back no_generators small = refl
  row_back (generator g gs) small = rw (generator_back g small.0, row_back gs small.1) refl

  shares_back : (ms : ShareList) (last : Edn) (g : Generator) → AreWritableShares ms → parsed_generator last ≡ Some g → reserve_operands (operands_of (items_of (values_of_shares ms ++ last ∷ []))) ≡ Some (ms, g)
  shares_back no_shares last g small parsed = rw parsed refl
  shares_back (share n h ms) last g small parsed =
      rw (number_back n small.0, generator_back h small.1, shares_back ms last g small.2 parsed) refl

-- what a call gives that wrote the text of a generator
pub result_back : {E : Type 0} (g : Generator) (result : Result Value E) → IfOk result (λ value. view value ≡ edn_of_generator g) → IfOk result (λ value. IsWritableGenerator g)
    → IfOk result (λ value. parsed_generator (view value) ≡ Some g)
result_back g (Ok value) is small = ap parsed_generator is ∙ generator_back g small
result_back g (Err e) is small = tt

-- ---- what is inside is smaller

pub member_falls : (xs : List Gen) (i : ℕ) (x : Gen) → i < length xs → x ≡ get_or xs i x → generator_size (generator_of x) < generator_list_size (generators_of xs)
member_falls [] i x lt e = absurd (omega arith)
member_falls (y ∷ xs) zero x lt e = subst (λ z. generator_size (generator_of z) < generator_list_size (generators_of (y ∷ xs))) (sym e) (omega arith)
member_falls (y ∷ xs) (suc i) x lt e = let h = member_falls xs i x (omega arith) e in omega (arith, h)

pub share_falls : (xs : List (ℕ × Gen)) (i : ℕ) (x : ℕ × Gen) → i < length xs → x ≡ get_or xs i x → generator_size (generator_of x.1) < size_shares (shares_of xs)
share_falls [] i x lt e = absurd (omega arith)
share_falls (y ∷ xs) zero x lt e = subst (λ z. generator_size (generator_of z.1) < size_shares (shares_of (y ∷ xs))) (sym e) (omega arith)
share_falls (y ∷ xs) (suc i) x lt e = let h = share_falls xs i x (omega arith) e in omega (arith, h)

-- ---- member by member

views_push : (values : List Value) (value : Value) → views (values ++ value ∷ []) ≡ views values ++ view value ∷ []
views_push [] value = refl
views_push (v ∷ vs) value = ap (λ ts. view v ∷ ts) (views_push vs value)

appended_twice : {X : Type 0} (xs : List X) (y z : X) → (xs ++ y ∷ []) ++ z ∷ [] ≡ xs ++ y ∷ z ∷ []
appended_twice [] y z = refl
appended_twice (x ∷ xs) y z = ap (λ rest. x ∷ rest) (appended_twice xs y z)

members_with : (xs : List Gen) (i : ℕ) (x : Gen) → i < length xs → x ≡ get_or xs i x
    → values_of_generators (row_of (generators_of (take (suc i) xs))) ≡ values_of_generators (row_of (generators_of (take i xs))) ++ edn_of_generator (generator_of x) ∷ []
members_with [] i x lt e = absurd (omega arith)
members_with (y ∷ xs) zero x lt e = ap (λ z. edn_of_generator (generator_of z) ∷ []) (sym e)
members_with (y ∷ xs) (suc i) x lt e = ap (λ ts. edn_of_generator (generator_of y) ∷ ts) (members_with xs i x (omega arith) e)

members_small : (xs : List Gen) (i : ℕ) (x : Gen) → i < length xs → x ≡ get_or xs i x
    → AreWritable (row_of (generators_of (take i xs))) → IsWritableGenerator (generator_of x) → AreWritable (row_of (generators_of (take (suc i) xs)))
members_small [] i x lt e so_far small = absurd (omega arith)
members_small (y ∷ xs) zero x lt e so_far small = subst (λ z. AreWritable (row_of (generators_of (z ∷ [])))) e (small, tt)
members_small (y ∷ xs) (suc i) x lt e so_far small = (so_far.0, members_small xs i x (omega arith) e so_far.1 small)

-- what is written behind a name of so many generators, and that their numbers are small
pub record RowWritten (name : Edn) (xs : List Gen) (k : ℕ) (values : List Value) : Type 0 where
  pub text : views values ≡ name ∷ values_of_generators (row_of (generators_of (take k xs)))
  pub writable : AreWritable (row_of (generators_of (take k xs)))

pub row_written : (name : Edn) (xs : List Gen) (i : ℕ) (x : Gen) (values after : List Value) (value : Value) → i < length xs → x ≡ get_or xs i x
    → RowWritten name xs i values → after ≡ values ++ value ∷ [] → view value ≡ edn_of_generator (generator_of x) → IsWritableGenerator (generator_of x) → RowWritten name xs (i + 1) after
row_written name xs i x values after value lt e so_far pushed is small =
    let next : suc i ≡ i + 1 = omega arith in
    subst (λ k. RowWritten name xs k after) next (record {
      text = ap views pushed ∙ views_push values value ∙ ap₂ (λ ts t. ts ++ t ∷ []) so_far.text is ∙ ap (λ ts. name ∷ ts) (sym (members_with xs i x lt e));
      writable = members_small xs i x lt e so_far.writable small;
    })

shares_with : (xs : List (ℕ × Gen)) (i : ℕ) (x : ℕ × Gen) → i < length xs → x ≡ get_or xs i x
    → values_of_shares (share_list (shares_of (take (suc i) xs))) ≡ values_of_shares (share_list (shares_of (take i xs))) ++ int (pos x.0) ∷ edn_of_generator (generator_of x.1) ∷ []
shares_with [] i x lt e = absurd (omega arith)
shares_with (y ∷ xs) zero x lt e = ap (λ z. int (pos z.0) ∷ edn_of_generator (generator_of z.1) ∷ []) (sym e)
shares_with (y ∷ xs) (suc i) x lt e = ap (λ ts. int (pos y.0) ∷ edn_of_generator (generator_of y.1) ∷ ts) (shares_with xs i x (omega arith) e)

shares_small : (xs : List (ℕ × Gen)) (i : ℕ) (x : ℕ × Gen) → i < length xs → x ≡ get_or xs i x
    → AreWritableShares (share_list (shares_of (take i xs))) → x.0 < 2 ^ 32 → IsWritableGenerator (generator_of x.1) → AreWritableShares (share_list (shares_of (take (suc i) xs)))
shares_small [] i x lt e so_far number small = absurd (omega arith)
shares_small (y ∷ xs) zero x lt e so_far number small = subst (λ z. AreWritableShares (share_list (shares_of (z ∷ [])))) e (number, small, tt)
shares_small (y ∷ xs) (suc i) x lt e so_far number small = (so_far.0, so_far.1, shares_small xs i x (omega arith) e so_far.2 number small)

-- what is written of so many shares, and that their numbers are small
pub record SharesWritten (name : Edn) (xs : List (ℕ × Gen)) (k : ℕ) (values : List Value) : Type 0 where
  pub text : views values ≡ name ∷ values_of_shares (share_list (shares_of (take k xs)))
  pub writable : AreWritableShares (share_list (shares_of (take k xs)))

pub share_written : (name : Edn) (xs : List (ℕ × Gen)) (i : ℕ) (x : ℕ × Gen) (values between after : List Value) (number value : Value) → i < length xs → x ≡ get_or xs i x
    → SharesWritten name xs i values → between ≡ values ++ number ∷ [] → after ≡ between ++ value ∷ [] → view number ≡ int (pos x.0) → view value ≡ edn_of_generator (generator_of x.1)
    → x.0 < 2 ^ 32 → IsWritableGenerator (generator_of x.1) → SharesWritten name xs (i + 1) after
share_written name xs i x values between after number value lt e so_far first second counts is below small =
    let next : suc i ≡ i + 1 = omega arith in
    subst (λ k. SharesWritten name xs k after) next (record {
      text = ap views second ∙ views_push between value ∙ ap (λ vs. views vs ++ view value ∷ []) first ∙ ap (λ ts. ts ++ view value ∷ []) (views_push values number)
          ∙ appended_twice (views values) (view number) (view value)
          ∙ ap (λ ts. ts ++ view number ∷ view value ∷ []) so_far.text ∙ ap₂ (λ n t. name ∷ (values_of_shares (share_list (shares_of (take i xs))) ++ n ∷ t ∷ [])) counts is
          ∙ ap (λ ts. name ∷ ts) (sym (shares_with xs i x lt e));
      writable = shares_small xs i x lt e so_far.writable below small;
    })
