-- What is written of an operation means it again.
use Rattle.std.proofs.Common.{◌≡◌, ℕ, Bool, true, false, List, [], ◌∷◌, find, filter, Option, Some, None, refl, sym, ap, ◌∙◌, inl, inr, codes}
use Rattle.std.specs.Prelude.{ℤ, not, cond, option_and_then, ok_or, Result, Ok, Err}
use Rattle.std.proofs.lemmas.Bool.{cases_Bool, and_parts}
use Rattle.jh_edn.specs.Edn.{Edn, keyword, is_keyword, is_integer, integer_of, untagged_value, map_pairs}
use Rattle.jh_ops.specs.Operation.{Operation}
use Rattle.jh_ops.specs.OperationText.{is_integer_under, integer_under, is_other, kind_of_value, process_of, result_of_needed, kind_in, f_in, process_in, ◌>>=◌, op_of_fields, op_of_pairs, parsed_op}
use Rattle.jh_ops.specs.OperationWritten.{kind_name, process_value, pairs_written, value_written}
use Rattle.jh_ops.specs.declared.op_text.OpError.{OpError}
use Rattle.jh_ops.specs.declared.op_text.OpError.TheVariants.{NotMap, BadType, BadProcess}
use Rattle.jh_ops.specs.declared.operation.Kind.{Kind}
use Rattle.jh_ops.specs.declared.operation.Process.{Process}
use Rattle.jh_edn.proofs.CitedLemmas.{pairs_in-members_of}
use Rattle.jh_ops.proofs.MapPairLemmas.{keyword_is, parsed-parts}

-- ---- what is kept as it stands

find-filtered : (test keep : Edn × Edn → Bool) → ((pair : Edn × Edn) → keep pair ≡ true → test pair ≡ false) → (pairs : List (Edn × Edn)) → find test (filter keep pairs) ≡ None
find-filtered test keep apart [] = refl
find-filtered test keep apart (p ∷ ps) =
    elim (cases_Bool (keep p)) [
      | inl hit ↦ ap (λ b. find test (cond b (p ∷ filter keep ps) (filter keep ps))) hit ∙ ap (λ b. cond b (Some p) (find test (filter keep ps))) (apart p hit) ∙ find-filtered test keep apart ps
      | inr miss ↦ ap (λ b. find test (cond b (p ∷ filter keep ps) (filter keep ps))) miss ∙ find-filtered test keep apart ps
    ]

filter-twice : (keep : Edn × Edn → Bool) (pairs : List (Edn × Edn)) → filter keep (filter keep pairs) ≡ filter keep pairs
filter-twice keep [] = refl
filter-twice keep (p ∷ ps) =
    elim (cases_Bool (keep p)) [
      | inl hit ↦ ap (λ b. filter keep (cond b (p ∷ filter keep ps) (filter keep ps))) hit ∙ ap (λ b. cond b (p ∷ filter keep (filter keep ps)) (filter keep (filter keep ps))) hit
          ∙ ap (λ qs. p ∷ qs) (filter-twice keep ps) ∙ sym (ap (λ b. cond b (p ∷ filter keep ps) (filter keep ps)) hit)
      | inr miss ↦ ap (λ b. filter keep (cond b (p ∷ filter keep ps) (filter keep ps))) miss ∙ filter-twice keep ps ∙ sym (ap (λ b. cond b (p ∷ filter keep ps) (filter keep ps)) miss)
    ]

-- a pair that is kept has no integer under a keyword whose integers are not kept
no_integer_kept : (name : List ℕ) → ((value : Edn) → is_other (keyword name, value) ≡ not (is_integer value)) → (pair : Edn × Edn) → is_other pair ≡ true → is_integer_under name pair ≡ false
no_integer_kept name taken pair kept =
    elim (cases_Bool (is_integer_under name pair)) [
      | inl hit ↦
          let parts = and_parts (is_keyword name pair.0) (is_integer pair.1) hit in
          let other : is_other pair ≡ false = ap (λ key. is_other (key, pair.1)) (keyword_is name pair.0 parts.0) ∙ taken pair.1 ∙ ap not parts.1 in
          absurd (let clash : true ≡ false = sym kept ∙ other in cc)
      | inr miss ↦ miss
    ]

no_time : (pairs : List (Edn × Edn)) → integer_under (codes "time") (filter is_other pairs) ≡ None
no_time pairs = ap (option_and_then (λ pair. integer_of pair.1)) (find-filtered (is_integer_under (codes "time")) is_other (no_integer_kept (codes "time") (λ value. refl)) pairs)

no_index : (pairs : List (Edn × Edn)) → integer_under (codes "index") (filter is_other pairs) ≡ None
no_index pairs = ap (option_and_then (λ pair. integer_of pair.1)) (find-filtered (is_integer_under (codes "index")) is_other (no_integer_kept (codes "index") (λ value. refl)) pairs)

-- ---- each part again

kind_again : (kind : Kind) → kind_of_value (keyword (kind_name kind)) ≡ Some kind
kind_again Kind.Invoke = refl
kind_again Kind.Ok = refl
kind_again Kind.Fail = refl
kind_again Kind.Info = refl

process_again : (process : Process) → process_of (process_value process) ≡ Some process
process_again (Process.Client number) = refl
process_again Process.Nemesis = refl

abbrev made : Kind → Process → Edn → Edn → Option ℤ → Option ℤ → List (Edn × Edn) → Operation
made kind process f value time index rest = record { kind = kind; process = process; f = f; value = value; time = time; index = index; rest = rest }

-- the operation of these parts, whose other pairs are kept
parsed_again : (kind : Kind) (process : Process) (f value : Edn) (time index : Option ℤ) (rest : List (Edn × Edn)) → integer_under (codes "time") rest ≡ None → integer_under (codes "index") rest ≡ None
    → filter is_other rest ≡ rest → op_of_pairs (pairs_written (made kind process f value time index rest)) ≡ Ok (made kind process f value time index rest)
parsed_again kind process f value None None rest no_t no_i kept =
    parsed-parts (pairs_written (made kind process f value None None rest)) kind f process value None None rest
    (ap (λ o. ok_or o BadType) (kind_again kind)) refl (ap (λ o. ok_or o BadProcess) (process_again process)) refl no_t no_i kept
parsed_again kind process f value (Some t) None rest no_t no_i kept =
    parsed-parts (pairs_written (made kind process f value (Some t) None rest)) kind f process value (Some t) None rest
    (ap (λ o. ok_or o BadType) (kind_again kind)) refl (ap (λ o. ok_or o BadProcess) (process_again process)) refl refl no_i kept
parsed_again kind process f value None (Some i) rest no_t no_i kept =
    parsed-parts (pairs_written (made kind process f value None (Some i) rest)) kind f process value None (Some i) rest
    (ap (λ o. ok_or o BadType) (kind_again kind)) refl (ap (λ o. ok_or o BadProcess) (process_again process)) refl no_t refl kept
parsed_again kind process f value (Some t) (Some i) rest no_t no_i kept =
    parsed-parts (pairs_written (made kind process f value (Some t) (Some i) rest)) kind f process value (Some t) (Some i) rest
    (ap (λ o. ok_or o BadType) (kind_again kind)) refl (ap (λ o. ok_or o BadProcess) (process_again process)) refl refl refl kept

-- ---- an operation that was parsed

bind_ok : {A B : Type 0} (r : Result A OpError) (parsed : A → Result B OpError) (y : B) → (r >>= parsed) ≡ Ok y → (x : A) × (r ≡ Ok x) × (parsed x ≡ Ok y)
bind_ok (Ok x) parsed y e = (x, refl, e)
bind_ok (Err refusal) parsed y e = absurd (let clash : Err refusal ≡ Ok y = e in cc)

others_parsed : (pairs : List (Edn × Edn)) (op : Operation) → op_of_pairs pairs ≡ Ok op → op.rest ≡ filter is_other pairs
others_parsed pairs op parsed =
    let kind = bind_ok (kind_in pairs) (λ k. f_in pairs >>= (λ x. process_in pairs >>= (λ p. Ok (op_of_fields k x p pairs)))) op parsed in
    let f = bind_ok (f_in pairs) (λ x. process_in pairs >>= (λ p. Ok (op_of_fields kind.0 x p pairs))) op kind.2 in
    let process = bind_ok (process_in pairs) (λ p. Ok (op_of_fields kind.0 f.0 p pairs)) op f.2 in
    let same : op_of_fields kind.0 f.0 process.0 pairs ≡ op = cc process.2 in
    sym (ap (λ o. o.rest) same)

map_parsed : (o : Option (List (Edn × Edn))) (op : Operation) → result_of_needed o NotMap op_of_pairs ≡ Ok op → (pairs : List (Edn × Edn)) × (op_of_pairs pairs ≡ Ok op)
map_parsed None op parsed = absurd (let clash : Err NotMap ≡ Ok op = parsed in cc)
map_parsed (Some pairs) op parsed = (pairs, parsed)

pub read_back : (value : Edn) (op : Operation) → parsed_op value ≡ Ok op → parsed_op (value_written op) ≡ Ok op
read_back value op parsed =
    let from = map_parsed (map_pairs (untagged_value value)) op parsed in
    let rest = others_parsed from.0 op from.1 in
    let time : integer_under (codes "time") op.rest ≡ None = ap (integer_under (codes "time")) rest ∙ no_time from.0 in
    let index : integer_under (codes "index") op.rest ≡ None = ap (integer_under (codes "index")) rest ∙ no_index from.0 in
    let kept : filter is_other op.rest ≡ op.rest = ap (filter is_other) rest ∙ filter-twice is_other from.0 ∙ sym rest in
    ap op_of_pairs (pairs_in-members_of (pairs_written op)) ∙ parsed_again op.kind op.process op.f op.value op.time op.index op.rest time index kept
