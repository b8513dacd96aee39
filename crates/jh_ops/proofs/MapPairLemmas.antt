-- The pairs of an operation's map: their keywords, and the operation that they mean, part by part.
use Rattle.std.proofs.Common.{◌≡◌, ℕ, true, List, filter, Option, Some, ap, ◌∙◌}
use Rattle.std.specs.Prelude.{ℤ, ok_or, unwrap_or, codes, Ok}
use Rattle.std.proofs.lemmas.Slice.Eq.{bytes_eq-Decides}
use Rattle.jh_edn.specs.Edn.{Edn, nil, boolean, int, char, str, keyword, symbol, list, vector, mapping, set, tagged, is_keyword, value_under}
use Rattle.jh_ops.specs.OperationText.{integer_under, is_other, kind_in, f_in, process_in, ◌>>=◌, op_of_fields, op_of_pairs}
use Rattle.jh_ops.specs.declared.op_text.OpError.TheVariants.{MissingF}
use Rattle.jh_ops.specs.declared.operation.Kind.{Kind}
use Rattle.jh_ops.specs.declared.operation.Process.{Process}

-- ---- keywords

pub keyword_is : (name : List ℕ) (key : Edn) → is_keyword name key ≡ true → key ≡ keyword name
keyword_is name nil hit = absurd cc
keyword_is name (boolean b) hit = absurd cc
keyword_is name (int z) hit = absurd cc
keyword_is name (char x) hit = absurd cc
keyword_is name (str text) hit = absurd cc
keyword_is name (keyword text) hit = ap keyword ((bytes_eq-Decides text name).0 hit)
keyword_is name (symbol text) hit = absurd cc
keyword_is name (list xs) hit = absurd cc
keyword_is name (vector xs) hit = absurd cc
keyword_is name (mapping ms) hit = absurd cc
keyword_is name (set xs) hit = absurd cc
keyword_is name (tagged tag x) hit = absurd cc

-- ---- the operation

pub parsed-parts : (pairs : List (Edn × Edn)) (kind : Kind) (f : Edn) (process : Process) (value : Edn) (time index : Option ℤ) (rest : List (Edn × Edn)) → kind_in pairs ≡ Ok kind
    → value_under (codes "f") pairs ≡ Some f → process_in pairs ≡ Ok process → unwrap_or (value_under (codes "value") pairs) nil ≡ value
    → integer_under (codes "time") pairs ≡ time → integer_under (codes "index") pairs ≡ index → filter is_other pairs ≡ rest
    → op_of_pairs pairs ≡ Ok (record { kind = kind; process = process; f = f; value = value; time = time; index = index; rest = rest })
parsed-parts pairs kind f process value time index rest has_kind has_f who has_value has_time has_index has_rest =
    ap (λ r. r >>= (λ k. f_in pairs >>= (λ x. process_in pairs >>= (λ p. Ok (op_of_fields k x p pairs))))) has_kind
    ∙ ap (λ o. ok_or o MissingF >>= (λ x. process_in pairs >>= (λ p. Ok (op_of_fields kind x p pairs)))) has_f
    ∙ ap (λ r. r >>= (λ p. Ok (op_of_fields kind f p pairs))) who
    ∙ ap (λ v. Ok (record { kind = kind; process = process; f = f; value = v; time = integer_under (codes "time") pairs; index = integer_under (codes "index") pairs; rest = filter is_other pairs })) has_value
    ∙ ap (λ t. Ok (record { kind = kind; process = process; f = f; value = value; time = t; index = integer_under (codes "index") pairs; rest = filter is_other pairs })) has_time
    ∙ ap (λ i. Ok (record { kind = kind; process = process; f = f; value = value; time = time; index = i; rest = filter is_other pairs })) has_index
    ∙ ap (λ r. Ok (record { kind = kind; process = process; f = f; value = value; time = time; index = index; rest = r })) has_rest
