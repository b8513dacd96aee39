-- What is written of an operation that can be printed can be printed, and its keys differ.
use Rattle.std.proofs.Common.{◌≡◌, ℕ, ◌<◌, true, List, [], ◌∷◌, ◌++◌, codes, Option, Some, None, refl, sym, subst, arith}
use Rattle.std.specs.Prelude.{ℤ, FitsSigned, IfSome}
use Rattle.std.specs.Int.{w64}
use Rattle.std.specs.List.{AllByRecursion}
use Rattle.jh_edn.specs.Bytes.{is_first, is_symbol, is_digit}
use Rattle.jh_edn.specs.Edn.{Edn, keyword, members_of}
use Rattle.jh_edn.specs.Equality.{IsNew, keys_of, KeysDiffer}
use Rattle.jh_edn.specs.Printable.{IsPrintable, ArePrintablePairs}
use Rattle.jh_edn.specs.Spelling.{depth_limit, is_name}
use Rattle.jh_ops.specs.Operation.{Operation}
use Rattle.jh_ops.specs.OperationWritten.{IsWritable, kind_name, process_value, integer_pairs, four_pairs, pairs_written, value_written}
use Rattle.jh_ops.specs.declared.operation.Kind.{Kind}
use Rattle.jh_ops.specs.declared.operation.Process.{Process}
use Rattle.jh_laws.specs.HistoryLines.{CanPrint}
use Rattle.jh_laws.proofs.KeyLemmas.{keywords_before}

-- ---- what can be printed of an operation

index_is : is_name (codes "index") ≡ true
unfolding is_name is_first is_symbol is_digit
index_is = refl

time_is : is_name (codes "time") ≡ true
unfolding is_name is_first is_symbol is_digit
time_is = refl

type_is : is_name (codes "type") ≡ true
unfolding is_name is_first is_symbol is_digit
type_is = refl

process_is : is_name (codes "process") ≡ true
unfolding is_name is_first is_symbol is_digit
process_is = refl

f_is : is_name (codes "f") ≡ true
unfolding is_name is_first is_symbol is_digit
f_is = refl

value_is : is_name (codes "value") ≡ true
unfolding is_name is_first is_symbol is_digit
value_is = refl

nemesis_is : is_name (codes "nemesis") ≡ true
unfolding is_name is_first is_symbol is_digit
nemesis_is = refl

kind_is : (kind : Kind) → is_name (kind_name kind) ≡ true
unfolding is_name is_first is_symbol is_digit
kind_is Kind.Invoke = refl
kind_is Kind.Ok = refl
kind_is Kind.Fail = refl
kind_is Kind.Info = refl

pairs_joined : (d : ℕ) (xs ys : List (Edn × Edn)) → ArePrintablePairs d (members_of xs) → ArePrintablePairs d (members_of ys) → ArePrintablePairs d (members_of (xs ++ ys))
pairs_joined d [] ys h k = k
pairs_joined d (x ∷ xs) ys h k = (h.0, h.1, pairs_joined d xs ys h.2 k)

integer_printable : (d : ℕ) (name : List ℕ) (o : Option ℤ) → is_name name ≡ true → IfSome o (FitsSigned w64) → ArePrintablePairs d (members_of (integer_pairs name o))
integer_printable d name None named h = tt
integer_printable d name (Some z) named h = (named, h, tt)

process_printable : (d : ℕ) (process : Process) → IsWritable process → IsPrintable d (process_value process)
process_printable d (Process.Client number) h = record { sfits = h }
process_printable d Process.Nemesis h = nemesis_is

some_depth : 0 < depth_limit
some_depth = omega arith

pub operation_printable : (op : Operation) → CanPrint op → IsPrintable depth_limit (value_written op)
operation_printable op h =
    let four : ArePrintablePairs 63 (members_of (four_pairs op)) =
    (type_is, kind_is op.kind, (process_is, process_printable 63 op.process h.process, (f_is, h.f, (value_is, h.value, tt)))) in
    let last = pairs_joined 63 (four_pairs op) op.rest four h.rest in
    let timed = pairs_joined 63 (integer_pairs (codes "time") op.time) (four_pairs op ++ op.rest) (integer_printable 63 (codes "time") op.time time_is h.time) last in
    let all = pairs_joined 63 (integer_pairs (codes "index") op.index) (integer_pairs (codes "time") op.time ++ (four_pairs op ++ op.rest)) (integer_printable 63 (codes "index") op.index index_is h.index) timed in
    (some_depth, all, h.keys)

-- ---- which keys differ

abbrev pub four_names : List (List ℕ)
four_names = codes "type" ∷ codes "process" ∷ codes "f" ∷ codes "value" ∷ []

abbrev pub NoneOf : List (List ℕ) → List (Edn × Edn) → Type 0
NoneOf names rest = AllByRecursion (λ name. IsNew (keyword name) (keys_of (members_of rest))) names

-- an integer under this name, if there is one, is no other key
abbrev NotBeside : List ℕ → Option ℤ → List (Edn × Edn) → Type 0
NotBeside name o rest = IfSome o (λ z. IsNew (keyword name) (keys_of (members_of rest)))

abbrev pub written : Kind → Process → Edn → Edn → Option ℤ → Option ℤ → List (Edn × Edn) → Operation
written kind process f value time index rest = record { kind = kind; process = process; f = f; value = value; time = time; index = index; rest = rest }

keys_differ_of : (kind : Kind) (process : Process) (f value : Edn) (time index : Option ℤ) (rest : List (Edn × Edn)) → KeysDiffer (members_of rest) → NoneOf four_names rest
    → NotBeside (codes "time") time rest → NotBeside (codes "index") index rest → KeysDiffer (members_of (pairs_written (written kind process f value time index rest)))
keys_differ_of kind process f value None None rest differ four t i =
    keywords_before four_names (keys_of (members_of rest)) refl four differ
keys_differ_of kind process f value (Some time) None rest differ four t i =
    keywords_before (codes "time" ∷ four_names) (keys_of (members_of rest)) refl (t, four) differ
keys_differ_of kind process f value None (Some index) rest differ four t i =
    keywords_before (codes "index" ∷ four_names) (keys_of (members_of rest)) refl (i, four) differ
keys_differ_of kind process f value (Some time) (Some index) rest differ four t i =
    keywords_before (codes "index" ∷ codes "time" ∷ four_names) (keys_of (members_of rest)) refl (i, (t, four)) differ

pub keys_differ : (op : Operation) → KeysDiffer (members_of op.rest) → NoneOf four_names op.rest → NotBeside (codes "time") op.time op.rest
    → NotBeside (codes "index") op.index op.rest → KeysDiffer (members_of (pairs_written op))
keys_differ op = keys_differ_of op.kind op.process op.f op.value op.time op.index op.rest

if_any : {A : Type 0} (o : Option A) → IfSome o (λ x. Unit {0})
if_any None = tt
if_any (Some x) = tt

pub bare_keys : (op : Operation) → op.rest ≡ [] → KeysDiffer (members_of (pairs_written op))
bare_keys op none =
    keys_differ op (subst (λ rest. KeysDiffer (members_of rest)) (sym none) tt) (subst (NoneOf four_names) (sym none) (tt, (tt, (tt, (tt, tt)))))
    (subst (NotBeside (codes "time") op.time) (sym none) (if_any op.time)) (subst (NotBeside (codes "index") op.index) (sym none) (if_any op.index))
