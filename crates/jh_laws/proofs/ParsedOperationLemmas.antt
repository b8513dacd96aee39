-- The operation of a printable value can be printed.
use Rattle.std.proofs.Common.{◌≡◌, ℕ, ◌<◌, ◌-◌, ◌^◌, Bool, true, false, cond, List, [], ◌∷◌, codes, filter, find, Option, Some, None, Ok, Err, refl, sym, ap, subst, ◌∙◌, arith}
use Rattle.std.specs.Prelude.{ℤ, pos, negsuc, not, option_map, option_and_then, ok_or, unwrap_or, FitsSigned, IfSome, Result, if◌then◌else◌}
use Rattle.std.specs.Int.{w64}
use Rattle.std.specs.Str.{bytes_eq}
use Rattle.std.proofs.lemmas.Bool.{and_parts, true≢false}
use Rattle.std.proofs.lemmas.Slice.Eq.{bytes_eq-Decides}
use Rattle.jh_edn.specs.Edn.{Edn, nil, boolean, int, char, str, keyword, symbol, list, vector, mapping, set, tagged, Members, no_members, member, members_of, is_keyword, is_integer, integer_of, pairs_in, value_under, untagged_value, map_pairs}
use Rattle.jh_edn.specs.Equality.{IsNew, keys_of, KeysDiffer}
use Rattle.jh_edn.specs.Printable.{IsPrintable, ArePrintablePairs}
use Rattle.jh_edn.specs.Spelling.{depth_limit}
use Rattle.jh_ops.specs.Operation.{Operation}
use Rattle.jh_ops.specs.OperationText.{is_integer_under, integer_under, is_other, process_of, result_of_needed, kind_in, f_in, process_in, ◌>>=◌, op_of_fields, op_of_pairs, parsed_op}
use Rattle.jh_ops.specs.OperationWritten.{IsWritable}
use Rattle.jh_ops.specs.declared.op_text.OpError.{OpError}
use Rattle.jh_ops.specs.declared.op_text.OpError.TheVariants.{NotMap, MissingF, MissingProcess, BadProcess}
use Rattle.jh_ops.specs.declared.operation.Process.{Process}
use Rattle.jh_laws.specs.HistoryLines.{CanPrint}
use Rattle.jh_laws.proofs.DepthLemmas.{deeper}
use Rattle.jh_laws.proofs.OperationLemmas.{four_names, NoneOf, keys_differ}

-- ---- a value without its tags

pub untagged_printable : (d : ℕ) (value : Edn) → IsPrintable d value → IsPrintable d (untagged_value value)
untagged_printable d nil h = h
untagged_printable d (boolean b) h = h
untagged_printable d (int z) h = h
untagged_printable d (char c) h = h
untagged_printable d (str s) h = h
untagged_printable d (keyword s) h = h
untagged_printable d (symbol s) h = h
untagged_printable d (list xs) h = h
untagged_printable d (vector xs) h = h
untagged_printable d (mapping ms) h = h
untagged_printable d (set xs) h = h
untagged_printable d (tagged tag x) h = deeper (untagged_value x) (d - 1) d (omega arith) (untagged_printable (d - 1) x h.2)

-- the pairs of a printable map
record AreGood (pairs : List (Edn × Edn)) : Type 0 where
  pub printable : ArePrintablePairs 63 (members_of pairs)
  pub differ : KeysDiffer (members_of pairs)

same_members : (ms : Members) → ms ≡ members_of (pairs_in ms)
same_members no_members = refl
same_members (member k v ms) = ap (member k v) (same_members ms)

good_pairs : (value : Edn) → IsPrintable depth_limit value → IfSome (map_pairs value) AreGood
good_pairs nil h = tt
good_pairs (boolean b) h = tt
good_pairs (int z) h = tt
good_pairs (char c) h = tt
good_pairs (str s) h = tt
good_pairs (keyword s) h = tt
good_pairs (symbol s) h = tt
good_pairs (list xs) h = tt
good_pairs (vector xs) h = tt
good_pairs (mapping ms) h = record { printable = subst (ArePrintablePairs 63) (same_members ms) h.1; differ = subst KeysDiffer (same_members ms) h.2 }
good_pairs (set xs) h = tt
good_pairs (tagged tag x) h = tt

-- ---- what is found among them

abbrev Prints : Edn → Type 0
Prints = IsPrintable 63

found_prints : (test : Edn × Edn → Bool) (pairs : List (Edn × Edn)) → ArePrintablePairs 63 (members_of pairs) → IfSome (find test pairs) (λ pair. Prints pair.1)
found_prints test [] h = tt
found_prints test (p ∷ ps) h = elim (test p) as (λ t. IfSome (cond t (Some p) (find test ps)) (λ pair. Prints pair.1)) [ true ↦ h.1 | false ↦ found_prints test ps h.2 ]

under_prints : (name : List ℕ) (pairs : List (Edn × Edn)) → ArePrintablePairs 63 (members_of pairs) → IfSome (value_under name pairs) Prints
under_prints name pairs h =
    elim (find (λ pair. is_keyword name pair.0) pairs) as (λ o. IfSome o (λ pair. Prints pair.1) → IfSome (option_map (λ pair. pair.1) o) Prints) [
      | None ↦ λ found. tt
      | Some pair ↦ λ found. found
    ] (found_prints (λ pair. is_keyword name pair.0) pairs h)

integer_fits : (value : Edn) → Prints value → IfSome (integer_of value) (FitsSigned w64)
integer_fits nil h = tt
integer_fits (boolean b) h = tt
integer_fits (int z) h = h
integer_fits (char c) h = tt
integer_fits (str s) h = tt
integer_fits (keyword s) h = tt
integer_fits (symbol s) h = tt
integer_fits (list xs) h = tt
integer_fits (vector xs) h = tt
integer_fits (mapping ms) h = tt
integer_fits (set xs) h = tt
integer_fits (tagged tag x) h = tt

integer_under_fits : (name : List ℕ) (pairs : List (Edn × Edn)) → ArePrintablePairs 63 (members_of pairs) → IfSome (integer_under name pairs) (FitsSigned w64)
integer_under_fits name pairs h =
    elim (find (is_integer_under name) pairs)
    as (λ o. IfSome o (λ pair. Prints pair.1) → IfSome (option_and_then (λ pair. integer_of pair.1) o) (FitsSigned w64)) [
      | None ↦ λ found. tt
      | Some pair ↦ λ found. integer_fits pair.1 found
    ] (found_prints (is_integer_under name) pairs h)

process_writable : (value : Edn) → Prints value → IfSome (process_of value) IsWritable
process_writable (int (pos number)) h = let less : number < 2 ^ 63 = h.sfits in less
process_writable (int (negsuc number)) h = tt
process_writable (keyword name) h = elim (bytes_eq name (codes "nemesis")) as (λ t. IfSome (if t then Some Process.Nemesis else None) IsWritable) [ true ↦ tt | false ↦ tt ]
process_writable nil h = tt
process_writable (boolean b) h = tt
process_writable (char c) h = tt
process_writable (str s) h = tt
process_writable (symbol s) h = tt
process_writable (list xs) h = tt
process_writable (vector xs) h = tt
process_writable (mapping ms) h = tt
process_writable (set xs) h = tt
process_writable (tagged tag x) h = tt

-- ---- the others

others_print : (keep : Edn × Edn → Bool) (pairs : List (Edn × Edn)) → ArePrintablePairs 63 (members_of pairs) → ArePrintablePairs 63 (members_of (filter keep pairs))
others_print keep [] h = tt
others_print keep (p ∷ ps) h =
    elim (keep p) as (λ t. ArePrintablePairs 63 (members_of (cond t (p ∷ filter keep ps) (filter keep ps)))) [
      | true ↦ (h.0, h.1, others_print keep ps h.2)
      | false ↦ others_print keep ps h.2
    ]

still_new : (x : Edn) (keep : Edn × Edn → Bool) (pairs : List (Edn × Edn)) → IsNew x (keys_of (members_of pairs)) → IsNew x (keys_of (members_of (filter keep pairs)))
still_new x keep [] h = tt
still_new x keep (p ∷ ps) h =
    elim (keep p) as (λ t. IsNew x (keys_of (members_of (cond t (p ∷ filter keep ps) (filter keep ps))))) [
      | true ↦ (h.0, still_new x keep ps h.1)
      | false ↦ still_new x keep ps h.1
    ]

still_differ : (keep : Edn × Edn → Bool) (pairs : List (Edn × Edn)) → KeysDiffer (members_of pairs) → KeysDiffer (members_of (filter keep pairs))
still_differ keep [] h = tt
still_differ keep (p ∷ ps) h =
    elim (keep p) as (λ t. KeysDiffer (members_of (cond t (p ∷ filter keep ps) (filter keep ps)))) [
      | true ↦ (still_new p.0 keep ps h.0, still_differ keep ps h.1)
      | false ↦ still_differ keep ps h.1
    ]

-- a keyword that is never kept is none of what is kept
never_kept : (name : List ℕ) → ((value : Edn) → is_other (keyword name, value) ≡ false) → (pairs : List (Edn × Edn))
    → IsNew (keyword name) (keys_of (members_of (filter is_other pairs)))
never_kept name taken [] = tt
never_kept name taken (p ∷ ps) =
    elim (is_other p) as (λ t. is_other p ≡ t → IsNew (keyword name) (keys_of (members_of (cond t (p ∷ filter is_other ps) (filter is_other ps))))) [
      | true ↦ λ kept. (λ same. true≢false (sym kept ∙ ap (λ key. is_other (key, p.1)) same ∙ taken p.1), never_kept name taken ps)
      | false ↦ λ kept. never_kept name taken ps
    ] refl

keyword_is : (name : List ℕ) (key : Edn) → is_keyword name key ≡ true → key ≡ keyword name
keyword_is name (keyword text) h = ap keyword ((bytes_eq-Decides text name).0 h)
keyword_is name nil h = absurd cc
keyword_is name (boolean b) h = absurd cc
keyword_is name (int z) h = absurd cc
keyword_is name (char c) h = absurd cc
keyword_is name (str s) h = absurd cc
keyword_is name (symbol s) h = absurd cc
keyword_is name (list xs) h = absurd cc
keyword_is name (vector xs) h = absurd cc
keyword_is name (mapping ms) h = absurd cc
keyword_is name (set xs) h = absurd cc
keyword_is name (tagged tag x) h = absurd cc

-- where an integer is found under a name, the name is a key
found_key : (name : List ℕ) (pairs : List (Edn × Edn)) → IsNew (keyword name) (keys_of (members_of pairs)) → find (is_integer_under name) pairs ≡ None
found_key name [] new = refl
found_key name (p ∷ ps) new =
    elim (is_integer_under name p) as (λ t. is_integer_under name p ≡ t → cond t (Some p) (find (is_integer_under name) ps) ≡ None) [
      | true ↦ λ hit. absurd (new.0 (keyword_is name p.0 (and_parts (is_keyword name p.0) (is_integer p.1) hit).0))
      | false ↦ λ miss. found_key name ps new.1
    ] refl

-- an integer that is taken from under a name leaves no key of that name
none_beside : (name : List ℕ) → ((value : Edn) → is_other (keyword name, value) ≡ not (is_integer value)) → (pairs : List (Edn × Edn)) → KeysDiffer (members_of pairs)
    → IfSome (find (is_integer_under name) pairs) (λ pair. IsNew (keyword name) (keys_of (members_of (filter is_other pairs))))
none_beside name taken [] differ = tt
none_beside name taken (p ∷ ps) differ =
    elim (is_integer_under name p)
    as (λ t. is_integer_under name p ≡ t → IfSome (cond t (Some p) (find (is_integer_under name) ps)) (λ pair. IsNew (keyword name) (keys_of (members_of (filter is_other (p ∷ ps)))))) [
      | true ↦ λ hit.
          let parts = and_parts (is_keyword name p.0) (is_integer p.1) hit in
          let key = keyword_is name p.0 parts.0 in
          let gone : is_other p ≡ false = ap (λ k. is_other (k, p.1)) key ∙ taken p.1 ∙ ap not parts.1 in
          let new = still_new (keyword name) is_other ps (subst (λ k. IsNew k (keys_of (members_of ps))) key differ.0) in
          subst (λ t. IsNew (keyword name) (keys_of (members_of (cond t (p ∷ filter is_other ps) (filter is_other ps))))) (sym gone) new
      | false ↦ λ miss.
          elim (find (is_integer_under name) ps)
          as (λ o. find (is_integer_under name) ps ≡ o → IfSome o (λ pair. IsNew (keyword name) (keys_of (members_of (filter is_other ps))))
          → IfSome o (λ pair. IsNew (keyword name) (keys_of (members_of (filter is_other (p ∷ ps)))))) [
            | None ↦ λ none rest. tt
            | Some pair ↦ λ some rest.
                let other : p.0 ≡ keyword name → ⊥ = λ same.
                let none = found_key name ps (subst (λ k. IsNew k (keys_of (members_of ps))) same differ.0) in
                let clash : None ≡ Some pair = sym none ∙ some in
                absurd cc in
                elim (is_other p) as (λ t. IsNew (keyword name) (keys_of (members_of (cond t (p ∷ filter is_other ps) (filter is_other ps))))) [
                  | true ↦ (other, rest)
                  | false ↦ rest
                ]
          ] refl (none_beside name taken ps differ.1)
    ] refl

abbrev integer_in : Option (Edn × Edn) → Option ℤ
integer_in o = option_and_then (λ pair. integer_of pair.1) o

beside : (name : List ℕ) → ((value : Edn) → is_other (keyword name, value) ≡ not (is_integer value)) → (pairs : List (Edn × Edn)) → KeysDiffer (members_of pairs)
    → IfSome (integer_under name pairs) (λ z. IsNew (keyword name) (keys_of (members_of (filter is_other pairs))))
beside name taken pairs differ =
    elim (find (is_integer_under name) pairs)
    as (λ o. IfSome o (λ pair. IsNew (keyword name) (keys_of (members_of (filter is_other pairs))))
    → IfSome (integer_in o) (λ z. IsNew (keyword name) (keys_of (members_of (filter is_other pairs))))) [
      | None ↦ λ h. tt
      | Some pair ↦ λ h. if_any (integer_of pair.1) (IsNew (keyword name) (keys_of (members_of (filter is_other pairs)))) h
    ] (none_beside name taken pairs differ)
  where
    if_any : {A : Type 0} (o : Option A) (P : Type 0) → P → IfSome o (λ x. P)
    if_any None P h = tt
    if_any (Some x) P h = h

-- ---- the operation

bind_ok : {A B : Type 0} (r : Result A OpError) (parsed : A → Result B OpError) (y : B) → (r >>= parsed) ≡ Ok y → (x : A) × (r ≡ Ok x) × (parsed x ≡ Ok y)
bind_ok (Ok x) parsed y e = (x, refl, e)
bind_ok (Err refusal) parsed y e = absurd (let clash : Err refusal ≡ Ok y = e in cc)

found_ok : {A : Type 0} (o : Option A) (refusal : OpError) (x : A) → ok_or o refusal ≡ Ok x → o ≡ Some x
found_ok None refusal x e = absurd (let clash : Err refusal ≡ Ok x = e in cc)
found_ok (Some y) refusal x e = let same : Ok y ≡ Ok x = e in cc

needed_ok : {A B : Type 0} (o : Option A) (refusal : OpError) (parsed : A → Result B OpError) (y : B) → result_of_needed o refusal parsed ≡ Ok y → (x : A) × (o ≡ Some x) × (parsed x ≡ Ok y)
needed_ok None refusal parsed y e = absurd (let clash : Err refusal ≡ Ok y = e in cc)
needed_ok (Some x) refusal parsed y e = (x, refl, e)

at_some : {A : Type 0} (o : Option A) (P : A → Type 0) (x : A) → o ≡ Some x → IfSome o P → P x
at_some o P x is h = subst (λ w. IfSome w P) is h

process_parsed : (pairs : List (Edn × Edn)) (process : Process) → ArePrintablePairs 63 (members_of pairs) → process_in pairs ≡ Ok process → IsWritable process
process_parsed pairs process h parsed =
    let under = needed_ok (value_under (codes "process") pairs) MissingProcess (λ value. ok_or (process_of value) BadProcess) process parsed in
    let prints = at_some (value_under (codes "process") pairs) Prints under.0 under.1 (under_prints (codes "process") pairs h) in
    at_some (process_of under.0) IsWritable process (found_ok (process_of under.0) BadProcess process under.2) (process_writable under.0 prints)

value_is_parsed : (o : Option Edn) → IfSome o Prints → Prints (unwrap_or o nil)
value_is_parsed None h = tt
value_is_parsed (Some value) h = h

parsed_prints : (pairs : List (Edn × Edn)) (op : Operation) → AreGood pairs → op_of_pairs pairs ≡ Ok op → CanPrint op
parsed_prints pairs op good parsed =
    let kind = bind_ok (kind_in pairs) (λ k. f_in pairs >>= (λ x. process_in pairs >>= (λ p. Ok (op_of_fields k x p pairs)))) op parsed in
    let f = bind_ok (f_in pairs) (λ x. process_in pairs >>= (λ p. Ok (op_of_fields kind.0 x p pairs))) op kind.2 in
    let process = bind_ok (process_in pairs) (λ p. Ok (op_of_fields kind.0 f.0 p pairs)) op f.2 in
    let same : op_of_fields kind.0 f.0 process.0 pairs ≡ op = cc process.2 in
    let rest = filter is_other pairs in
    let four : NoneOf four_names rest = (
      never_kept (codes "type") (λ value. refl) pairs,
      (never_kept (codes "process") (λ value. refl) pairs, (never_kept (codes "f") (λ value. refl) pairs, (never_kept (codes "value") (λ value. refl) pairs, tt))),
    ) in
    subst CanPrint same (record {
      process = process_parsed pairs process.0 good.printable process.1;
      f = at_some (value_under (codes "f") pairs) Prints f.0 (found_ok (value_under (codes "f") pairs) MissingF f.0 f.1) (under_prints (codes "f") pairs good.printable);
      value = value_is_parsed (value_under (codes "value") pairs) (under_prints (codes "value") pairs good.printable);
      time = integer_under_fits (codes "time") pairs good.printable;
      index = integer_under_fits (codes "index") pairs good.printable;
      rest = others_print is_other pairs good.printable;
      keys = keys_differ (op_of_fields kind.0 f.0 process.0 pairs) (still_differ is_other pairs good.differ) four (beside (codes "time") (λ value. refl) pairs good.differ)
          (beside (codes "index") (λ value. refl) pairs good.differ);
    })

pub parsed_can_print : (value : Edn) (op : Operation) → IsPrintable depth_limit value → parsed_op value ≡ Ok op → CanPrint op
parsed_can_print value op h parsed =
    let pairs = needed_ok (map_pairs (untagged_value value)) NotMap op_of_pairs op parsed in
    parsed_prints pairs.0 op (at_some (map_pairs (untagged_value value)) AreGood pairs.0 pairs.1 (good_pairs (untagged_value value) (untagged_printable depth_limit value h))) pairs.2
