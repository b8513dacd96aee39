-- The last read of a set's test shows elements.
use Rattle.std.proofs.Common.{◌≡◌, ℕ, suc, zero, ◌+◌, Bool, true, false, ◌&&◌, List, [], ◌∷◌, filter, refl, sym, ap, ◌∙◌, subst}
use Rattle.std.specs.Prelude.{codes, slice_get, None, Some, if◌then◌else◌}
use Rattle.std.specs.List.{enumerate_from}
use Rattle.std.proofs.lemmas.Bool.{and_parts, false≢true}
use Rattle.std.proofs.lemmas.Option.{same_Some}
use Rattle.jh_check.specs.SetResults.{elements_shown, final_read}
use Rattle.jh_edn.specs.Edn.{Edn, nil, boolean, int, char, str, keyword, symbol, list, vector, mapping, set, tagged, is_keyword}
use Rattle.jh_ops.specs.Operation.{Operation, is_asked, is_client, is_kind}
use Rattle.jh_ops.specs.declared.operation.Kind.{Kind}
use Rattle.jh_ops.specs.declared.operation.Process.{Process}
use Rattle.jh_test_parts.specs.Values.{is_collection}
use Rattle.jh_test_parts.specs.declared.workload.TestWorkload.TheVariants.{Set}
use Rattle.jh_test_laws.specs.HistoryInside.{AllFit, Invokes, Doing, Completes, FitsBehind, FitsDoing, doing}
use Rattle.jh_test_laws.proofs.ReadLemmas.{good_read}

abbrev Shows : Edn → Type 0
Shows value = elements_shown value ≡ None → ⊥

shown : (value : Edn) → is_collection value ≡ true → Shows value
shown nil e = absurd (false≢true e)
shown (boolean b) e = absurd (false≢true e)
shown (int z) e = absurd (false≢true e)
shown (char c) e = absurd (false≢true e)
shown (str s) e = absurd (false≢true e)
shown (keyword s) e = absurd (false≢true e)
shown (symbol s) e = absurd (false≢true e)
shown (list xs) e = λ none. cc
shown (vector xs) e = λ none. cc
shown (mapping ms) e = absurd (false≢true e)
shown (set xs) e = λ none. cc
shown (tagged tag x) e = absurd (false≢true e)

-- a read that was done shows elements
read_shows : (d : Doing) (op : Operation) (kind : Kind) → op.kind ≡ kind → FitsDoing (Invokes Set) (Completes Set) d kind op → is_kind Kind.Ok kind ≡ true → is_keyword (codes "read") op.f ≡ true → Shows op.value
read_shows d op Kind.Invoke is fits ok read = absurd (false≢true ok)
read_shows d op Kind.Fail is fits ok read = absurd (false≢true ok)
read_shows d op Kind.Info is fits ok read = absurd (false≢true ok)
read_shows Doing.Idle op Kind.Ok is fits ok read = absurd fits
read_shows Doing.Gone op Kind.Ok is fits ok read = absurd fits
read_shows (Doing.Busy call) op Kind.Ok is fits ok read =
    shown op.value (good_read Set call.f call.value op.value op.kind fits.1 is (ap (is_keyword (codes "read")) (sym fits.0) ∙ read))

asked_shows : (past : List Operation) (op : Operation) (process : Process) → op.process ≡ process → FitsBehind (Invokes Set) (Completes Set) past process op → is_asked Kind.Ok (codes "read") op ≡ true → Shows op.value
asked_shows past op process is fits asked = go process is fits
  where
    parts : (is_client op.process ≡ true) × ((is_kind Kind.Ok op.kind && is_keyword (codes "read") op.f) ≡ true)
    parts = and_parts (is_client op.process) (is_kind Kind.Ok op.kind && is_keyword (codes "read") op.f) asked

    go : (p : Process) → op.process ≡ p → FitsBehind (Invokes Set) (Completes Set) past p op → Shows op.value
    go Process.Nemesis is fits = absurd (false≢true (sym (ap is_client is) ∙ parts.0))
    go (Process.Client client) is fits =
        let both = and_parts (is_kind Kind.Ok op.kind) (is_keyword (codes "read") op.f) parts.1 in
        read_shows (doing client past) op op.kind refl fits both.0 both.1

abbrev is_read : ℕ × Operation → Bool
is_read read = is_asked Kind.Ok (codes "read") read.1

found_shows : (n : ℕ) (past ops : List Operation) → AllFit (Invokes Set) (Completes Set) past ops → (i place : ℕ) (op : Operation) → slice_get (filter is_read (enumerate_from n ops)) i ≡ Some (place, op) → Shows op.value
found_shows n past [] h i place op e = absurd (none_there i e)
  where
    none_there : (i : ℕ) → slice_get {X = ℕ × Operation} [] i ≡ Some (place, op) → ⊥
    none_there zero e = cc
    none_there (suc i) e = cc
found_shows n past (x ∷ ops) h i place op e = go (λ k f. found_shows (n + 1) (x ∷ past) ops h.1 k place op f) (is_asked Kind.Ok (codes "read") x) refl
  where
    rest : List (ℕ × Operation)
    rest = filter is_read (enumerate_from (n + 1) ops)

    at : ((k : ℕ) → slice_get rest k ≡ Some (place, op) → Shows op.value) → (k : ℕ) → is_asked Kind.Ok (codes "read") x ≡ true → slice_get {X = ℕ × Operation} ((n, x) ∷ rest) k ≡ Some (place, op) → Shows op.value
    at later zero asked f =
        let same : x ≡ op = ap (λ (q : ℕ × Operation). q.1) (same_Some (n, x) (place, op) f) in
        subst (λ (o : Operation). Shows o.value) same (asked_shows past x x.process refl h.0 asked)
    at later (suc k) asked f = later k f

    go : ((k : ℕ) → slice_get rest k ≡ Some (place, op) → Shows op.value) → (asked : Bool) → is_asked Kind.Ok (codes "read") x ≡ asked → Shows op.value
    go later true is = at later i is (sym (ap (λ b. slice_get {X = ℕ × Operation} (if b then (n, x) ∷ rest else rest) i) is) ∙ e)
    go later false is = later i (sym (ap (λ b. slice_get {X = ℕ × Operation} (if b then (n, x) ∷ rest else rest) i) is) ∙ e)

pub last_shows : (history : List Operation) → AllFit (Invokes Set) (Completes Set) [] history → (place : ℕ) (op : Operation) → final_read history ≡ Some (place, op) → elements_shown op.value ≡ None → ⊥
last_shows history h place op e = found_shows 0 [] history h _ place op e
