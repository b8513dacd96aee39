-- The values of a history that was read, and the elements that its last read shows, can be printed.
use Rattle.std.proofs.Common.{◌≡◌, ℕ, zero, suc, ◌+◌, ◌-◌, List, [], ◌∷◌, length, codes, Option, Some, None, refl, subst, arith}
use Rattle.std.specs.Prelude.{slice_get, option_and_then}
use Rattle.std.specs.List.{All, AllByRecursion, filter, enumerate_from}
use Rattle.std.proofs.lemmas.List.Elements.{All-filter, All-map, All-weaker, All-from_recursion, recursion_from_All}
use Rattle.jh_edn.specs.Edn.{Edn, list, vector, set, Items, no_items, item, list_of}
use Rattle.jh_edn.specs.Printable.{IsPrintable, ArePrintable}
use Rattle.jh_edn.specs.Spelling.{depth_limit}
use Rattle.jh_ops.specs.Operation.{Operation, is_asked}
use Rattle.jh_ops.specs.declared.operation.Kind.{Kind}
use Rattle.jh_check.specs.SetResults.{elements_read, elements_shown, final_read, ok_reads}
use Rattle.jh_laws.specs.EqualResults.{CanPrintEach, values_held}
use Rattle.jh_laws.specs.HistoryLines.{CanPrint}
use Rattle.jh_laws.proofs.DepthLemmas.{deeper}

abbrev HasPrintable : Operation → Type 0
HasPrintable op = IsPrintable depth_limit op.value

each_value : (history : List Operation) → All CanPrint history → All HasPrintable history
each_value history all = All-weaker CanPrint HasPrintable (λ op h. deeper op.value 63 depth_limit (omega arith) h.value) history all

pub held_printable : (kind : Kind) (name : List ℕ) (history : List Operation) → All CanPrint history → CanPrintEach (values_held kind name history)
held_printable kind name history all =
    All-map (IsPrintable depth_limit) (λ (op : Operation). op.value) (filter (is_asked kind name) history)
    (All-filter (is_asked kind name) HasPrintable history (each_value history all))

-- ---- the last read

items_printable : (xs : Items) → ArePrintable 63 xs → AllByRecursion (IsPrintable depth_limit) (list_of xs)
items_printable no_items h = tt
items_printable (item x xs) h = (deeper x 63 depth_limit (omega arith) h.0, items_printable xs h.1)

shown_printable : (value : Edn) (read : List Edn) → IsPrintable depth_limit value → elements_shown value ≡ Some read → AllByRecursion (IsPrintable depth_limit) read
shown_printable (list xs) read h shown = let same : list_of xs ≡ read = cc in subst (AllByRecursion (IsPrintable depth_limit)) same (items_printable xs h.1)
shown_printable (vector xs) read h shown = let same : list_of xs ≡ read = cc in subst (AllByRecursion (IsPrintable depth_limit)) same (items_printable xs h.1)
shown_printable (set xs) read h shown = let same : list_of xs ≡ read = cc in subst (AllByRecursion (IsPrintable depth_limit)) same (items_printable xs h.1)
shown_printable value read h shown = absurd cc

numbered : {X : Type 0} (P : X → Type 0) (n : ℕ) (xs : List X) → AllByRecursion P xs → AllByRecursion (λ (x : ℕ × X). P x.1) (enumerate_from n xs)
numbered P n [] all = tt
numbered P n (x ∷ xs) all = (all.0, numbered P (n + 1) xs all.1)

at_place : {X : Type 0} (P : X → Type 0) (xs : List X) → AllByRecursion P xs → (i : ℕ) (x : X) → slice_get xs i ≡ Some x → P x
at_place P [] all i x at = absurd cc
at_place P (y ∷ ys) all zero x at = let same : y ≡ x = cc in subst P same all.0
at_place P (y ∷ ys) all (suc i) x at = at_place P ys all.1 i x at

abbrev HasPrintableAt : ℕ × Operation → Type 0
HasPrintableAt at = HasPrintable at.1

pub read_printable : (history : List Operation) (read : List Edn) → All CanPrint history → elements_read history ≡ Some read → CanPrintEach read
read_printable history read all shown =
    All-from_recursion (IsPrintable depth_limit) read (go (final_read history) last shown)
  where
    reads : AllByRecursion HasPrintableAt (ok_reads history)
    reads =
        let each = All-from_recursion HasPrintableAt (enumerate_from 0 history) (numbered HasPrintable 0 history (recursion_from_All HasPrintable history (each_value history all))) in
        recursion_from_All HasPrintableAt (ok_reads history) (All-filter (λ at. is_asked Kind.Ok (codes "read") at.1) HasPrintableAt (enumerate_from 0 history) each)

    last : (at : ℕ × Operation) → final_read history ≡ Some at → HasPrintableAt at
    last at h = at_place HasPrintableAt (ok_reads history) reads (length (ok_reads history) - 1) at h

    go : (at : Option (ℕ × Operation)) → ((found : ℕ × Operation) → at ≡ Some found → HasPrintableAt found)
        → option_and_then (λ read. elements_shown read.1.value) at ≡ Some read → AllByRecursion (IsPrintable depth_limit) read
    go None each shows = absurd cc
    go (Some at) each shows = shown_printable at.1.value read (each at refl) shows
