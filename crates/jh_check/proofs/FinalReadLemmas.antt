-- The last read, one operation after another.
use Rattle.std.proofs.Common.{◌≡◌, ℕ, ◌+◌, ◌-◌, Bool, true, false, cond, List, [], ◌∷◌, ◌++◌, length, ap, ◌∙◌, arith, codes}
use Rattle.std.specs.Prelude.{slice_get, Option, Some}
use Rattle.std.specs.List.{filter, enumerate_from}
use Rattle.std.proofs.lemmas.List.{append-nil}
use Rattle.std.proofs.lemmas.List.Elements.{filter-append}
use Rattle.jh_ops.specs.Operation.{Operation, is_asked}
use Rattle.jh_ops.specs.declared.operation.Kind.{Kind}
use Rattle.jh_check.specs.SetResults.{ok_reads, final_read}
use Rattle.jh_check.proofs.ListLemmas.{last_pushed}

enumerated : (n : ℕ) (xs : List Operation) (x : Operation) → enumerate_from n (xs ++ x ∷ []) ≡ enumerate_from n xs ++ (n + length xs, x) ∷ []
enumerated n [] x = let e : n ≡ n + 0 = omega arith in λ i. (e i, x) ∷ []
enumerated n (y ∷ ys) x =
    let e : n + 1 + length ys ≡ n + length (y ∷ ys) = omega arith in
    ap (λ w. (n, y) ∷ w) (enumerated (n + 1) ys x ∙ ap (λ m. enumerate_from (n + 1) ys ++ (m, x) ∷ []) e)

abbrev is_ok_read : ℕ × Operation → Bool
is_ok_read read = is_asked Kind.Ok (codes "read") read.1

reads_pushed : (xs : List Operation) (x : Operation) → ok_reads (xs ++ x ∷ []) ≡ ok_reads xs ++ filter is_ok_read ((0 + length xs, x) ∷ [])
reads_pushed xs x = ap (filter is_ok_read) (enumerated 0 xs x) ∙ filter-append is_ok_read (enumerate_from 0 xs) ((0 + length xs, x) ∷ [])

abbrev last_of : List (ℕ × Operation) → Option (ℕ × Operation)
last_of reads = slice_get reads (length reads - 1)

-- an operation more: where it is a read that happened, it is the last
pub final_pushed : (xs : List Operation) (x : Operation) → final_read (xs ++ x ∷ []) ≡ cond (is_asked Kind.Ok (codes "read") x) (Some (length xs, x)) (final_read xs)
final_pushed xs x =
    elim (is_asked Kind.Ok (codes "read") x) as (λ b. ok_reads (xs ++ x ∷ []) ≡ ok_reads xs ++ cond b ((0 + length xs, x) ∷ []) [] → final_read (xs ++ x ∷ []) ≡ cond b (Some (length xs, x)) (final_read xs)) [
      | true ↦ λ e. let n : 0 + length xs ≡ length xs = omega arith in ap last_of e ∙ last_pushed (ok_reads xs) (0 + length xs, x) ∙ ap (λ (m : ℕ). Some (m, x)) n
      | false ↦ λ e. ap last_of (e ∙ append-nil (ok_reads xs))
    ] (reads_pushed xs x)
