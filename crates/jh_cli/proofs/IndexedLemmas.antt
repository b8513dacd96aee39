-- The operations of a run on threads were recorded, and each has its index.
use Rattle.std.proofs.Common.{ℕ, ◌+◌, ◌≤◌, Bool, List, [], ◌∷◌, length, arith, All}
use Rattle.std.proofs.Math.Nat.{min-le_right}
use Rattle.std.specs.FinMap as map
use Rattle.std.specs.List.{AllByRecursion, range_with_len}
use Rattle.std.proofs.lemmas.List.Elements.{All-from_recursion}
use Rattle.std.proofs.lemmas.List.FromFn.{length-range_with_len}
use Rattle.std.proofs.lemmas.List.Sums.{count_by-le-length, length-filter}
use Rattle.jh_ops.specs.Operation.{Operation}
use Rattle.jh_slots.specs.Seats.{Marks}
use Rattle.jh_run_laws.specs.RecordedHistory.{IsIndexedRecord}
use Rattle.jh_workers.specs.Gather.{AreRecordsOf, IsGathered, is_record, record_rows, rows_of_log}

indexed_from : (seen : Marks) (place : ℕ) (rows : List ℕ) (history : List Operation) → place + length rows ≤ 65536 → AreRecordsOf seen place rows history
    → AllByRecursion IsIndexedRecord history
indexed_from seen place [] [] low h = tt
indexed_from seen place [] (op ∷ ops) low h = absurd h
indexed_from seen place (row ∷ rows) [] low h = absurd h
indexed_from seen place (row ∷ rows) (op ∷ ops) low h = (
  record {
    place = place;
    small = omega (arith, low);
    recorded = h.0.recorded;
    words = h.0.words;
    is = h.0.is;
    indexed = h.0.indexed;
  },
  indexed_from seen (place + 1) rows ops (omega (arith, low)) h.1,
)

few_rows : (seen : Marks) (count : ℕ) → 0 + length (record_rows seen (rows_of_log count)) ≤ 65536
few_rows seen count =
    let p : ℕ → Bool = λ row. is_record (map.get seen row) in
    let rows : List ℕ = range_with_len 0 (rows_of_log count) in
    let few : rows_of_log count ≤ 65536 = min-le_right count 65536 in
    omega (arith, length-filter p rows, count_by-le-length p rows, length-range_with_len 0 (rows_of_log count), few)

pub gathered_indexed : (seen : Marks) (count : ℕ) (history : List Operation) → IsGathered seen count history → All IsIndexedRecord history
gathered_indexed seen count history gathered =
    All-from_recursion IsIndexedRecord history (indexed_from seen 0 (record_rows seen (rows_of_log count)) history (few_rows seen count) gathered)
