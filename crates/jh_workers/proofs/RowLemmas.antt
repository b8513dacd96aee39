-- What a seat has seen of the rows, after one more was read.
use Rattle.std.proofs.Common.{◌≡◌, ℕ, zero, suc, ◌+◌, ◌<◌, ◌≤◌, false, List, [], ◌∷◌, ◌++◌, length, filter, Some, None, refl, add-one, ap, sym, subst, ◌∙◌, arith, All}
use Rattle.std.specs.Prelude.{Option, ℤ}
use Rattle.std.specs.Option.{unwrap_or}
use Rattle.std.specs.Int.{w64, cast_signed}
use Rattle.std.specs.List.{range_with_len}
use Rattle.std.specs.FinMap as map
use Rattle.std.proofs.lemmas.List.{append-nil, length-append, length-map}
use Rattle.std.proofs.lemmas.List.Elements.{filter-append, All-push}
use Rattle.jh_env.proofs.NameLemmas.{place_push}
use Rattle.jh_ops.specs.Operation.{Operation, operation}
use Rattle.jh_ops.specs.OperationWritten.{IsWritable}
use Rattle.jh_ops.specs.declared.operation.Op.{Op}
use Rattle.jh_ops.specs.Words.{IsRecordedAs, RefusesWords, heading}
use Rattle.jh_ops.specs.declared.words.WordsError.{WordsError}
use Rattle.jh_ops.specs.declared.words.WordsError.TheVariants.{BadWords, OutOfMemory, NotRecordable, TooSmall}
use Rattle.jh_simnode.specs.Histories.{indexed_operation}
use Rattle.jh_slots.specs.Seats.{Mark, Marks, Words, Void, Knowledge, knowledge_after_read}
use Rattle.jh_slots.proofs.MapLemmas.{get_new, get_else}
use Rattle.jh_workers.specs.Gather.{is_record, record_rows, IsBadMark, IsRecordOf, AreRecordsOf, RefusesGather, rows_of_log}
use Rattle.jh_workers.specs.GatherInside.{IsFound, RefusesRecord, RefusesRow, gather_error, history_with_found}
use Rattle.jh_workers.specs.declared.records.GatherError.{GatherError}
use Rattle.jh_workers.specs.declared.records.GatherError.TheVariants as gather

-- ---- a read of a row

pub saw_at : (v w : Knowledge) (row : ℕ) (m : Mark) → w ≡ knowledge_after_read row m v → map.get w.seen row ≡ Some m
saw_at v w row m e = ap (λ (y : Knowledge). map.get y.seen row) e ∙ get_new v.seen row m

pub saw_below : (v w : Knowledge) (row : ℕ) (m : Mark) → w ≡ knowledge_after_read row m v → (r : ℕ) → r < row → map.get w.seen r ≡ map.get v.seen r
saw_below v w row m e r low = ap (λ (y : Knowledge). map.get y.seen r) e ∙ get_else v.seen row r m (λ same. omega arith)

-- the words of an operation are at most those of the rows of one claim
pub recorded_short : (op : Operation) (words : List ℕ) → IsRecordedAs op words → length words ≤ 1275
recorded_short op words recorded =
    let r = recorded.0 in
    let are = recorded.3 in
    let long = ap (length {A = ℕ}) are.1 ∙ length-append (heading r) are.0 in
    let count = sym (length-map are.0 (cast_signed w64)) ∙ ap (length {A = ℤ}) are.2.1 in
    omega (arith, long, count, recorded.1.few)

-- a record of more words is none of an operation
pub long_is_bad : (v w : Knowledge) (row len : ℕ) → 1275 < len → w ≡ v
    → ((x : Mark) → map.get v.seen row ≡ Some x → (ws : List ℕ) × (x ≡ Words ws) × (length ws ≡ len))
    → (m : Mark) → map.get w.seen row ≡ Some m → IsBadMark m
long_is_bad v w row len more same long m at =
    let found = long m (sym (ap (λ (y : Knowledge). map.get y.seen row) same) ∙ at) in
    subst IsBadMark (sym found.1) (λ op is. let short = recorded_short op found.0 is in absurd (omega (arith, short, more, found.2)))

-- words of no operation are bad
pub refused_is_bad : (words : List ℕ) (row : ℕ) (e : WordsError) → RefusesWords words e → RefusesRow words row (gather_error e row)
refused_is_bad words row BadWords refuses = (refl, λ op is. refuses is.0 is.1 is.3)
refused_is_bad words row OutOfMemory refuses = tt
refused_is_bad words row NotRecordable refuses = absurd refuses
refused_is_bad words row TooSmall refuses = absurd refuses

-- a row that was seen with bad words is refused
pub seen_is_bad : (s : Marks) (row : ℕ) (words : List ℕ) (e : GatherError) → map.get s row ≡ Some (Words words) → RefusesRow words row e
    → RefusesRecord s row e
seen_is_bad s row words gather.OutOfMemory is bad = tt
seen_is_bad s row words (gather.BadWords at) is bad =
    (bad.0, λ m found. subst IsBadMark (ap (λ o. unwrap_or o (Words words)) (sym is ∙ found)) bad.1)

-- ---- rows with records

-- two seats have seen the same of the rows below a number
abbrev pub AgreeBelow : Marks → Marks → ℕ → Type 0
AgreeBelow s t n = (r : ℕ) → r < n → map.get t r ≡ map.get s r

rows_more : (t : Marks) (n : ℕ) → record_rows t (n + 1) ≡ record_rows t n ++ filter (λ r. is_record (map.get t r)) (n ∷ [])
rows_more t n = ap (filter (λ r. is_record (map.get t r))) (place_push n) ∙ filter-append (λ r. is_record (map.get t r)) (range_with_len 0 n) (n ∷ [])

rows_suc : (t : Marks) (n : ℕ) → record_rows t (suc n) ≡ record_rows t n ++ filter (λ r. is_record (map.get t r)) (n ∷ [])
rows_suc t n = ap (record_rows t) (sym (add-one n)) ∙ rows_more t n

pub rows_same : (s t : Marks) (n : ℕ) → AgreeBelow s t n → record_rows t n ≡ record_rows s n
rows_same s t zero same = refl
rows_same s t (suc n) same =
    rows_suc t n
    ∙ ap (λ xs. xs ++ filter (λ r. is_record (map.get t r)) (n ∷ [])) (rows_same s t n (λ r low. same r (omega (arith, low))))
    ∙ ap (λ m. record_rows s n ++ filter (λ r. is_record m) (n ∷ [])) (same n (omega arith))
    ∙ sym (rows_suc s n)

pub rows_with : (s t : Marks) (n : ℕ) (words : List ℕ) → AgreeBelow s t n → map.get t n ≡ Some (Words words) → record_rows t (n + 1) ≡ record_rows s n ++ n ∷ []
rows_with s t n words same shown =
    rows_more t n ∙ ap (λ xs. xs ++ filter (λ r. is_record (map.get t r)) (n ∷ [])) (rows_same s t n same)
    ∙ ap (λ m. record_rows s n ++ filter (λ r. is_record m) (n ∷ [])) shown

pub rows_without : (s t : Marks) (n : ℕ) → AgreeBelow s t n → is_record (map.get t n) ≡ false → record_rows t (n + 1) ≡ record_rows s n
rows_without s t n same none =
    rows_more t n ∙ ap (λ xs. xs ++ filter (λ r. is_record (map.get t r)) (n ∷ [])) (rows_same s t n same)
    ∙ (rw none (append-nil (record_rows s n)))

-- ---- the operations of rows

-- all these rows are below a number
abbrev pub AreBelow : ℕ → List ℕ → Type 0
AreBelow n [] = Unit {0}
AreBelow n (r ∷ rs) = (r < n) × AreBelow n rs

below_append : (n : ℕ) (rs : List ℕ) (r : ℕ) → AreBelow n rs → r < n → AreBelow n (rs ++ r ∷ [])
below_append n [] r all low = (low, tt)
below_append n (x ∷ rs) r all low = (all.0, below_append n rs r all.1 low)

below_more : (n : ℕ) (rs : List ℕ) → AreBelow n rs → AreBelow (suc n) rs
below_more n [] all = tt
below_more n (r ∷ rs) all = (omega (arith, all.0), below_more n rs all.1)

below_one : (s : Marks) (n : ℕ) (m : Option Mark) (rs : List ℕ) → AreBelow n rs → AreBelow (suc n) (rs ++ filter (λ r. is_record m) (n ∷ []))
below_one s n None rs all = rw (append-nil rs) (below_more n rs all)
below_one s n (Some Void) rs all = rw (append-nil rs) (below_more n rs all)
below_one s n (Some (Words ws)) rs all = below_append (suc n) rs n (below_more n rs all) (omega arith)

pub rows_below : (s : Marks) (n : ℕ) → AreBelow n (record_rows s n)
rows_below s zero = tt
rows_below s (suc n) =
    subst (AreBelow (suc n)) (sym (rows_suc s n))
    (below_one s n (map.get s n) (record_rows s n) (rows_below s n))

-- the operations are those that another seat has seen, which agrees
pub records_same : (s t : Marks) (n place : ℕ) (rows : List ℕ) (ops : List Operation) → AgreeBelow s t n → AreBelow n rows
    → AreRecordsOf s place rows ops → AreRecordsOf t place rows ops
records_same s t n place [] [] same low are = tt
records_same s t n place [] (op ∷ ops) same low are = absurd are
records_same s t n place (r ∷ rs) [] same low are = absurd are
records_same s t n place (r ∷ rs) (op ∷ ops) same low are = (
  record { words = are.0.words; recorded = are.0.recorded; shown = same r low.0 ∙ are.0.shown; is = are.0.is; indexed = are.0.indexed },
  records_same s t n (place + 1) rs ops same low.1 are.1,
)

-- one row and one operation more at the end
pub records_more : (s : Marks) (place : ℕ) (rows : List ℕ) (ops : List Operation) (row end : ℕ) (op : Operation) → AreRecordsOf s place rows ops
    → end ≡ place + length ops → IsRecordOf s end row op → AreRecordsOf s place (rows ++ row ∷ []) (ops ++ op ∷ [])
records_more s place [] [] row end op are at is = let here : end ≡ place = omega (arith, at) in (subst (λ p. IsRecordOf s p row op) here is, tt)
records_more s place [] (x ∷ ops) row end op are at is = absurd are
records_more s place (r ∷ rs) [] row end op are at is = absurd are
records_more s place (r ∷ rs) (x ∷ ops) row end op are at is =
    (are.0, records_more s (place + 1) rs ops row end op are.1 (omega (arith, at)) is)

-- ---- one row more of a history

pub gathered_with : (s t : Marks) (n : ℕ) (words : List ℕ) (recorded : Operation) (history : List Operation) → AgreeBelow s t n
    → map.get t n ≡ Some (Words words) → IsRecordedAs recorded words → AreRecordsOf s 0 (record_rows s n) history
    → AreRecordsOf t 0 (record_rows t (n + 1)) (history ++ indexed_operation (length history) recorded ∷ [])
gathered_with s t n words recorded history same shown is are =
    let op = indexed_operation (length history) recorded in
    let before = records_same s t n 0 (record_rows s n) history same (rows_below s n) are in
    let new : IsRecordOf t (length history) n op = record { words = words; recorded = recorded; shown = shown; is = is; indexed = refl } in
    subst (λ rows. AreRecordsOf t 0 rows (history ++ op ∷ [])) (sym (rows_with s t n words same shown))
    (records_more t 0 (record_rows s n) history n (length history) op before (omega arith) new)

pub gathered_without : (s t : Marks) (n : ℕ) (history : List Operation) → AgreeBelow s t n → is_record (map.get t n) ≡ false
    → AreRecordsOf s 0 (record_rows s n) history → AreRecordsOf t 0 (record_rows t (n + 1)) history
gathered_without s t n history same none are =
    subst (λ rows. AreRecordsOf t 0 rows history) (sym (rows_without s t n same none))
    (records_same s t n 0 (record_rows s n) history same (rows_below s n) are)

-- what was found in a row is added
pub gathered_found : (s t : Marks) (n : ℕ) (found : Option Op) (history : List Operation) → AgreeBelow s t n → IsFound (map.get t n) found
    → AreRecordsOf s 0 (record_rows s n) history → AreRecordsOf t 0 (record_rows t (n + 1)) (history_with_found history found)
gathered_found s t n None history same is are = gathered_without s t n history same is are
gathered_found s t n (Some op) history same is are = gathered_with s t n is.0 (operation op) history same is.1 is.2 are

-- a row is refused, where those below it were gathered
pub gathered_to : (s t : Marks) (row count : ℕ) (history : List Operation) (e : GatherError) → AgreeBelow s t row
    → AreRecordsOf s 0 (record_rows s row) history → row < rows_of_log count → RefusesRecord t row e → RefusesGather t count e
gathered_to s t row count history gather.OutOfMemory same are low refuses = tt
gathered_to s t row count history (gather.BadWords bad) same are low refuses =
    let here = refuses.0 in
    let whole : rows_of_log bad ≡ row = omega (arith, here, low) in
    let before = records_same s t row 0 (record_rows s row) history same (rows_below s row) are in
    let kept = subst (λ rows. AreRecordsOf t 0 rows history) (sym (rows_same s t row same)) before in (
      omega (arith, here, low),
      (history, subst (λ n. AreRecordsOf t 0 (record_rows t n) history) (sym whole) kept),
      λ m found. refuses.1 m (ap (map.get t) (sym here) ∙ found),
    )

-- the process of a recorded operation can be written
recorded_writable : (op : Operation) (words : List ℕ) → IsRecordedAs op words → IsWritable op.process
recorded_writable op words is = subst (λ (o : Operation). IsWritable o.process) is.2 is.1.process

pub writable_found : (mark : Option Mark) (found : Option Op) (history : List Operation) → IsFound mark found
    → All (λ op. IsWritable op.process) history → All (λ op. IsWritable op.process) (history_with_found history found)
writable_found mark None history is all = all
writable_found mark (Some op) history is all =
    All-push (λ (o : Operation). IsWritable o.process) history (indexed_operation (length history) (operation op)) all (recorded_writable (operation op) is.0 is.2)
