-- Two findings of a queue or of a bank: their verdicts and lines are the same.
use Rattle.std.proofs.Common.{◌≡◌, ◌∙◌, inl, inr, ℕ, suc, ◌<◌, ◌≤◌, true, false, List, [], ◌∷◌, ◌++◌, refl, sym, ap, subst, arith}
use Rattle.std.specs.Prelude.{Option, Some, None, slice_get, codes, pos}
use Rattle.std.specs.List.{All}
use Rattle.std.proofs.lemmas.List.Elements.{All-contains}
use Rattle.jh_edn.specs.Edn.{int, keyword}
use Rattle.jh_edn.specs.Parts.{map_of}
use Rattle.jh_ops.specs.Operation.{Operation, operation}
use Rattle.jh_ops.specs.OperationWritten.{value_written}
use Rattle.jh_ops.specs.Pairing.{history_pairs}
use Rattle.jh_ops.specs.declared.operation.Op.{Op}
use Rattle.jh_check.specs.Lines.{map_with_verdict}
use Rattle.jh_check.specs.declared.verdict.Verdict.{Verdict}
use Rattle.jh_bank.specs.BankLines.{bank_value, error_pairs, kind_pairs, worst_pairs}
use Rattle.jh_bank.specs.Banks.{IsBankResult, IsFarthest, IsWorst, read_distance, shown_errors}
use Rattle.jh_bank.specs.declared.bank.Bank.{Bank}
use Rattle.jh_bank.specs.declared.judge.BankResult.{BankResult}
use Rattle.jh_bank.specs.declared.judge.ReadErrors.{ReadErrors}
use Rattle.jh_queue.specs.Lines.{first_pairs, queue_value}
use Rattle.jh_queue.specs.Queue.{EachFinds, IsFirstWithout, IsQueueResult, Passage, finds_none, passages_in, passages_out}
use Rattle.jh_queue.specs.declared.queue.QueueResult.{QueueResult}
use Rattle.jh_queue.specs.declared.queue.QueueResult.TheVariants.{Dequeued, First}
use Rattle.jh_checkers.specs.Findings.{verdict_of_queue}

same_some : {X : Type 0} (x y : X) → Some x ≡ Some y → x ≡ y
same_some x y e = cc

-- ---- queues

not_before : (ins outs : List Passage) (a b : Passage) → IsFirstWithout ins outs a → IsFirstWithout ins outs b → a.place < b.place → ⊥
not_before ins outs a b x y less =
    let found : finds_none ins outs a ≡ false =
    All-contains (λ other. other.place < b.place → finds_none ins outs other ≡ false) outs a y.first x.there less in
    let none : finds_none ins outs a ≡ true = x.without in
    absurd cc

one_first : (ins outs : List Passage) (a b : Passage) → IsFirstWithout ins outs a → IsFirstWithout ins outs b → a.place ≡ b.place
one_first ins outs a b x y =
    let below = not_before ins outs a b x y in
    let above = not_before ins outs b a y x in
    omega (arith, below, above)

all_and_none : (ins outs : List Passage) (out : Passage) → EachFinds ins outs → IsFirstWithout ins outs out → ⊥
all_and_none ins outs out all x =
    let found : finds_none ins outs out ≡ false = All-contains (λ other. finds_none ins outs other ≡ false) outs out all x.there in
    let none : finds_none ins outs out ≡ true = x.without in
    absurd cc

pub queue_lines : (history : List Operation) (a b : QueueResult) → IsQueueResult history a → IsQueueResult history b → queue_value a ≡ queue_value b
queue_lines history (Dequeued m) (Dequeued n) x y = ap (λ count. queue_value (Dequeued count)) (x.1 ∙ sym y.1)
queue_lines history (Dequeued m) (First q b) x y =
    absurd (all_and_none (passages_in history (history_pairs history)) (passages_out history (history_pairs history)) y.0 x.0 y.1)
queue_lines history (First p a) (Dequeued n) x y =
    absurd (all_and_none (passages_in history (history_pairs history)) (passages_out history (history_pairs history)) x.0 y.0 x.1)
queue_lines history (First p a) (First q b) x y =
    let place = one_first (passages_in history (history_pairs history)) (passages_out history (history_pairs history)) x.0 y.0 x.1 y.1 in
    let one : operation a ≡ operation b = same_some (operation a) (operation b) (sym x.3 ∙ ap (slice_get history) (x.2 ∙ place ∙ sym y.2) ∙ y.3) in
    ap (λ op. map_with_verdict Verdict.False (first_pairs op)) one

pub queue_verdicts : (history : List Operation) (a b : QueueResult) → IsQueueResult history a → IsQueueResult history b → verdict_of_queue a ≡ verdict_of_queue b
queue_verdicts history (Dequeued m) (Dequeued n) x y = refl
queue_verdicts history (Dequeued m) (First q b) x y =
    absurd (all_and_none (passages_in history (history_pairs history)) (passages_out history (history_pairs history)) y.0 x.0 y.1)
queue_verdicts history (First p a) (Dequeued n) x y =
    absurd (all_and_none (passages_in history (history_pairs history)) (passages_out history (history_pairs history)) x.0 y.0 x.1)
queue_verdicts history (First p a) (First q b) x y = refl

-- ---- banks

within : {A : Type 0} (away : A → ℕ) (xs : List A) (n : ℕ) (b : A) → All (λ other. away other ≤ n) xs → IsFarthest away xs b → away b ≤ n
within away [] n b all far = absurd far
within away (x ∷ xs) n b all (inl q) =
    let here : away x ≤ n = all 0 x (omega arith) in
    let same : away x ≡ away b = ap away q.0 in
    omega (arith, here, same)
within away (x ∷ xs) n b all (inr q) = within away xs n b (λ k d less. all (suc k) d (omega (arith, less))) q.1

one_farthest : {A : Type 0} (away : A → ℕ) (xs : List A) (a b : A) → IsFarthest away xs a → IsFarthest away xs b → a ≡ b
one_farthest away [] a b x y = absurd x
one_farthest away (x ∷ xs) a b (inl p) (inl q) = sym p.0 ∙ q.0
one_farthest away (x ∷ xs) a b (inl p) (inr q) =
    let most = within away xs (away a) b p.1 q.1 in
    let same : away x ≡ away a = ap away p.0 in
    let less : away x < away b = q.0 in
    absurd (omega (arith, most, same, less))
one_farthest away (x ∷ xs) a b (inr p) (inl q) =
    let most = within away xs (away b) a q.1 p.1 in
    let same : away x ≡ away b = ap away q.0 in
    let less : away x < away a = p.0 in
    absurd (omega (arith, most, same, less))
one_farthest away (x ∷ xs) a b (inr p) (inr q) = one_farthest away xs a b p.1 q.1

same_worst : (bank : Bank) (reads : List (ℕ × Operation)) (a b : Option Op) → IsWorst bank reads a → IsWorst bank reads b → worst_pairs a ≡ worst_pairs b
same_worst bank reads None None x y = refl
same_worst bank reads None (Some b) x y = absurd (subst (λ rs. IsFarthest (read_distance bank) rs (y.0, operation b)) x y.1)
same_worst bank reads (Some a) None x y = absurd (subst (λ rs. IsFarthest (read_distance bank) rs (x.0, operation a)) y x.1)
same_worst bank reads (Some a) (Some b) x y =
    let one = one_farthest (read_distance bank) reads (x.0, operation a) (y.0, operation b) x.1 y.1 in
    λ i. (keyword (codes "worst"), value_written ((one i).1)) ∷ []

same_kind : (name : List ℕ) (a b : Option ReadErrors) → shown_errors a ≡ shown_errors b → kind_pairs name a ≡ kind_pairs name b
same_kind name None None e = refl
same_kind name None (Some b) e = absurd cc
same_kind name (Some a) None e = absurd cc
same_kind name (Some a) (Some b) e =
    let one : (a.count, operation a.first) ≡ (b.count, operation b.first) = same_some (a.count, operation a.first) (b.count, operation b.first) e in
    λ i. (keyword name, map_of ((keyword (codes "count"), int (pos ((one i).0))) ∷ (keyword (codes "first"), value_written ((one i).1)) ∷ [])) ∷ []

pub bank_lines : (bank : Bank) (history : List Operation) (a b : BankResult) → IsBankResult bank history a → IsBankResult bank history b → bank_value a ≡ bank_value b
bank_lines bank history a b x y =
    let verdict = x.verdict ∙ sym y.verdict in
    let reads = x.reads ∙ sym y.reads in
    let unexpected_key = same_kind (codes "unexpected-key") a.errors.unexpected_key b.errors.unexpected_key (x.errors.unexpected_key ∙ sym y.errors.unexpected_key) in
    let nil_balance = same_kind (codes "nil-balance") a.errors.nil_balance b.errors.nil_balance (x.errors.nil_balance ∙ sym y.errors.nil_balance) in
    let wrong_total = same_kind (codes "wrong-total") a.errors.wrong_total b.errors.wrong_total (x.errors.wrong_total ∙ sym y.errors.wrong_total) in
    let negative_value = same_kind (codes "negative-value") a.errors.negative_value b.errors.negative_value (x.errors.negative_value ∙ sym y.errors.negative_value) in
    let errors : error_pairs a.errors ≡ error_pairs b.errors = λ i. unexpected_key i ++ (nil_balance i ++ (wrong_total i ++ negative_value i)) in
    let worst = same_worst bank _ a.worst b.worst x.worst y.worst in
    λ i. map_with_verdict (verdict i) ((keyword (codes "reads"), int (pos (reads i))) ∷ (keyword (codes "errors"), map_of (errors i)) ∷ worst i)

pub bank_verdicts : (bank : Bank) (history : List Operation) (a b : BankResult) → IsBankResult bank history a → IsBankResult bank history b → a.verdict ≡ b.verdict
bank_verdicts bank history a b x y = x.verdict ∙ sym y.verdict
