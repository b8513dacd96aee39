-- What came out, one operation after another, and the first bad drain.
use Rattle.std.proofs.Common.{◌≡◌, ℕ, ◌+◌, ◌<◌, Bool, cond, not, List, [], ◌∷◌, ◌++◌, length, take, get_or, map, refl, sym, ap, ◌∙◌}
use Rattle.std.specs.Prelude.{Some, None, nat_lt, position}
use Rattle.std.specs.List.{flat_map, prefix_len}
use Rattle.std.proofs.lemmas.List.{append-nil, length-map, map-append}
use Rattle.std.proofs.lemmas.List.Concat.{flat_map-append}
use Rattle.jh_edn.specs.Edn.{Edn}
use Rattle.jh_edn.specs.Normal.{normal}
use Rattle.jh_ops.specs.Operation.{operation, operations}
use Rattle.jh_ops.specs.declared.operation.Op.{Op}
use Rattle.jh_check.proofs.ListLemmas.{mapped_more}
use Rattle.jh_total_queue.specs.TotalQueue.{dequeues, taken_by}

pub dequeues_more : (ops : List Op) (i : ℕ) (op : Op) (found items : List Edn) → i < length ops → op ≡ get_or ops i op → items ≡ taken_by (operation op)
    → found ≡ dequeues (operations (take i ops)) → found ++ map normal items ≡ dequeues (operations (take (i + 1) ops))
dequeues_more ops i op found items less at is h =
    let before = operations (take i ops) in
    let one = operation op in
    (λ k. h k ++ map normal (is k))
    ∙ sym (map-append normal (flat_map taken_by before) (taken_by one))
    ∙ ap (λ w. map normal (flat_map taken_by before ++ w)) (sym (append-nil (taken_by one)))
    ∙ ap (map normal) (sym (flat_map-append taken_by before (one ∷ [])))
    ∙ ap dequeues (sym (mapped_more operation ops i op less at))

prefix_mapped : {A B : Type 0} (p : B → Bool) (f : A → B) (xs : List A) → prefix_len p (map f xs) ≡ prefix_len (λ x. p (f x)) xs
prefix_mapped p f [] = refl
prefix_mapped p f (x ∷ xs) = ap (λ n. cond (p (f x)) (1 + n) 0) (prefix_mapped p f xs)

pub position_mapped : {A B : Type 0} (p : B → Bool) (f : A → B) (xs : List A) → position (λ x. p (f x)) xs ≡ position p (map f xs)
position_mapped p f xs =
    let place = prefix_mapped (λ y. not (p y)) f xs in
    sym (λ i. cond (nat_lt (place i) (length-map xs f i)) (Some (place i)) None)
