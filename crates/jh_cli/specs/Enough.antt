-- Whether a history has enough operations to be called valid (this project's own): one that is empty, or of
-- another workload, breaks no rule, and says nothing of a database.
use Rattle.std.specs.Prelude.{ℕ, ◌==◌, ◌&&◌, Bool, List, [], ◌∷◌, ◌++◌, codes, nat_lt, Option, Some}
use Rattle.std.specs.Prelude.{None, if◌then◌else◌, count_by}
use Rattle.std.specs.Fmt.{decimal}
use Rattle.std.specs.List.{list_any}
use Rattle.jh_checkers.specs.declared.checker.Checker.{Checker}
use Rattle.jh_ops.specs.Operation.{Operation, is_asked}
use Rattle.jh_ops.specs.declared.operation.Kind.{Kind}

-- the functions whose operations a checker judges
abbrev pub functions_of : Checker → List (List ℕ)
functions_of Checker.Register = codes "read" ∷ codes "write" ∷ codes "cas" ∷ []
functions_of Checker.Set = codes "add" ∷ codes "read" ∷ []
functions_of Checker.Counter = codes "add" ∷ codes "read" ∷ []
functions_of Checker.Ids = codes "generate" ∷ []
functions_of Checker.ListAppend = codes "txn" ∷ []
functions_of Checker.TotalQueue = codes "enqueue" ∷ codes "dequeue" ∷ codes "drain" ∷ []
functions_of Checker.Queue = codes "enqueue" ∷ codes "dequeue" ∷ []
functions_of Checker.Bank = codes "read" ∷ []
functions_of Checker.SetFull = codes "add" ∷ codes "read" ∷ []
functions_of Checker.Mutex = codes "acquire" ∷ codes "release" ∷ []
functions_of Checker.FifoQueue = codes "enqueue" ∷ codes "dequeue" ∷ []

-- a client's operation of this kind, of one of these functions
abbrev pub is_judged : Checker → Kind → Operation → Bool
is_judged checker kind op = list_any (λ name. is_asked kind name op) (functions_of checker)

-- how many of clients' operations of these functions ended `:ok`, in all keys
abbrev pub count_ok_operations : Checker → List Operation → ℕ
count_ok_operations checker history = count_by (is_judged checker Kind.Ok) history

-- the line where fewer operations were done than are wanted
abbrev pub few_line : ℕ → ℕ → List ℕ
few_line done wanted =
    codes "{:valid? :unknown, :error \"" ++ (decimal done
    ++ (codes " of at least " ++ (decimal wanted ++ codes " operations\"}\n")))

-- The answer: of a history with too few operations a verdict that is true is unknown. Any other verdict
-- stays, with its line.
abbrev pub answer_where_enough : Option ℕ → (done status : ℕ) → List ℕ → ℕ × List ℕ
answer_where_enough None done status found = (status, found)
answer_where_enough (Some wanted) done status found =
    if status == 0 && nat_lt done wanted then (2, few_line done wanted) else (status, found)
