-- The configurations of a search that wait to be expanded: proofs rest on it, and no public clause
-- names it.
-- This project's own.
use Rattle.std.specs.Prelude.{◌==◌, ℕ, Bool, List, ◌∷◌, if◌then◌else◌}
use Rattle.std.specs.List.{list_any, sum_by}
use Rattle.std.specs.List.Sorted.{IsPermutation}
use Rattle.jh_linear.specs.declared.queue.RankedConfig.{RankedConfig}

-- whether the configuration at an index waits
abbrev pub awaits : List RankedConfig → ℕ → Bool
awaits waiting i = list_any (λ ranked. ranked.at == i) waiting

-- The others are those that wait with one more, in any order.
abbrev pub IsWith : RankedConfig → List RankedConfig → List RankedConfig → Type 0
IsWith ranked waiting others = IsPermutation (ranked ∷ waiting) others

-- how often a configuration that waits may still be expanded
abbrev pub expansions_left : RankedConfig → ℕ
expansions_left ranked = if ranked.is_last then 1 else 2

-- how many expansions there may still be of all that wait
abbrev pub expansions_in : List RankedConfig → ℕ
expansions_in waiting = sum_by expansions_left waiting
