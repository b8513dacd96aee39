-- Values with how often each is there, and what a contract sees of them (this project's own).
use Rattle.std.specs.Prelude.{ℕ, Bool, nat_lt, List, map}
use Rattle.jh_edn.specs.Edn.{Edn}
use Rattle.jh_edn.specs.View.{view}
use Rattle.jh_check.specs.declared.tally.Counted.{Counted}

abbrev pub view_counted : Counted → Edn × ℕ
view_counted counted = (view counted.value, counted.times)

abbrev pub view_tally : List Counted → List (Edn × ℕ)
view_tally items = map view_counted items

-- a value that is there more than once
abbrev pub is_repeated : Edn × ℕ → Bool
is_repeated entry = nat_lt 1 entry.1
