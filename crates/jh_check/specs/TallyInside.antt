-- The text of an entry of a tally: proofs rest on it, and no public clause names it. This project's
-- own.
use Rattle.std.specs.Prelude.{ℕ, pos, List, ◌++◌, codes}
use Rattle.jh_edn.specs.Edn.{int}
use Rattle.jh_edn.specs.Print.{print}
use Rattle.jh_edn.specs.View.{view}
use Rattle.jh_check.specs.declared.tally.Counted.{Counted}

abbrev pub entry_text : Counted → List ℕ
entry_text entry = print (view entry.value) ++ (codes " " ++ print (int (pos entry.times)))
