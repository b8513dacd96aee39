use Rattle.std.proofs.Common.{List, ◌-◌, length}
use Rattle.std.specs.Str.{IsCharBoundary}
use Rattle.jh_edn.specs.Edn.{Edn}
use Rattle.jh_histories.specs.ParsingInside.{AreSeveral, HasParsed}
use Rattle.jh_histories.proofs.FirstValuesLemmas.{Begins}
use Rattle.jh_histories.proofs.reading.history_behind.Given as goal

abbrev pub invariant-values : goal.invariant-values
invariant-values l = record {
  boundary : IsCharBoundary l.text l.at;
  begun : (values : List Edn) × AreSeveral values × Begins l.text values l.at × HasParsed l.parsing values;
}

abbrev pub decreases-values : goal.decreases-values
decreases-values l = length l.text - l.at
