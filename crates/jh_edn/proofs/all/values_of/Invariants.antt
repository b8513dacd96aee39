use Rattle.std.proofs.Common.{◌-◌, length}
use Rattle.std.specs.Str.{IsCharBoundary}
use Rattle.jh_edn.specs.Reading.{IsReached}
use Rattle.jh_edn.specs.View.{views}
use Rattle.jh_edn.proofs.JoinLemmas.{Before, Behind}
use Rattle.jh_edn.proofs.all.values_of.Given as goal

abbrev pub invariant-loop-values : goal.invariant-loop-values
invariant-loop-values l = record {
  boundary : IsCharBoundary l.text l.at;
  before : Before (views l.values.items) l.text l.at;
  reached : IsReached l.text l.at;
  behind : Behind (views l.values.items) l.text l.at;
}

abbrev pub decreases-loop-values : goal.decreases-loop-values
decreases-loop-values l = length l.text - l.at
