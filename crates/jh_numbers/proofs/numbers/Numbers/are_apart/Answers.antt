use Rattle.std.proofs.Common.{subst}
use Rattle.std.specs.List.{IsDistinct}
use Rattle.jh_numbers.specs.Numbers.{is_same_owned}
use Rattle.jh_numbers.proofs.KeyLemmas.{distinct_listed}
use Rattle.jh_numbers.proofs.numbers.Numbers.are_apart.Goals as goal

pub returns : goal.returns
returns c = subst (IsDistinct is_same_owned) c.self.view_is (distinct_listed c.self.inside.values.keys c.len-count.ensures.unique)
