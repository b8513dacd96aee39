use Rattle.std.proofs.Common.{◌+◌}
use Rattle.jh_search.specs.Search.{ComesOf}
use Rattle.jh_search.proofs.threads.block.Given as goal

abbrev pub ghosts-tried : goal.ghosts-tried
ghosts-tried g a = record {
  count = a.count;
  comes = λ index verdict. ComesOf a.plan.now a.options.now (a.from + index) verdict;
}
