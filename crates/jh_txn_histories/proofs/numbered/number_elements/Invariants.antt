use Rattle.std.proofs.Common.{take}
use Rattle.std.specs.List.{AllZip}
use Rattle.jh_edn.specs.Normal.{normal}
use Rattle.jh_edn.specs.View.{views}
use Rattle.jh_numbers.specs.Numbers.{HasNumber}
use Rattle.jh_txn_histories.specs.ReadingInside.{Stays}
use Rattle.jh_txn_histories.proofs.numbered.number_elements.Given as goal

abbrev pub invariant-loop-element : goal.invariant-loop-element
invariant-loop-element l = record {
  numbers : AllZip (λ element number. HasNumber l.elements (l.key, normal element) number) (views (take l.element-index l.seen)) l.numbers.items;
  stays : Stays l.fn.elements l.elements;
}
