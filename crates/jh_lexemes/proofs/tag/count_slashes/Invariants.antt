use Rattle.std.proofs.Common.{◌≡◌, ◌==◌, drop, take}
use Rattle.std.specs.List.{count_by, list_all}
use Rattle.jh_edn.specs.Bytes.{is_symbol, slash}
use Rattle.jh_lexemes.proofs.tag.count_slashes.Given as goal

abbrev pub invariant-loop-b : goal.invariant-loop-b
invariant-loop-b l = record {
  symbols : list_all is_symbol (drop l.b-index l.name) ≡ list_all is_symbol l.name;
  count : l.count ≡ count_by (λ c. c == slash) (take l.b-index l.name);
}
