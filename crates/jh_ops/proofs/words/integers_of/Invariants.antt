use Rattle.std.specs.Prelude.{◌≡◌, map, take}
use Rattle.std.specs.Int.{w64, cast_signed}
use Rattle.jh_edn.specs.Edn.{int}
use Rattle.jh_edn.specs.View.{views}
use Rattle.jh_ops.proofs.words.integers_of.Given as goal

abbrev pub invariant-loop-word : goal.invariant-loop-word
invariant-loop-word l = views l.values.items ≡ map int (map (cast_signed w64) (take l.word-index l.words))
