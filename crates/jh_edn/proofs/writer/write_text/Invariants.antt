use Rattle.std.proofs.Common.{◌≡◌, ℕ, List, ◌∷◌, ◌++◌, length}
use Rattle.std.specs.Io.KnownBytes.{Appends}
use Rattle.std.specs.List.{flat_map}
use Rattle.jh_edn.specs.Print.{escape}
use Rattle.jh_edn.specs.Bytes.{quote}
use Rattle.jh_edn.proofs.writer.write_text.Given as goal

abbrev pub invariant-pieces : goal.invariant-pieces
invariant-pieces g l =
    let contents = g.W.Write.contents in
    (done : List ℕ) × Appends (contents l.fn.writer) (contents l.writer) done × (done ++ flat_map escape l.left ≡ quote ∷ flat_map escape l.text)

abbrev pub decreases-pieces : goal.decreases-pieces
decreases-pieces g l = length l.left
