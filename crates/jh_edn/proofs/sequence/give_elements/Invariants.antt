use Rattle.std.proofs.Common.{◌≡◌, ℕ, ◌-◌, ◌<◌, List, length}
use denote.Shadow.{shadow}
use denote.Text.{Utf8}
use Rattle.jh_edn.specs.Edn.{Edn}
use Rattle.jh_edn.specs.Reading.{items, gap, read, read_with_front}
use Rattle.jh_edn.specs.Sequences.{elements_to, Takes}
use Rattle.jh_edn.specs.Spelling.{depth_limit}
use Rattle.jh_edn.proofs.sequence.give_elements.Given as goal

abbrev pub invariant-turns : goal.invariant-turns
invariant-turns g l =
    shadow (Utf8 l.left) × (n : ℕ) × (length l.left < n) × (taken : List Edn)
    × (read_with_front taken (items l.close (gap (depth_limit - 1)) (read (depth_limit - 1)) n l.left) ≡ elements_to l.close l.rest)
    × Takes (g.S.Sink.has_taken l.fn.sink) (g.S.Sink.has_taken l.sink) taken

abbrev pub decreases-turns : goal.decreases-turns
decreases-turns g l = length l.left
