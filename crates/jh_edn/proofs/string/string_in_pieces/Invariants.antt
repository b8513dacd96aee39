use Rattle.std.proofs.Common.{◌≡◌, length}
use Rattle.std.specs.String.{string_bytes}
use denote.Shadow.{shadow}
use denote.Text.{Utf8}
use Rattle.jh_edn.specs.Reading.{body, read_with_front}
use Rattle.jh_edn.proofs.string.string_in_pieces.Given as goal

abbrev pub invariant-pieces : goal.invariant-pieces
invariant-pieces l = shadow (Utf8 l.left) × (read_with_front (string_bytes l.text) (body l.left) ≡ body l.rest)

abbrev pub decreases-pieces : goal.decreases-pieces
decreases-pieces l = length l.left
