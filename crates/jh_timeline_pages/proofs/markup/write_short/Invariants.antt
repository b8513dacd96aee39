use Rattle.std.specs.Prelude.{◌≡◌, ◌≤◌, length}
use Rattle.std.specs.Io.KnownBytes.{Appends}
use Rattle.std.specs.List.{flat_map}
use Rattle.jh_timeline_pages.specs.Markup.{escaped_character, label_room}
use Rattle.jh_timeline_pages.proofs.markup.write_short.Given as goal

abbrev pub invariant-loop-character : goal.invariant-loop-character
invariant-loop-character g l =
    (l.written ≡ length l.yielded) × (length l.yielded ≤ label_room)
    × Appends (g.W.Write.contents l.initial.writer) (g.W.Write.contents l.writer) (flat_map escaped_character l.yielded)
