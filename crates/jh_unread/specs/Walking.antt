-- What a walk of the program is, as one of Unread. This project's own.
use Rattle.std.specs.Prelude.{reverse}
use Rattle.jh_unread.specs.declared.walking.Walk.{Walk}
use Rattle.jh_unread.specs.Unread as unread

-- the walk of the program, with what is open turned round
abbrev pub walk_of : Walk → unread.Walk
walk_of walk =
    record { nest = reverse walk.nest.items; operation = walk.operation; out = walk.out.items }
