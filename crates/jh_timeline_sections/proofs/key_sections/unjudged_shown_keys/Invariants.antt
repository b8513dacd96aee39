use Rattle.std.specs.Prelude.{None}
use Rattle.jh_ops.specs.Operation.{operations}
use Rattle.jh_timeline_sections.specs.ShownKeysInside.{AreJoined}
use Rattle.jh_timeline_sections.specs.KeySections.{keys_found}
use Rattle.jh_timeline_sections.proofs.KeyLemmas.{keys_beside}
use Rattle.jh_timeline_sections.proofs.key_sections.unjudged_shown_keys.Given as goal

abbrev pub invariant-loop-own : goal.invariant-loop-own
invariant-loop-own l =
    let history = operations l.fn.history in
    AreJoined history (keys_found history None) l.shown.items (keys_beside l.own-iterator.rest.items) l.own-iterator.rest.items
