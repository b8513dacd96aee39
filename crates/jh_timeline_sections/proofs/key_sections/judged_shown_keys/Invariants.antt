use Rattle.std.specs.Prelude.{Some, map}
use Rattle.jh_ops.specs.Operation.{operations}
use Rattle.jh_timeline_sections.specs.ShownKeysInside.{AreJoined}
use Rattle.jh_timeline_sections.specs.KeySections.{key_found, keys_found}
use Rattle.jh_timeline_sections.proofs.key_sections.judged_shown_keys.Given as goal

abbrev pub invariant-loop-finding : goal.invariant-loop-finding
invariant-loop-finding l =
    let history = operations l.fn.history in
    AreJoined history (keys_found history (Some l.fn.findings.items)) l.shown.items (map key_found l.finding-iterator.a.rest.items)
    l.finding-iterator.b.rest.items
