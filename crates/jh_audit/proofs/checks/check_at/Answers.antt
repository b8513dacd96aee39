use Rattle.std.proofs.Common.{refl, rules}
use Rattle.std.proofs.lemmas.Bool.Decides.{not_from_Decides}
use Rattle.jh_ops.specs.Operation.{operation}
use Rattle.jh_audit.proofs.AuditLemmas.{read_at}
use Rattle.jh_audit.proofs.checks.check_at.Goals as goal

pub returns-then-not-is_new : goal.returns-then-not-is_new
returns-then-not-is_new c =
    let op = c.index-history-place.result in
    let read = read_at c.args.history.now c.args.place op c.in-Some.form c.requires.place c.index-history-place.is c.in-Some.ensures.says in
    let no = not_from_Decides c.is_new.result c.is_new.ensures c.if-not-is_new.true in
    (refl, (operation op, c.in-Some.form, read.0, read.1, (c.has_event.ensures.0 (search rules), c.completes_event.ensures.0 (search rules), no)))

pub returns-then-not-is_paired : goal.returns-then-not-is_paired
returns-then-not-is_paired c =
    let op = c.index-history-place.result in
    let read = read_at c.args.history.now c.args.place op c.in-Some.form c.requires.place c.index-history-place.is c.in-Some.ensures.says in
    let no = not_from_Decides c.is_paired.result c.is_paired.ensures c.if-not-is_paired.true in (
      refl,
      (
        operation op,
        c.in-Some.form,
        read.0,
        read.1,
        (c.has_event.ensures.0 (search rules), c.completes_event.ensures.0 (search rules), c.is_new.ensures.0 (search rules), no),
      ),
    )

pub returns-then-not-is_in_order : goal.returns-then-not-is_in_order
returns-then-not-is_in_order c =
    let op = c.index-history-place.result in
    let read = read_at c.args.history.now c.args.place op c.in-Some.form c.requires.place c.index-history-place.is c.in-Some.ensures.says in
    let no = not_from_Decides c.is_in_order.result c.is_in_order.ensures c.if-not-is_in_order.true in (
      refl,
      (
        operation op,
        c.in-Some.form,
        read.0,
        read.1,
        (
          c.has_event.ensures.0 (search rules),
          c.completes_event.ensures.0 (search rules),
          c.is_new.ensures.0 (search rules),
          c.is_paired.ensures.0 (search rules),
          no,
        ),
      ),
    )

-- each test passed
pub returns : goal.returns
returns c =
    let op = c.index-history-place.result in
    let read = read_at c.args.history.now c.args.place op c.in-Some.form c.requires.place c.index-history-place.is c.in-Some.ensures.says in
    record {
      op = operation op;
      form = c.in-Some.form;
      at = read.0;
      says = read.1;
      has_event = c.has_event.ensures.0 (search rules);
      completes = c.completes_event.ensures.0 (search rules);
      new = c.is_new.ensures.0 (search rules);
      paired = c.is_paired.ensures.0 (search rules);
      in_order = c.is_in_order.ensures.0 (search rules);
    }
