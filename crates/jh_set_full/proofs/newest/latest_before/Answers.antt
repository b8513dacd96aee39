use Rattle.std.proofs.Common.{◌≡◌, ◌∙◌, ap, take, length, rules, get_or}
use Rattle.std.specs.Prelude.{None}
use Rattle.jh_set_full.specs.Inside.{latest_of}
use Rattle.jh_set_full.specs.SetFull.{later_of}
use Rattle.jh_set_full.proofs.PlaceLemmas.{latest_taken, table_more}
use Rattle.jh_set_full.proofs.newest.latest_before.Goals as goal

pub loop-mark-preserved : goal.loop-mark-preserved
loop-mark-preserved c =
    let marks = c.args.marks.now in
    let i = c.loop-mark.mark-index in
    let long : length c.loop-mark.table.items ≡ i = search rules in
    record {
      long = search rules;
      last = c.later_of-last.ensures ∙ (λ k. later_of (c.loop-mark.invariant.last k) (get_or marks i None)) ∙ latest_taken marks i None c.loop-mark-test.true;
      table = λ near less.
          ap (λ w. get_or w near None) c.in_ok-push.ensures.items
          ∙ table_more (λ j. latest_of (take j marks)) c.loop-mark.table.items c.loop-mark.last None i long c.loop-mark.invariant.table c.loop-mark.invariant.last near less;
    }
