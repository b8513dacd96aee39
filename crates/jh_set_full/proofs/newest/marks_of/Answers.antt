use Rattle.std.proofs.Common.{◌∙◌, sym, ap, take, cond, nat_lt, length, get_or, rules}
use Rattle.std.specs.Prelude.{None, Some}
use Rattle.std.proofs.lemmas.List.{length-replicate}
use Rattle.jh_ops.specs.declared.pairs.Pair.{Pair}
use Rattle.jh_set_full.specs.Inside.{latest_of}
use Rattle.jh_set_full.specs.SetFull.{later_of}
use Rattle.jh_set_full.proofs.PlaceLemmas.{latest_blank, within_more}
use Rattle.jh_set_full.proofs.newest.marks_of.Goals as goal

pub loop-read-init : goal.loop-read-init
loop-read-init c = record {
  long = ap length c.in_ok-marks.ensures ∙ length-replicate c.args.count None;
  marks = λ near. ap (λ w. latest_of (take near w)) c.in_ok-marks.ensures ∙ latest_blank c.args.count near;
}

pub loop-read-preserved : goal.loop-read-preserved
loop-read-preserved c =
    let reads = c.args.reads.now in
    let i = c.loop-read.read-index in
    let none : Pair = record { invoke = 0; outcome = None } in
    let read = get_or reads i none in
    record {
      long = search rules;
      marks = λ near.
          c.put_later.ensures.marks near
          ∙ (λ k. later_of (c.loop-read.invariant.marks near k) (cond (nat_lt (c.from_end.ensures.value k) near) (Some read.invoke) None))
          ∙ sym (within_more c.args.count reads i none near c.loop-read-test.true);
    }
