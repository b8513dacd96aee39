use Rattle.std.proofs.Common.{All, ap, arith, length, subst, sym, ◌≤◌, ◌∙◌}
use Rattle.jh_test_parts.specs.SourceInside.{IsSlot}
use Rattle.jh_test_parts.proofs.TransactionLemmas.{slots_fit, slots_long}
use Rattle.jh_test_parts.proofs.transactions.TransactionSource.first.Goals as goal

pub invariant_of-result : goal.invariant_of-result
invariant_of-result c =
    let shape = c.args.shape in
    let good = c.requires in
    let few : shape.keys ≤ 1000 = good.few_keys in
    let made = c.in_ok-first_slots.ensures in record {
      good = good;
      long = ap length made ∙ slots_long 0 shape.keys;
      slots = subst (All (IsSlot shape)) (sym made) (slots_fit shape good.some_appends 0 shape.keys (omega (arith, few)));
      next = omega (arith, few);
    }
