use Rattle.std.proofs.Common.{◌≡◌, subst, ap, sym, ◌∙◌}
use Rattle.std.specs.BTreeMap.{keys}
use Rattle.toml.specs.View.{table_view}
use Rattle.jh_settings.specs.Keys.{is_key_name, IsFirstUnknown}
use Rattle.jh_settings.proofs.KeyLemmas.{Passed, none_passed, one_passed, all_known, first_unknown}
use Rattle.jh_settings.proofs.keys.first_unknown.Goals as goal

pub loop-key-init : goal.loop-key-init
loop-key-init c =
    let all : keys c.args.table.now ≡ c.into_iter-key-iterator.result = sym (c.into_iter-key-iterator.ensures.into_iter_gives ∙ c.keys-key-items.ensures.rest) in
    record { can = tt; ends = tt; passed = subst (Passed c.args.keys.now (keys c.args.table.now)) all (none_passed c.args.keys.now (keys c.args.table.now)) }

pub loop-key-preserved : goal.loop-key-preserved
loop-key-preserved c =
    let left = subst (Passed c.args.keys.now (keys c.args.table.now)) c.in-Some.ensures.steps c.loop-key.invariant.passed in
    record { can = tt; ends = tt; passed = one_passed c.args.keys.now (keys c.args.table.now) c.in-Some.key.now c.next.new.self left (ap (is_key_name c.args.keys.now) (sym c.as_str.ensures.value) ∙ sym c.if-not-is_known.ensures) }

pub returns : goal.returns
returns c =
    let left = subst (Passed c.args.keys.now (keys c.args.table.now)) c.in-None.ensures.steps.0 c.loop-key.invariant.passed in
    all_known c.args.keys.now c.args.table.now.entries left

pub returns-then-not-is_known : goal.returns-then-not-is_known
returns-then-not-is_known c =
    let left = subst (Passed c.args.keys.now (keys c.args.table.now)) c.in-Some.ensures.steps c.loop-key.invariant.passed in
    let unknown = ap (is_key_name c.args.keys.now) (sym c.as_str.ensures.value) ∙ sym c.if-not-is_known.ensures in
    let first = first_unknown c.args.keys.now c.args.table.now.entries c.in-Some.key.now c.next.new.self left c.keys-key-items.ensures.ordered unknown in
    subst (IsFirstUnknown c.args.keys.now (table_view c.args.table.now)) (sym c.as_str-then-not-is_known.ensures.value) first
