use Rattle.std.proofs.Common.{◌<◌, ◌≤◌, ◌∙◌, length, arith, rules}
use Rattle.jh_env.specs.TextErrors.{repeats}
use Rattle.jh_env.specs.TextInside.{entries_parsed}
use Rattle.jh_env.proofs.TextSettingLemmas.{all_set, more_set, repeated_first, entry_parsed_at, among_parsed, length-entries_parsed}
use Rattle.jh_env.proofs.texts.setting.set_all.Goals as goal

pub returns-then-is_repeated : goal.returns-then-is_repeated
returns-then-is_repeated c =
    let below : c.loop-place.place < length c.args.entries.now = search rules in
    repeated_first c.args.start.now.names (entries_parsed c.args.entries.now) c.loop-place.place _ c.loop-place.start
    (entry_parsed_at c.args.entries.now c.loop-place.place _ below) c.loop-place.invariant c.in_ok-set_entry.ensures.0
    (among_parsed (repeats _) c.args.entries.now c.loop-place.place ∙ search rules)

pub loop-place-preserved : goal.loop-place-preserved
loop-place-preserved c =
    let below : c.loop-place.place < length c.args.entries.now = search rules in
    let below_parsed : c.loop-place.place < length (entries_parsed c.args.entries.now) = omega (arith, length-entries_parsed c.args.entries.now) in
    more_set c.args.start.now.names (entries_parsed c.args.entries.now) c.loop-place.place _ c.loop-place.start c.set_entry.new.start
    below_parsed (entry_parsed_at c.args.entries.now c.loop-place.place _ below) c.in_ok-set_entry.ensures.0
    (among_parsed (repeats _) c.args.entries.now c.loop-place.place ∙ search rules) c.loop-place.invariant c.in_ok-set_entry.ensures.1

pub returns : goal.returns
returns c =
    let past : length (entries_parsed c.args.entries.now) ≤ c.loop-place.place = omega (arith, length-entries_parsed c.args.entries.now) in
    all_set c.args.start.now.names (entries_parsed c.args.entries.now) c.loop-place.place c.loop-place.start past c.loop-place.invariant
