use Rattle.std.proofs.Common.{◌≡◌, length, sym, ap, subst, arith}
use Rattle.std.proofs.lemmas.List.{length-map}
use Rattle.std.specs.List.{All}
use Rattle.jh_nemesis.specs.Steps.{FitsNodes}
use Rattle.jh_test_parts.specs.declared.parts.TestEntry.{TestEntry}
use Rattle.jh_drive_shrink.specs.PartsInside.{place_numbers}
use Rattle.jh_drive_shrink.proofs.PartLemmas.{standing_all, standing_few}
use Rattle.jh_drive_shrink.proofs.parts.test_at.Goals as goal

-- a part has no more entries than are asked for, and each is one of the test
pub with_schedule-requires : goal.with_schedule-requires
with_schedule-requires c =
    let given = c.schedule.result.now in
    let numbers = place_numbers c.entries.result.now in
    let fits = λ (entry : TestEntry). FitsNodes (length c.args.test.now.start.names) entry.step in
    let few = standing_few 0 given numbers in
    let as_many : length numbers ≡ length c.entries.result.now = length-map c.entries.result.now (λ p. p.at) in
    let all = subst (All fits) (sym c.schedule.ensures.schedule) c.clients-clients.ensures.fit.schedule.1 in
    record {
      few = omega (arith, ap length c.in_ok-part.ensures, few, as_many, ap length c.entries.ensures.entries, c.entries.ensures.few);
      fit = subst (All fits) (sym c.in_ok-part.ensures) (standing_all fits 0 given numbers all);
    }
