use Rattle.std.proofs.Common.{◌≡◌, ◌∙◌, false, true, length, sym, refl}
use Rattle.jh_edn.specs.Edn.{is_empty}
use Rattle.std.specs.Prelude.{nat_le}
use Rattle.jh_nemesis.specs.Steps.{max_steps}
use Rattle.jh_nemesis.proofs.AcceptedLemmas.{some_active}
use Rattle.jh_nemesis.proofs.nemesis.Nemesis.check_withdraw_all.Goals as goal

pub returns-then-is_full : goal.returns-then-is_full
returns-then-is_full c =
    let a = c.self.inside in
    let some : is_empty c.args.self.now.state.active ≡ false =
    rw (← c.self.view_is) (some_active a.accepted.items a.active.items (sym c.is_empty.ensures ∙ c.if-is_empty.false)) in
    let full : nat_le max_steps (length c.args.self.now.state.past) ≡ true = sym c.is_full.ensures ∙ c.if-is_full.true in
    rw (some, full) refl
