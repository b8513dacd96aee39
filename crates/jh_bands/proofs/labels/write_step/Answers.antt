use Rattle.std.proofs.Common.{FitsSigned, ap, rules, sym, w64}
use Rattle.std.proofs.lemmas.Int.{to_z-of_z}
use Rattle.jh_bands.specs.BandsInside.{view_step}
use Rattle.jh_bands.specs.Lines.{step_in_words}
use Rattle.jh_bands.proofs.WordsLemmas.{on_both, on_extended}
use Rattle.jh_bands.proofs.labels.write_step.Goals as goal

pub returns-in_ok-extend_from_slice-in-Withdraw : goal.returns-in_ok-extend_from_slice-in-Withdraw
returns-in_ok-extend_from_slice-in-Withdraw c =
    let fits : FitsSigned w64 c.in-Withdraw.id = search rules in
    let written = simp to_z-of_z at c.write_integer.ensures in
    on_both c.write_integer.result c.args.text.now.items _ c.write_integer.new.text.items _ _ _ c.in_ok-extend_from_slice-in-Withdraw.ensures.items written
    (ap (λ s. step_in_words (view_step s)) (sym c.in-Withdraw.is))

pub returns-in-WithdrawAll : goal.returns-in-WithdrawAll
returns-in-WithdrawAll c =
    let call = c.extend_from_slice-in-WithdrawAll in
    on_extended call.result c.args.text.now.items call.new.self.items _ _ call.ensures.items (ap (λ s. step_in_words (view_step s)) (sym c.in-WithdrawAll.is))
