use Rattle.std.proofs.Common.{◌++◌, ◌∙◌, FitsSigned, ap, codes, cond, rules, sym, w64}
use Rattle.std.proofs.lemmas.Int.{to_z-of_z}
use Rattle.jh_edn.specs.Edn.{int}
use Rattle.jh_edn.specs.Print.{print}
use Rattle.jh_bands.proofs.WordsLemmas.{on_both}
use Rattle.jh_bands.proofs.labels.write_outcome.Goals as goal

pub returns-in_ok-extend_from_slice : goal.returns-in_ok-extend_from_slice
returns-in_ok-extend_from_slice c =
    let fits : FitsSigned w64 c.args.code = search rules in
    let written = simp to_z-of_z at c.write_integer.ensures in
    let refused = simp to_z-of_z at (sym c.is_done_code.ensures ∙ c.if-is_done_code.false) in
    on_both c.write_integer.result c.args.text.now.items _ c.write_integer.new.text.items _ _ _ c.in_ok-extend_from_slice.ensures.items written
    (ap (λ b. cond b (codes ": done") (codes ": refused, code " ++ print (int c.args.code))) (sym refused))
