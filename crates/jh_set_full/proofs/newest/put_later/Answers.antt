use Rattle.std.proofs.Common.{◌∙◌, set, take, arith}
use Rattle.std.specs.Prelude.{Some}
use Rattle.jh_set_full.specs.Inside.{latest_of}
use Rattle.jh_set_full.specs.SetFull.{later_of}
use Rattle.jh_set_full.proofs.PlaceLemmas.{latest_put}
use Rattle.jh_set_full.proofs.newest.put_later.Goals as goal

pub returns-clause-marks : goal.returns-clause-marks
returns-clause-marks c near =
    let marks = c.args.marks.now.items in
    let at = c.args.at in
    let place = c.args.place in
    (λ k. latest_of (take near (set marks at (c.later_of.ensures k))))
    ∙ (λ k. latest_of (take near (set marks at (later_of (c.index.ensures k) (Some place)))))
    ∙ latest_put marks at c.index.result.now place near (omega (arith, c.requires))
