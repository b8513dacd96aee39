use Rattle.std.proofs.Common.{◌≡◌, ◌<◌, List, Some, length, slice_get, refl, sym, subst}
use Rattle.std.proofs.lemmas.Option.{slice_get_read}
use Rattle.jh_linear.specs.declared.config.Config.{Config}
use Rattle.jh_linear.proofs.GoingOnLemmas.{if_ok}
use Rattle.jh_linear.proofs.judge.config_at.Goals as goal

pub returns : goal.returns
returns c =
    let x : Config = c.index-as_slice-at.result in
    let keys : List Config = c.as_slice.result.now in
    let low : c.args.at < length keys = subst (λ (ks : List Config). c.args.at < length ks) (sym c.as_slice.ensures.keys) c.requires in
    let is : slice_get keys c.args.at ≡ Some x = slice_get_read keys (length keys) c.args.at x refl low c.index-as_slice-at.is in
    if_ok c.copy_config.result (λ config same. (x, subst (λ (ks : List Config). slice_get ks c.args.at ≡ Some x) c.as_slice.ensures.keys is, same)) c.copy_config.ensures
