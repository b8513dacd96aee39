use Rattle.std.proofs.Common.{◌≡◌, ◌+◌, refl}
use Rattle.jh_edn.specs.Reading.{digits_end, sign_len}
use Rattle.jh_edn.proofs.NumberLemmas.{numeral_cut, rest_whole}
use Rattle.jh_edn.proofs.atom.number_of.Goals as goal

pub integer_of-requires : goal.integer_of-requires
integer_of-requires c =
    let end : c.sign_len-sign.result + c.digits_len.result ≡ digits_end c.args.token.now = rw (c.digits_len.ensures.len, c.sign_len-sign.ensures.len, rest_whole (sign_len c.args.token.now) c.args.token.now) refl in
    rw end (numeral_cut c.args.token.now c.requires)
