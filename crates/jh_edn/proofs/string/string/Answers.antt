use Rattle.std.proofs.Common.{◌≡◌, [], Ok, drop, take, rules}
use Rattle.jh_edn.specs.Bytes.{is_plain}
use Rattle.jh_edn.specs.Reading.{body}
use Rattle.jh_edn.proofs.PrefixLemmas.{prefix_len-past}
use Rattle.jh_edn.proofs.StringBodyLemmas.{closed}
use Rattle.jh_edn.proofs.string.string.Goals as goal

pub stop_at-requires : goal.stop_at-requires
stop_at-requires c = rw (c.range_from.ensures.value, c.plain_len-len.ensures.len) (prefix_len-past is_plain c.args.rest.now)

pub returns-in_ok-of-in-Close-clause-gives : goal.returns-in_ok-of-in-Close-clause-gives
returns-in_ok-of-in-Close-clause-gives c =
    let after = c.in-Close.after.now in
    let stop : body (drop c.plain_len-len.result c.args.rest.now) ≡ Ok ([], after) = rw (← c.range_from.ensures.value) c.in-Close.ensures.gives in
    let front : c.range.result.now ≡ take c.plain_len-len.result c.args.rest.now = rw c.range.ensures.value (search rules) in
    rw (c.in_ok-of-in-Close.ensures, front) (closed c.args.rest.now after c.plain_len-len.result c.plain_len-len.ensures.len stop)
