-- Which calls a generator is looked through for (this project's own).
use Rattle.std.specs.Prelude.{Bool}
use Rattle.jh_gen.specs.Suits.{is_call_for, is_no_read, is_transaction}
use Rattle.jh_gen.specs.declared.suits.Wanted.{Wanted}
use Rattle.jh_gen.specs.declared.suits.Wanted.TheVariants.{NoRead, Of, Transactions}
use Rattle.jh_ops.specs.declared.call.Call.{Call}

abbrev pub is_call_wanted : Wanted → Call → Bool
is_call_wanted (Of w) c = is_call_for w c
is_call_wanted Transactions c = is_transaction c
is_call_wanted NoRead c = is_no_read c
