-- What the judge's answers need.
use Rattle.std.proofs.Common.{◌≡◌, Bool, true, false, refl}
use Rattle.jh_txn.specs.Models.{keeps_real_time}
use Rattle.jh_txn_judge.specs.Judged.{serial_model}

pub asks_for : (flag : Bool) → keeps_real_time (serial_model flag) ≡ flag
asks_for true = refl
asks_for false = refl
