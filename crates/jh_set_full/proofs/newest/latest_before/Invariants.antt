use Rattle.std.proofs.Common.{◌≡◌, ℕ, ◌<◌, get_or, take}
use Rattle.std.specs.Prelude.{vec_len, None}
use Rattle.jh_set_full.specs.Inside.{latest_of}
use Rattle.jh_set_full.proofs.newest.latest_before.Given as goal

abbrev pub invariant-loop-mark : goal.invariant-loop-mark
invariant-loop-mark l = record {
  long : vec_len l.table ≡ l.mark-index;
  last : l.last ≡ latest_of (take l.mark-index l.marks);
  table : (near : ℕ) → near < l.mark-index → get_or l.table.items near None ≡ latest_of (take near l.marks);
}
