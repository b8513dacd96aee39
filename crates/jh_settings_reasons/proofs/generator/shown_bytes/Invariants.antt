use Rattle.std.proofs.Common.{◌≡◌, ◌≤◌}
use Rattle.jh_settings_reasons.proofs.generator.shown_bytes.Given as goal

abbrev pub invariant-loop-byte : goal.invariant-loop-byte
invariant-loop-byte l = record {
  place : l.bytes ≡ l.byte-index;
  few : l.characters ≤ l.byte-index;
}
