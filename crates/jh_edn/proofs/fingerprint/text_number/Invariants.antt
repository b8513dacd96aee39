use Rattle.std.proofs.Common.{◌≡◌, drop}
use Rattle.std.specs.List.{fold}
use Rattle.jh_edn.specs.Fingerprint.{byte_more}
use Rattle.jh_edn.proofs.fingerprint.text_number.Given as goal

abbrev pub invariant-loop-byte : goal.invariant-loop-byte
invariant-loop-byte l = fold byte_more l.number (drop l.byte-index l.byte-items) ≡ fold byte_more 0xcbf29ce484222325 l.byte-items
