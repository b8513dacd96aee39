use Rattle.std.proofs.Common.{◌≡◌, drop, false}
use Rattle.std.specs.Str.{IsCharBoundary}
use Rattle.jh_edn.specs.Reading.{text_after_blank}
use Rattle.jh_edn.proofs.TextFrontLemmas.{after_some}
use Rattle.jh_edn.proofs.scan.blank_len.Given as goal

abbrev pub invariant-loop-b : goal.invariant-loop-b
invariant-loop-b l = record {
  same : l.b-index ≡ l.len;
  boundary : l.in_comment ≡ false → IsCharBoundary l.b-items l.len;
  rest : after_some l.in_comment (drop l.len l.b-items) ≡ text_after_blank l.b-items;
}
