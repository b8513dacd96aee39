use Rattle.std.proofs.Common.{◌++◌, subst, List, ℕ}
use Rattle.std.specs.Io.KnownBytes.{Appends}
use Rattle.std.proofs.KnownBytes.{Appends-trans}
use Rattle.jh_drive.proofs.DriveLemmas.{report_is}
use Rattle.jh_drive.proofs.report.report_test.Goals as goal

pub returns : goal.returns
returns g c =
    let known = c.in_ok-write_known.ensures in
    let line = c.in_ok-output.output.text.items in (
      known.0 ++ line,
      report_is c.args.judging c.args.conversation.now c.in_ok-output.output.status known.0 line known.1 c.in_ok-output.ensures,
      Appends-trans _ _ _ known.0 line known.2 (subst (Appends _ _) c.deref.ensures.value c.in_ok-write_bytes.ensures.written),
    )
