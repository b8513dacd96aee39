use Rattle.std.proofs.Common.{◌++◌, subst}
use Rattle.std.specs.Io.KnownBytes.{Appends}
use Rattle.std.proofs.KnownBytes.{Appends-trans}
use Rattle.jh_drive.proofs.DriveLemmas.{report_is}
use Rattle.jh_drive.proofs.report.write_test_report.Goals as goal

pub returns : goal.returns
returns g c = λ judging judged.
    let known = c.in_ok-write_known.ensures in
    let line = c.args.judged.now.text.items in (
      known.0 ++ line,
      report_is judging c.args.conversation.now c.args.judged.now.status known.0 line known.1 judged,
      Appends-trans _ _ _ known.0 line known.2 (subst (Appends _ _) c.deref.ensures.value c.in_ok-write_bytes.ensures.written),
    )
