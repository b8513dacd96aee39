use Rattle.std.proofs.Common.{subst}
use Rattle.std.specs.Io.KnownBytes.{Appends}
use Rattle.jh_drive.proofs.report.write_known.Goals as goal

pub returns : goal.returns
returns g c = (
  c.in_ok-known.known.items,
  c.in_ok-known.ensures,
  subst (Appends _ _) c.deref.ensures.value c.in_ok-write_bytes.ensures.written,
)
