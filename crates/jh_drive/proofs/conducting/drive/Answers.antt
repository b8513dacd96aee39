use Rattle.std.proofs.Common.{inr, subst}
use Rattle.jh_drive.specs.Drive.{IsAnswered}
use Rattle.jh_drive.proofs.conducting.drive.Goals as goal

pub returns-clause-driven : goal.returns-clause-driven
returns-clause-driven g c =
    let settings = c.in-Ok.settings in
    inr (
      settings.test,
      settings.initial,
      settings.model,
      settings.budget,
      c.in-Ok.ensures,
      subst (λ judging. IsAnswered settings.test judging (g.R.Read.remaining c.args.streams.now.reader) (g.R.Read.remaining c.conduct.new.streams.reader)
          (g.W.Write.contents c.args.streams.now.writer) (g.W.Write.contents c.conduct.new.streams.writer) c.conduct.result)
          c.judging_of-judging.ensures c.conduct.ensures,
    )
