use Rattle.std.proofs.lemmas.Str.{IsCharBoundary-start}
use Rattle.jh_text_reasons.proofs.places.start_of.Goals as goal

pub returns-clause-boundary : goal.returns-clause-boundary
returns-clause-boundary c = IsCharBoundary-start c.args.text.now c.utf8.text
