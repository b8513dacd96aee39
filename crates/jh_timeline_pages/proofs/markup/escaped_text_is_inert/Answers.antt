use Rattle.jh_timeline_pages.proofs.MarkupLemmas.{escaped_inert, short_inert}
use Rattle.jh_timeline_pages.proofs.markup.escaped_text_is_inert.Goals as goal

pub returns-clause-whole : goal.returns-clause-whole
returns-clause-whole c = λ text. escaped_inert text

pub returns-clause-short : goal.returns-clause-short
returns-clause-short c = λ characters. short_inert characters
