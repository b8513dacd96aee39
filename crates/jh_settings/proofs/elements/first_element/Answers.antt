use Rattle.std.proofs.Common.{inl, inr}
use Rattle.std.proofs.lemmas.Str.{IsCharBoundary-start}
use Rattle.jh_edn.specs.Spelling.{NothingReads}
use Rattle.jh_settings.proofs.ElementLemmas.{first_read, in_error}
use Rattle.jh_settings.proofs.elements.first_element.Goals as goal

pub read_one-requires : goal.read_one-requires
read_one-requires c = IsCharBoundary-start c.args.text.now c.utf8.text

pub returns-in-Ok-clause-element : goal.returns-in-Ok-clause-element
returns-in-Ok-clause-element c = first_read c.args.text.now c.in-Ok.found c.in-Ok.ensures.some c.in-Ok.ensures.none

pub returns-in_ok-unless_memory-in-Err-clause-element : goal.returns-in_ok-unless_memory-in-Err-clause-element
returns-in_ok-unless_memory-in-Err-clause-element c =
    let refused : NothingReads c.args.text.now 0 = elim c.in-Err.ensures.refused [
      | inl memory ↦ absurd (c.in_ok-unless_memory-in-Err.ensures memory)
      | inr nothing ↦ nothing
    ] in
    in_error c.args.text.now refused
