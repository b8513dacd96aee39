use Rattle.std.proofs.Common.{◌≡◌, ◌<◌, length, drop, arith, rules, Ok, Some, sym, ◌∙◌}
use Rattle.std.proofs.lemmas.List.{length-drop}
use Rattle.jh_edn.specs.Gives.{Fails}
use Rattle.jh_edn.specs.Reading.{gap}
use Rattle.jh_edn.specs.Sequences.{closing_bracket, elements_to}
use Rattle.jh_edn.specs.Spelling.{depth_limit}
use Rattle.jh_edn.proofs.SequenceReadLemmas.{opens, behind_bracket, sequence_next, sequence_error, reads_none}
use Rattle.jh_edn.proofs.ReadAtLemmas.{whole_ending, place, made, refused_or, refused_gap, first_or, gap_error, read_error, not_at_end}
use Rattle.jh_edn.proofs.sequence.read_sequence.Goals as goal

pub returns-in-Err : goal.returns-in-Err
returns-in-Err g c =
    let text = c.args.text.now in
    let s = drop c.args.at text in
    let parsed = c.in-Err.error in
    let e : Fails parsed (gap depth_limit s) = rw (← c.range_from.ensures.value) c.in-Err.ensures.gives in
    record {
      some = search rules;
      place = search rules;
      none = search rules;
      unchanged = search rules;
      refused = rw c.error_in.ensures (refused_gap text c.args.at parsed e);
      first_error = rw c.error_in.ensures (first_or text c.args.at parsed (gap_error s parsed e));
    }

pub returns-in_default-clause-none : goal.returns-in_default-clause-none
returns-in_default-clause-none g c =
    let here = c.in-Ok.here.now in
    let e : gap depth_limit (drop c.args.at c.args.text.now) ≡ Ok here = rw (← c.range_from.ensures.value) c.in-Ok.ensures.gives in
    reads_none c.args.text.now c.args.at here e (sym c.closing.ensures ∙ c.in_default.is)

pub range_from-requires-2 : goal.range_from-requires-2
range_from-requires-2 g c =
    let some : closing_bracket c.in-Ok.here.now ≡ Some c.in-Some.close = sym c.closing.ensures ∙ c.in-Some.is in
    λ _. behind_bracket c.in-Ok.here.now c.in-Some.close c.in-Ok.ensures.text some

pub overflow_sub-result : goal.overflow_sub-result
overflow_sub-result g c =
    let s = drop c.args.at c.args.text.now in
    let here = c.in-Ok.here.now in
    let after = c.in-Ok-give_elements.after.now in
    let taken = c.in-Ok-give_elements.ensures.taken in
    let e : gap depth_limit s ≡ Ok here = rw (← c.range_from.ensures.value) c.in-Ok.ensures.gives in
    let some : closing_bracket here ≡ Some c.in-Some.close = sym c.closing.ensures ∙ c.in-Some.is in
    let is : elements_to c.in-Some.close (drop 1 here) ≡ Ok (taken.0, after) = rw (← c.range_from-2.ensures.value) taken.1 in
    omega (arith, (sequence_next s here c.in-Some.close taken.0 after e some is).3, length-drop c.args.at c.args.text.now)

pub returns-in-Ok-give_elements : goal.returns-in-Ok-give_elements
returns-in-Ok-give_elements g c =
    let text = c.args.text.now in
    let s = drop c.args.at text in
    let here = c.in-Ok.here.now in
    let after = c.in-Ok-give_elements.after.now in
    let taken = c.in-Ok-give_elements.ensures.taken in
    let e : gap depth_limit s ≡ Ok here = rw (← c.range_from.ensures.value) c.in-Ok.ensures.gives in
    let some : closing_bracket here ≡ Some c.in-Some.close = sym c.closing.ensures ∙ c.in-Some.is in
    let is : elements_to c.in-Some.close (drop 1 here) ≡ Ok (taken.0, after) = rw (← c.range_from-2.ensures.value) taken.1 in
    let q = sequence_next s here c.in-Some.close taken.0 after e some is in
    let p = place text c.args.at after (whole_ending s q.0 after q.2) in
    record {
      some = (q.0, taken.0, made text c.args.at q.0 after q.2, q.1, taken.2);
      place = (omega (arith, q.3, length-drop c.args.at text), p.seam c.in-Ok-give_elements.ensures.text);
      none = search rules;
      unchanged = search rules;
      refused = search rules;
      first_error = search rules;
    }

pub returns-in-Err-give_elements : goal.returns-in-Err-give_elements
returns-in-Err-give_elements g c =
    let text = c.args.text.now in
    let s = drop c.args.at text in
    let here = c.in-Ok.here.now in
    let parsed = c.in-Err-give_elements.error in
    let e : gap depth_limit s ≡ Ok here = rw (← c.range_from.ensures.value) c.in-Ok.ensures.gives in
    let some : closing_bracket here ≡ Some c.in-Some.close = sym c.closing.ensures ∙ c.in-Some.is in
    let fails : Fails parsed (elements_to c.in-Some.close (drop 1 here)) = rw (← c.range_from-2.ensures.value) c.in-Err-give_elements.ensures.fails in
    let bracket : 0 < length here = (opens here c.in-Some.close some).some in
    let error = read_error s here parsed e (sequence_error here c.in-Some.close parsed some fails) in
    record {
      some = search rules;
      place = search rules;
      none = search rules;
      unchanged = search rules;
      refused = rw c.error_in-in-Err-give_elements.ensures (refused_or text c.args.at parsed error (not_at_end s here e (λ none. omega (arith, bracket, none))));
      first_error = rw c.error_in-in-Err-give_elements.ensures (first_or text c.args.at parsed error);
    }
