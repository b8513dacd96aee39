use Rattle.std.proofs.Common.{◌≡◌, drop, arith, Ok}
use Rattle.std.proofs.lemmas.List.{length-drop}
use Rattle.jh_edn.specs.Gives.{Fails}
use Rattle.jh_edn.specs.View.{view}
use Rattle.jh_edn.specs.Spelling.{depth_limit}
use Rattle.jh_edn.specs.Reading.{gap}
use Rattle.jh_edn.proofs.ElementLoopLemmas.{gap_shorter, read_shorter}
use Rattle.jh_edn.proofs.ReadAtLemmas.{next_sound, whole_ending, gap_whole, place, made, refused_or, first_or, gap_error, read_error, refused_gap, not_at_end}
use Rattle.jh_edn.proofs.reader.read_one.Goals as goal

pub returns-then-is_empty-clause-none : goal.returns-then-is_empty-clause-none
returns-then-is_empty-clause-none c =
    let s = drop c.args.at c.args.text.now in
    let e : gap depth_limit s ≡ Ok c.in-Ok.here.now = rw (← c.range_from.ensures.value) c.in-Ok.ensures.gives in
    gap_whole s c.in-Ok.here.now e (grind arith)

pub overflow_sub-result : goal.overflow_sub-result
overflow_sub-result c =
    let s = drop c.args.at c.args.text.now in
    let e : gap depth_limit s ≡ Ok c.in-Ok.here.now = rw (← c.range_from.ensures.value) c.in-Ok.ensures.gives in
    omega (arith, gap_shorter depth_limit s c.in-Ok.here.now e, read_shorter depth_limit c.in-Ok.here.now (view c.in-Ok-element.value) c.in-Ok-element.after.now c.in-Ok-element.ensures.gives, length-drop c.args.at c.args.text.now)

pub returns-in-Err-clause-refused : goal.returns-in-Err-clause-refused
returns-in-Err-clause-refused c =
    let text = c.args.text.now in
    let s = drop c.args.at text in
    let parsed = c.in-Err.error in
    let e : Fails parsed (gap depth_limit s) = rw (← c.range_from.ensures.value) c.in-Err.ensures.gives in
    rw c.error_in.ensures (refused_gap text c.args.at parsed e)

pub returns-in-Ok-element-clause-some : goal.returns-in-Ok-element-clause-some
returns-in-Ok-element-clause-some c =
    let s = drop c.args.at c.args.text.now in
    let x = view c.in-Ok-element.value in
    let e : gap depth_limit s ≡ Ok c.in-Ok.here.now = rw (← c.range_from.ensures.value) c.in-Ok.ensures.gives in
    made c.args.text.now c.args.at x c.in-Ok-element.after.now (next_sound s c.in-Ok.here.now x c.in-Ok-element.after.now e c.in-Ok-element.ensures.gives)

pub returns-in-Ok-element-clause-place : goal.returns-in-Ok-element-clause-place
returns-in-Ok-element-clause-place c =
    let s = drop c.args.at c.args.text.now in
    let x = view c.in-Ok-element.value in
    let after = c.in-Ok-element.after.now in
    let e : gap depth_limit s ≡ Ok c.in-Ok.here.now = rw (← c.range_from.ensures.value) c.in-Ok.ensures.gives in
    let next = next_sound s c.in-Ok.here.now x after e c.in-Ok-element.ensures.gives in
    let p = place c.args.text.now c.args.at after (whole_ending s x after next) in (
      omega (arith, gap_shorter depth_limit s c.in-Ok.here.now e, read_shorter depth_limit c.in-Ok.here.now x after c.in-Ok-element.ensures.gives, length-drop c.args.at c.args.text.now),
      p.seam c.in-Ok-element.ensures.text,
    )

pub returns-in-Err-element-clause-refused : goal.returns-in-Err-element-clause-refused
returns-in-Err-element-clause-refused c =
    let text = c.args.text.now in
    let s = drop c.args.at text in
    let parsed = c.in-Err-element.error in
    let e : gap depth_limit s ≡ Ok c.in-Ok.here.now = rw (← c.range_from.ensures.value) c.in-Ok.ensures.gives in
    rw c.error_in-in-Err-element.ensures (refused_or text c.args.at parsed (read_error s c.in-Ok.here.now parsed e c.in-Err-element.ensures.gives) (not_at_end s c.in-Ok.here.now e (grind arith)))

pub returns-in-Err-clause-first_error : goal.returns-in-Err-clause-first_error
returns-in-Err-clause-first_error c =
    let text = c.args.text.now in
    let s = drop c.args.at text in
    let parsed = c.in-Err.error in
    let e : Fails parsed (gap depth_limit s) = rw (← c.range_from.ensures.value) c.in-Err.ensures.gives in
    rw c.error_in.ensures (first_or text c.args.at parsed (gap_error s parsed e))

pub returns-in-Err-element-clause-first_error : goal.returns-in-Err-element-clause-first_error
returns-in-Err-element-clause-first_error c =
    let text = c.args.text.now in
    let s = drop c.args.at text in
    let parsed = c.in-Err-element.error in
    let e : gap depth_limit s ≡ Ok c.in-Ok.here.now = rw (← c.range_from.ensures.value) c.in-Ok.ensures.gives in
    rw c.error_in-in-Err-element.ensures (first_or text c.args.at parsed (read_error s c.in-Ok.here.now parsed e c.in-Err-element.ensures.gives))
