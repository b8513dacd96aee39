use Rattle.std.proofs.Common.{◌≡◌, ◌∙◌, List, ap, length, map, refl, subst, sym}
use Rattle.std.specs.Option.{option_copied}
use Rattle.std.proofs.lemmas.List.{length-map}
use Rattle.jh_edn.specs.View.{views}
use Rattle.jh_ops.specs.Operation.{operation, operations}
use Rattle.jh_timeline.specs.Lanes.{AreBarsOf, calls_of, count_left_out}
use Rattle.jh_timeline.specs.declared.picture.Bar.{Bar}
use Rattle.jh_timeline.specs.declared.picture.Call.{Call}
use Rattle.jh_timeline_marks.specs.Marked.{operation_number}
use Rattle.jh_timeline_sections.specs.Sections as rule
use Rattle.jh_timeline_sections.specs.Windows.{focus_of, window_of}
use Rattle.jh_timeline_sections.proofs.section.section_of.Goals as goal

pub returns-clause-section : goal.returns-clause-section
returns-clause-section c =
    let ops = operations c.args.history.items in
    let found = option_copied c.args.found in
    let steps = views c.args.steps.now in
    let choice = c.args.choice in
    let window = c.window_in-window.result in
    let bars = c.in_ok-picture.picture.bars.items in
    let calls : c.in_ok-calls.calls.items ≡ calls_of ops = c.in_ok-calls.ensures.calls ∙ ap (λ h. calls_of (operations h)) c.deref.ensures.value in
    let all : c.in_ok-all_marks.all_marks.items ≡ rule.all_marks ops found =
    c.in_ok-all_marks.ensures ∙ ap (λ h. rule.marks_in (operations h) found c.deref-3.result.now) c.deref-2.ensures.value ∙ ap (rule.marks_in ops found) (c.deref-3.ensures.value ∙ calls) in
    let shown : c.deref-7.result.now ≡ rule.all_marks ops found = c.deref-7.ensures.value ∙ all in
    let total : c.len.result ≡ length ops = c.len.ensures ∙ c.args.history.ok.0 ∙ sym (length-map c.args.history.items operation) in
    let drawn_as : (calls : List Call) → calls ≡ c.in_ok-drawn.drawn.items → calls ≡ map (λ (bar : Bar). bar.call) bars =
    λ calls same. same ∙ c.in_ok-drawn.ensures ∙ ap (map (λ (bar : Bar). bar.call)) c.deref-10.ensures.value in
    record {
      titled = refl;
      records = refl;
      window =
          c.window_in-window.ensures ∙ ap (λ n. window_of choice n (focus_of c.deref-4.result.now c.deref-5.result.now)) total
          ∙ ap (λ cs. window_of choice (length ops) (focus_of cs c.deref-5.result.now)) (c.deref-4.ensures.value ∙ calls)
          ∙ ap (λ ms. window_of choice (length ops) (focus_of (calls_of ops) ms)) (c.deref-5.ensures.value ∙ all);
      bars =
          subst (λ ms. AreBarsOf window ops ms bars) shown
          (subst (λ h. AreBarsOf window (operations h) c.deref-7.result.now bars) c.deref-6.ensures.value c.in_ok-picture.ensures.bars);
      apart = c.in_ok-picture.ensures.apart;
      left_out = c.in_ok-picture.ensures.left_out ∙ ap (λ h. count_left_out window (operations h) c.deref-7.result.now) c.deref-6.ensures.value ∙ ap (count_left_out window ops) shown;
      lanes = c.in_ok-picture.ensures.lanes;
      bands = c.in_ok-bands.ensures ∙ ap (λ h. rule.bands_shown window steps (operations h)) c.deref-8.ensures.value;
      lines = c.in_ok-lines.ensures ∙ ap (λ h. rule.lines_shown window steps (operations h)) c.deref-9.ensures.value;
      numbers =
          c.in_ok-numbers.ensures ∙ ap (λ h. map (operation_number (operations h)) c.deref-12.result.now) c.deref-11.ensures.value
          ∙ ap (map (operation_number ops)) (drawn_as c.deref-12.result.now c.deref-12.ensures.value);
      marks =
          c.in_ok-marks.ensures ∙ ap (λ h. rule.marks_in (operations h) found c.deref-14.result.now) c.deref-13.ensures.value
          ∙ ap (rule.marks_in ops found) (drawn_as c.deref-14.result.now c.deref-14.ensures.value);
    }
