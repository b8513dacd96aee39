use Rattle.std.proofs.Common.{rules, ◌≡◌, ◌∙◌, ◌++◌, List, ℕ, ap, codes, string_bytes}
use Rattle.jh_timeline_sections.specs.Titles.{counted_text}
use Rattle.jh_timeline_sections.proofs.title.wrong_elements.Goals as goal

pub returns : goal.returns
returns c =
    let lost = string_bytes c.in_ok-lost.lost in
    let unexpected = string_bytes c.in_ok-unexpected.unexpected in
    let known = counted_text c.args.lost (codes " element is lost") (codes " elements are lost") in
    let written : string_bytes c.in_ok-format.field-0 ≡ codes ": " ++ (lost ++ (codes ", " ++ unexpected)) = search rules in
    ap (λ text. text.items) c.into_bytes.ensures.value ∙ written
    ∙ ap (λ (words : List ℕ). codes ": " ++ (words ++ (codes ", " ++ unexpected))) c.in_ok-lost.ensures
    ∙ ap (λ (words : List ℕ). codes ": " ++ (known ++ (codes ", " ++ words))) c.in_ok-unexpected.ensures
