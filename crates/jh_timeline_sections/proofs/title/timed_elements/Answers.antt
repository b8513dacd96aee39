use Rattle.std.proofs.Common.{rules, ◌≡◌, ◌∙◌, ◌++◌, List, ℕ, ap, codes, string_bytes}
use Rattle.jh_timeline_sections.specs.Titles.{counted_text}
use Rattle.jh_timeline_sections.proofs.title.timed_elements.Goals as goal

pub returns : goal.returns
returns c =
    let lost = string_bytes c.in_ok-lost.lost in
    let stale = string_bytes c.in_ok-stale.stale in
    let duplicated = string_bytes c.in_ok-duplicated.duplicated in
    let known_lost = counted_text c.args.lost (codes " element is lost") (codes " elements are lost") in
    let known_stale = counted_text c.args.stale (codes " was stale") (codes " were stale") in
    let written : string_bytes c.in_ok-format.field-0 ≡ codes ": " ++ (lost ++ (codes ", " ++ (stale ++ (codes ", " ++ duplicated)))) = search rules in
    ap (λ text. text.items) c.into_bytes.ensures.value ∙ written
    ∙ ap (λ (words : List ℕ). codes ": " ++ (words ++ (codes ", " ++ (stale ++ (codes ", " ++ duplicated))))) c.in_ok-lost.ensures
    ∙ ap (λ (words : List ℕ). codes ": " ++ (known_lost ++ (codes ", " ++ (words ++ (codes ", " ++ duplicated))))) c.in_ok-stale.ensures
    ∙ ap (λ (words : List ℕ). codes ": " ++ (known_lost ++ (codes ", " ++ (known_stale ++ (codes ", " ++ words))))) c.in_ok-duplicated.ensures
