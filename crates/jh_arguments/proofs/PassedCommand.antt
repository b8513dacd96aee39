-- A parse that does not fail, of a command that requires a subcommand: it entered one of them, which is not help, and this level does not fail.
use Rattle.std.proofs.Common.{◌≡◌, ◌∙◌, ◌&&◌, Bool, cond, codes, true, false, not, refl, sym, ap, subst, List, [], ◌∷◌, Option, Some, None, is_some, true≢false}
use Rattle.std.specs.Prelude.{option_map}
use Rattle.std.specs.List.{find}
use Rattle.std.specs.Str.{bytes_eq}
use Rattle.std.specs.Option.{option_map_or}
use Rattle.clap.specs.Faults.{built_fault, defaults_fault, check_fault, entered_fault, level_fault, settle_fault, walk_fault}
use Rattle.clap.specs.Simple.{App, Shape, entered, label_of, names_of, rows_at}
use Rattle.clap.specs.Walk.{Row, Text, answers_to, finished, nothing_held, rows_after, settled, walk, walk_from}
use Rattle.jh_arguments.proofs.PassedRows.{none_of_both}
use Rattle.jh_arguments.proofs.PassedWalk.{StopsAtNoHelp, walk_stops}
use Rattle.jh_arguments.proofs.PassedLevel.{last_check}

-- it holds of each command
abbrev pub EachShape : (Shape → Type 0) → List Shape → Type 0
EachShape P [] = Unit {0}
EachShape P (s ∷ rest) = P s × EachShape P rest

-- A subcommand that is entered, by this name, and not that of help, and whose level does not fail, gives rows of which it holds.
abbrev pub Leads : (Option (Text × List Row) → Type 0) → Shape → Type 0
Leads Holds s = (name : Text) (rest : List Text) → answers_to name (label_of s) ≡ true → bytes_eq name (codes "help") ≡ false → level_fault s [] nothing_held rest false [] ≡ []
    → Holds (Some (s.name, rows_after s.rules [] rest))

shape_found : (P : Shape → Type 0) (p : Shape → Bool) (subs : List Shape) → EachShape P subs → (s : Shape) → find p subs ≡ Some s → P s × (p s ≡ true)
shape_found P p [] each s e = let bad : None ≡ Some s = e in cc
shape_found P p (x ∷ subs) each s e = go (p x) refl (shape_found P p subs each.1 s) e
  where
    go : (b : Bool) → p x ≡ b → (find p subs ≡ Some s → P s × (p s ≡ true)) → cond b (Some x) (find p subs) ≡ Some s → P s × (p s ≡ true)
    go true here next e = let same : x ≡ s = (let both : Some x ≡ Some s = e in cc) in subst (λ y. P y × (p y ≡ true)) same (each.0, here)
    go false here next e = next e

not_and : (a : Bool) → (not a && true) ≡ false → a ≡ true
not_and true e = refl
not_and false e = absurd (true≢false e)

stop_leads : (Holds : Option (Text × List Row) → Type 0) (a : App) (stop : Option (Text × List Text)) → EachShape (Leads Holds) a.subs
    → is_some (entered a stop) ≡ true → entered_fault a stop ≡ [] → StopsAtNoHelp a.top (names_of a) stop → Holds (entered a stop)
stop_leads Holds a None each some fault no_help = absurd (true≢false (sym some))
stop_leads Holds a (Some p) each some fault no_help = go (find (λ s. answers_to p.0 (label_of s)) a.subs) refl some fault
  where
    go : (o : Option Shape) → find (λ s. answers_to p.0 (label_of s)) a.subs ≡ o → is_some (option_map (λ s. rows_at s p.1) o) ≡ true
        → option_map_or (λ s. level_fault s [] nothing_held p.1 false []) o [] ≡ [] → Holds (option_map (λ s. rows_at s p.1) o)
    go None e some fault = absurd (true≢false (sym some))
    go (Some s) e some fault =
        let found = shape_found (Leads Holds) (λ x. answers_to p.0 (label_of x)) a.subs each s e in
        found.0 p.0 p.1 found.1 no_help fault

-- what holds of each subcommand's rows holds of the one that a parse entered
pub entered_leads : (Holds : Option (Text × List Row) → Type 0) (a : App) (words : List Text) → EachShape (Leads Holds) a.subs
    → a.top.subcommand_required ≡ true → a.top.disable_help_subcommand ≡ false → built_fault a nothing_held words ≡ []
    → Holds (entered a (walk a.top.rules (names_of a) nothing_held words).stopped)
entered_leads Holds a words each wants enabled fault =
    let end = walk a.top.rules (names_of a) nothing_held words in
    let walked = none_of_both (walk_fault a.top (names_of a) (walk_from nothing_held) words) _ fault in
    let below = none_of_both (entered_fault a end.stopped) _ walked.1 in
    let settled_so = none_of_both (settle_fault a.top.rules a.top.args_override_self end.held) _ below.1 in
    let defaulted = none_of_both (defaults_fault (settled a.top.rules end.held).rows a.top.rules)
    (check_fault a.top (finished a.top.rules end.held) (is_some (entered a end.stopped))) settled_so.1 in
    let wanted = (last_check _ _ _ defaulted.1).0 in
    let some : is_some (entered a end.stopped) ≡ true = not_and (is_some (entered a end.stopped)) (ap (λ b. not (is_some (entered a end.stopped)) && b) (sym wants) ∙ wanted) in
    stop_leads Holds a end.stopped each some below.0 (walk_stops a.top (names_of a) enabled words (walk_from nothing_held) walked.0 tt)
