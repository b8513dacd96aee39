-- What a change and the one that takes it back leave, and what an editor's changes make of its state.
use Rattle.std.proofs.Common.{◌≡◌, ℕ, zero, suc, ◌<◌, ◌≤◌, List, [], ◌∷◌, ◌++◌, length, get_or, set, refl, ap, sym, subst, ◌∙◌, arith, rules}
use Rattle.std.specs.Prelude.{reverse}
use Rattle.std.specs.List.{insert, remove}
use Rattle.std.proofs.lemmas.List.{reverse-append}
use Rattle.std.proofs.lemmas.List.Edits.{length-insert, length-remove}
use Rattle.jh_simnode.specs.declared.schedule.Entry.{Entry}
use Rattle.jh_simnode.specs.Limits.{max_entries}
use Rattle.jh_shrink.specs.declared.changes.EntryChange.{EntryChange}
use Rattle.jh_shrink.specs.declared.changes.EntryChange.TheVariants.{Put, Take, Swap}
use Rattle.jh_shrink.specs.Edits.{EditState, edit_state_back, edit_state_forth, edit_state_after_undo, edit_state_after_redo, state_after_edit}
use Rattle.jh_shrink.specs.ChangesInside.{entries_after_change, IsChangeBack, entries_after_changes, CanBeMade, Fits, edit_state_from}

remove_put : {X : Type 0} (xs : List X) (i : ℕ) (x : X) → i ≤ length xs → remove (insert xs i x) i ≡ xs
remove_put xs zero x le = refl
remove_put [] (suc i) x le = absurd (omega (arith, le))
remove_put (y ∷ xs) (suc i) x le = ap (λ zs. y ∷ zs) (remove_put xs i x (omega (arith, le)))

put_removed : {X : Type 0} (xs : List X) (i : ℕ) (x : X) → i < length xs → x ≡ get_or xs i x → insert (remove xs i) i x ≡ xs
put_removed [] i x low is = absurd (omega (arith, low))
put_removed (y ∷ xs) zero x low is = ap (λ z. z ∷ xs) is
put_removed (y ∷ xs) (suc i) x low is = ap (λ zs. y ∷ zs) (put_removed xs i x (omega (arith, low)) is)

set_back : {X : Type 0} (xs : List X) (i : ℕ) (x y : X) → i < length xs → y ≡ get_or xs i y → set (set xs i x) i y ≡ xs
set_back [] i x y low is = absurd (omega (arith, low))
set_back (z ∷ xs) zero x y low is = ap (λ w. w ∷ xs) is
set_back (z ∷ xs) (suc i) x y low is = ap (λ zs. z ∷ zs) (set_back xs i x y (omega (arith, low)) is)

-- the change back restores the entries
pub changed_back : (change back : EntryChange) (entries : List Entry) → Fits change entries → IsChangeBack change entries back
    → entries_after_change back (entries_after_change change entries) ≡ entries
changed_back (Put place entry) back entries fits is =
    ap (λ b. entries_after_change b (insert entries place entry)) is ∙ remove_put entries place entry fits.0
changed_back (Take place) back entries fits is =
    ap (λ b. entries_after_change b (remove entries place)) is.2 ∙ put_removed entries place is.0 fits is.1
changed_back (Swap place entry) back entries fits is =
    ap (λ b. entries_after_change b (set entries place entry)) is.2 ∙ set_back entries place entry is.0 fits is.1

-- and it can be made
pub fits_back : (change back : EntryChange) (entries : List Entry) → length entries ≤ max_entries → Fits change entries
    → IsChangeBack change entries back → Fits back (entries_after_change change entries)
fits_back (Put place entry) back entries few fits is =
    let long = length-insert entries place entry fits.0 in
    subst (λ b. Fits b (insert entries place entry)) (sym is) (omega (arith, long, fits.0))
fits_back (Take place) back entries few fits is =
    let short = length-remove entries place fits in
    subst (λ b. Fits b (remove entries place)) (sym is.2) (omega (arith, short, fits), omega (arith, short, few))
fits_back (Swap place entry) back entries few fits is =
    subst (λ b. Fits b (set entries place entry)) (sym is.2) (search rules)

pub few_changed : (change : EntryChange) (entries : List Entry) → length entries ≤ max_entries → Fits change entries
    → length (entries_after_change change entries) ≤ max_entries
few_changed (Put place entry) entries few fits = let long = length-insert entries place entry fits.0 in omega (arith, long, fits.1)
few_changed (Take place) entries few fits = let short = length-remove entries place fits in omega (arith, short, few)
few_changed (Swap place entry) entries few fits = search rules

pub length-entries_after_changes : (entries : List Entry) (changes : List EntryChange) → length (entries_after_changes entries changes) ≡ length changes
length-entries_after_changes entries [] = refl
length-entries_after_changes entries (change ∷ changes) = ap suc (length-entries_after_changes (entries_after_change change entries) changes)

-- ---- the last of some changes is made

turned : (from rest : List EntryChange) (last : EntryChange) → from ≡ rest ++ last ∷ [] → reverse from ≡ last ∷ reverse rest
turned from rest last is = ap reverse is ∙ reverse-append rest (last ∷ [])

pub played_off : (entries : List Entry) (from rest : List EntryChange) (change : EntryChange) → from ≡ rest ++ change ∷ []
    → entries_after_changes entries (reverse from) ≡ entries_after_change change entries ∷ entries_after_changes (entries_after_change change entries) (reverse rest)
played_off entries from rest change is = ap (entries_after_changes entries) (turned from rest change is)

pub played_on : (entries : List Entry) (to new : List EntryChange) (change back : EntryChange) → new ≡ to ++ back ∷ [] → Fits change entries
    → IsChangeBack change entries back
    → entries_after_changes (entries_after_change change entries) (reverse new) ≡ entries ∷ entries_after_changes entries (reverse to)
played_on entries to new change back is fits takes =
    played_off (entries_after_change change entries) new to back is
    ∙ ap (λ e. e ∷ entries_after_changes e (reverse to)) (changed_back change back entries fits takes)

pub play_off : (entries : List Entry) (from rest : List EntryChange) (change : EntryChange) → from ≡ rest ++ change ∷ []
    → CanBeMade entries (reverse from) → Fits change entries × CanBeMade (entries_after_change change entries) (reverse rest)
play_off entries from rest change is play = subst (CanBeMade entries) (turned from rest change is) play

pub play_on : (entries : List Entry) (to new : List EntryChange) (change back : EntryChange) → length entries ≤ max_entries
    → new ≡ to ++ back ∷ [] → Fits change entries → IsChangeBack change entries back → CanBeMade entries (reverse to)
    → CanBeMade (entries_after_change change entries) (reverse new)
play_on entries to new change back few is fits takes play =
    subst (CanBeMade (entries_after_change change entries)) (sym (turned new to back is))
    (fits_back change back entries few fits takes, subst (λ e. CanBeMade e (reverse to)) (sym (changed_back change back entries fits takes)) play)

back_once : (s : EditState) (x : List Entry) (xs : List (List Entry)) → s.past ≡ x ∷ xs
    → edit_state_after_undo s ≡ record { past = xs; now = x; future = s.now ∷ s.future }
back_once s x xs is = ap (edit_state_back s) is

forth_once : (s : EditState) (x : List Entry) (xs : List (List Entry)) → s.future ≡ x ∷ xs
    → edit_state_after_redo s ≡ record { past = s.now ∷ s.past; now = x; future = xs }
forth_once s x xs is = ap (edit_state_forth s) is

pub undone_is : (entries : List Entry) (past rest future new : List EntryChange) (change back : EntryChange) → past ≡ rest ++ change ∷ []
    → new ≡ future ++ back ∷ [] → Fits change entries → IsChangeBack change entries back
    → edit_state_from (entries_after_change change entries) rest new ≡ edit_state_after_undo (edit_state_from entries past future)
undone_is entries past rest future new change back off on fits takes =
    ap (λ f. record { past = entries_after_changes (entries_after_change change entries) (reverse rest); now = entries_after_change change entries; future = f })
    (played_on entries future new change back on fits takes)
    ∙ sym (back_once (edit_state_from entries past future) (entries_after_change change entries) (entries_after_changes (entries_after_change change entries) (reverse rest))
    (played_off entries past rest change off))

pub redone_is : (entries : List Entry) (past new future rest : List EntryChange) (change back : EntryChange) → future ≡ rest ++ change ∷ []
    → new ≡ past ++ back ∷ [] → Fits change entries → IsChangeBack change entries back
    → edit_state_from (entries_after_change change entries) new rest ≡ edit_state_after_redo (edit_state_from entries past future)
redone_is entries past new future rest change back off on fits takes =
    ap (λ p. record { past = p; now = entries_after_change change entries; future = entries_after_changes (entries_after_change change entries) (reverse rest) })
    (played_on entries past new change back on fits takes)
    ∙ sym (forth_once (edit_state_from entries past future) (entries_after_change change entries) (entries_after_changes (entries_after_change change entries) (reverse rest))
    (played_off entries future rest change off))

pub edited_is : (entries : List Entry) (past new future : List EntryChange) (change back : EntryChange) → new ≡ past ++ back ∷ []
    → Fits change entries → IsChangeBack change entries back
    → edit_state_from (entries_after_change change entries) new [] ≡ state_after_edit (edit_state_from entries past future) (entries_after_change change entries)
edited_is entries past new future change back on fits takes =
    ap (λ p. record { past = p; now = entries_after_change change entries; future = [] }) (played_on entries past new change back on fits takes)
