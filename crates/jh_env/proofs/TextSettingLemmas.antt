-- A walk over the entries of a text that sets what they mean.
use Rattle.std.proofs.Common.{◌≡◌, ℕ, ◌+◌, ◌<◌, ◌≤◌, Bool, true, false, List, length, get_or, take, Some, None, option_map, ◌∙◌, ap, refl, subst, arith, inl, inr}
use Rattle.std.specs.Prelude.{if◌then◌else◌, slice_get}
use Rattle.std.specs.List.{list_any}
use Rattle.std.proofs.lemmas.Bool.{cases_lt}
use Rattle.std.proofs.lemmas.List.{take_all, take-map, length-map}
use Rattle.std.proofs.lemmas.List.Sums.{fold_more}
use Rattle.std.proofs.lemmas.Option.{slice_get-get_or, slice_get_past, slice_get-map}
use borrow.Author.Count.{below_more}
use Rattle.jh_env.specs.declared.texts.EnvTextError.TheVariants.{RepeatedEntry}
use Rattle.jh_env.specs.Cells.{calm_link, running_node}
use Rattle.jh_env.specs.Starting.{StartValue}
use Rattle.jh_env.specs.Text.{Entry}
use Rattle.jh_env.specs.TextCells.{link_after, node_after, AreCellsOf}
use Rattle.jh_env.specs.TextErrors.{entry_error, entry_error_at, repeats, AreSound, HasEntryError}
use Rattle.jh_env.specs.TextInside.{AreStarting, SetsEntry, entry_parsed, entries_parsed}
use Rattle.jh_env.specs.declared.texts.entries.Entry.TheVariants as written
use Rattle.jh_env.proofs.NameLemmas.{list_any-map}

-- the first i entries are set, and none of them is in error
pub record AreSet (names : List (List ℕ)) (entries : List Entry) (i : ℕ) (start : StartValue) : Type 0 where
  pub named : start.names ≡ names
  pub parsed : AreCellsOf names (take i entries) start.cells
  pub sound : (k : ℕ) → k < i → entry_error_at names entries k ≡ None
  pub starting : AreStarting start

option_map-if : {A : Type 0} (test : Bool) (f : A → A) (x : A) → option_map f (if test then Some x else None) ≡ (if test then Some (f x) else None)
option_map-if true f x = refl
option_map-if false f x = refl

-- the entry at a place
at_place : (entries : List Entry) (i : ℕ) (entry : Entry) → i < length entries → slice_get entries i ≡ Some entry → get_or entries i entry ≡ entry
at_place entries i entry below at = let e = slice_get-get_or entries i entry below in cc

-- the fault of the entry at a place, where it has none by itself
entry_error_at-others : (names : List (List ℕ)) (entries : List Entry) (i : ℕ) (entry : Entry) (repeated : Bool) → slice_get entries i ≡ Some entry
    → entry_error names entry ≡ None → list_any (repeats entry) (take i entries) ≡ repeated
    → entry_error_at names entries i ≡ (if repeated then Some RepeatedEntry else None)
entry_error_at-others names entries i entry repeated at own among = rw (at, own, among) refl

-- one more entry is set
pub more_set : (names : List (List ℕ)) (entries : List Entry) (i : ℕ) (entry : Entry) (start new : StartValue)
    → i < length entries → slice_get entries i ≡ Some entry → entry_error start.names entry ≡ None → list_any (repeats entry) (take i entries) ≡ false
    → AreSet names entries i start → SetsEntry start entry new → AreSet names entries (i + 1) new
more_set names entries i entry start new below at own once set sets =
    let here = at_place entries i entry below at in
    let own_here : entry_error names entry ≡ None = rw (← set.named) own in
    record {
      named = sets.names ∙ set.named;
      parsed = record {
        links = λ a b. sets.links a b ∙ rw (set.parsed.links a b, set.named)
            (option_map-if _ (λ link. link_after names a b link entry) _
            ∙ rw (fold_more (link_after names a b) calm_link entries i entry below, here) refl);
        nodes = λ a. sets.nodes a ∙ rw (set.parsed.nodes a, set.named)
            (option_map-if _ (λ cell. node_after names a cell entry) _
            ∙ rw (fold_more (node_after names a) running_node entries i entry below, here) refl);
      };
      sound = below_more (λ k. entry_error_at names entries k ≡ None) i set.sound (entry_error_at-others names entries i entry false at own_here once);
      starting = sets.starting;
    }

-- all are set
pub all_set : (names : List (List ℕ)) (entries : List Entry) (i : ℕ) (start : StartValue) → length entries ≤ i → AreSet names entries i start
    → (start.names ≡ names) × AreSound names entries × AreCellsOf names entries start.cells
all_set names entries i start past set = (
  set.named,
  λ k. elim (cases_lt k i) [ inl below ↦ set.sound k below | inr beyond ↦ let past_it : length entries ≤ k = omega arith in rw (slice_get_past entries k past_it) refl ],
  subst (λ first. AreCellsOf names first start.cells) (take_all i entries past) set.parsed,
)

-- the next entry repeats one before it
pub repeated_first : (names : List (List ℕ)) (entries : List Entry) (i : ℕ) (entry : Entry) (start : StartValue)
    → slice_get entries i ≡ Some entry → AreSet names entries i start → entry_error start.names entry ≡ None → list_any (repeats entry) (take i entries) ≡ true
    → HasEntryError names entries RepeatedEntry
repeated_first names entries i entry start at set own twice = (i, entry_error_at-others names entries i entry true at (rw (← set.named) own) twice, set.sound)

-- an entry that a program reads, as it is parsed
pub entry_parsed_at : (entries : List written.the_data) (i : ℕ) (d : written.the_data) → i < length entries → slice_get (entries_parsed entries) i ≡ Some (entry_parsed (get_or entries i d))
entry_parsed_at entries i d below = slice_get-map entry_parsed entries i ∙ ap (option_map entry_parsed) (slice_get-get_or entries i d below)

-- a test of those before it
pub among_parsed : (test : Entry → Bool) (entries : List written.the_data) (i : ℕ) → list_any test (take i (entries_parsed entries)) ≡ list_any (λ entry. test (entry_parsed entry)) (take i entries)
among_parsed test entries i = ap (list_any test) (take-map entry_parsed i entries) ∙ list_any-map test entry_parsed (take i entries)

-- as many are parsed
pub length-entries_parsed : (entries : List written.the_data) → length (entries_parsed entries) ≡ length entries
length-entries_parsed entries = length-map entries entry_parsed
