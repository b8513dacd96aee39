use Rattle.std.proofs.Common.{◌≡◌, ◌<◌, Bool, length, ◌∙◌, ap, rules, tests}
use Rattle.std.specs.List.{insert, position, position_or_len}
use Rattle.std.proofs.lemmas.Bool.{lt-ltb}
use Rattle.std.proofs.lemmas.Iterator.{YieldsList-from_slice}
use Rattle.std.proofs.lemmas.Iterator.Search.{position_from_yields_List}
use Rattle.jh_nemesis.proofs.StampLemmas.{position_or_end}
use Rattle.jh_test_parts.specs.Limits.{max_test_entries}
use Rattle.jh_test_parts.specs.declared.parts.TestEntry.{TestEntry}
use Rattle.jh_test_candidates.specs.Candidates.{is_due_later}
use Rattle.jh_test_candidates.proofs.entries.put_entry.Goals as goal

pub returns-in_ok-insert : goal.returns-in_ok-insert
returns-in_ok-insert c =
    let entries = c.args.entries.now.items in
    let entry = c.args.entry in
    let is_later : TestEntry → Bool = λ other. is_due_later entry.at other.at in
    let shown : c.deref.result.now ≡ entries = c.deref.ensures.value in
    let found : c.position-later.result ≡ position is_later c.deref.result.now =
    position_from_yields_List is_later _ _ _ c.position-later.ensures.ran (YieldsList-from_slice c.deref.result.now cc)
    (λ x b q called. search (rules, tests)) in
    let end : c.len-then-len-lt-MAX_TEST_ENTRIES.result ≡ length entries = search rules in
    let at : c.unwrap_or.result ≡ position_or_len is_later entries =
    c.unwrap_or.ensures ∙ rw (found, end, shown) (position_or_end is_later entries) in
    let room : length entries < max_test_entries = search rules in
    rw (lt-ltb (length entries) max_test_entries room) (c.in_ok-insert.ensures.items ∙ ap (λ index. insert entries index entry) at)
