-- What stands under a key of a document once a value was put there.
use Rattle.std.proofs.Common.{◌≡◌, ℕ, Bool, true, false, List, Some, None, Ordering, Less, Equal, Greater, is_eq, nat_cmp, refl, sym, ap, subst, ◌∙◌}
use Rattle.std.proofs.lemmas.Bool.{true≢false, and_parts}
use Rattle.std.proofs.lemmas.Cmp.{nat_list_cmp_total}
use Rattle.std.proofs.lemmas.Map.Lookups.{exact_bytes}
use Rattle.std.specs.Cmp.{tied_itself}
use Rattle.std.specs.Cmp.Lexicographic.{slice_cmp}
use Rattle.std.specs.List.{list_all}
use Rattle.std.specs.Ordering.{match_ordering}
use Rattle.toml.specs.Data.{Data, Members, no_members, member, get_member, same_key}
use Rattle.jh_settings.specs.Keys.{key_names_in}
use Rattle.jh_settings_texts.specs.TableInside.{put_member}

-- ---- one member more

put_at : (o : Ordering) (k : List ℕ) (v : Data) (l : List ℕ) (d : Data) (ms : Members) → o ≡ slice_cmp nat_cmp k l → get_member k (put_member k v ms) ≡ Some v
    → get_member k (match_ordering o (member k v (member l d ms)) (member l v ms) (member l d (put_member k v ms))) ≡ Some v
put_at Less k v l d ms same behind = rw (tied_itself nat_list_cmp_total k)
put_at Equal k v l d ms same behind = rw (← same)
put_at Greater k v l d ms same behind = rw (← same) behind

-- it stands there
pub get_put : (k : List ℕ) (v : Data) (ms : Members) → get_member k (put_member k v ms) ≡ Some v
get_put k v no_members = rw (tied_itself nat_list_cmp_total k)
get_put k v (member l d ms) = put_at (slice_cmp nat_cmp k l) k v l d ms refl (get_put k v ms)

pub skipped : {A : Type 0} (o : Ordering) (rest here : A) → is_eq o ≡ false → match_ordering o rest here rest ≡ rest
skipped Less rest here other = refl
skipped Equal rest here other = absurd (true≢false other)
skipped Greater rest here other = refl

other_at : (o : Ordering) (q k : List ℕ) (v : Data) (l : List ℕ) (d : Data) (ms : Members) → o ≡ slice_cmp nat_cmp k l → same_key q k ≡ false → get_member q (put_member k v ms) ≡ get_member q ms
    → get_member q (match_ordering o (member k v (member l d ms)) (member l v ms) (member l d (put_member k v ms))) ≡ get_member q (member l d ms)
other_at Less q k v l d ms same other behind = skipped (slice_cmp nat_cmp q k) (get_member q (member l d ms)) (Some v) other
other_at Equal q k v l d ms same other behind =
    let apart : same_key q l ≡ false = subst (λ (w : List ℕ). same_key q w ≡ false) (exact_bytes k l (sym same)) other in
    skipped (slice_cmp nat_cmp q l) (get_member q ms) (Some v) apart ∙ sym (skipped (slice_cmp nat_cmp q l) (get_member q ms) (Some d) apart)
other_at Greater q k v l d ms same other behind = ap (λ rest. match_ordering (slice_cmp nat_cmp q l) rest (Some d) rest) behind

-- and what stands under another key stays
pub get_put_other : (q k : List ℕ) (v : Data) (ms : Members) → same_key q k ≡ false → get_member q (put_member k v ms) ≡ get_member q ms
get_put_other q k v no_members other = skipped (slice_cmp nat_cmp q k) None (Some v) other
get_put_other q k v (member l d ms) other = other_at (slice_cmp nat_cmp k l) q k v l d ms refl other (get_put_other q k v ms other)

known_at : (o : Ordering) (test : List ℕ → Bool) (k : List ℕ) (v : Data) (l : List ℕ) (d : Data) (ms : Members) → test k ≡ true → test l ≡ true → list_all test (key_names_in ms) ≡ true
    → list_all test (key_names_in (put_member k v ms)) ≡ true → list_all test (key_names_in (match_ordering o (member k v (member l d ms)) (member l v ms) (member l d (put_member k v ms)))) ≡ true
known_at Less test k v l d ms here first others behind = rw (here, first) others
known_at Equal test k v l d ms here first others behind = rw first others
known_at Greater test k v l d ms here first others behind = rw first behind

-- where all keys pass a test, they do so with one that passes it
pub known_put : (test : List ℕ → Bool) (k : List ℕ) (v : Data) (ms : Members) → test k ≡ true → list_all test (key_names_in ms) ≡ true → list_all test (key_names_in (put_member k v ms)) ≡ true
known_put test k v no_members here known = rw here refl
known_put test k v (member l d ms) here known =
    let parts = and_parts (test l) (list_all test (key_names_in ms)) known in
    known_at (slice_cmp nat_cmp k l) test k v l d ms here parts.0 parts.1 (known_put test k v ms here parts.1)
