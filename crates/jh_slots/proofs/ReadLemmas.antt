-- What a read learns from its loads.
use Rattle.std.proofs.Common.{◌≡◌, ◌≢◌, ℕ, zero, suc, ◌+◌, ◌*◌, ◌-◌, ◌<◌, ◌≤◌, List, [], ◌∷◌, ◌++◌, length, take, set, cond, Bool, true, false, Some, None, refl, sym, ap, ◌∙◌, subst, arith, ne_eqb, eq-eqb}
use Rattle.std.specs.Prelude.{◌==◌, Option}
use Rattle.std.specs.FinMap as map
use Rattle.std.proofs.lemmas.List.{length_push, length-take-le, take_more_set}
use Rattle.jh_slots.specs.Seats.{Mark, Words, Void, Knowledge, knowledge_after_read}
use Rattle.jh_slots.specs.Stored.{Note, View, IsSeat, status_at, place_at}
use Rattle.jh_slots.specs.Steps.{view_knowing, view_noting, view_peeked, view_gathered, view_reading, IsStatus}
use Rattle.jh_slots.specs.Reading.{IsSeenAgain}
use Rattle.jh_slots.proofs.SeatLemmas.{seat_saw, seat_note, cap_is}

pub status_place : (n rows : ℕ) (v : View) (row : ℕ) → IsSeat n v → n ≡ 1 + 6 * rows → 1 + (5 * rows + row) ≡ status_at v.cap row
status_place n rows v row s e = ap (λ k. 1 + (5 * k + row)) (sym (cap_is n rows v s e))

-- what the load of a row's status told
abbrev pub Told : View → View → ℕ → ℕ → Type 0
Told v w row n = ((m : Mark) → map.get v.knows.seen row ≡ Some m → IsStatus n m) × (w ≡ view_peeked n row v) × (1 < n → 5 * row + n ≤ 1 + 5 * v.cap)

pub none_of : (o : Option Mark) → ((m : Mark) → o ≡ Some m → ⊥) → o ≡ None
none_of None h = refl
none_of (Some m) h = absurd (h m refl)

pub absent : (v w : View) (row n : ℕ) → Told v w row n → n ≡ 0 → (map.get v.knows.seen row ≡ None) × (w.knows ≡ v.knows)
absent v w row n t e = (none_of (map.get v.knows.seen row) (λ m is. subst (λ k. IsStatus k m) e (t.0 m is)), ap (λ (u : View). u.knows) (t.1 ∙ ap (λ k. view_peeked k row v) e))

pub peek_stay : (k : ℕ) (v w : View) (row n : ℕ) → Told v w row n → IsSeat k v → row < v.cap → IsSeat k w
peek_stay k v w row n t s lt = subst (IsSeat k) (sym t.1) (by n)
  where
    by : (n : ℕ) → IsSeat k (view_peeked n row v)
    by zero = s
    by (suc zero) = seat_saw k v s row Void lt
    by (suc (suc n)) = seat_note k v (view_noting v row (suc n)) s refl refl refl

pub noted : (v w : View) (row n : ℕ) → Told v w row n → n ≢ 0 → n ≢ 1 → w ≡ view_noting v row (n - 1)
noted v w row n t a b = t.1 ∙ by n a b
  where
    by : (n : ℕ) → n ≢ 0 → n ≢ 1 → view_peeked n row v ≡ view_noting v row (n - 1)
    by zero a b = absurd (a refl)
    by (suc zero) a b = absurd (b refl)
    by (suc (suc n)) a b = let e : suc n ≡ suc (suc n) - 1 = omega arith in ap (view_noting v row) e

pub voids : (v w : View) (row n : ℕ) → Told v w row n → n ≡ 1 → (w.knows ≡ knowledge_after_read row Void v.knows) × IsSeenAgain v.knows row Void
voids v w row n t e = (ap (λ (u : View). u.knows) (t.1 ∙ ap (λ k. view_peeked k row v) e), λ m is. subst (λ k. IsStatus k m) e (t.0 m is))

words_of : (m : Mark) (n : ℕ) → n ≢ 0 → n ≢ 1 → IsStatus n m → (ws : List ℕ) × (m ≡ Words ws) × (length ws ≡ n - 1)
words_of m zero a b s = absurd (a refl)
words_of m (suc zero) a b s = absurd (b refl)
words_of m (suc (suc n)) a b (ws, is, len) = (ws, is, omega arith)

pub small : (v w : View) (row n : ℕ) → Told v w row n → n ≢ 0 → n ≢ 1 → (m : Mark) → map.get v.knows.seen row ≡ Some m → (ws : List ℕ) × (m ≡ Words ws) × (length ws ≡ n - 1)
small v w row n t a b m is = words_of m n a b (t.0 m is)

pub starts : (v w : View) (row len : ℕ) → w ≡ view_noting v row len → 1 ≤ len → w ≡ view_reading w row len []
starts v w row len is one =
    let ne : (0 == len) ≡ false = ne_eqb 0 len (λ e. omega arith) in
    λ i. record { live = w.live; cap = w.cap; knows = ap (λ b. cond b (knowledge_after_read row (Words []) w.knows) w.knows) (sym ne) i; note = ap (λ (u : View). u.note) is i; before = w.before }

-- a record of which words are left is not yet seen
pub partial : (v : View) (row len : ℕ) (ws : List ℕ) → length ws < len → (view_reading v row len ws).knows ≡ v.knows
partial v row len ws lt = ap (λ b. cond b (knowledge_after_read row (Words ws) v.knows) v.knows) (ne_eqb (length ws) len (λ e. omega arith))

pub whole : (v : View) (row len : ℕ) (ws : List ℕ) → length ws ≡ len → (view_reading v row len ws).knows ≡ knowledge_after_read row (Words ws) v.knows
whole v row len ws e = ap (λ b. cond b (knowledge_after_read row (Words ws) v.knows) v.knows) (eq-eqb (length ws) len e)

pub goes_on : (v : View) (row len n : ℕ) (ws : List ℕ) → length ws < len → view_gathered n (record { row = row; len = len; words = ws }) (view_reading v row len ws) ≡ view_reading v row len (ws ++ n ∷ [])
goes_on v row len n ws lt =
    let k = partial v row len ws lt in
    let l : length ws + 1 ≡ length (ws ++ n ∷ []) = sym (length_push ws n) in
    λ i. record { live = v.live; cap = v.cap; knows = cond (l i == len) (knowledge_after_read row (Words (ws ++ n ∷ [])) (k i)) (k i); note = Some (record { row = row; len = len; words = ws ++ n ∷ [] }); before = v.before }

-- a seat that reads is a seat
pub read_stay : (k : ℕ) (v : View) (row len : ℕ) (ws : List ℕ) → IsSeat k v → row < v.cap → IsSeat k (view_reading v row len ws)
read_stay k v row len ws s lt = by (length ws == len)
  where
    by : (b : Bool) → IsSeat k (record { live = v.live; cap = v.cap; knows = cond b (knowledge_after_read row (Words ws) v.knows) v.knows; note = Some (record { row = row; len = len; words = ws }); before = v.before })
    by true = seat_note k (view_knowing v (knowledge_after_read row (Words ws) v.knows)) _ (seat_saw k v s row (Words ws) lt) refl refl refl
    by false = seat_note k v _ s refl refl refl

-- one more word of a record
pub reads_on : (v y z : View) (row len place word x : ℕ) (buffer : List ℕ) → y ≡ view_reading v row len (take place buffer) → place < len → len ≤ length buffer → word ≡ place_at row place
    → ((n : Note) → y.note ≡ Some n → length n.words < n.len → word ≡ place_at n.row (length n.words) → (z ≡ view_gathered x n y) × (length n.words + 1 ≡ n.len → (m : Mark) → map.get y.knows.seen n.row ≡ Some m → m ≡ Words (n.words ++ x ∷ [])))
    → (z ≡ view_reading v row len (take (place + 1) (set buffer place x))) × (place + 1 ≡ len → IsSeenAgain v.knows row (Words (take (place + 1) (set buffer place x))))
reads_on v y z row len place word x buffer is lt fit at given =
    let ws : List ℕ = take place buffer in
    let k : length ws ≡ place = length-take-le place buffer (omega arith) in
    let n : Note = record { row = row; len = len; words = ws } in
    let less : length ws < len = omega arith in
    let t = given n (ap (λ (u : View). u.note) is) less (at ∙ ap (place_at row) (sym k)) in
    let more : take (place + 1) (set buffer place x) ≡ ws ++ x ∷ [] = take_more_set buffer place x (omega arith) in (
      t.0 ∙ (ap (view_gathered x n) is ∙ (goes_on v row len x ws less ∙ ap (view_reading v row len) (sym more))),
      λ last m e. t.1 (omega arith) m (ap (λ (u : View). map.get u.knows.seen row) is ∙ (ap (λ (u : Knowledge). map.get u.seen row) (partial v row len ws less) ∙ e)) ∙ ap Words (sym more),
    )
